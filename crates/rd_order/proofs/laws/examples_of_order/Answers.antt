use Rattle.std.proofs.Common.{◌≡◌, ◌≢◌, ℕ, ◌<◌, inl, inr, true, List, [], ◌∷◌, refl, sym, ◌∙◌, arith, lit<, lit≤}
use Rattle.std.proofs.lemmas.Bool.{eq-eqb}
use Rattle.std.proofs.lemmas.Bool.Decides.{not_from_Decides}
use Rattle.std.proofs.lemmas.Option.{none-some, same_Some}
use Rattle.rd_event.specs.declared.events.Call.{Call as CallOf}
use Rattle.rd_event.specs.declared.events.Event.TheVariants.{Fork, Join, Acquire, Release, Share, Unshare, Call}
use Rattle.rd_order.specs.OrderTests.{is_linked, is_edge, reaches}
use Rattle.rd_order.specs.EventLists.{calls, forks, givings, joins, takings, Follow}
use Rattle.rd_order.specs.Order.{thread_of, Hold, exclusive, shared}
use Rattle.rd_event.specs.declared.events.Event.{Event}
use Rattle.rd_order.proofs.HoldLemmas.{giving_cases, givings_of_others, taking_cases, takings_of_others}
use Rattle.rd_order.proofs.OrderLemmas.{edge_decides, reaches_decides}
use Rattle.rd_order.proofs.EventListLemmas.{exclusive_not_shared, many_known, may_acquire, may_call, may_release, may_share, may_unshare}
use Rattle.rd_order.proofs.ExampleLemmas.{family_formed}
use Rattle.rd_order.proofs.TestListLemmas.{few_by_numbers, new_to_one, one_below, two_below}
use Rattle.rd_order.specs.TestLists.{one_root, two_roots}
use Rattle.rd_order.proofs.laws.examples_of_order.Goals as goal

pub returns-clause-same_thread : goal.returns-clause-same_thread
unfolding is_edge is_linked
returns-clause-same_thread c = (edge_decides (Fork 0 1 ∷ Fork 0 2 ∷ []) 0 1).0 refl

pub returns-clause-begins : goal.returns-clause-begins
unfolding is_edge is_linked
returns-clause-begins c = (edge_decides (Fork 0 1 ∷ Fork 1 2 ∷ []) 0 1).0 refl

pub returns-clause-ends : goal.returns-clause-ends
unfolding is_edge is_linked
returns-clause-ends c = (edge_decides (Fork 1 2 ∷ Join 0 1 ∷ []) 0 1).0 refl

pub returns-clause-spans : goal.returns-clause-spans
unfolding reaches is_edge is_linked
returns-clause-spans c = (reaches_decides (Fork 0 1 ∷ Fork 2 3 ∷ Join 2 1 ∷ []) 0 2).0 refl

pub returns-clause-hands_over : goal.returns-clause-hands_over
unfolding is_edge is_linked
returns-clause-hands_over c = (edge_decides (Release 0 5 ∷ Acquire 1 5 ∷ []) 0 1).0 refl

pub returns-clause-another_lock : goal.returns-clause-another_lock
unfolding reaches is_edge is_linked
returns-clause-another_lock c = (lit< tt, not_from_Decides _ (reaches_decides (Release 0 5 ∷ Acquire 1 6 ∷ []) 0 1) refl)

pub returns-clause-acquired_twice : goal.returns-clause-acquired_twice
unfolding reaches is_edge is_linked
returns-clause-acquired_twice c = (lit< tt, not_from_Decides _ (reaches_decides (Acquire 0 5 ∷ Acquire 1 5 ∷ []) 0 1) refl)

pub returns-clause-release_before_share : goal.returns-clause-release_before_share
unfolding is_edge is_linked
returns-clause-release_before_share c = (edge_decides (Release 0 5 ∷ Share 1 5 ∷ []) 0 1).0 refl

pub returns-clause-unshare_before_acquire : goal.returns-clause-unshare_before_acquire
unfolding is_edge is_linked
returns-clause-unshare_before_acquire c = (edge_decides (Unshare 0 5 ∷ Acquire 1 5 ∷ []) 0 1).0 refl

pub returns-clause-shares_apart : goal.returns-clause-shares_apart
unfolding reaches is_edge is_linked
returns-clause-shares_apart c = (lit< tt, not_from_Decides _ (reaches_decides (Unshare 0 5 ∷ Share 1 5 ∷ []) 0 1) refl)

pub returns-clause-another_shared : goal.returns-clause-another_shared
unfolding reaches is_edge is_linked
returns-clause-another_shared c = (lit< tt, not_from_Decides _ (reaches_decides (Unshare 0 5 ∷ Acquire 1 6 ∷ []) 0 1) refl)

pub returns-clause-by_two_edges : goal.returns-clause-by_two_edges
unfolding reaches is_edge is_linked
returns-clause-by_two_edges c = (reaches_decides (Fork 0 1 ∷ Fork 1 2 ∷ Join 2 3 ∷ []) 0 2).0 refl

pub returns-clause-apart : goal.returns-clause-apart
unfolding reaches is_edge is_linked
returns-clause-apart c = (lit< tt, not_from_Decides _ (reaches_decides (Fork 0 1 ∷ Fork 2 3 ∷ []) 0 1) refl)

pub returns-clause-not_back : goal.returns-clause-not_back
unfolding reaches is_edge is_linked
returns-clause-not_back c = (lit< tt, not_from_Decides _ (reaches_decides (Join 0 1 ∷ Fork 1 2 ∷ []) 0 1) refl)

pub returns-clause-well_formed : goal.returns-clause-well_formed
returns-clause-well_formed c = family_formed

pub returns-clause-too_many_roots : goal.returns-clause-too_many_roots
returns-clause-too_many_roots c = λ formed. many_known (λ t. true) [] 4294967296 (lit< tt) (λ t inside. inl refl) formed.bounded

pub returns-clause-unknown_actor : goal.returns-clause-unknown_actor
unfolding forks
returns-clause-unknown_actor c = λ formed. new_to_one [] 1 (lit< tt) refl formed.follow.0.known_actor

pub returns-clause-unknown_joined : goal.returns-clause-unknown_joined
unfolding forks
returns-clause-unknown_joined c = λ formed. new_to_one [] 1 (lit< tt) refl (formed.follow.0.known_joined 1 refl)

pub returns-clause-forked_twice : goal.returns-clause-forked_twice
unfolding forks
returns-clause-forked_twice c = λ formed. formed.follow.1.0.fresh 1 refl (inr (lit< tt))

one_is_not_none : (n : ℕ) → n ≡ 1 → ¬ (n ≡ 0)
one_is_not_none n one none = omega arith

pub returns-clause-acts_after_its_end : goal.returns-clause-acts_after_its_end
unfolding joins
returns-clause-acts_after_its_end c = λ formed. one_is_not_none 1 refl formed.follow.1.1.0.running

pub returns-clause-joins_itself : goal.returns-clause-joins_itself
returns-clause-joins_itself c = λ formed. formed.follow.0.other_joined 0 refl refl

pub returns-clause-one_call : goal.returns-clause-one_call
unfolding joins calls
returns-clause-one_call c = λ call first. record {
  follow = (may_call one_root [] call (inl (eq-eqb call.thread 0 first)) refl (λ kind other. refl), tt);
  bounded = few_by_numbers one_root 1 (Call call ∷ []) one_below (λ u is. absurd (none-some u is), tt) (lit≤ tt);
}

-- the call is counted at its object and kind
counted_call : (call : CallOf) (object : ℕ) → call.object ≡ object → 0 < calls (Call call ∷ []) object call.kind
unfolding calls
counted_call call object same = rw (eq-eqb call.object object same, eq-eqb call.kind call.kind refl) (omega arith)

pub returns-clause-two_kinds : goal.returns-clause-two_kinds
returns-clause-two_kinds c = λ call other object kind formed.
    let some : 0 < calls (Call call ∷ []) other.object call.kind = counted_call call other.object object in
    let none : calls (Call call ∷ []) other.object call.kind ≡ 0 = formed.follow.1.0.one_kind other refl call.kind kind in
    absurd (omega arith)

abbrev again : List Event
again = Acquire 0 5 ∷ Acquire 0 5 ∷ Release 0 5 ∷ Release 0 5 ∷ []

none : (u : ℕ) (h : Hold) → takings [] u h ≡ givings [] u h
unfolding takings givings
none u h = refl

-- no other thread has a hold after an event of thread 0
others_free : (e : Event) (h : Hold) → thread_of e ≡ 0 → (u : ℕ) → u ≢ 0 → takings (e ∷ []) u h ≡ givings (e ∷ []) u h
others_free e h first u other =
    let apart : u ≢ thread_of e = λ same. other (same ∙ first) in
    takings_of_others [] e u h apart ∙ none u h ∙ sym (givings_of_others [] e u h apart)

again_follow : Follow one_root [] again
unfolding joins takings givings
again_follow = (
  may_acquire one_root [] 0 5 (inl refl) refl (λ u other. refl) (λ u other. refl),
  (
    may_acquire one_root (Acquire 0 5 ∷ []) 0 5 (inl refl) refl (others_free (Acquire 0 5) (exclusive 5) refl) (others_free (Acquire 0 5) (shared 5) refl),
    (
      may_release one_root (Acquire 0 5 ∷ Acquire 0 5 ∷ []) 0 5 (inl refl) refl (lit< tt),
      (may_release one_root (Acquire 0 5 ∷ Acquire 0 5 ∷ Release 0 5 ∷ []) 0 5 (inl refl) refl (lit< tt), tt),
    ),
  ),
)

pub returns-clause-acquired_again : goal.returns-clause-acquired_again
returns-clause-acquired_again c = record {
  follow = again_follow;
  bounded = few_by_numbers one_root 1 again one_below (λ u is. absurd (none-some u is), (λ u is. absurd (none-some u is), (λ u is. absurd (none-some u is), (λ u is. absurd (none-some u is), tt)))) (lit≤ tt);
}

pub returns-clause-held_by_another : goal.returns-clause-held_by_another
unfolding takings givings
returns-clause-held_by_another c = λ formed. one_is_not_none 1 refl (formed.follow.1.0.free (exclusive 5) (exclusive 5) refl refl 0 (λ same. omega arith))

two_is_not_one : (n : ℕ) → n ≡ 2 → ¬ (n ≡ 1)
two_is_not_one n two one = omega arith

pub returns-clause-released_once : goal.returns-clause-released_once
unfolding takings givings
returns-clause-released_once c = λ formed. two_is_not_one 2 refl (formed.follow.1.1.1.0.free (exclusive 5) (exclusive 5) refl refl 0 (λ same. omega arith))

not_below_itself : (m n : ℕ) → m ≡ n → ¬ (m < n)
not_below_itself m n same less = omega arith

pub returns-clause-not_held : goal.returns-clause-not_held
unfolding takings givings
returns-clause-not_held c = λ formed. not_below_itself 0 0 refl (formed.follow.0.held (exclusive 5) refl)

pub returns-clause-released_twice : goal.returns-clause-released_twice
unfolding takings givings
returns-clause-released_twice c = λ formed. not_below_itself 1 1 refl (formed.follow.1.1.0.held (exclusive 5) refl)

-- ---- shares

-- a share takes no lock for itself
none_has : (u : ℕ) → takings (Share 0 5 ∷ []) u (exclusive 5) ≡ givings (Share 0 5 ∷ []) u (exclusive 5)
none_has u = not_taken ∙ none u (exclusive 5) ∙ sym not_given
  where
    not_taken : takings (Share 0 5 ∷ []) u (exclusive 5) ≡ takings [] u (exclusive 5)
    not_taken = elim (taking_cases [] (Share 0 5) u (exclusive 5)) [
      | inl x ↦ absurd (exclusive_not_shared 5 5 (sym (same_Some (shared 5) (exclusive 5) x.1)))
      | inr same ↦ same
    ]

    not_given : givings (Share 0 5 ∷ []) u (exclusive 5) ≡ givings [] u (exclusive 5)
    not_given = elim (giving_cases [] (Share 0 5) u (exclusive 5)) [ inl x ↦ absurd (none-some (exclusive 5) x.1) | inr same ↦ same ]

abbrev sharers : List Event
sharers = Share 0 5 ∷ Share 1 5 ∷ Unshare 0 5 ∷ Unshare 1 5 ∷ []

sharers_follow : Follow two_roots [] sharers
unfolding joins takings givings
sharers_follow = (
  may_share two_roots [] 0 5 (inl refl) refl (λ u other. refl),
  (
    may_share two_roots (Share 0 5 ∷ []) 1 5 (inl refl) refl (λ u other. none_has u),
    (
      may_unshare two_roots (Share 0 5 ∷ Share 1 5 ∷ []) 0 5 (inl refl) refl (lit< tt),
      (may_unshare two_roots (Share 0 5 ∷ Share 1 5 ∷ Unshare 0 5 ∷ []) 1 5 (inl refl) refl (lit< tt), tt),
    ),
  ),
)

pub returns-clause-two_sharers : goal.returns-clause-two_sharers
returns-clause-two_sharers c = record {
  follow = sharers_follow;
  bounded = few_by_numbers two_roots 2 sharers two_below (λ u is. absurd (none-some u is), (λ u is. absurd (none-some u is), (λ u is. absurd (none-some u is), (λ u is. absurd (none-some u is), tt)))) (lit≤ tt);
}

pub returns-clause-shared_while_held : goal.returns-clause-shared_while_held
unfolding takings givings
returns-clause-shared_while_held c = λ formed. one_is_not_none 1 refl (formed.follow.1.0.free (shared 5) (exclusive 5) refl refl 0 (λ same. omega arith))

pub returns-clause-acquired_while_shared : goal.returns-clause-acquired_while_shared
unfolding takings givings
returns-clause-acquired_while_shared c = λ formed. one_is_not_none 1 refl (formed.follow.1.0.free (exclusive 5) (shared 5) refl refl 0 (λ same. omega arith))

abbrev raised : List Event
raised = Share 0 5 ∷ Acquire 0 5 ∷ Release 0 5 ∷ Unshare 0 5 ∷ []

raised_follow : Follow one_root [] raised
unfolding joins takings givings
raised_follow = (
  may_share one_root [] 0 5 (inl refl) refl (λ u other. refl),
  (
    may_acquire one_root (Share 0 5 ∷ []) 0 5 (inl refl) refl (others_free (Share 0 5) (exclusive 5) refl) (others_free (Share 0 5) (shared 5) refl),
    (
      may_release one_root (Share 0 5 ∷ Acquire 0 5 ∷ []) 0 5 (inl refl) refl (lit< tt),
      (may_unshare one_root (Share 0 5 ∷ Acquire 0 5 ∷ Release 0 5 ∷ []) 0 5 (inl refl) refl (lit< tt), tt),
    ),
  ),
)

pub returns-clause-upgrade : goal.returns-clause-upgrade
returns-clause-upgrade c = record {
  follow = raised_follow;
  bounded = few_by_numbers one_root 1 raised one_below (λ u is. absurd (none-some u is), (λ u is. absurd (none-some u is), (λ u is. absurd (none-some u is), (λ u is. absurd (none-some u is), tt)))) (lit≤ tt);
}

abbrev lowered : List Event
lowered = Acquire 0 5 ∷ Share 0 5 ∷ Release 0 5 ∷ Unshare 0 5 ∷ []

lowered_follow : Follow one_root [] lowered
unfolding joins takings givings
lowered_follow = (
  may_acquire one_root [] 0 5 (inl refl) refl (λ u other. refl) (λ u other. refl),
  (
    may_share one_root (Acquire 0 5 ∷ []) 0 5 (inl refl) refl (others_free (Acquire 0 5) (exclusive 5) refl),
    (
      may_release one_root (Acquire 0 5 ∷ Share 0 5 ∷ []) 0 5 (inl refl) refl (lit< tt),
      (may_unshare one_root (Acquire 0 5 ∷ Share 0 5 ∷ Release 0 5 ∷ []) 0 5 (inl refl) refl (lit< tt), tt),
    ),
  ),
)

pub returns-clause-downgrade : goal.returns-clause-downgrade
returns-clause-downgrade c = record {
  follow = lowered_follow;
  bounded = few_by_numbers one_root 1 lowered one_below (λ u is. absurd (none-some u is), (λ u is. absurd (none-some u is), (λ u is. absurd (none-some u is), (λ u is. absurd (none-some u is), tt)))) (lit≤ tt);
}

pub returns-clause-not_shared : goal.returns-clause-not_shared
unfolding takings givings
returns-clause-not_shared c = λ formed. not_below_itself 0 0 refl (formed.follow.0.held (shared 5) refl)

pub returns-clause-released_a_share : goal.returns-clause-released_a_share
unfolding takings givings
returns-clause-released_a_share c = λ formed. not_below_itself 0 0 refl (formed.follow.1.0.held (exclusive 5) refl)
