-- Traces of tests: a tracker takes them event by event, and they are well-formed.
use Rattle.std.proofs.Common.{◌≡◌, ℕ, suc, ◌+◌, ◌<◌, inl, inr, Bool, List, [], ◌∷◌, ◌++◌, take, drop, length, get_or, refl, sym, ◌∙◌, ap, subst, arith, lit<, lit≤, add-one}
use Rattle.std.proofs.Math.Seq.{drop-cons}
use Rattle.std.proofs.lemmas.List.{take-append-drop, take_more}
use Rattle.std.proofs.lemmas.Option.{none-some, same_Some}
use Rattle.rd_event.specs.declared.events.Event.{Event}
use Rattle.rd_event.specs.declared.events.Event.TheVariants.{Fork, Join}
use Rattle.rd_order.proofs.EventListLemmas.{formed_front, may_call, may_fork, may_join}
use Rattle.rd_order.specs.EventLists.{calls, forks, joins, Follow, WellFormed}
use Rattle.rd_hb.specs.Tracker.{IsNextEvent, TrackerStandsFor, Tracking}
use Rattle.rd_order.specs.EventLists.{threads_after}
use Rattle.rd_line_trials.specs.Traces.{MayTakeAll}
use Rattle.rd_order.proofs.TestListLemmas.{few_by_numbers, new_to_one, new_to_two, numbered_call, one_below, two_below}
use Rattle.rd_order.specs.TestLists.{sample_call, one_root, two_roots, NextNumbers}

-- ---- event by event

-- a tracker took the events before, and the rest has the next numbers
pub record Took (tracking : Tracking) (roots : ℕ → Bool) (before rest : List Event) : Type 0 where
  pub stands : TrackerStandsFor tracking roots before
  pub numbered : NextNumbers (length tracking.threads) rest

cut_at : (es : List Event) (i : ℕ) (e : Event) → i < length es → e ≡ get_or es i e → drop i es ≡ e ∷ drop (i + 1) es
cut_at es i e inside is = rw (add-one, drop-cons es i e inside) (ap (λ x. x ∷ drop (suc i) es) (sym is))

taken_at : (es : List Event) (i : ℕ) (e : Event) → i < length es → e ≡ get_or es i e → take (i + 1) es ≡ take i es ++ e ∷ []
taken_at es i e inside is = take_more es i e inside ∙ ap (λ x. take i es ++ x ∷ []) (sym is)

pub took_next : (tracking : Tracking) (roots : ℕ → Bool) (es : List Event) (i : ℕ) (e : Event) → WellFormed roots es → i < length es → e ≡ get_or es i e
    → Took tracking roots (take i es) (drop i es) → IsNextEvent tracking roots (take i es) e
took_next tracking roots es i e formed inside is took = record {
  stands = took.stands;
  formed = subst (WellFormed roots) (taken_at es i e inside is)
      (formed_front roots (take (i + 1) es) (drop (i + 1) es) (subst (WellFormed roots) (sym (take-append-drop (i + 1) es)) formed));
  numbered = (subst (NextNumbers (length tracking.threads)) (cut_at es i e inside is) took.numbered).0;
}

pub took_more : (old new : Tracking) (roots : ℕ → Bool) (es : List Event) (i : ℕ) (e : Event) → i < length es → e ≡ get_or es i e
    → Took old roots (take i es) (drop i es) → TrackerStandsFor new roots (take i es ++ e ∷ []) → length new.threads ≡ threads_after e (length old.threads)
    → Took new roots (take (i + 1) es) (drop (i + 1) es)
took_more old new roots es i e inside is took stands count = record {
  stands = subst (TrackerStandsFor new roots) (sym (taken_at es i e inside is)) stands;
  numbered = subst (λ n. NextNumbers n (drop (i + 1) es)) (sym count)
      (subst (NextNumbers (length old.threads)) (cut_at es i e inside is) took.numbered).1;
}

-- ---- the traces

-- ---- two roots that never meet

abbrev pub strangers : List Event
strangers = sample_call 0 ∷ sample_call 1 ∷ []

strangers_follow : Follow two_roots [] strangers
unfolding forks joins calls
strangers_follow = (
  may_call two_roots [] (numbered_call 0) (inl refl) refl (λ kind other. refl),
  (may_call two_roots (sample_call 0 ∷ []) (numbered_call 1) (inl refl) refl (λ kind other. refl), tt),
)

strangers_numbered : NextNumbers 2 strangers
strangers_numbered = (λ u is. absurd (none-some u is), (λ u is. absurd (none-some u is), tt))

pub strangers_may : (tracking : Tracking) → TrackerStandsFor tracking two_roots [] → length tracking.threads ≡ 2 → MayTakeAll tracking two_roots strangers
strangers_may tracking stands count = record {
  stands = stands;
  formed = record { follow = strangers_follow; bounded = few_by_numbers two_roots 2 strangers two_below strangers_numbered (lit≤ tt) };
  numbered = subst (λ n. NextNumbers n strangers) (sym count) strangers_numbered;
}

-- ---- a thread without an event is joined by another than the one that forked it

abbrev pub idle_child : List Event
idle_child = sample_call 0 ∷ Fork 0 2 ∷ Join 1 2 ∷ sample_call 1 ∷ []

idle_child_follow : Follow two_roots [] idle_child
unfolding forks joins calls
idle_child_follow = (
  may_call two_roots [] (numbered_call 0) (inl refl) refl (λ kind other. refl),
  (
    may_fork two_roots (sample_call 0 ∷ []) 0 2 (new_to_two (sample_call 0 ∷ []) 2 (lit< tt) refl) (inl refl) refl,
    (
      may_join two_roots (sample_call 0 ∷ Fork 0 2 ∷ []) 1 2 (inr (lit< tt)) (λ e. omega arith) (inl refl) refl,
      (
        may_call two_roots (sample_call 0 ∷ Fork 0 2 ∷ Join 1 2 ∷ []) (numbered_call 1) (inl refl) refl (λ kind other. refl),
        tt,
      ),
    ),
  ),
)

idle_child_numbered : NextNumbers 2 idle_child
idle_child_numbered = (
  λ u is. absurd (none-some u is),
  (λ u is. sym (same_Some 2 u is), (λ u is. absurd (none-some u is), (λ u is. absurd (none-some u is), tt))),
)

pub idle_child_may : (tracking : Tracking) → TrackerStandsFor tracking two_roots [] → length tracking.threads ≡ 2 → MayTakeAll tracking two_roots idle_child
idle_child_may tracking stands count = record {
  stands = stands;
  formed = record { follow = idle_child_follow; bounded = few_by_numbers two_roots 2 idle_child two_below idle_child_numbered (lit≤ tt) };
  numbered = subst (λ n. NextNumbers n idle_child) (sym count) idle_child_numbered;
}

-- ---- two roots call, one forks a thread, and that calls

abbrev pub three_live : List Event
three_live = sample_call 0 ∷ sample_call 1 ∷ Fork 1 2 ∷ sample_call 2 ∷ []

three_live_follow : Follow two_roots [] three_live
unfolding forks joins calls
three_live_follow = (
  may_call two_roots [] (numbered_call 0) (inl refl) refl (λ kind other. refl),
  (
    may_call two_roots (sample_call 0 ∷ []) (numbered_call 1) (inl refl) refl (λ kind other. refl),
    (
      may_fork two_roots (sample_call 0 ∷ sample_call 1 ∷ []) 1 2 (new_to_two (sample_call 0 ∷ sample_call 1 ∷ []) 2 (lit< tt) refl) (inl refl) refl,
      (
        may_call two_roots (sample_call 0 ∷ sample_call 1 ∷ Fork 1 2 ∷ []) (numbered_call 2) (inr (lit< tt)) refl (λ kind other. refl),
        tt,
      ),
    ),
  ),
)

three_live_numbered : NextNumbers 2 three_live
three_live_numbered = (
  λ u is. absurd (none-some u is),
  (λ u is. absurd (none-some u is), (λ u is. sym (same_Some 2 u is), (λ u is. absurd (none-some u is), tt))),
)

pub three_live_may : (tracking : Tracking) → TrackerStandsFor tracking two_roots [] → length tracking.threads ≡ 2 → MayTakeAll tracking two_roots three_live
three_live_may tracking stands count = record {
  stands = stands;
  formed = record { follow = three_live_follow; bounded = few_by_numbers two_roots 2 three_live two_below three_live_numbered (lit≤ tt) };
  numbered = subst (λ n. NextNumbers n three_live) (sym count) three_live_numbered;
}

-- ---- two threads are forked, call and are joined

abbrev pub family : List Event
family = Fork 0 1 ∷ Fork 0 2 ∷ sample_call 1 ∷ sample_call 2 ∷ Join 0 1 ∷ Join 0 2 ∷ sample_call 0 ∷ []

family_forks : Follow one_root [] (Fork 0 1 ∷ Fork 0 2 ∷ [])
unfolding forks joins calls
family_forks = (
  may_fork one_root [] 0 1 (new_to_one [] 1 (lit< tt) refl) (inl refl) refl,
  (may_fork one_root (Fork 0 1 ∷ []) 0 2 (new_to_one (Fork 0 1 ∷ []) 2 (lit< tt) refl) (inl refl) refl, tt),
)

family_calls : Follow one_root (Fork 0 1 ∷ Fork 0 2 ∷ []) (sample_call 1 ∷ sample_call 2 ∷ [])
unfolding forks joins calls
family_calls = (
  may_call one_root (Fork 0 1 ∷ Fork 0 2 ∷ []) (numbered_call 1) (inr (lit< tt)) refl (λ kind other. refl),
  (may_call one_root (Fork 0 1 ∷ Fork 0 2 ∷ sample_call 1 ∷ []) (numbered_call 2) (inr (lit< tt)) refl (λ kind other. refl), tt),
)

family_joins : Follow one_root (Fork 0 1 ∷ Fork 0 2 ∷ sample_call 1 ∷ sample_call 2 ∷ []) (Join 0 1 ∷ Join 0 2 ∷ sample_call 0 ∷ [])
unfolding forks joins calls
family_joins = (
  may_join one_root (Fork 0 1 ∷ Fork 0 2 ∷ sample_call 1 ∷ sample_call 2 ∷ []) 0 1 (inr (lit< tt)) (λ e. omega arith) (inl refl) refl,
  (
    may_join one_root (Fork 0 1 ∷ Fork 0 2 ∷ sample_call 1 ∷ sample_call 2 ∷ Join 0 1 ∷ []) 0 2 (inr (lit< tt)) (λ e. omega arith) (inl refl) refl,
    (
      may_call one_root (Fork 0 1 ∷ Fork 0 2 ∷ sample_call 1 ∷ sample_call 2 ∷ Join 0 1 ∷ Join 0 2 ∷ []) (numbered_call 0) (inl refl) refl (λ kind other. refl),
      tt,
    ),
  ),
)

family_follow : Follow one_root [] family
family_follow = (family_forks.0, (family_forks.1.0, (family_calls.0, (family_calls.1.0, family_joins))))

family_numbered : NextNumbers 1 family
family_numbered = (
  λ u is. sym (same_Some 1 u is),
  (
    λ u is. sym (same_Some 2 u is),
    (λ u is. absurd (none-some u is), (λ u is. absurd (none-some u is), (λ u is. absurd (none-some u is), (λ u is. absurd (none-some u is), (λ u is. absurd (none-some u is), tt))))),
  ),
)

pub family_may : (tracking : Tracking) → TrackerStandsFor tracking one_root [] → length tracking.threads ≡ 1 → MayTakeAll tracking one_root family
family_may tracking stands count = record {
  stands = stands;
  formed = record { follow = family_follow; bounded = few_by_numbers one_root 1 family one_below family_numbered (lit≤ tt) };
  numbered = subst (λ n. NextNumbers n family) (sym count) family_numbered;
}
