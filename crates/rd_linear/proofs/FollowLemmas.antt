-- Exchanging two neighbours that are not linked keeps a list well-formed.
use Rattle.std.proofs.Common.{Bool, cond, ◌≡◌, ◌<◌, ◌++◌, ℕ, List, [], ◌∷◌, Some, arith, inl, inr, sym, ◌∙◌, subst, append_assoc, length-append}
use Rattle.std.proofs.lemmas.List.{append-nil}
use Rattle.std.proofs.lemmas.List.Sums.{sum_by-cons, sum_by-append}
use Rattle.rd_event.specs.declared.events.Event.{Event}
use Rattle.rd_order.specs.Order.{Hold, thread_of, forked_thread, Linked, same_thread, begins, ends, spans, hands_over}
use Rattle.rd_order.specs.EventLists.{calls, takings, givings, IsKnownThread, MayHappen, Follow, IsBounded, WellFormed}
use Rattle.rd_order.proofs.CountsLemmas.{counts_like}
use Rattle.rd_order.proofs.EventListLemmas.{formed_front, known_more}
use Rattle.rd_order.proofs.HoldLemmas.{against_back, giving_cases, givings_none, givings_of_others, taking_cases, takings_of_others, takings_one, Sane, formed_sane}
use Rattle.rd_linear.proofs.CountLemmas.{AreAlike, alike_back, alike_exchanged, alike_more, calls_alike, calls_grow, calls_one, calls_same, forks_alike, forks_cases, forks_one, forks_same, givings_alike, joins_alike, joins_grow, joins_one, joins_same, takings_alike}

known_less : (roots : ℕ → Bool) (es : List Event) (e : Event) (t : ℕ) → ¬ (forked_thread e ≡ Some t) → IsKnownThread roots (es ++ e ∷ []) t → IsKnownThread roots es t
known_less roots es e t n k = elim k [ inl r ↦ inl r | inr c ↦ inr (omega (arith, c, forks_same es e t n)) ]

known_alike : (roots : ℕ → Bool) (es fs : List Event) (t : ℕ) → AreAlike es fs → IsKnownThread roots es t → IsKnownThread roots fs t
known_alike roots es fs t s k = elim k [ inl r ↦ inl r | inr c ↦ inr (omega (arith, c, forks_alike es fs t s)) ]

may_alike : (roots : ℕ → Bool) (es fs : List Event) (e : Event) → AreAlike es fs → MayHappen roots es e → MayHappen roots fs e
may_alike roots es fs e s m = record {
  fresh = λ u f k. m.fresh u f (known_alike roots fs es u (alike_back es fs s) k);
  known_actor = known_alike roots es fs (thread_of e) s m.known_actor;
  known_joined = λ u j. known_alike roots es fs u s (m.known_joined u j);
  running = sym (joins_alike es fs (thread_of e) s) ∙ m.running;
  other_joined = m.other_joined;
  free = λ h k t a u n. sym (takings_alike es fs u k s) ∙ m.free h k t a u n ∙ givings_alike es fs u k s;
  held = λ h g. omega (arith, m.held h g, takings_alike es fs (thread_of e) h s, givings_alike es fs (thread_of e) h s);
  one_kind = λ call is kind other. sym (calls_alike es fs call.object kind s) ∙ m.one_kind call is kind other;
}

follow_alike : (roots : ℕ → Bool) (es fs xs : List Event) → AreAlike es fs → Follow roots es xs → Follow roots fs xs
follow_alike roots es fs [] s f = f
follow_alike roots es fs (x ∷ xs) s f = (may_alike roots es fs x s f.0, follow_alike roots (es ++ x ∷ []) (fs ++ x ∷ []) xs (alike_more es fs x s) f.1)

-- a may follow es, and b may follow these; a isn't linked to b
module _ (roots : ℕ → Bool) (es : List Event) (a b : Event) (s : Sane es) (x : MayHappen roots es a) (y : MayHappen roots (es ++ a ∷ []) b) (loose : ¬ (Linked a b)) where
  apart : ¬ (thread_of a ≡ thread_of b)
  apart e = loose (same_thread e)

  apart_back : ¬ (thread_of b ≡ thread_of a)
  apart_back e = apart (sym e)

  -- what the thread of b has taken and given
  same_b : (h : Hold) → (takings (es ++ a ∷ []) (thread_of b) h ≡ takings es (thread_of b) h) × (givings (es ++ a ∷ []) (thread_of b) h ≡ givings es (thread_of b) h)
  same_b h = (takings_of_others es a (thread_of b) h apart_back, givings_of_others es a (thread_of b) h apart_back)

  pub earlier : MayHappen roots es b
  earlier = record {
    fresh = λ u f k. y.fresh u f (known_more roots es a u k);
    known_actor = known_less roots es a (thread_of b) (λ e. loose (begins e)) y.known_actor;
    known_joined = λ u j. known_less roots es a u (λ f. loose (spans u f j)) (y.known_joined u j);
    running = omega (arith, y.running, joins_grow es a (thread_of b));
    other_joined = y.other_joined;
    free = λ h k t against u n. elim (taking_cases es a u k) [
      | inl z ↦ absurd (omega (arith, y.free h k t against u n, z.2, givings_none es a u k z.1, s.covered u k))
      | inr same ↦ elim (giving_cases es a u k) [
        | inl g ↦ absurd (loose (hands_over k h g.1 t (against_back h k against)))
        | inr as_before ↦ sym same ∙ y.free h k t against u n ∙ as_before
      ]
    ];
    held = λ h g. omega (arith, y.held h g, (same_b h).0, (same_b h).1);
    one_kind = λ call is kind other. omega (arith, y.one_kind call is kind other, calls_grow es a call.object kind);
  }

  pub later : MayHappen roots (es ++ b ∷ []) a
  later = record {
    fresh = λ u f k. elim (forks_cases b u) [
      | inl g ↦ y.fresh u g (inr (forks_one es a u f))
      | inr n ↦ x.fresh u f (known_less roots es b u n k)
    ];
    known_actor = known_more roots es b (thread_of a) x.known_actor;
    known_joined = λ u j. known_more roots es b u (x.known_joined u j);
    running = joins_same es b (thread_of a) (λ j. loose (ends j)) ∙ x.running;
    other_joined = x.other_joined;
    free = λ h k t against u n. elim (taking_cases es b u k) [
      | inl z ↦ absurd (omega (arith, y.free k h z.1 (against_back h k against) (thread_of a) apart, takings_one es a h t, givings_none es a (thread_of a) h t, s.covered (thread_of a) h))
      | inr same ↦ elim (giving_cases es b u k) [
        | inl g ↦ absurd (omega (arith, y.held k g.1, (same_b k).0, (same_b k).1, subst (λ w. takings es w k ≡ givings es w k) (sym g.0) (x.free h k t against u n)))
        | inr as_before ↦ same ∙ x.free h k t against u n ∙ sym as_before
      ]
    ];
    held = λ h g. omega (arith, x.held h g, takings_of_others es b (thread_of a) h apart, givings_of_others es b (thread_of a) h apart);
    one_kind = λ call is kind other. calls_same es b call.object kind (λ again is_b same_object same_kind.
        let none : calls (es ++ a ∷ []) again.object call.kind ≡ 0 = y.one_kind again is_b call.kind (λ e. other (sym (e ∙ same_kind))) in
        let some : 0 < calls (es ++ a ∷ []) again.object call.kind = subst (λ o. 0 < calls (es ++ a ∷ []) o call.kind) (sym same_object) (calls_one es a call is) in
        omega arith) ∙ x.one_kind call is kind other;
  }

  pub not_back : ¬ (Linked b a)
  not_back (same_thread e) = apart (sym e)
  not_back (begins f) = y.fresh (thread_of a) f (known_more roots es a (thread_of a) x.known_actor)
  not_back (ends j) = omega (arith, y.running, joins_one es a (thread_of b) j)
  not_back (spans u f j) = y.fresh u f (known_more roots es a u (x.known_joined u j))
  not_back (hands_over h k g t against) = omega (arith, y.held h g, (same_b h).0, (same_b h).1, x.free k h t (against_back h k against) (thread_of b) apart_back)

  pub swapped : (xs : List Event) → Follow roots ((es ++ a ∷ []) ++ b ∷ []) xs → Follow roots es (b ∷ a ∷ xs)
  swapped xs f = (earlier, (later, follow_alike roots ((es ++ a ∷ []) ++ b ∷ []) ((es ++ b ∷ []) ++ a ∷ []) xs (alike_exchanged es a b) f))

-- ---- parts of a list

follow_both : (roots : ℕ → Bool) (es xs ys : List Event) → Follow roots es xs → Follow roots (es ++ xs) ys → Follow roots es (xs ++ ys)
follow_both roots es [] ys f g = subst (λ zs. Follow roots zs ys) (append-nil es) g
follow_both roots es (x ∷ xs) ys f g = (f.0, follow_both roots (es ++ x ∷ []) xs ys f.1 (subst (λ zs. Follow roots zs ys) (sym (append_assoc es (x ∷ []) xs)) g))

follow_parts : (roots : ℕ → Bool) (es xs ys : List Event) → Follow roots es (xs ++ ys) → Follow roots es xs × Follow roots (es ++ xs) ys
follow_parts roots es [] ys f = (tt, subst (λ zs. Follow roots zs ys) (sym (append-nil es)) f)
follow_parts roots es (x ∷ xs) ys f = let r = follow_parts roots (es ++ x ∷ []) xs ys f.1 in ((f.0, r.0), subst (λ zs. Follow roots zs ys) (append_assoc es (x ∷ []) xs) r.1)

-- ---- the whole list

module _ (roots : ℕ → Bool) (xs : List Event) (a b : Event) (ys : List Event) where
  pub alike_inside : AreAlike (xs ++ a ∷ b ∷ ys) (xs ++ b ∷ a ∷ ys)
  alike_inside = record {
    counts = λ p.
        let f : Event → ℕ = λ x. cond (p x) 1 0 in
        omega (arith, sum_by-append f xs (a ∷ b ∷ ys), sum_by-append f xs (b ∷ a ∷ ys), sum_by-cons f a (b ∷ ys), sum_by-cons f b ys, sum_by-cons f b (a ∷ ys), sum_by-cons f a ys);
  }

  bounded_exchanged : IsBounded roots (xs ++ a ∷ b ∷ ys) → IsBounded roots (xs ++ b ∷ a ∷ ys)
  bounded_exchanged bounded = record {
    few_events = omega (arith, length-append xs (a ∷ b ∷ ys), length-append xs (b ∷ a ∷ ys), bounded.few_events);
    few_threads = λ n c counted. bounded.few_threads n c (counts_like (IsKnownThread roots (xs ++ b ∷ a ∷ ys)) (IsKnownThread roots (xs ++ a ∷ b ∷ ys)) n c
        (λ t below. (known_alike roots _ _ t (alike_back _ _ alike_inside), known_alike roots _ _ t alike_inside)) counted);
  }

  module _ (formed : WellFormed roots (xs ++ a ∷ b ∷ ys)) (loose : ¬ (Linked a b)) where
    parts : Follow roots [] xs × Follow roots xs (a ∷ b ∷ ys)
    parts = follow_parts roots [] xs (a ∷ b ∷ ys) formed.follow

    sane : Sane xs
    sane = formed_sane roots xs (formed_front roots xs (a ∷ b ∷ ys) formed)

    pub formed_exchanged : WellFormed roots (xs ++ b ∷ a ∷ ys)
    formed_exchanged = record {
      follow = follow_both roots [] xs (b ∷ a ∷ ys) parts.0 (swapped roots xs a b sane parts.1.0 parts.1.1.0 loose ys parts.1.1.1);
      bounded = bounded_exchanged formed.bounded;
    }

    pub not_linked_back : ¬ (Linked b a)
    not_linked_back = not_back roots xs a b sane parts.1.0 parts.1.1.0 loose
