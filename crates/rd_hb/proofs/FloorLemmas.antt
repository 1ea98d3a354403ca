-- The floor of threads, one thread after another.
use Rattle.std.proofs.Common.{◌≡◌, ◌⊎◌, ◌≤◌, ◌<◌, inl, inr, ℕ, ◌+◌, min, true, false, List, [], ◌∷◌, ◌++◌, length, Option, Some, None, sym, ◌∙◌, ap, subst, arith, true≢false}
use Rattle.std.proofs.lemmas.Bool.{cases_lt}
use Rattle.std.proofs.lemmas.List.{get_or_append_left, length-append}
use Rattle.std.proofs.Math.Seq.{get_or-append_seam}
use Rattle.rd_clock.specs.Clock.{component}
use Rattle.rd_hb.specs.declared.tracker.Tracked.{Tracked}
use Rattle.rd_hb.specs.Tracker.{IsFloor, IsLive, tracked_thread, no_thread, known_to}
use Rattle.rd_hb.specs.TrackerParts.{IsFloorSoFar}

module _ (threads : List Tracked) (x : Tracked) where
  in_front : (t : ℕ) → t < length threads → tracked_thread (threads ++ x ∷ []) t ≡ tracked_thread threads t
  in_front t inside = get_or_append_left threads (x ∷ []) no_thread t inside

  last : tracked_thread (threads ++ x ∷ []) (length threads) ≡ x
  last = get_or-append_seam threads x [] no_thread

  one_more : length (threads ++ x ∷ []) ≡ length threads + 1
  one_more = length-append threads (x ∷ [])

  -- a live thread is one of those in front, or the last one
  live_cases : (t : ℕ) → IsLive (threads ++ x ∷ []) t → IsLive threads t ⊎ ((t ≡ length threads) × (x.joined ≡ false))
  live_cases t live =
      elim (cases_lt t (length threads)) [
        | inl before ↦ inl (before, ap (λ y. y.joined) (sym (in_front t before)) ∙ live.1)
        | inr past ↦
            (let same : t ≡ length threads = omega (arith, past, live.0, one_more) in
            inr (same, ap (λ y. y.joined) (sym (subst (λ i. tracked_thread (threads ++ x ∷ []) i ≡ x) (sym same) last)) ∙ live.1))
      ]

  live_in_front : (t : ℕ) → IsLive threads t → IsLive (threads ++ x ∷ []) t
  live_in_front t live = (omega (arith, live.0, one_more), ap (λ y. y.joined) (in_front t live.0) ∙ live.1)

  live_last : x.joined ≡ false → IsLive (threads ++ x ∷ []) (length threads)
  live_last is = (omega (arith, one_more), ap (λ y. y.joined) last ∙ is)

  known_in_front : (t u : ℕ) → t < length threads → known_to (threads ++ x ∷ []) t u ≡ known_to threads t u
  known_in_front t u inside = ap (λ y. component y.clock u) (in_front t inside)

  known_last : (u : ℕ) → known_to (threads ++ x ∷ []) (length threads) u ≡ component x.clock u
  known_last u = ap (λ y. component y.clock u) last

  -- with a thread that was joined
  pub floor_joined : (floor : Option (List ℕ)) → x.joined ≡ true → IsFloorSoFar threads floor → IsFloorSoFar (threads ++ x ∷ []) floor
  floor_joined None joined none = λ t live. elim (live_cases t live) [ inl old ↦ none t old | inr new ↦ absurd (true≢false (sym joined ∙ new.1)) ]
  floor_joined (Some floor) joined (is, some) = (
    record {
      below = λ t u live. elim (live_cases t live) [
        | inl old ↦ subst (λ n. component floor u ≤ n) (sym (known_in_front t u old.0)) (is.below t u old)
        | inr new ↦ absurd (true≢false (sym joined ∙ new.1))
      ];
      reached = λ u. elim (is.reached u) [
        | inl least ↦ inl (least.0, live_in_front least.0 least.1, known_in_front least.0 u least.1.0 ∙ least.2)
        | inr none ↦ absurd (none.0 some.0 some.1)
      ];
    },
    (some.0, live_in_front some.0 some.1),
  )

  -- with the first that wasn't
  pub floor_first : (clock : List ℕ) → x.joined ≡ false → clock ≡ x.clock → IsFloorSoFar threads None → IsFloorSoFar (threads ++ x ∷ []) (Some clock)
  floor_first clock live same none = (
    record {
      below = λ t u is. elim (live_cases t is) [
        | inl old ↦ absurd (none t old)
        | inr new ↦
            (let e : known_to (threads ++ x ∷ []) t u ≡ component clock u = ap (λ i. known_to (threads ++ x ∷ []) i u) new.0 ∙ known_last u ∙ ap (λ c. component c u) (sym same) in
            omega (arith, e))
      ];
      reached = λ u. inl (length threads, live_last live, known_last u ∙ ap (λ c. component c u) (sym same));
    },
    (length threads, live_last live),
  )

  -- with a further one
  pub floor_met : (floor clock : List ℕ) → x.joined ≡ false → ((u : ℕ) → component clock u ≡ min (component floor u) (component x.clock u))
      → IsFloorSoFar threads (Some floor) → IsFloorSoFar (threads ++ x ∷ []) (Some clock)
  floor_met floor clock live met (is, some) = (
    record {
      below = λ t u now. elim (live_cases t now) [
        | inl old ↦
            (let least = met u in let b = is.below t u old in let e = known_in_front t u old.0 in omega (arith, least, b, e))
        | inr new ↦
            (let e : known_to (threads ++ x ∷ []) t u ≡ component x.clock u = ap (λ i. known_to (threads ++ x ∷ []) i u) new.0 ∙ known_last u in
            let least = met u in omega (arith, least, e))
      ];
      reached = λ u. let least = met u in elim (cases_lt (component x.clock u) (component floor u)) [
        | inl lower ↦ inl (length threads, live_last live, known_last u ∙ omega (arith, least, lower))
        | inr higher ↦ elim (is.reached u) [
          | inl low ↦ inl (low.0, live_in_front low.0 low.1, known_in_front low.0 u low.1.0 ∙ low.2 ∙ omega (arith, least, higher))
          | inr none ↦ absurd (none.0 some.0 some.1)
        ]
      ];
    },
    (some.0, live_in_front some.0 some.1),
  )

-- where each was joined
pub floor_none : (threads : List Tracked) (clock : List ℕ) → clock ≡ [] → IsFloorSoFar threads None → IsFloor threads clock
floor_none threads clock empty none = record {
  below = λ t u live. absurd (none t live);
  reached = λ u. inr (none, ap (λ c. component c u) empty);
}
