-- Vector clocks tell what reaches what, and events behind leave them as they are.
use Rattle.std.proofs.Common.{◌≡◌, ◌↔◌, ◌⊎◌, inl, inr, ℕ, suc, ◌<◌, ◌≤◌, List, ◌++◌, length, Option, Some, None, refl, sym, ◌∙◌, ap, subst, arith, length-append}
use Rattle.std.specs.Prelude.{slice_get}
use Rattle.std.proofs.lemmas.Bool.{cases_eq, cases_Bool}
use Rattle.std.proofs.lemmas.Bool.Decides.{not_from_Decides}
use Rattle.std.proofs.lemmas.Option.{slice_get_within, same_Some}
use Rattle.rd_event.specs.declared.events.Event.{Event}
use Rattle.rd_order.specs.Order.{IsOf, Reaches, same_thread, thread_of}
use Rattle.rd_order.specs.OrderTests.{reaches}
use Rattle.rd_hb.specs.EventClocks.{OwnNumber, IsClock}
use Rattle.rd_order.proofs.CountsLemmas.{Front, covers, counted, counts_bound, counts_cut, counts_like, counts_same}
use Rattle.rd_order.proofs.OrderLemmas.{at_front, edge_reaches, reaches_decides, reaches_joined, reaches_longer, reaches_rises, reaches_shorter}

-- ---- events of a thread

pub is_of_within : (es : List Event) (t i : ℕ) → IsOf es t i → i < length es
is_of_within es t i of = slice_get_within es i of.0 of.1

pub is_of_longer : (es fs : List Event) (t i : ℕ) → IsOf es t i → IsOf (es ++ fs) t i
is_of_longer es fs t i of = (of.0, at_front es fs i (is_of_within es t i of) ∙ of.1, of.2)

pub is_of_shorter : (es fs : List Event) (t i : ℕ) → i < length es → IsOf (es ++ fs) t i → IsOf es t i
is_of_shorter es fs t i inside of = (of.0, sym (at_front es fs i inside) ∙ of.1, of.2)

-- a place is of a thread or not
pub is_of_cases : (es : List Event) (t i : ℕ) → IsOf es t i ⊎ ¬ (IsOf es t i)
is_of_cases es t i = by (slice_get es i) refl
  where
    by : (o : Option Event) → slice_get es i ≡ o → IsOf es t i ⊎ ¬ (IsOf es t i)
    by None at = inr (λ of. cc)
    by (Some e) at = elim (cases_eq (thread_of e) t) [
      | inl same ↦ inl (e, at, same)
      | inr other ↦ inr (λ of. other (ap thread_of (same_Some e of.0 (sym at ∙ of.1)) ∙ of.2))
    ]

-- of two events of a thread the earlier reaches the later
pub own_reaches : (es : List Event) (t i j : ℕ) → i < j → IsOf es t i → IsOf es t j → Reaches es i j
own_reaches es t i j l of_i of_j =
    edge_reaches es i j (record { rises = l; a = of_i.0; b = of_j.0; at_i = of_i.1; at_j = of_j.1; linked = same_thread (of_i.2 ∙ sym of_j.2) })

-- ---- clocks

-- a place is j or reaches it
pub at_or_before : (es : List Event) (j k : ℕ) → ((k ≡ j) ⊎ Reaches es k j) ⊎ ¬ ((k ≡ j) ⊎ Reaches es k j)
at_or_before es j k = elim (cases_eq k j) [
  | inl here ↦ inl (inl here)
  | inr other ↦ elim (cases_Bool (reaches es k j)) [
    | inl holds ↦ inl (inr ((reaches_decides es k j).0 holds))
    | inr fails ↦ inr (λ x. elim x [ inl here ↦ other here | inr r ↦ not_from_Decides (reaches es k j) (reaches_decides es k j) fails r ])
  ]
]

both_cases : {P Q : Type 0} → P ⊎ ¬ P → Q ⊎ ¬ Q → (P × Q) ⊎ ¬ (P × Q)
both_cases (inl p) (inl q) = inl (p, q)
both_cases (inl p) (inr lacks) = inr (λ x. lacks x.1)
both_cases (inr lacks) q = inr (λ x. lacks x.0)

pub clock_same : (es : List Event) (j t c d : ℕ) → IsClock es j t c → IsClock es j t d → c ≡ d
clock_same es j t c d a b = counts_same (λ k. IsOf es t k × ((k ≡ j) ⊎ Reaches es k j)) (length es) c d a b

pub clock_exists : (es : List Event) (j t : ℕ) → (c : ℕ) × IsClock es j t c
clock_exists es j t =
    counted (λ k. IsOf es t k × ((k ≡ j) ⊎ Reaches es k j)) (λ k. both_cases (is_of_cases es t k) (at_or_before es j k)) (length es)

-- what is at a place or reaches it is a front of the events of a thread
at_front_of : (es : List Event) (j t : ℕ) → Front (IsOf es t) (λ k. (k ≡ j) ⊎ Reaches es k j)
at_front_of es j t i k l of_k of_i (inl here) = inr (subst (Reaches es k) here (own_reaches es t k i l of_k of_i))
at_front_of es j t i k l of_k of_i (inr r) = inr (reaches_joined es k i j (own_reaches es t k i l of_k of_i) r)

-- the clock of a later place covers the own number of an event exactly where the event reaches it
pub clock_tells : (es : List Event) (i j t o c : ℕ) → i < j → j < length es → IsOf es t i → OwnNumber es t i o → IsClock es j t c → (o ≤ c) ↔ Reaches es i j
clock_tells es i j t o c l inside of own clock =
    let both = covers (IsOf es t) (λ k. (k ≡ j) ⊎ Reaches es k j) (length es) i o c (at_front_of es j t) (omega arith) of own clock in
    (λ le. elim (both.0 le) [ inl here ↦ absurd (omega arith) | inr r ↦ r ], λ r. both.1 (inr r))

-- no clock passes the number of events
pub clock_bound : (es : List Event) (j t c : ℕ) → IsClock es j t c → c ≤ length es
clock_bound es j t c a = counts_bound (λ k. IsOf es t k × ((k ≡ j) ⊎ Reaches es k j)) (length es) c a

-- at its own thread the clock of an event is its own number
pub clock_own : (es : List Event) (t j c : ℕ) → IsOf es t j → IsClock es j t c ↔ OwnNumber es t j c
clock_own es t j c of =
    let inside : j < length es = is_of_within es t j of in
    let cut = counts_cut UpTo (suc j) (length es) c (omega arith) behind in (
      λ clock. counts_like UpTo (IsOf es t) (suc j) c (λ k l. (λ x. x.0, λ of_k. (of_k, before k (omega arith) of_k))) (cut.0 clock),
      λ own. cut.1 (counts_like (IsOf es t) UpTo (suc j) c (λ k l. (λ of_k. (of_k, before k (omega arith) of_k), λ x. x.0)) own),
    )
  where
    UpTo : ℕ → Type 0
    UpTo k = IsOf es t k × ((k ≡ j) ⊎ Reaches es k j)

    before : (k : ℕ) → k ≤ j → IsOf es t k → (k ≡ j) ⊎ Reaches es k j
    before k le of_k = elim (cases_eq k j) [ inl here ↦ inl here | inr other ↦ inr (own_reaches es t k j (omega arith) of_k of) ]

    behind : (k : ℕ) → suc j ≤ k → k < length es → ¬ (UpTo k)
    behind k from to x = elim x.1 [ inl here ↦ absurd (omega arith) | inr r ↦ (let up : k < j = reaches_rises es k j r in absurd (omega arith)) ]

-- ---- more events behind

pub own_number_longer : (es fs : List Event) (t i o : ℕ) → i < length es → OwnNumber es t i o ↔ OwnNumber (es ++ fs) t i o
own_number_longer es fs t i o inside = (
  counts_like (IsOf es t) (IsOf (es ++ fs) t) (suc i) o (λ k l. (is_of_longer es fs t k, is_of_shorter es fs t k (omega arith))),
  counts_like (IsOf (es ++ fs) t) (IsOf es t) (suc i) o (λ k l. (is_of_shorter es fs t k (omega arith), is_of_longer es fs t k)),
)

pub clock_longer : (es fs : List Event) (j t c : ℕ) → j < length es → IsClock es j t c ↔ IsClock (es ++ fs) j t c
clock_longer es fs j t c inside =
    let more : length es ≤ length (es ++ fs) = omega (arith, length-append es fs) in
    let cut = counts_cut Longer (length es) (length (es ++ fs)) c more behind in (
      λ clock. cut.1 (counts_like Shorter Longer (length es) c (λ k l. (up k l, down k l)) clock),
      λ clock. counts_like Longer Shorter (length es) c (λ k l. (down k l, up k l)) (cut.0 clock),
    )
  where
    Shorter : ℕ → Type 0
    Shorter k = IsOf es t k × ((k ≡ j) ⊎ Reaches es k j)

    Longer : ℕ → Type 0
    Longer k = IsOf (es ++ fs) t k × ((k ≡ j) ⊎ Reaches (es ++ fs) k j)

    behind : (k : ℕ) → length es ≤ k → k < length (es ++ fs) → ¬ (Longer k)
    behind k from to x = elim x.1 [ inl here ↦ absurd (omega arith) | inr r ↦ (let up : k < j = reaches_rises (es ++ fs) k j r in absurd (omega arith)) ]

    up : (k : ℕ) → k < length es → Shorter k → Longer k
    up k l x = (is_of_longer es fs t k x.0, elim x.1 [ inl here ↦ inl here | inr r ↦ inr (reaches_longer es fs k j r) ])

    down : (k : ℕ) → k < length es → Longer k → Shorter k
    down k l x = (is_of_shorter es fs t k l x.0, elim x.1 [ inl here ↦ inl here | inr r ↦ inr (reaches_shorter es fs k j inside r) ])
