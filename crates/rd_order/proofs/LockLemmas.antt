-- The lock rule: of two events whose holds are against one another the earlier reaches the later.
use Rattle.std.proofs.Common.{◌≡◌, ◌≢◌, inl, inr, ℕ, zero, suc, ◌+◌, ◌<◌, ◌≤◌, Bool, true, cond, List, [], ◌∷◌, ◌++◌, take, Some, refl, sym, ◌∙◌, ap, arith}
use Rattle.std.specs.Prelude.{slice_get, count_by, ◌==◌, ◌&&◌}
use Rattle.std.proofs.lemmas.Bool.{cases_Bool, cases_eq, cases_lt}
use Rattle.std.proofs.lemmas.Bool.Decides.{Decides-and, Decides-eqb}
use Rattle.std.proofs.lemmas.List.Sums.{sum_by-cons}
use Rattle.std.proofs.lemmas.Option.{none-some, same_Some}
use Rattle.rd_event.specs.declared.events.Event.{Event}
use Rattle.rd_order.specs.Order.{thread_of, Hold, Against, hold_taken, hold_given, Uses, same_thread, hands_over, Reaches}
use Rattle.rd_order.specs.EventLists.{is_hold, takings, givings, WellFormed}
use Rattle.rd_order.proofs.EventListLemmas.{may_follow_at}
use Rattle.rd_order.proofs.HoldLemmas.{against_back, front_sane, givings_none, givings_of_others, hold_decides, takings_of_others, takings_one}
use Rattle.rd_order.proofs.OrderLemmas.{edge_reaches, reaches_joined}

-- ---- between two places

-- where the count of a front is more than that of a shorter one, an event between passes the test
pub risen : (test : Event → Bool) (es : List Event) (i j : ℕ) → count_by test (take i es) < count_by test (take j es)
    → (m : ℕ) × (e : Event) × (i ≤ m) × (m < j) × (slice_get es m ≡ Some e) × (test e ≡ true)
risen test [] zero zero more = absurd (omega (arith, more))
risen test [] zero (suc j) more = absurd (omega (arith, more))
risen test [] (suc i) zero more = absurd (omega (arith, more))
risen test [] (suc i) (suc j) more = absurd (omega (arith, more))
risen test (x ∷ es) i zero more = absurd (omega (arith, more))
risen test (x ∷ es) zero (suc j) more = elim (cases_Bool (test x)) [
  | inl pass ↦ (0, x, omega arith, omega arith, refl, pass)
  | inr fail ↦
      (let rest = risen test es 0 j (omega (arith, more, sum_by-cons (λ y. cond (test y) 1 0) x (take j es), ap {B = ℕ} (λ b. cond b 1 0) fail)) in
      (suc rest.0, rest.1, omega arith, omega (arith, rest.3), rest.4, rest.5))
]
risen test (x ∷ es) (suc i) (suc j) more =
    let rest = risen test es i j
    (omega (arith, more, sum_by-cons (λ y. cond (test y) 1 0) x (take j es), sum_by-cons (λ y. cond (test y) 1 0) x (take i es))) in
    (suc rest.0, rest.1, omega (arith, rest.2), omega (arith, rest.3), rest.4, rest.5)

-- a front with the event behind it
pub front_more : (es : List Event) (i : ℕ) (a : Event) → slice_get es i ≡ Some a → take (suc i) es ≡ take i es ++ a ∷ []
front_more [] i a at = absurd (none-some a at)
front_more (x ∷ es) zero a at = ap (λ y. y ∷ []) (same_Some x a at)
front_more (x ∷ es) (suc i) a at = ap (λ ys. x ∷ ys) (front_more es i a at)

-- between them the thread took the hold
taken_between : (es : List Event) (i j t : ℕ) (h : Hold) → takings (take i es) t h < takings (take j es) t h
    → (m : ℕ) × (e : Event) × (i ≤ m) × (m < j) × (slice_get es m ≡ Some e) × (thread_of e ≡ t) × (hold_taken e ≡ Some h)
unfolding takings
taken_between es i j t h more =
    let x = risen (λ e. (thread_of e == t) && is_hold (hold_taken e) h) es i j more in
    let is = (Decides-and _ _ (Decides-eqb (thread_of x.1) t) (hold_decides (hold_taken x.1) h)).0 x.5 in
    (x.0, x.1, x.2, x.3, x.4, is.0, is.1)

-- or gave it back
given_between : (es : List Event) (i j t : ℕ) (h : Hold) → givings (take i es) t h < givings (take j es) t h
    → (m : ℕ) × (e : Event) × (i ≤ m) × (m < j) × (slice_get es m ≡ Some e) × (thread_of e ≡ t) × (hold_given e ≡ Some h)
unfolding givings
given_between es i j t h more =
    let x = risen (λ e. (thread_of e == t) && is_hold (hold_given e) h) es i j more in
    let is = (Decides-and _ _ (Decides-eqb (thread_of x.1) t) (hold_decides (hold_given x.1) h)).0 x.5 in
    (x.0, x.1, x.2, x.3, x.4, is.0, is.1)

-- ---- one after another

-- of two events of one thread the earlier reaches the later
pub same_reaches : (es : List Event) (i j : ℕ) (a b : Event) → i < j → slice_get es i ≡ Some a → slice_get es j ≡ Some b → thread_of a ≡ thread_of b → Reaches es i j
same_reaches es i j a b rises at_i at_j same =
    edge_reaches es i j (record { rises = rises; a = a; b = b; at_i = at_i; at_j = at_j; linked = same_thread same })

-- what gives back a hold reaches what takes one against it
pub handed_reaches : (es : List Event) (i j : ℕ) (a b : Event) (h k : Hold) → i < j → slice_get es i ≡ Some a → slice_get es j ≡ Some b
    → hold_given a ≡ Some h → hold_taken b ≡ Some k → Against h k → Reaches es i j
handed_reaches es i j a b h k rises at_i at_j gives takes against =
    edge_reaches es i j (record { rises = rises; a = a; b = b; at_i = at_i; at_j = at_j; linked = hands_over h k gives takes against })

-- ---- fronts

-- counts don't fall from a front to a longer one
counts_rise : (test : Event → Bool) (es : List Event) (i j : ℕ) → i ≤ j → count_by test (take i es) ≤ count_by test (take j es)
counts_rise test es i j up = elim (cases_lt (count_by test (take j es)) (count_by test (take i es))) [
  | inl falls ↦ (let x = risen test es j i falls in absurd (omega (arith, x.2, x.3)))
  | inr not_less ↦ omega (arith, not_less)
]

takings_rise : (es : List Event) (i j t : ℕ) (h : Hold) → i ≤ j → takings (take i es) t h ≤ takings (take j es) t h
unfolding takings
takings_rise es i j t h up = counts_rise (λ e. (thread_of e == t) && is_hold (hold_taken e) h) es i j up

givings_rise : (es : List Event) (i j t : ℕ) (h : Hold) → i ≤ j → givings (take i es) t h ≤ givings (take j es) t h
unfolding givings
givings_rise es i j t h up = counts_rise (λ e. (thread_of e == t) && is_hold (hold_given e) h) es i j up

-- ---- two holds against one another

-- what takes a hold reaches what takes one against it: its thread gave the hold back in between
takes_reaches : (roots : ℕ → Bool) (es : List Event) (i j : ℕ) (a b : Event) (h k : Hold) → WellFormed roots es → i < j → slice_get es i ≡ Some a → slice_get es j ≡ Some b
    → hold_taken a ≡ Some h → hold_taken b ≡ Some k → Against h k → thread_of a ≢ thread_of b → Reaches es i j
takes_reaches roots es i j a b h k formed rises at_i at_j takes again against other =
    let free : takings (take j es) (thread_of a) h ≡ givings (take j es) (thread_of a) h =
    (may_follow_at roots es j b formed at_j).free k h again (against_back h k against) (thread_of a) other in
    let had : givings (take i es) (thread_of a) h ≤ takings (take i es) (thread_of a) h = (front_sane roots es i formed).covered (thread_of a) h in
    let took : takings (take (suc i) es) (thread_of a) h ≡ takings (take i es) (thread_of a) h + 1 =
    ap (λ l. takings l (thread_of a) h) (front_more es i a at_i) ∙ takings_one (take i es) a h takes in
    let gave : givings (take (suc i) es) (thread_of a) h ≡ givings (take i es) (thread_of a) h =
    ap (λ l. givings l (thread_of a) h) (front_more es i a at_i) ∙ givings_none (take i es) a (thread_of a) h takes in
    let x = given_between es (suc i) j (thread_of a) h (omega (arith, free, had, took, gave, takings_rise es (suc i) j (thread_of a) h (omega (arith, rises)))) in
    reaches_joined es i x.0 j
    (same_reaches es i x.0 a x.1 (omega (arith, x.2)) at_i x.4 (sym x.5))
    (handed_reaches es x.0 j x.1 b h k x.3 x.4 at_j x.6 again against)

-- what uses a hold reaches what takes one against it
reaches_taking : (roots : ℕ → Bool) (es : List Event) (i j : ℕ) (a b : Event) (h k : Hold) → WellFormed roots es → i < j → slice_get es i ≡ Some a → slice_get es j ≡ Some b
    → Uses a h → hold_taken b ≡ Some k → Against h k → thread_of a ≢ thread_of b → Reaches es i j
reaches_taking roots es i j a b h k formed rises at_i at_j (inl takes) again against other =
    takes_reaches roots es i j a b h k formed rises at_i at_j takes again against other
reaches_taking roots es i j a b h k formed rises at_i at_j (inr gives) again against other =
    handed_reaches es i j a b h k rises at_i at_j gives again against

-- where an event uses a hold, no other thread has one against it
none_against : (roots : ℕ → Bool) (es : List Event) (i u : ℕ) (a : Event) (h k : Hold) → WellFormed roots es → slice_get es i ≡ Some a
    → Uses a h → Against h k → u ≢ thread_of a → takings (take i es) u k ≡ givings (take i es) u k
none_against roots es i u a h k formed at (inl takes) against other = (may_follow_at roots es i a formed at).free h k takes against u other
none_against roots es i u a h k formed at (inr gives) against other =
    (front_sane roots es i formed).alone (thread_of a) u h k against (λ same. other (sym same)) ((may_follow_at roots es i a formed at).held h gives)

-- what uses a hold reaches what gives back one against it: the later thread took it in between
reaches_giving : (roots : ℕ → Bool) (es : List Event) (i j : ℕ) (a b : Event) (h k : Hold) → WellFormed roots es → i < j → slice_get es i ≡ Some a → slice_get es j ≡ Some b
    → Uses a h → hold_given b ≡ Some k → Against h k → thread_of a ≢ thread_of b → Reaches es i j
reaches_giving roots es i j a b h k formed rises at_i at_j uses gives against other =
    let apart : thread_of b ≢ thread_of a = λ same. other (sym same) in
    let has : givings (take j es) (thread_of b) k < takings (take j es) (thread_of b) k = (may_follow_at roots es j b formed at_j).held k gives in
    let none : takings (take i es) (thread_of b) k ≡ givings (take i es) (thread_of b) k = none_against roots es i (thread_of b) a h k formed at_i uses against apart in
    let took : takings (take (suc i) es) (thread_of b) k ≡ takings (take i es) (thread_of b) k =
    ap (λ l. takings l (thread_of b) k) (front_more es i a at_i) ∙ takings_of_others (take i es) a (thread_of b) k apart in
    let gave : givings (take (suc i) es) (thread_of b) k ≡ givings (take i es) (thread_of b) k =
    ap (λ l. givings l (thread_of b) k) (front_more es i a at_i) ∙ givings_of_others (take i es) a (thread_of b) k apart in
    let x = taken_between es (suc i) j (thread_of b) k (omega (arith, has, none, took, gave, givings_rise es (suc i) j (thread_of b) k (omega (arith, rises)))) in
    reaches_joined es i x.0 j
    (reaches_taking roots es i x.0 a x.1 h k formed (omega (arith, x.2)) at_i x.4 uses x.6 against (λ same. other (same ∙ x.5)))
    (same_reaches es x.0 j x.1 b x.3 x.4 at_j x.5)

-- the lock rule
pub holds_reach : (roots : ℕ → Bool) (es : List Event) (i j : ℕ) (a b : Event) (h k : Hold) → WellFormed roots es → i < j → slice_get es i ≡ Some a → slice_get es j ≡ Some b
    → Uses a h → Uses b k → Against h k → Reaches es i j
holds_reach roots es i j a b h k formed rises at_i at_j uses again against = elim (cases_eq (thread_of a) (thread_of b)) [
  | inl same ↦ same_reaches es i j a b rises at_i at_j same
  | inr other ↦ elim again [
    | inl takes ↦ reaches_taking roots es i j a b h k formed rises at_i at_j uses takes against other
    | inr gives ↦ reaches_giving roots es i j a b h k formed rises at_i at_j uses gives against other
  ]
]
