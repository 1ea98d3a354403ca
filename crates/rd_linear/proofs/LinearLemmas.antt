-- What a linear order says of each of its places, and when places that come one behind another are one.
use Rattle.std.proofs.Common.{◌≡◌, ◌≢◌, ◌<◌, ◌≤◌, ◌+◌, ◌⊎◌, ◌++◌, ℕ, zero, suc, Bool, true, false, List, [], ◌∷◌, Some, length, slice_get, take, replicate, arith, inl, inr, refl, sym, ◌∙◌, ap, subst, true≢false, length-append}
use Rattle.std.specs.Prelude.{All, slice_index_or, slice_set}
use Rattle.std.specs.List.{range_with_len}
use Rattle.std.proofs.lemmas.Bool.{cases_eq, cases_Bool}
use Rattle.std.proofs.lemmas.Option.{none-some, same_Some, slice_get-get_or}
use Rattle.rd_event.specs.declared.events.Event.{Event}
use Rattle.rd_order.proofs.OrderLemmas.{edge_reaches, edge_rises}
use Rattle.rd_linear.specs.Linear.{AreMarked, Below, Marks, MayCome, Once, Placed, Stands}
use Rattle.rd_linear.specs.Orders.{IsLinear, exchanged}
use Rattle.rd_linear.proofs.ExchangeLemmas.{exchanged_twice, got_exchanged}
use Rattle.rd_linear.proofs.OrderLemmas.{every_linear, range_at, range_below, range_length}
use Rattle.rd_linear.proofs.Placing.{placed_all, placed_more, ready_by_edges}

-- ---- linear orders

pub linear_below : (es : List Event) (places : List ℕ) → IsLinear es places → Below (length es) places
linear_below es places l = every_linear es (Below (length es))
    (λ xs ys p q loose g j a s. g (exchanged (length xs) j) a (got_exchanged xs q p ys j ∙ s)) (λ j p s. omega (arith, range_below 0 (length es) j p s)) places l

pub linear_inside : (es : List Event) (places : List ℕ) → IsLinear es places → All (λ p. p < length es) places
linear_inside es places l k d inside = linear_below es places l k (slice_index_or places k d) (slice_get-get_or places k d inside)

linear_once : (es : List Event) (places : List ℕ) → IsLinear es places → Once places
linear_once es places l = every_linear es Once
    (λ xs ys p q loose g j k a s t. let e = g (exchanged (length xs) j) (exchanged (length xs) k) a (got_exchanged xs q p ys j ∙ s) (got_exchanged xs q p ys k ∙ t) in
    sym (exchanged_twice (length xs) j) ∙ (ap (exchanged (length xs)) e ∙ exchanged_twice (length xs) k))
    (λ j k p s t. let x = range_at 0 (length es) j p s in let y = range_at 0 (length es) k p t in omega arith) places l

pub range_has : (a n p : ℕ) → a ≤ p → p < a + n → Stands (range_with_len a n) p
range_has a zero p lo hi = absurd (omega arith)
range_has a (suc n) p lo hi = elim (cases_eq a p) [
  | inl e ↦ (0, ap Some e)
  | inr ne ↦ (let r = range_has (a + 1) n p (omega arith) (omega arith) in (suc r.0, r.1))
]

linear_has : (es : List Event) (places : List ℕ) → IsLinear es places → (p : ℕ) → p < length es → Stands places p
linear_has es places l = every_linear es (λ qs. (p : ℕ) → p < length es → Stands qs p)
    (λ xs ys p q loose g a inside. let s = g a inside in (exchanged (length xs) s.0, got_exchanged xs p q ys s.0 ∙ s.1))
    (λ p inside. range_has 0 (length es) p (omega arith) (omega arith)) places l

-- ---- fronts

at_front : (places : List ℕ) (n j p : ℕ) → j < n → slice_get places j ≡ Some p → slice_get (take n places) j ≡ Some p
at_front [] n j p below at = absurd (none-some p at)
at_front (x ∷ places) zero j p below at = absurd (omega arith)
at_front (x ∷ places) (suc n) zero p below at = at
at_front (x ∷ places) (suc n) (suc j) p below at = at_front places n j p (omega arith) at

front_at : (places : List ℕ) (n j p : ℕ) → slice_get (take n places) j ≡ Some p → (j < n) × (slice_get places j ≡ Some p)
front_at [] zero j p at = absurd (none-some p at)
front_at [] (suc n) j p at = absurd (none-some p at)
front_at (x ∷ places) zero j p at = absurd (none-some p at)
front_at (x ∷ places) (suc n) zero p at = (omega arith, at)
front_at (x ∷ places) (suc n) (suc j) p at = let r = front_at places n j p at in (omega (arith, r.0), r.1)

-- each place of a linear order may come behind those before it
pub linear_comes : (es : List Event) (places : List ℕ) (at place : ℕ) (seen : List Bool) → IsLinear es places → slice_get places at ≡ Some place
    → Marks seen (length es) (take at places) → MayCome es seen place
linear_comes es places at place seen l is marks = (inside, unmarked, marked)
  where
    inside : place < length es
    inside = linear_below es places l at place is

    unmarked : slice_index_or seen place false ≡ false
    unmarked = elim (cases_Bool (slice_index_or seen place false)) [
      | inl marked_now ↦ (let s = (marks.told place inside).0 marked_now in let r = front_at places at s.0 place s.1 in
          let same = linear_once es places l s.0 at place r.1 is in absurd (omega (arith, same, r.0)))
      | inr unset ↦ unset
    ]

    marked : AreMarked es seen place
    marked k edge =
        let rises : k < place = edge_rises es k place edge in
        let s = linear_has es places l k (omega (arith, rises, inside)) in
        let before : s.0 < at = l.keeps k place s.0 at (edge_reaches es k place edge) s.1 is in
        (marks.told k (omega (arith, rises, inside))).1 (s.0, at_front places at s.0 k before s.1)

pub linear_length : (es : List Event) (places : List ℕ) → IsLinear es places → length places ≡ length es
linear_length es places l = every_linear es (λ qs. length qs ≡ length es)
    (λ xs ys p q loose g. omega (arith, g, length-append xs (p ∷ q ∷ ys), length-append xs (q ∷ p ∷ ys))) (range_length 0 (length es)) places l

-- ---- one place more

pub take_one : (places : List ℕ) (at place : ℕ) → slice_get places at ≡ Some place → take (at + 1) places ≡ take at places ++ place ∷ []
take_one [] at place is = absurd (none-some place is)
take_one (x ∷ places) zero place is = ap (λ y. y ∷ []) (same_Some x place is)
take_one (x ∷ places) (suc at) place is = let e : suc at + 1 ≡ suc (at + 1) = omega arith in rw e (ap (λ l. x ∷ l) (take_one places at place is))

pub comes_placed : (es : List Event) (places : List ℕ) (at place : ℕ) (seen : List Bool) → Placed es (take at places) → slice_get places at ≡ Some place
    → Marks seen (length es) (take at places) → MayCome es seen place → Placed es (take (at + 1) places)
comes_placed es places at place seen placed is marks may =
    subst (Placed es) (sym (take_one places at place is))
    (placed_more es (take at places) place placed may.0
    (λ stands. true≢false (sym ((marks.told place may.0).1 stands) ∙ may.1))
    (ready_by_edges es (take at places) place placed (λ p edge.
    let rises : p < place = edge_rises es p place edge in let inside = may.0 in
    (marks.told p (omega arith)).0 (may.2 p edge))))

pub all_placed : (es : List Event) (places : List ℕ) → length places ≡ length es → Placed es (take (length places) places) → IsLinear es places
all_placed es places full placed = placed_all es places (subst (Placed es) (take_whole places) placed) full
  where
    take_whole : (xs : List ℕ) → take (length xs) xs ≡ xs
    take_whole [] = refl
    take_whole (x ∷ xs) = ap (λ l. x ∷ l) (take_whole xs)

-- ---- marks

none_set : (count p : ℕ) → slice_index_or (replicate count false) p false ≡ false
none_set zero p = refl
none_set (suc count) zero = refl
none_set (suc count) (suc p) = none_set count p

pub no_marks : (count : ℕ) → length (replicate count false) ≡ count → Marks (replicate count false) count []
no_marks count are = record {
  count_is = are;
  told = λ p inside. (λ set. absurd (true≢false (sym set ∙ none_set count p)), λ stands. absurd (none-some p stands.1));
}

pub set_here : (seen : List Bool) (p : ℕ) → p < length seen → slice_index_or (slice_set seen p true) p false ≡ true
set_here [] p inside = absurd (omega arith)
set_here (x ∷ seen) zero inside = refl
set_here (x ∷ seen) (suc p) inside = set_here seen p (omega arith)

pub set_there : (seen : List Bool) (p q : ℕ) → p ≢ q → slice_index_or (slice_set seen p true) q false ≡ slice_index_or seen q false
set_there [] p q apart = refl
set_there (x ∷ seen) zero zero apart = absurd (apart refl)
set_there (x ∷ seen) zero (suc q) apart = refl
set_there (x ∷ seen) (suc p) zero apart = refl
set_there (x ∷ seen) (suc p) (suc q) apart = set_there seen p q (λ e. apart (ap suc e))

pub stands_more : (ps : List ℕ) (p q : ℕ) → Stands (ps ++ q ∷ []) p → Stands ps p ⊎ (p ≡ q)
stands_more [] p q (zero, at) = inr (sym (same_Some q p at))
stands_more [] p q (suc j, at) = absurd (none-some p at)
stands_more (x ∷ ps) p q (zero, at) = inl (0, at)
stands_more (x ∷ ps) p q (suc j, at) = elim (stands_more ps p q (j, at)) [ inl s ↦ inl (suc s.0, s.1) | inr e ↦ inr e ]

pub stands_still : (ps : List ℕ) (p q : ℕ) → Stands ps p → Stands (ps ++ q ∷ []) p
stands_still [] p q (j, at) = absurd (none-some p at)
stands_still (x ∷ ps) p q (zero, at) = (0, at)
stands_still (x ∷ ps) p q (suc j, at) = let s = stands_still ps p q (j, at) in (suc s.0, s.1)

pub stands_last : (ps : List ℕ) (q : ℕ) → Stands (ps ++ q ∷ []) q
stands_last [] q = (0, refl)
stands_last (x ∷ ps) q = let s = stands_last ps q in (suc s.0, s.1)

pub marks_next : (seen : List Bool) (count place : ℕ) (places : List ℕ) → Marks seen count places → place < count
    → length (slice_set seen place true) ≡ length seen → Marks (slice_set seen place true) count (places ++ place ∷ [])
marks_next seen count place places marks inside same = record {
  count_is = same ∙ marks.count_is;
  told = λ p below. elim (cases_eq place p) [
    | inl e ↦ (
      λ set. subst (λ q. Stands (places ++ place ∷ []) q) e (stands_last places place),
      λ stands. subst (λ q. slice_index_or (slice_set seen place true) q false ≡ true) e (set_here seen place (omega (arith, marks.count_is))),
    )
    | inr apart ↦ (
      λ set_too. stands_still places p place ((marks.told p below).0 (sym (set_there seen place p apart) ∙ set_too)),
      λ stands. set_there seen place p apart ∙ elim (stands_more places p place stands) [
        | inl before ↦ (marks.told p below).1 before
        | inr e ↦ absurd (apart (sym e))
      ],
    )
  ];
}

pub marks_more : (seen : List Bool) (count at place : ℕ) (places : List ℕ) → Marks seen count (take at places) → slice_get places at ≡ Some place → place < count
    → length (slice_set seen place true) ≡ length seen → Marks (slice_set seen place true) count (take (at + 1) places)
marks_more seen count at place places marks is inside same =
    subst (Marks (slice_set seen place true) count) (sym (take_one places at place is)) (marks_next seen count place (take at places) marks inside same)
