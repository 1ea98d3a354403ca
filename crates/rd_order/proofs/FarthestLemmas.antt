-- The farthest path: it is a path, there is one alone, and it is the computed one.
use Rattle.std.proofs.Common.{◌≡◌, ◌≢◌, ◌↔◌, ◌<◌, ◌≤◌, ◌+◌, ◌==◌, ◌++◌, ◌||◌, ℕ, zero, suc, Bool, true, cond, List, [], ◌∷◌, length, Option, Some, None, Decides, arith, inl, inr, refl, sym, ◌∙◌, ap, subst}
use Rattle.std.specs.Prelude.{IsSome}
use Rattle.std.proofs.lemmas.Bool.{cases_Bool, cases_eq, cases_lt, eq-eqb, ne_eqb, true≢false}
use Rattle.std.proofs.lemmas.Bool.Decides.{Decides-and, Decides-eqb, Decides-or}
use Rattle.rd_event.specs.declared.events.Event.{Event}
use Rattle.rd_order.specs.Order.{Edge, IsPath, Leads, Reaches}
use Rattle.rd_order.specs.OrderTests.{is_edge, reaches}
use Rattle.rd_order.specs.Paths.{Comes, GoesFarthest, IsFarthest, IsFarthestPath, LeadsOn, farthest_from, farthest_next, farthest_path, last_below_or, leads_on}
use Rattle.rd_order.proofs.NextLemmas.{no_step, step_comes}
use Rattle.rd_order.proofs.OrderLemmas.{edge_decides, edge_within, reaches_decides, reaches_rises, reaches_within_length}

-- ---- a place and its step

-- a place before j that is j or reaches it reaches it
pub reaches_of : (es : List Event) (j place : ℕ) → place < j → Comes es j place → Reaches es place j
reaches_of es j place below (inl same) = absurd (omega arith)
reaches_of es j place below (inr reaches) = reaches

-- no such place lies behind j
pub comes_within : (es : List Event) (j place : ℕ) → Comes es j place → place ≤ j
comes_within es j place (inl same) = omega arith
comes_within es j place (inr reaches) = omega (arith, reaches_rises es place j reaches)

-- a place has a step exactly where it reaches j
pub step_told : (es : List Event) (j place : ℕ) (step : Option ℕ) → IsFarthest es j place step → IsSome step ↔ Reaches es place j
step_told es j place None is = (λ some. absurd (true≢false (sym some)), λ reaches. absurd (no_step es j place is reaches))
step_told es j place (Some next) is = (λ some. step_comes es j place next is, λ reaches. refl)

-- ---- it is a path

-- from j itself no place leads on
ends_there : (es : List Event) (j next : ℕ) → ¬ (IsFarthest es j j (Some next))
ends_there es j next is = let rises = is.0.0.rises in omega (arith, rises, comes_within es j next is.0.1)

-- the places behind one before j, with j taken off
leads_of : (es : List Event) (j place : ℕ) (behind : List ℕ) → place < j → GoesFarthest es j place behind j
    → (inner : List ℕ) × (behind ≡ inner ++ j ∷ []) × Leads (Edge es) place inner j
leads_of es j place [] below same = absurd (omega arith)
leads_of es j place (next ∷ []) below (is, same) = ([], ap (λ k. k ∷ []) same, subst (Edge es place) same is.0.0)
leads_of es j place (next ∷ other ∷ places) below (is, goes) = elim (cases_lt next j) [
  | inl before ↦ (let rest = leads_of es j next (other ∷ places) before goes in (next ∷ rest.0, ap (λ l. next ∷ l) rest.1, (is.0.0, rest.2)))
  | inr late ↦ (let at : next ≡ j = omega (arith, late, comes_within es j next is.0.1) in absurd (ends_there es j other (subst (λ p. IsFarthest es j p (Some other)) at goes.0)))
]

pub farthest_is_path : (es : List Event) (places : List ℕ) (i j : ℕ) → i < j → IsFarthestPath es i places j → IsPath es i places j
farthest_is_path es places i j below path =
    let rest = leads_of es j i path.0 below path.2 in
    (rest.0, path.1 ∙ ap (λ l. i ∷ l) rest.1, rest.2)

-- ---- there is one alone

same_next : (es : List Event) (j place a b : ℕ) → IsFarthest es j place (Some a) → IsFarthest es j place (Some b) → a ≡ b
same_next es j place a b one other = (let up = other.1 a one.0 in let down = one.1 b other.0 in omega (arith, up, down))

same_behind : (es : List Event) (j place : ℕ) (one other : List ℕ) → GoesFarthest es j place one j → GoesFarthest es j place other j → one ≡ other
same_behind es j place [] [] here there = refl
same_behind es j place [] (b ∷ ys) here there = absurd (ends_there es j b (subst (λ p. IsFarthest es j p (Some b)) here there.0))
same_behind es j place (a ∷ xs) [] here there = absurd (ends_there es j a (subst (λ p. IsFarthest es j p (Some a)) there here.0))
same_behind es j place (a ∷ xs) (b ∷ ys) here there =
    let next : a ≡ b = same_next es j place a b here.0 there.0 in
    (λ i. next i ∷ xs) ∙ ap (λ l. b ∷ l) (same_behind es j b xs ys (subst (λ p. GoesFarthest es j p xs j) next here.1) there.1)

pub farthest_alone : (es : List Event) (places others : List ℕ) (i j : ℕ) → IsFarthestPath es i places j → IsFarthestPath es i others j → places ≡ others
farthest_alone es places others i j one other = one.1 ∙ ap (λ l. i ∷ l) (same_behind es j i one.0 other.0 one.2 other.2) ∙ sym other.1

-- ---- one step more

pub goes_on : (es : List Event) (j place last next : ℕ) (behind : List ℕ) → GoesFarthest es j place behind last → IsFarthest es j last (Some next)
    → GoesFarthest es j place (behind ++ next ∷ []) next
goes_on es j place last next [] same is = (subst (λ p. IsFarthest es j p (Some next)) (sym same) is, refl)
goes_on es j place last next (k ∷ ks) goes is = (goes.0, goes_on es j k last next ks goes.1 is)

-- where the first place comes to j, so does the last
pub goes_comes : (es : List Event) (j place last : ℕ) (behind : List ℕ) → Comes es j place → GoesFarthest es j place behind last → Comes es j last
goes_comes es j place last [] comes same = subst (Comes es j) same comes
goes_comes es j place last (next ∷ places) comes goes = goes_comes es j next last places goes.0.0.1 goes.1

-- ---- the computed path

-- it is the greatest number below n that passes the test
record IsGreatest (T : ℕ → Bool) (n m : ℕ) : Type 0 where
  below : m < n
  passes : T m ≡ true
  most : (k : ℕ) → k < n → T k ≡ true → k ≤ m

greatest : (T : ℕ → Bool) (n k other : ℕ) → k < n → T k ≡ true → IsGreatest T n (last_below_or T n other)
greatest T zero k other below passes = absurd (omega arith)
greatest T (suc n) k other below passes = elim (cases_Bool (T n)) [
  | inl is ↦ subst (IsGreatest T (suc n)) (sym (ap (λ b. cond b n (last_below_or T n other)) is))
      (record { below = omega arith; passes = is; most = λ p l also. omega (arith, l) })
  | inr isnt ↦ (let before : k ≢ n = λ same. true≢false (sym passes ∙ ap T same ∙ isnt) in
      let rest = greatest T n k other (omega (arith, below, before)) passes in
      let inside = rest.below in
      subst (IsGreatest T (suc n)) (sym (ap (λ b. cond b n (last_below_or T n other)) isnt))
      (record {
        below = omega (arith, inside);
        passes = rest.passes;
        most = λ p l also. elim (cases_eq p n) [ inl same ↦ absurd (true≢false (sym also ∙ ap T same ∙ isnt)) | inr apart ↦ rest.most p (omega (arith, l, apart)) also ];
      }))
]

leads_decides : (es : List Event) (j place k : ℕ) → Decides (leads_on es j place k) (LeadsOn es j place k)
unfolding leads_on
leads_decides es j place k =
    Decides-and (is_edge es place k) ((k == j) || reaches es k j) (edge_decides es place k)
    (Decides-or (k == j) (reaches es k j) (Decides-eqb k j) (reaches_decides es k j))

first_step : (es : List Event) (place j : ℕ) → Reaches es place j → (k : ℕ) × LeadsOn es j place k
first_step es place j ([], edge) = (j, (edge, inl refl))
first_step es place j (k ∷ ks, leads) = (k, (leads.0, inr (ks, leads.1)))

next_farthest : (es : List Event) (place j : ℕ) → Reaches es place j → IsFarthest es j place (Some (farthest_next es j place))
unfolding farthest_next
next_farthest es place j reach =
    let step = first_step es place j reach in
    let found = greatest (leads_on es j place) (length es) step.0 j (edge_within es place step.0 step.1.0) ((leads_decides es j place step.0).1 step.1) in (
      (leads_decides es j place (last_below_or (leads_on es j place) (length es) j)).0 found.passes,
      λ k leads. found.most k (edge_within es place k leads.0) ((leads_decides es j place k).1 leads),
    )

goes_from : (es : List Event) (j left place : ℕ) → Comes es j place → j ≤ place + left → (behind : List ℕ) × (farthest_from es j left place ≡ place ∷ behind) × GoesFarthest es j place behind j
goes_from es j zero place (inl same) enough = ([], refl, same)
goes_from es j zero place (inr reach) enough = absurd (omega (arith, enough, reaches_rises es place j reach))
goes_from es j (suc left) place comes enough = elim (cases_eq place j) [
  | inl same ↦ ([], ap (λ b. place ∷ cond b [] (farthest_from es j left (farthest_next es j place))) (eq-eqb place j same), same)
  | inr apart ↦ (let reach = reaches_of es j place (omega (arith, apart, comes_within es j place comes)) comes in
      let is = next_farthest es place j reach in
      let rises = is.0.0.rises in
      let rest = goes_from es j left (farthest_next es j place) is.0.1 (omega (arith, enough, rises)) in (
        farthest_next es j place ∷ rest.0,
        ap (λ b. place ∷ cond b [] (farthest_from es j left (farthest_next es j place))) (ne_eqb place j apart) ∙ ap (λ l. place ∷ l) rest.1,
        (is, rest.2),
      ))
]

pub path_is_farthest : (es : List Event) (i j : ℕ) → Reaches es i j → IsFarthestPath es i (farthest_path es i j) j
unfolding farthest_path
path_is_farthest es i j reach = goes_from es j (length es) i (inr reach) (omega (arith, reaches_within_length es i j reach))
