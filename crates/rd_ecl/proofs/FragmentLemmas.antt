-- The first node that offends, and the fragment.
use Rattle.std.proofs.Common.{◌≡◌, ℕ, ◌+◌, ◌≤◌, ◌<◌, Bool, true, false, not, ◌&&◌, List, [], ◌∷◌, ◌++◌, length, Option, Some, None, if◌then◌else◌, refl, ap, sym, ◌∙◌, arith, is_none, is_some, length-append}
use Rattle.std.specs.Prelude.{max, IsNone, ◌↔◌}
use Rattle.std.specs.List.{list_all}
use Rattle.rd_ecl.specs.Formulas.{Tree, truth, atom, cross, mixed, negation, both, either, post_order, crosses_sides, offence, or_later, earlier_of, first_offence, nodes, levels, IsSimple, simple_truth, simple_cross, simple_both, IsSided, sided_truth, sided_atom, sided_negation, sided_both, sided_either, InFragment, of_simple, of_sided, of_both, of_or_sided, of_sided_or}
use Rattle.rd_ecl.specs.declared.formulas.Outside.{Outside}
use Rattle.rd_ecl.specs.declared.formulas.Reason.{Reason}
use Rattle.rd_ecl.specs.declared.formulas.Reason.TheVariants.{NotOverCross, OrOfCross}
use Rattle.std.proofs.lemmas.Bool.{or_parts, and_parts, and_from, and_left, and_right, or_from, not-true, not_from_false}
use Rattle.std.proofs.lemmas.List.Folds.{list_all-append}

-- the first of two lists of nodes
later_of : (number : ℕ) (o : Option Reason) (x y : Option Outside) → or_later number o (earlier_of x y) ≡ earlier_of (or_later number o x) y
later_of number (Some reason) x y = refl
later_of number None x y = refl

pub first_of_two : (number : ℕ) (xs ys : List Tree) → first_offence number (xs ++ ys) ≡ earlier_of (first_offence number xs) (first_offence (number + length xs) ys)
first_of_two number [] ys = let e : number + 0 ≡ number = omega arith in rw e refl
first_of_two number (x ∷ xs) ys =
    let e : number + 1 + length xs ≡ number + length (x ∷ xs) = omega arith in
    let more = first_of_two (number + 1) xs ys in
    let step = later_of number (offence x) (first_offence (number + 1) xs) (first_offence (number + 1 + length xs) ys) in
    rw more (rw step (rw e refl))

-- the first in an `or`: of its parts, and then itself
pub first_or : (number : ℕ) (f g : Tree) → first_offence number (post_order (either f g))
    ≡ earlier_of (earlier_of (first_offence number (post_order f)) (first_offence (number + nodes f) (post_order g)))
    (or_later (number + nodes f + nodes g) (offence (either f g)) None)
first_or number f g =
    let whole = first_of_two number (post_order f ++ post_order g) (either f g ∷ []) in
    let parts = first_of_two number (post_order f) (post_order g) in
    let count : number + length (post_order f ++ post_order g) ≡ number + nodes f + nodes g = omega (arith, length-append (post_order f) (post_order g)) in
    rw whole (rw parts (rw count refl))

-- a node is quiet where it doesn't offend
abbrev quiet : Tree → Bool
quiet node = is_none (offence node)

quiet_step : (number : ℕ) (o : Option Reason) (x : Option Outside) → is_none (or_later number o x) ≡ (is_none o && is_none x)
quiet_step number (Some reason) x = refl
quiet_step number None x = refl

quiet_first : (number : ℕ) (fs : List Tree) → is_none (first_offence number fs) ≡ list_all quiet fs
quiet_first number [] = refl
quiet_first number (f ∷ fs) =
    quiet_step number (offence f) (first_offence (number + 1) fs) ∙ ap (λ (b : Bool). quiet f && b) (quiet_first (number + 1) fs)

abbrev clean : Tree → Bool
clean (truth value) = true
clean (atom side rel left right) = true
clean (cross first second) = true
clean (mixed rel flipped first second) = false
clean (negation f) = clean f && not (crosses_sides f)
clean (both f g) = clean f && clean g
clean (either f g) = (clean f && clean g) && not (crosses_sides f && crosses_sides g)

quiet_if : (c : Bool) (reason : Reason) → (is_none (if c then Some reason else None) && true) ≡ not c
quiet_if true reason = refl
quiet_if false reason = refl

and_true : (b : Bool) → (b && true) ≡ b
and_true true = refl
and_true false = refl

quiet_clean : (f : Tree) → list_all quiet (post_order f) ≡ clean f
quiet_clean (truth value) = refl
quiet_clean (atom side rel left right) = refl
quiet_clean (cross first second) = refl
quiet_clean (mixed rel flipped first second) = refl
quiet_clean (negation f) =
    list_all-append quiet (post_order f) (negation f ∷ []) ∙ (ap (λ (b : Bool). b && (quiet (negation f) && true)) (quiet_clean f)
    ∙ ap (λ (b : Bool). clean f && b) (quiet_if (crosses_sides f) NotOverCross))
quiet_clean (both f g) =
    list_all-append quiet (post_order f ++ post_order g) (both f g ∷ []) ∙ (and_true _
    ∙ (list_all-append quiet (post_order f) (post_order g) ∙ (ap (λ (b : Bool). b && list_all quiet (post_order g)) (quiet_clean f)
    ∙ ap (λ (b : Bool). clean f && b) (quiet_clean g))))
quiet_clean (either f g) =
    list_all-append quiet (post_order f ++ post_order g) (either f g ∷ [])
    ∙ (ap (λ (b : Bool). b && (quiet (either f g) && true)) (list_all-append quiet (post_order f) (post_order g))
    ∙ (ap (λ (b : Bool). (b && list_all quiet (post_order g)) && (quiet (either f g) && true)) (quiet_clean f)
    ∙ (ap (λ (b : Bool). (clean f && b) && (quiet (either f g) && true)) (quiet_clean g)
    ∙ ap (λ (b : Bool). (clean f && clean g) && b) (quiet_if (crosses_sides f && crosses_sides g) OrOfCross))))

none_clean : (f : Tree) → is_none (first_offence 0 (post_order f)) ≡ clean f
none_clean f = quiet_first 0 (post_order f) ∙ quiet_clean f

-- without a relation between the sides it is on one side
pub sided_if : (f : Tree) → crosses_sides f ≡ false → IsSided f
sided_if (truth value) e = sided_truth
sided_if (atom side rel left right) e = sided_atom
sided_if (cross first second) e = absurd (cc)
sided_if (mixed rel flipped first second) e = absurd (cc)
sided_if (negation f) e = sided_negation (sided_if f e)
sided_if (both f g) e = let h = or_parts (crosses_sides f) (crosses_sides g) e in sided_both (sided_if f h.0) (sided_if g h.1)
sided_if (either f g) e = let h = or_parts (crosses_sides f) (crosses_sides g) e in sided_either (sided_if f h.0) (sided_if g h.1)

inside_or : (f g : Tree) (x : Bool) → crosses_sides f ≡ x → not (x && crosses_sides g) ≡ true → InFragment f → InFragment g → InFragment (either f g)
inside_or f g true e h i j = of_or_sided i (sided_if g (not-true (crosses_sides g) h))
inside_or f g false e h i j = of_sided_or (sided_if f e) j

inside_if : (f : Tree) → clean f ≡ true → InFragment f
inside_if (truth value) e = of_sided sided_truth
inside_if (atom side rel left right) e = of_sided sided_atom
inside_if (cross first second) e = of_simple simple_cross
inside_if (mixed rel flipped first second) e = absurd (cc)
inside_if (negation f) e = of_sided (sided_negation (sided_if f (not-true (crosses_sides f) (and_parts (clean f) (not (crosses_sides f)) e).1)))
inside_if (both f g) e = let h = and_parts (clean f) (clean g) e in of_both (inside_if f h.0) (inside_if g h.1)
inside_if (either f g) e =
    let h = and_parts (clean f && clean g) (not (crosses_sides f && crosses_sides g)) e in
    let k = and_parts (clean f) (clean g) h.0 in
    inside_or f g (crosses_sides f) refl h.1 (inside_if f k.0) (inside_if g k.1)

simple_clean : {f : Tree} → IsSimple f → clean f ≡ true
simple_clean simple_truth = refl
simple_clean simple_cross = refl
simple_clean (simple_both {f} {g} h k) = and_from (clean f) (clean g) (simple_clean h) (simple_clean k)

-- on one side there is no relation between the sides
apart : {f : Tree} → IsSided f → crosses_sides f ≡ false
apart sided_truth = refl
apart sided_atom = refl
apart (sided_negation h) = apart h
apart (sided_both {f} {g} h k) = or_from (crosses_sides f) (crosses_sides g) (apart h) (apart k)
apart (sided_either {f} {g} h k) = or_from (crosses_sides f) (crosses_sides g) (apart h) (apart k)

sided_clean : {f : Tree} → IsSided f → clean f ≡ true
sided_clean sided_truth = refl
sided_clean sided_atom = refl
sided_clean (sided_negation {f} h) = and_from (clean f) (not (crosses_sides f)) (sided_clean h) (not_from_false (crosses_sides f) (apart h))
sided_clean (sided_both {f} {g} h k) = and_from (clean f) (clean g) (sided_clean h) (sided_clean k)
sided_clean (sided_either {f} {g} h k) =
    and_from (clean f && clean g) (not (crosses_sides f && crosses_sides g)) (and_from (clean f) (clean g) (sided_clean h) (sided_clean k))
    (not_from_false (crosses_sides f && crosses_sides g) (and_left (crosses_sides f) (crosses_sides g) (apart h)))

inside_clean : {f : Tree} → InFragment f → clean f ≡ true
inside_clean (of_simple h) = simple_clean h
inside_clean (of_sided h) = sided_clean h
inside_clean (of_both {f} {g} h k) = and_from (clean f) (clean g) (inside_clean h) (inside_clean k)
inside_clean (of_or_sided {f} {g} h k) =
    and_from (clean f && clean g) (not (crosses_sides f && crosses_sides g)) (and_from (clean f) (clean g) (inside_clean h) (sided_clean k))
    (not_from_false (crosses_sides f && crosses_sides g) (and_right (crosses_sides f) (crosses_sides g) (apart k)))
inside_clean (of_sided_or {f} {g} h k) =
    and_from (clean f && clean g) (not (crosses_sides f && crosses_sides g)) (and_from (clean f) (clean g) (sided_clean h) (inside_clean k))
    (not_from_false (crosses_sides f && crosses_sides g) (and_left (crosses_sides f) (crosses_sides g) (apart h)))

-- a formula is in the fragment exactly where no node of it offends
pub inside : (f : Tree) → is_none (first_offence 0 (post_order f)) ≡ true → InFragment f
inside f e = inside_if f (sym (none_clean f) ∙ e)

none_offends : (f : Tree) → InFragment f → is_none (first_offence 0 (post_order f)) ≡ true
none_offends f h = none_clean f ∙ inside_clean h

pub fragment_is : (f : Tree) → IsNone (first_offence 0 (post_order f)) ↔ InFragment f
fragment_is f =
    let found = first_offence 0 (post_order f) in
    (λ h. inside f (not_from_false (is_some found) h), λ h. not-true (is_some found) (none_offends f h))

none_found : (o : Option Outside) → IsNone o → o ≡ None
none_found None h = refl
none_found (Some outside) h = absurd (cc)

found_none : (o : Option Outside) → o ≡ None → IsNone o
found_none None e = refl
found_none (Some outside) e = absurd (cc)

-- the same, by what is found
pub none_is : (f : Tree) → (first_offence 0 (post_order f) ≡ None) ↔ InFragment f
none_is f =
    let found = first_offence 0 (post_order f) in
    let is = fragment_is f in
    (λ e. is.0 (found_none found e), λ h. none_found found (is.1 h))

-- a formula has at least as many nodes as levels
few_levels : (f : Tree) → levels f ≤ nodes f
few_levels (truth value) = omega arith
few_levels (atom side rel left right) = omega arith
few_levels (cross first second) = omega arith
few_levels (mixed rel flipped first second) = omega arith
few_levels (negation f) = simp length-append (omega (arith, few_levels f))
few_levels (both f g) = simp length-append (omega (arith, few_levels f, few_levels g))
few_levels (either f g) = simp length-append (omega (arith, few_levels f, few_levels g))

pub few_not : (f : Tree) → nodes (negation f) < 4294967296 → levels f + 1 < 4294967296
few_not f h =
    let e : nodes (negation f) ≡ nodes f + 1 = length-append (post_order f) (negation f ∷ []) in
    omega (arith, few_levels f, e, h)

pub few_both : (f g : Tree) → nodes (both f g) < 4294967296 → max (levels f) (levels g) + 1 < 4294967296
few_both f g h =
    let e : nodes (both f g) ≡ length (post_order f ++ post_order g) + 1 = length-append (post_order f ++ post_order g) (both f g ∷ []) in
    let k : length (post_order f ++ post_order g) ≡ nodes f + nodes g = length-append (post_order f) (post_order g) in
    omega (arith, few_levels f, few_levels g, e, k, h)

pub few_either : (f g : Tree) → nodes (either f g) < 4294967296 → max (levels f) (levels g) + 1 < 4294967296
few_either f g h = few_both f g (omega (arith, length-append (post_order f ++ post_order g) (both f g ∷ []), length-append (post_order f ++ post_order g) (either f g ∷ []), h))
