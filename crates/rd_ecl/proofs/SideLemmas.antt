-- Formulas that are put on a side.
use Rattle.std.proofs.Common.{◌≡◌, ◌+◌, ◌++◌, ℕ, false, not, ◌&&◌, ◌||◌, List, [], ◌∷◌, length, None, refl, sym, ◌∙◌, ap, arith, length-append, true≢false}
use Rattle.std.specs.Prelude.{max}
use Rattle.std.proofs.lemmas.Bool.{or_parts}
use Rattle.rd_base.specs.declared.values.Value.{Value}
use Rattle.rd_ecl.specs.declared.formulas.Side.{Side}
use Rattle.rd_ecl.specs.declared.formulas.Side.TheVariants.{First, Second}
use Rattle.rd_ecl.specs.Formulas.{AreValues, Fits, InFragment, of_sided, IsSided, Tree, truth, atom, cross, mixed, negation, both, either, crosses_sides, first_offence, has_slots, holds, levels, nodes, post_order, relate, slots_of, term_value}
use Rattle.rd_ecl.specs.Sides.{holds_of, on_side}
use Rattle.rd_ecl.proofs.FragmentLemmas.{none_is, sided_if}

same_slots : (side : Side) (slots : List Value) → slots_of side slots slots ≡ slots
same_slots First slots = refl
same_slots Second slots = refl

pub holds_there : (side : Side) (f : Tree) (a b : List Value) → crosses_sides f ≡ false → holds (on_side side f) a b ≡ holds_of f (slots_of side a b)
holds_there side (truth value) a b none = refl
holds_there side (atom other rel left right) a b none =
    ap (λ slots. relate rel (term_value left slots) (term_value right slots)) (sym (same_slots other (slots_of side a b)))
holds_there side (cross first second) a b none = absurd (true≢false none)
holds_there side (mixed rel flipped first second) a b none = absurd (true≢false none)
holds_there side (negation f) a b none = ap not (holds_there side f a b none)
holds_there side (both f g) a b none =
    let parts = or_parts (crosses_sides f) (crosses_sides g) none in
    λ i. holds_there side f a b parts.0 i && holds_there side g a b parts.1 i
holds_there side (either f g) a b none =
    let parts = or_parts (crosses_sides f) (crosses_sides g) none in
    λ i. holds_there side f a b parts.0 i || holds_there side g a b parts.1 i

one_more : (xs : List Tree) (x : Tree) → length (xs ++ x ∷ []) ≡ length xs + 1
one_more xs x = length-append xs (x ∷ [])

two_more : (xs ys : List Tree) (x : Tree) → length ((xs ++ ys) ++ x ∷ []) ≡ length xs + length ys + 1
two_more xs ys x = omega (arith, length-append (xs ++ ys) (x ∷ []), length-append xs ys)

pub as_many : (side : Side) (f : Tree) → nodes (on_side side f) ≡ nodes f
as_many side (truth value) = refl
as_many side (atom other rel left right) = refl
as_many side (cross first second) = refl
as_many side (mixed rel flipped first second) = refl
as_many side (negation f) =
    one_more (post_order (on_side side f)) (negation (on_side side f)) ∙ ap (λ n. n + 1) (as_many side f) ∙ sym (one_more (post_order f) (negation f))
as_many side (both f g) =
    two_more (post_order (on_side side f)) (post_order (on_side side g)) (both (on_side side f) (on_side side g))
    ∙ (λ i. as_many side f i + as_many side g i + 1) ∙ sym (two_more (post_order f) (post_order g) (both f g))
as_many side (either f g) =
    two_more (post_order (on_side side f)) (post_order (on_side side g)) (either (on_side side f) (on_side side g))
    ∙ (λ i. as_many side f i + as_many side g i + 1) ∙ sym (two_more (post_order f) (post_order g) (either f g))

pub as_deep : (side : Side) (f : Tree) → levels (on_side side f) ≡ levels f
as_deep side (truth value) = refl
as_deep side (atom other rel left right) = refl
as_deep side (cross first second) = refl
as_deep side (mixed rel flipped first second) = refl
as_deep side (negation f) = ap (λ n. n + 1) (as_deep side f)
as_deep side (both f g) = λ i. max (as_deep side f i) (as_deep side g i) + 1
as_deep side (either f g) = λ i. max (as_deep side f i) (as_deep side g i) + 1

pub crosses_there : (side : Side) (f : Tree) → crosses_sides (on_side side f) ≡ crosses_sides f
crosses_there side (truth value) = refl
crosses_there side (atom other rel left right) = refl
crosses_there side (cross first second) = refl
crosses_there side (mixed rel flipped first second) = refl
crosses_there side (negation f) = crosses_there side f
crosses_there side (both f g) = λ i. crosses_there side f i || crosses_there side g i
crosses_there side (either f g) = λ i. crosses_there side f i || crosses_there side g i

pub sided_there : (side : Side) (f : Tree) → crosses_sides f ≡ false → IsSided (on_side side f)
sided_there side f none = sided_if (on_side side f) (crosses_there side f ∙ none)

pub inside_there : (side : Side) (f : Tree) → crosses_sides f ≡ false → InFragment (on_side side f)
inside_there side f none = of_sided (sided_there side f none)

pub none_there : (side : Side) (f : Tree) → crosses_sides f ≡ false → first_offence 0 (post_order (on_side side f)) ≡ None
none_there side f none = (none_is (on_side side f)).1 (inside_there side f none)

pub fits_there : (f : Tree) (m n : ℕ) → crosses_sides f ≡ false → Fits f m m → Fits (on_side First f) m n × Fits (on_side Second f) n m
fits_there (truth value) m n none h = (h, h)
fits_there (atom First rel left right) m n none h = (h, h)
fits_there (atom Second rel left right) m n none h = (h, h)
fits_there (cross first second) m n none h = absurd (true≢false none)
fits_there (mixed rel flipped first second) m n none h = absurd (true≢false none)
fits_there (negation f) m n none h = fits_there f m n none h
fits_there (both f g) m n none h =
    let parts = or_parts (crosses_sides f) (crosses_sides g) none in
    let x = fits_there f m n parts.0 h.0 in
    let y = fits_there g m n parts.1 h.1 in
    ((x.0, y.0), (x.1, y.1))
fits_there (either f g) m n none h =
    let parts = or_parts (crosses_sides f) (crosses_sides g) none in
    let x = fits_there f m n parts.0 h.0 in
    let y = fits_there g m n parts.1 h.1 in
    ((x.0, y.0), (x.1, y.1))

pub slots_there : (side : Side) (f : Tree) → has_slots (on_side side f) ≡ has_slots f
slots_there side (truth value) = refl
slots_there side (atom other rel left right) = refl
slots_there side (cross first second) = refl
slots_there side (mixed rel flipped first second) = refl
slots_there side (negation f) = slots_there side f
slots_there side (both f g) = λ i. slots_there side f i && slots_there side g i
slots_there side (either f g) = λ i. slots_there side f i && slots_there side g i

pub values_there : (side : Side) (f : Tree) → AreValues f → AreValues (on_side side f)
values_there side (truth value) h = h
values_there side (atom other rel left right) h = h
values_there side (cross first second) h = h
values_there side (mixed rel flipped first second) h = h
values_there side (negation f) h = values_there side f h
values_there side (both f g) h = (values_there side f h.0, values_there side g h.1)
values_there side (either f g) h = (values_there side f h.0, values_there side g h.1)
