-- The canonical marks of a formula are read again as that formula.
use Rattle.std.proofs.Common.{Bool, true, false, List, refl, sym, subst}
use Rattle.rd_grammar.specs.declared.marks.Mark.{Mark}
use Rattle.rd_grammar.specs.declared.marks.Symbol.TheVariants.{Term}
use Rattle.rd_grammar.specs.Grammar.{ParsedTree, leaf, relation, negation, both, either, Level, disj, conj, neg, prim, MarksSay, disj_one, disj_or, conj_one, conj_and, neg_one, neg_not, prim_leaf, prim_in, prim_relation}
use Rattle.rd_grammar.specs.Canonical.{is_either, is_of_two, ArePart, AreCanonical}

-- the closest level at which the canonical marks stand
abbrev level_of : ParsedTree → Level
level_of (leaf word token) = prim
level_of (relation left sign token right) = prim
level_of (negation token f) = neg
level_of (both f token g) = conj
level_of (either f token g) = disj

loosest : (f : ParsedTree) (ms : List Mark) → MarksSay (level_of f) ms f → MarksSay disj ms f
loosest (leaf word token) ms says = disj_one (conj_one (neg_one says))
loosest (relation left sign token right) ms says = disj_one (conj_one (neg_one says))
loosest (negation token f) ms says = disj_one (conj_one says)
loosest (both f token g) ms says = disj_one says
loosest (either f token g) ms says = says

abbrev IsRead : ParsedTree → Type 0
IsRead f = (ms : List Mark) → AreCanonical f ms → MarksSay (level_of f) ms f

in_parentheses : (f : ParsedTree) (ms : List Mark) → IsRead f → ArePart true (AreCanonical f) ms → MarksSay prim ms f
in_parentheses f ms read (inner, i, k, same, are) =
    subst (λ x. MarksSay prim x f) (sym same) (prim_in _ _ refl (loosest f inner (read inner are)) refl)

tight : (f : ParsedTree) (ms : List Mark) → IsRead f → ArePart (is_of_two f) (AreCanonical f) ms → MarksSay neg ms f
tight (leaf word token) ms read are = neg_one (read ms are)
tight (relation left sign token right) ms read are = neg_one (read ms are)
tight (negation token f) ms read are = read ms are
tight (both f token g) ms read are = neg_one (in_parentheses (both f token g) ms read are)
tight (either f token g) ms read are = neg_one (in_parentheses (either f token g) ms read are)

middle : (f : ParsedTree) (ms : List Mark) → IsRead f → ArePart (is_either f) (AreCanonical f) ms → MarksSay conj ms f
middle (leaf word token) ms read are = conj_one (neg_one (read ms are))
middle (relation left sign token right) ms read are = conj_one (neg_one (read ms are))
middle (negation token f) ms read are = conj_one (read ms are)
middle (both f token g) ms read are = read ms are
middle (either f token g) ms read are = conj_one (neg_one (in_parentheses (either f token g) ms read are))

is_read : (f : ParsedTree) → IsRead f
is_read (leaf word token) ms same = subst (λ x. MarksSay prim x (leaf word token)) (sym same) (prim_leaf _ word refl)
is_read (relation left sign token right) ms (x, y, first, second, same) =
    subst (λ z. MarksSay prim z (relation left sign token right)) (sym same) (prim_relation _ _ _ sign first refl second)
is_read (negation token f) ms (inner, same, are) =
    subst (λ x. MarksSay neg x (negation token f)) (sym same) (neg_not _ refl (tight f inner (is_read f) are))
is_read (both f token g) ms (front, back, same, left, right) =
    subst (λ x. MarksSay conj x (both f token g)) (sym same) (conj_and (middle f front (is_read f) left) _ refl (tight g back (is_read g) right))
is_read (either f token g) ms (front, back, same, left, right) =
    subst (λ x. MarksSay disj x (either f token g)) (sym same) (disj_or (loosest f front (is_read f front left)) _ refl (middle g back (is_read g) right))

pub canonical_are_read : (f : ParsedTree) (ms : List Mark) → AreCanonical f ms → MarksSay disj ms f
canonical_are_read f ms are = loosest f ms (is_read f ms are)

some_part : (needs : Bool) (Are : List Mark → Type 0) → (ms : List Mark) × Are ms → (ms : List Mark) × ArePart needs Are ms
some_part false Are some = some
some_part true Are (ms, are) = (_, (ms, 0, 0, refl, are))

pub has_canonical : (f : ParsedTree) → (ms : List Mark) × AreCanonical f ms
has_canonical (leaf word token) = (_, refl)
has_canonical (relation left sign token right) = (_, (Term, Term, refl, refl, refl))
has_canonical (negation token f) = let inner = some_part (is_of_two f) (AreCanonical f) (has_canonical f) in (_, (inner.0, refl, inner.1))
has_canonical (both f token g) =
    let front = some_part (is_either f) (AreCanonical f) (has_canonical f) in
    let back = some_part (is_of_two g) (AreCanonical g) (has_canonical g) in
    (_, (front.0, back.0, refl, front.1, back.1))
has_canonical (either f token g) =
    let front = has_canonical f in
    let back = some_part (is_either g) (AreCanonical g) (has_canonical g) in
    (_, (front.0, back.0, refl, front.1, back.1))
