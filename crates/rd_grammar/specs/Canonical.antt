-- The canonical marks of a formula, which have no parentheses but those that it needs: this project's profile.
use Rattle.std.specs.Prelude.{◌≡◌, ℕ, Bool, true, false, List, [], ◌∷◌, ◌++◌}
use Rattle.rd_grammar.specs.declared.marks.Mark.{Mark}
use Rattle.rd_grammar.specs.declared.marks.Symbol.{Symbol}
use Rattle.rd_grammar.specs.declared.marks.Symbol.TheVariants.{Open, Close, Not, And, Or, Leaf as LeafOf, Sign as SignOf}
use Rattle.rd_grammar.specs.Grammar.{ParsedTree, leaf, relation, negation, both, either, is_term}

-- the mark of a symbol with a number
abbrev pub mark : Symbol → ℕ → Mark
mark symbol token = record { symbol = symbol; token = token }

-- is it of two formulas with `or` between them?
abbrev pub is_either : ParsedTree → Bool
is_either (either f token g) = true
is_either _ = false

-- is it of two formulas, with `and` or `or` between them?
abbrev pub is_of_two : ParsedTree → Bool
is_of_two (both f token g) = true
is_of_two (either f token g) = true
is_of_two _ = false

-- the marks of a part: in parentheses, of any numbers, where it needs them
abbrev pub ArePart : Bool → (List Mark → Type 0) → List Mark → Type 0
ArePart false Are ms = Are ms
ArePart true Are ms = (inner : List Mark) × (i : ℕ) × (k : ℕ) × (ms ≡ mark Open i ∷ inner ++ mark Close k ∷ []) × Are inner

-- the marks are the canonical ones of the formula; the terms of a relation may be any terms with their numbers
abbrev pub AreCanonical : ParsedTree → List Mark → Type 0
AreCanonical (leaf word token) ms = ms ≡ mark (LeafOf word) token ∷ []
AreCanonical (relation left sign token right) ms =
    (x : Symbol) × (y : Symbol) × (is_term x ≡ true) × (is_term y ≡ true) × (ms ≡ mark x left ∷ mark (SignOf sign) token ∷ mark y right ∷ [])
AreCanonical (negation token f) ms = (inner : List Mark) × (ms ≡ mark Not token ∷ inner) × ArePart (is_of_two f) (AreCanonical f) inner
AreCanonical (both f token g) ms =
    (front : List Mark) × (back : List Mark) × (ms ≡ front ++ mark And token ∷ back)
    × ArePart (is_either f) (AreCanonical f) front × ArePart (is_of_two g) (AreCanonical g) back
AreCanonical (either f token g) ms =
    (front : List Mark) × (back : List Mark) × (ms ≡ front ++ mark Or token ∷ back)
    × AreCanonical f front × ArePart (is_either g) (AreCanonical g) back
