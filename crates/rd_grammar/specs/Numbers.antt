-- The numbers that a formula names are those of its marks: this project's profile.
use Rattle.std.specs.Prelude.{◌≡◌, ◌+◌, ℕ, Bool, true, false, not, Some, List, [], ◌∷◌, ◌++◌, map, filter, slice_get}
use Rattle.rd_grammar.specs.declared.marks.Mark.{Mark}
use Rattle.rd_grammar.specs.declared.marks.Symbol.{Symbol}
use Rattle.rd_grammar.specs.declared.marks.Symbol.TheVariants.{Open, Close, Not, And, Or, Leaf as LeafOf, Sign as SignOf}
use Rattle.rd_grammar.specs.Grammar.{ParsedTree, leaf, relation, negation, both, either, is_term}

-- each mark's number is its place
abbrev pub AreNumbered : List Mark → Type 0
AreNumbered marks = (place : ℕ) (m : Mark) → slice_get marks place ≡ Some m → m.token ≡ place

-- the symbol stands at the place
abbrev pub StandsAt : List Mark → Symbol → ℕ → Type 0
StandsAt marks symbol place = slice_get marks place ≡ Some (record { symbol = symbol; token = place })

-- a term stands at the place
abbrev pub TermAt : List Mark → ℕ → Type 0
TermAt marks place = (symbol : Symbol) × (is_term symbol ≡ true) × StandsAt marks symbol place

-- each node names the place of its own mark, and a relation's terms are the marks beside its sign
abbrev pub NamesMarks : List Mark → ParsedTree → Type 0
NamesMarks marks (leaf word token) = StandsAt marks (LeafOf word) token
NamesMarks marks (relation left sign token right) =
    TermAt marks left × StandsAt marks (SignOf sign) token × TermAt marks right × (left + 1 ≡ token) × (token + 1 ≡ right)
NamesMarks marks (negation token f) = StandsAt marks Not token × NamesMarks marks f
NamesMarks marks (both f token g) = NamesMarks marks f × StandsAt marks And token × NamesMarks marks g
NamesMarks marks (either f token g) = NamesMarks marks f × StandsAt marks Or token × NamesMarks marks g

-- is it an open or a closing parenthesis?
abbrev pub is_parenthesis : Symbol → Bool
is_parenthesis Open = true
is_parenthesis Close = true
is_parenthesis _ = false

-- the numbers of the marks that are no parentheses, in their order
abbrev pub numbers_of : List Mark → List ℕ
numbers_of marks = map (λ m. m.token) (filter (λ m. not (is_parenthesis m.symbol)) marks)

-- the numbers that a formula names, from left to right
abbrev pub named_by : ParsedTree → List ℕ
named_by (leaf word token) = token ∷ []
named_by (relation left sign token right) = left ∷ token ∷ right ∷ []
named_by (negation token f) = token ∷ named_by f
named_by (both f token g) = named_by f ++ token ∷ named_by g
named_by (either f token g) = named_by f ++ token ∷ named_by g
