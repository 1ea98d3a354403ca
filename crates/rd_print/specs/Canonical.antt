-- The canonical words of a formula, which have no parentheses but those that it needs: this project's profile.
use Rattle.std.specs.Prelude.{◌≡◌, ℕ, Bool, true, false, List, [], ◌∷◌, ◌++◌, codes, map, slice_get, unwrap_or}
use Rattle.rd_base.specs.Spelling.{value_spelling}
use Rattle.rd_base.specs.declared.values.Value.{Value}
use Rattle.rd_base.specs.declared.values.Value.TheVariants.{Text}
use Rattle.rd_ecl.specs.declared.formulas.Rel.{Rel}
use Rattle.rd_ecl.specs.declared.formulas.Rel.TheVariants.{Eq, Lt, Le}
use Rattle.rd_ecl.specs.declared.formulas.Side.{Side}
use Rattle.rd_ecl.specs.declared.formulas.Side.TheVariants.{First, Second}
use Rattle.rd_ecl.specs.declared.formulas.Term.{Term}
use Rattle.rd_ecl.specs.declared.formulas.Term.TheVariants.{Slot, Const}
use Rattle.rd_ecl.specs.Formulas.{Tree, truth, atom, cross, mixed, negation, both, either}
use Rattle.rd_print.specs.declared.canonical.word_list.PrintedWord.{PrintedWord}
use Rattle.rd_grammar.specs.declared.marks.Sign.{Sign}
use Rattle.rd_grammar.specs.declared.marks.Sign.TheVariants.{Equal, Different, Less, AtMost}
use Rattle.rd_tokens.specs.declared.sorts.Sort.{Sort}
use Rattle.rd_tokens.specs.declared.sorts.Sort.TheVariants.{Open, Close, Word as Plain, Text as Quoted}
use Rattle.rd_tokens.specs.declared.sorts.Token.{Token}
use Rattle.rd_tokens.specs.Tokens.{bytes_of}
use Rattle.rd_tokens.specs.Words.{side_mark, sign_word, truth_word}

-- a word that is no text and no parenthesis
abbrev pub plain_word : List ℕ → PrintedWord
plain_word bytes = record { sort = Plain; bytes = bytes }

-- the sort of a value's word
abbrev pub sort_of_value : Value → Sort
sort_of_value (Text text) = Quoted
sort_of_value _ = Plain

-- a value, written in its one spelling
abbrev pub value_word : Value → PrintedWord
value_word value = record { sort = sort_of_value value; bytes = value_spelling value }

-- a slot of a side, whose variables are these: its variable with the mark of the side
abbrev pub slot_word : Side → List (List ℕ) → ℕ → PrintedWord
slot_word side names slot = plain_word (unwrap_or (slice_get names slot) [] ++ side_mark side)

-- a term of a side, whose variables are these
abbrev pub term_word : Side → List (List ℕ) → Term → PrintedWord
term_word side names (Slot slot) = slot_word side names slot
term_word side names (Const value) = value_word value

-- the sign of a relation
abbrev pub relation_sign : Rel → Sign
relation_sign Eq = Equal
relation_sign Lt = Less
relation_sign Le = AtMost

-- a relation: two terms, with the sign between them
abbrev pub relation_words : PrintedWord → Sign → PrintedWord → List PrintedWord
relation_words left sign right = left ∷ plain_word (sign_word sign) ∷ right ∷ []

-- is it of two formulas with `or` between them?
abbrev pub is_or : Tree → Bool
is_or (either f g) = true
is_or _ = false

-- is it of two formulas, with `and` or `or` between them?
abbrev pub has_two_parts : Tree → Bool
has_two_parts (both f g) = true
has_two_parts (either f g) = true
has_two_parts _ = false

-- the two parentheses
abbrev pub opening : PrintedWord
opening = record { sort = Open; bytes = codes "(" }

abbrev pub closing : PrintedWord
closing = record { sort = Close; bytes = codes ")" }

-- the words of a part: in parentheses where it needs them
abbrev pub part_words : Bool → List PrintedWord → List PrintedWord
part_words false words = words
part_words true words = opening ∷ words ++ closing ∷ []

-- the variables of a side
abbrev pub side_variables : List (List ℕ) → List (List ℕ) → Side → List (List ℕ)
side_variables first second First = first
side_variables first second Second = second

-- a relation on one side
abbrev pub sided_words : List (List ℕ) → List (List ℕ) → Side → Sign → Term → Term → List PrintedWord
sided_words first second side sign left right =
    relation_words (term_word side (side_variables first second side) left) sign (term_word side (side_variables first second side) right)

-- the `not` of a formula with these words: `!=` where it is a relation with `=` on one side
abbrev pub not_words : List (List ℕ) → List (List ℕ) → Tree → List PrintedWord → List PrintedWord
not_words first second (atom side Eq left right) words = sided_words first second side Different left right
not_words first second f words = plain_word (codes "not") ∷ part_words (has_two_parts f) words

-- the canonical words of a formula, where these are the variables of side 1 and of side 2
abbrev pub canonical_words : List (List ℕ) → List (List ℕ) → Tree → List PrintedWord
canonical_words first second (truth value) = plain_word (truth_word value) ∷ []
canonical_words first second (atom side rel left right) = sided_words first second side (relation_sign rel) left right
canonical_words first second (cross i j) = relation_words (slot_word First first i) Different (slot_word Second second j)
canonical_words first second (mixed rel false i j) =
    relation_words (slot_word First first i) (relation_sign rel) (slot_word Second second j)
canonical_words first second (mixed rel true i j) = relation_words (slot_word Second second j) (relation_sign rel) (slot_word First first i)
canonical_words first second (negation f) = not_words first second f (canonical_words first second f)
canonical_words first second (both f g) =
    part_words (is_or f) (canonical_words first second f)
    ++ plain_word (codes "and") ∷ part_words (has_two_parts g) (canonical_words first second g)
canonical_words first second (either f g) =
    canonical_words first second f ++ plain_word (codes "or") ∷ part_words (is_or g) (canonical_words first second g)

-- the tokens of the line are these words
abbrev pub AreWords : List ℕ → List Token → List PrintedWord → Type 0
AreWords line tokens words = map (λ t. record { sort = t.sort; bytes = bytes_of line t }) tokens ≡ words
