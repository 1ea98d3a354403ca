-- What the writer puts around a part's words: this project's profile.
use Rattle.std.specs.Prelude.{◌≡◌, ℕ, Bool, true, false, List, [], ◌∷◌, codes}
use Rattle.rd_ecl.specs.Formulas.{Tree, negation, both, either}
use Rattle.rd_print.specs.declared.canonical.word_list.PrintedWord.{PrintedWord}
use Rattle.rd_print.specs.Canonical.{closing, has_two_parts, not_words, opening, part_words, plain_word}

-- is it made of other formulas?
abbrev pub has_part : Tree → Bool
has_part (negation f) = true
has_part (both f g) = true
has_part (either f g) = true
has_part _ = false

-- what stands before a part that may need parentheses
abbrev pub before_part : Bool → List PrintedWord
before_part false = []
before_part true = opening ∷ []

-- what stands behind it
abbrev pub behind_part : Bool → List PrintedWord
behind_part false = []
behind_part true = closing ∷ []

-- its `not` is the word `not` and the formula, whatever the variables are and the formula's words
abbrev pub IsPlainNot : Tree → Type 0
IsPlainNot f = (first second : List (List ℕ)) (words : List PrintedWord)
    → not_words first second f words ≡ plain_word (codes "not") ∷ part_words (has_two_parts f) words
