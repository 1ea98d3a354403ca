-- The canonical text of a specification: this project's profile.
use Rattle.std.specs.Prelude.{ℕ, ◌-◌, List, [], ◌∷◌, ◌++◌, length, map, flat_map, codes, slice_get, option_map, unwrap_or}
use Rattle.std.specs.List.{range_with_len}
use Rattle.rd_ecl.specs.declared.kinds.Method.{Method}
use Rattle.rd_ecl.specs.Specified.{SpecifiedKind, formula_at}
use Rattle.rd_print.specs.declared.canonical.word_list.PrintedWord.{PrintedWord}
use Rattle.rd_print.specs.Canonical.{plain_word, canonical_words}
use Rattle.rd_print.specs.Text.{words_text}

-- the name and the variables of the method with this number; none where no method has it
abbrev pub name_at : List Method → ℕ → List ℕ
name_at methods number = unwrap_or (option_map (λ method. method.name) (slice_get methods number)) []

abbrev pub variables_at : List Method → ℕ → List (List ℕ)
variables_at methods number = unwrap_or (option_map (λ method. method.variables) (slice_get methods number)) []

-- the line of a kind
abbrev pub kind_words : SpecifiedKind → List PrintedWord
kind_words kind = plain_word (codes "kind") ∷ plain_word kind.name ∷ []

-- the variables of a method, with `->` before the last, which names the result
abbrev pub slot_words : List (List ℕ) → List PrintedWord
slot_words [] = []
slot_words (result ∷ []) = plain_word (codes "->") ∷ plain_word result ∷ []
slot_words (argument ∷ next ∷ more) = plain_word argument ∷ slot_words (next ∷ more)

-- the line of a method
abbrev pub method_words : Method → List PrintedWord
method_words method = plain_word (codes "method") ∷ plain_word method.name ∷ slot_words method.variables

-- the formula of a pair, where it is set
abbrev pub formula_words : SpecifiedKind → ℕ → ℕ → List PrintedWord
formula_words kind first second =
    unwrap_or (option_map (canonical_words (variables_at kind.methods first) (variables_at kind.methods second)) (formula_at kind first second)) []

-- a pair: the names of its methods, and its formula behind `when`
abbrev pub pair_words : SpecifiedKind → ℕ → ℕ → List PrintedWord
pair_words kind first second =
    plain_word (name_at kind.methods first) ∷ plain_word (name_at kind.methods second) ∷ plain_word (codes "when")
    ∷ formula_words kind first second

-- the line of a pair
abbrev pub commute_words : SpecifiedKind → ℕ × ℕ → List PrintedWord
commute_words kind pair = plain_word (codes "commute") ∷ pair_words kind pair.0 pair.1

-- the pairs of so many methods, by the first, then by the second; a pair's first is not behind its second
abbrev pub pairs_of : ℕ → List (ℕ × ℕ)
pairs_of count = flat_map (λ first. map (λ second. (first, second)) (range_with_len first (count - first))) (range_with_len 0 count)

-- the lines of a kind: its own, those of its methods, those of its pairs
abbrev pub block_lines : SpecifiedKind → List (List PrintedWord)
block_lines kind = kind_words kind ∷ map method_words kind.methods ++ map (commute_words kind) (pairs_of (length kind.methods))

-- the lines of a specification: the header, then those of its kinds
abbrev pub printed_header : List PrintedWord
printed_header = plain_word (codes "rdspec") ∷ plain_word (codes "1") ∷ []

abbrev pub spec_lines : List SpecifiedKind → List (List PrintedWord)
spec_lines kinds = printed_header ∷ flat_map block_lines kinds

-- the text of a line, with its line feed
abbrev pub printed_line : List PrintedWord → List ℕ
printed_line words = words_text words ++ codes "\n"

-- the text of a kind's lines, and of a specification
abbrev pub block_text : SpecifiedKind → List ℕ
block_text kind = flat_map printed_line (block_lines kind)

abbrev pub spec_text : List SpecifiedKind → List ℕ
spec_text kinds = flat_map printed_line (spec_lines kinds)

-- the text of a pair, as it stands in its line behind `commute`
abbrev pub pair_text : SpecifiedKind → ℕ → ℕ → List ℕ
pair_text kind first second = words_text (pair_words kind first second)
