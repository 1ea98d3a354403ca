-- What the printer puts last, part by part: this project's profile.
use Rattle.std.specs.Prelude.{ℕ, ◌-◌, List, ◌++◌, length, flat_map, codes}
use Rattle.std.specs.List.{range_with_len}
use Rattle.rd_ecl.specs.declared.kinds.Method.{Method}
use Rattle.rd_ecl.specs.Specified.{SpecifiedKind}
use Rattle.rd_print.specs.declared.canonical.word_list.PrintedWord.{PrintedWord}
use Rattle.rd_print.specs.Printed.{commute_words, printed_line, method_words}

-- words, each behind a space
abbrev pub spaced_text : List PrintedWord → List ℕ
spaced_text words = flat_map (λ word. codes " " ++ word.bytes) words

-- the lines of methods
abbrev pub methods_text : List Method → List ℕ
methods_text methods = flat_map (λ method. printed_line (method_words method)) methods

-- the lines of the pairs whose first method has this number
abbrev pub row_text : SpecifiedKind → ℕ → List ℕ
row_text kind first = flat_map (λ second. printed_line (commute_words kind (first, second))) (range_with_len first (length kind.methods - first))

-- the lines of the pairs
abbrev pub pairs_text : SpecifiedKind → List ℕ
pairs_text kind = flat_map (row_text kind) (range_with_len 0 (length kind.methods))
