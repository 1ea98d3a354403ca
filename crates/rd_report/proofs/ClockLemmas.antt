-- The parts of a clock, one behind another.
use Rattle.std.proofs.Common.{◌≡◌, ℕ, suc, ◌+◌, ◌<◌, ◌≤◌, ◌==◌, ◌||◌, Bool, true, false, nat_lt, min, not, if◌then◌else◌, List, [], ◌∷◌, ◌++◌, length, drop, get_or, codes, decimal, refl, sym, ◌∙◌, ap, add-one, append_assoc, append-nil, arith}
use Rattle.std.proofs.lemmas.Bool.Decides.{nat_tests}
use Rattle.std.proofs.lemmas.List.{drop_all, drop_more, get_or_past}
use Rattle.rd_clock.specs.Clock.{component}
use Rattle.rd_report.specs.Races.{counts_from, clock_text, with_commas}
use Rattle.rd_report.specs.Writing.{comma, clock_part_text}

-- parts, behind others if some stand there
abbrev pub parts_text : Bool → List (List ℕ) → List ℕ
parts_text some [] = []
parts_text some (part ∷ parts) = (comma some ++ part) ++ parts_text true parts

commas_between : (part : List ℕ) (parts : List (List ℕ)) → with_commas (part ∷ parts) ≡ part ++ parts_text true parts
commas_between part [] = sym (append-nil part)
commas_between part (next ∷ parts) =
    append_assoc part (codes ",") (with_commas (next ∷ parts))
    ∙ ap (λ (xs : List ℕ). part ++ (codes "," ++ xs)) (commas_between next parts)

pub parts_by : (parts : List (List ℕ)) → with_commas parts ≡ parts_text false parts
parts_by [] = refl
parts_by (part ∷ parts) = commas_between part parts

-- tests of a count
above_zero : (count : ℕ) → not (count == 0) ≡ nat_lt 0 count
above_zero count = grind (arith, nat_tests)

not_zero : (count : ℕ) → ¬ (count ≡ 0) → false ≡ (count == 0)
not_zero count apart = grind (arith, nat_tests)

-- the part of one thread, then the others
part_tested : (some empty : Bool) (part : List ℕ) (parts : List (List ℕ)) → parts_text some (if empty then parts else part ∷ parts)
    ≡ (if empty then [] else comma some ++ part) ++ parts_text (some || not empty) parts
part_tested true true part parts = refl
part_tested false true part parts = refl
part_tested true false part parts = refl
part_tested false false part parts = refl

part_first : (some : Bool) (name : List ℕ) (count : ℕ) (parts : List (List ℕ))
    → parts_text some (if count == 0 then parts else (name ++ codes ":" ++ decimal count) ∷ parts)
    ≡ clock_part_text some name count ++ parts_text (some || nat_lt 0 count) parts
part_first some name count parts =
    part_tested some (count == 0) (name ++ codes ":" ++ decimal count) parts
    ∙ ap (λ (b : Bool). clock_part_text some name count ++ parts_text (some || b) parts) (above_zero count)

regroup : (text front name number : List ℕ) → (((text ++ front) ++ name) ++ codes ":") ++ number ≡ text ++ (front ++ ((name ++ codes ":") ++ number))
regroup text front name number = simp append_assoc

-- what is written for a thread of which some are counted
pub part_written : (text new name : List ℕ) (some : Bool) (count : ℕ) → ¬ (count ≡ 0)
    → new ≡ (((text ++ comma some) ++ name) ++ codes ":") ++ decimal count → new ≡ text ++ clock_part_text some name count
part_written text new name some count apart here =
    here ∙ regroup text (comma some) name (decimal count)
    ∙ ap (λ (b : Bool). text ++ (if b then [] else comma some ++ ((name ++ codes ":") ++ decimal count))) (not_zero count apart)

-- the parts of the threads from this number on
abbrev pub parts_from : Bool → ℕ → List (List ℕ) → (ℕ → ℕ) → List ℕ
parts_from some number names count = parts_text some (counts_from number (drop number names) count)

pub parts_whole : (names : List (List ℕ)) (count : ℕ → ℕ) → clock_text names count ≡ parts_from false 0 names count
parts_whole names count = parts_by (counts_from 0 names count)

-- one thread more
pub part_more : (whole text new : List ℕ) (some now : Bool) (names : List (List ℕ)) (count : ℕ → ℕ) (i n : ℕ) → i < length names
    → whole ≡ text ++ parts_from some i names count → n ≡ count i → now ≡ (some || nat_lt 0 n) → new ≡ text ++ clock_part_text some (get_or names i []) n
    → whole ≡ new ++ parts_from now (i + 1) names count
part_more whole text new some now names count i n within all counted put here =
    let name = get_or names i [] in
    let after = λ (b : Bool). parts_text b (counts_from (suc i) (drop (i + 1) names) count) in
    all
    ∙ ap (λ (xs : List (List ℕ)). text ++ parts_text some (counts_from i xs count)) (drop_more names i [] within)
    ∙ ap (λ (xs : List ℕ). text ++ xs) (part_first some name (count i) (counts_from (suc i) (drop (i + 1) names) count))
    ∙ sym (append_assoc text (clock_part_text some name (count i)) (after (some || nat_lt 0 (count i))))
    ∙ ap (λ (m : ℕ). (text ++ clock_part_text some name m) ++ after (some || nat_lt 0 m)) (sym counted)
    ∙ ap (λ (xs : List ℕ). xs ++ after (some || nat_lt 0 n)) (sym here)
    ∙ ap (λ (b : Bool). new ++ after b) (sym put)
    ∙ ap (λ (m : ℕ). new ++ parts_text now (counts_from m (drop (i + 1) names) count)) (sym (add-one i))

-- where none is counted from a number on, no part is told
none_told : (number : ℕ) (names : List (List ℕ)) (count : ℕ → ℕ) → ((thread : ℕ) → number ≤ thread → count thread ≡ 0) → counts_from number names count ≡ []
none_told number [] count none = refl
none_told number (name ∷ names) count none =
    ap (λ (n : ℕ). if n == 0 then counts_from (suc number) names count else (name ++ codes ":" ++ decimal (count number)) ∷ counts_from (suc number) names count)
    (none number (omega arith))
    ∙ none_told (suc number) names count (λ thread behind. none thread (omega arith))

-- all threads for which a clock has room
parts_known : (whole text : List ℕ) (some : Bool) (names : List (List ℕ)) (clock : List ℕ) (i : ℕ) → length clock ≤ i
    → whole ≡ text ++ parts_from some i names (component clock) → text ≡ whole
parts_known whole text some names clock i past all =
    sym (append-nil text)
    ∙ ap (λ (xs : List (List ℕ)). text ++ parts_text some xs) (sym (none_told i (drop i names) (component clock) (λ thread behind. get_or_past clock thread 0 (omega arith))))
    ∙ sym all

-- all threads
parts_all : (whole text : List ℕ) (some : Bool) (names : List (List ℕ)) (count : ℕ → ℕ) (i : ℕ) → length names ≤ i
    → whole ≡ text ++ parts_from some i names count → text ≡ whole
parts_all whole text some names count i past all =
    sym (append-nil text) ∙ ap (λ (xs : List (List ℕ)). text ++ parts_text some (counts_from i xs count)) (sym (drop_all i names past)) ∙ sym all

-- all threads, or all for which a clock has room
pub parts_told : (whole text : List ℕ) (some : Bool) (names : List (List ℕ)) (clock : List ℕ) (i : ℕ) → min (length names) (length clock) ≤ i
    → whole ≡ text ++ parts_from some i names (component clock) → text ≡ whole
parts_told whole text some names clock i past all = by (nat_lt i (length names)) refl
  where
    by : (b : Bool) → nat_lt i (length names) ≡ b → text ≡ whole
    by true below = parts_known whole text some names clock i (grind (arith, nat_tests)) all
    by false above = parts_all whole text some names (component clock) i (grind (arith, nat_tests)) all
