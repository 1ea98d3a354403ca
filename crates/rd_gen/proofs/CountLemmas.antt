-- How many lines and calls a generated trace has.
use Rattle.std.proofs.Common.{◌≡◌, ◌+◌, ◌*◌, ◌%◌, ℕ, zero, suc, Bool, true, false, cond, List, [], ◌∷◌, ◌++◌, length, count_by, refl, arith}
use Rattle.std.specs.Prelude.{◌==◌, if◌then◌else◌}
use Rattle.std.proofs.lemmas.List.Sums.{sum_by-cons, sum_by-append}
use Rattle.rd_event.specs.declared.items.Line.{Line}
use Rattle.rd_gen.specs.Counts.{is_call_line}
use Rattle.rd_gen.specs.Generated.{call_line, choice_of, closing_lines, entries_after, generated, next_number, opening_lines, turn_lines, lines_of_turns}
use Rattle.rd_kinds.specs.Machines.{Entries}

-- ---- lines

lines_of_turns_locked : (calls number : ℕ) (entries : Entries) → length (lines_of_turns true calls number entries) ≡ 5 + 3 * calls
lines_of_turns_locked zero number entries = refl
lines_of_turns_locked (suc calls) number entries =
    let next = next_number number in
    omega (arith, lines_of_turns_locked calls next (entries_after (choice_of next) entries))

lines_of_turns_free : (calls number : ℕ) (entries : Entries) → length (lines_of_turns false calls number entries) ≡ 5 + calls
lines_of_turns_free zero number entries = refl
lines_of_turns_free (suc calls) number entries =
    let next = next_number number in
    omega (arith, lines_of_turns_free calls next (entries_after (choice_of next) entries))

lines_of : (locked : Bool) (calls number : ℕ) (entries : Entries)
    → length (opening_lines ++ lines_of_turns locked calls number entries) ≡ if locked then 12 + 3 * calls else 12 + calls
lines_of true calls number entries = omega (arith, lines_of_turns_locked calls number entries)
lines_of false calls number entries = omega (arith, lines_of_turns_free calls number entries)

pub lines_generated : (number calls : ℕ) → length (generated number calls) ≡ if number % 2 == 0 then 12 + 3 * calls else 12 + calls
unfolding generated
lines_generated number calls = lines_of (number % 2 == 0) calls (number % 65536) []

-- ---- calls

calls_more : (line : Line) (lines : List Line) → count_by is_call_line (line ∷ lines) ≡ cond (is_call_line line) 1 0 + count_by is_call_line lines
calls_more line lines = sum_by-cons (λ x. cond (is_call_line x) 1 0) line lines

calls_behind : (lines more : List Line) → count_by is_call_line (lines ++ more) ≡ count_by is_call_line lines + count_by is_call_line more
calls_behind lines more = sum_by-append (λ x. cond (is_call_line x) 1 0) lines more

one_call : (locked : Bool) (choice : ℕ) (entries : Entries) → count_by is_call_line (turn_lines locked choice entries) ≡ 1
unfolding call_line
one_call true choice entries = refl
one_call false choice entries = refl

last_call : (entries : Entries) → count_by is_call_line (closing_lines entries) ≡ 1
unfolding call_line
last_call entries = refl

calls_of_turns : (locked : Bool) (calls number : ℕ) (entries : Entries) → count_by is_call_line (lines_of_turns locked calls number entries) ≡ calls + 1
calls_of_turns locked zero number entries = last_call entries
calls_of_turns locked (suc calls) number entries =
    let next = next_number number in
    let behind = entries_after (choice_of next) entries in
    let parts = calls_behind (turn_lines locked (choice_of next) entries) (lines_of_turns locked calls next behind) in
    omega (arith, parts, one_call locked (choice_of next) entries, calls_of_turns locked calls next behind)

pub calls_generated : (number calls : ℕ) → calls + 1 ≡ count_by is_call_line (generated number calls)
unfolding generated
calls_generated number calls =
    let rest = lines_of_turns (number % 2 == 0) calls (number % 65536) [] in
    let parts = calls_behind opening_lines rest in
    let none : count_by is_call_line opening_lines ≡ 0 = refl in
    omega (arith, parts, none, calls_of_turns (number % 2 == 0) calls (number % 65536) [])
