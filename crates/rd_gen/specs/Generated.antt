-- Traces that are made by a number: this project's profile.
use Rattle.std.specs.Prelude.{ℕ, zero, suc, ◌+◌, ◌-◌, ◌*◌, ◌/◌, ◌%◌, ◌==◌, pos, Bool, true, false, if◌then◌else◌, List, [], ◌∷◌, ◌++◌, codes}
use Rattle.rd_base.specs.declared.values.Value.{Value}
use Rattle.rd_base.specs.declared.values.Value.TheVariants.{Nil, Int}
use Rattle.rd_event.specs.declared.items.Line.{Line}
use Rattle.rd_event.specs.declared.items.Line.TheVariants.{Header, Thread, Object, Event}
use Rattle.rd_event.specs.declared.items.LineEvent.TheVariants.{Fork, Join, Acquire, Release, Call}
use Rattle.rd_kinds.specs.Machines.{Entries, dictionary_row}
use Rattle.rd_object.specs.Machines.{Step}
use Rattle.rd_object.specs.Machines.Step.{goes, refuses, unknown}
use Rattle.rd_object.specs.declared.shapes.Shape.TheVariants.{Map}

-- ---- one call

-- the number behind a number, and what it says of a call
abbrev pub next_number : ℕ → ℕ
next_number number = (number * 25173 + 13849) % 65536

abbrev pub choice_of : ℕ → ℕ
choice_of number = number / 16

-- the four workers
abbrev pub worker_name : ℕ → List ℕ
worker_name zero = codes "w0"
worker_name (suc zero) = codes "w1"
worker_name (suc (suc zero)) = codes "w2"
worker_name (suc (suc (suc worker))) = codes "w3"

abbrev pub worker_of : ℕ → List ℕ
worker_of choice = worker_name (choice % 4)

-- the methods of a dictionary
abbrev pub dictionary_method : ℕ → List ℕ
dictionary_method zero = codes "put"
dictionary_method (suc zero) = codes "get"
dictionary_method (suc (suc method)) = codes "size"

-- of four operations the first two are `put`
abbrev pub method_chosen : ℕ → ℕ
method_chosen choice = choice / 4 % 4 - 1

abbrev pub nil_or_number : ℕ → Value
nil_or_number number = if number == 0 then Nil else Int (pos number)

abbrev pub arguments_for : ℕ → ℕ → ℕ → List Value
arguments_for zero key value = Int (pos key) ∷ nil_or_number value ∷ []
arguments_for (suc zero) key value = Int (pos key) ∷ []
arguments_for (suc (suc method)) key value = []

abbrev pub arguments_chosen : ℕ → List Value
arguments_chosen choice = arguments_for (method_chosen choice) (choice / 16 % 32) (choice / 512)

-- what a dictionary gives, and what it holds then
abbrev pub result_in : Step → Value
result_in (goes shape result) = result
result_in (refuses slot) = Nil
result_in unknown = Nil

abbrev pub entries_in : Step → Entries
entries_in (goes (Map entries) result) = entries
entries_in _ = []

unfoldable pub call_line : List ℕ → ℕ → List Value → Entries → Line
call_line worker method arguments entries =
    Event (Call worker (codes "d") (dictionary_method method) (arguments ++ result_in (dictionary_row method arguments entries) ∷ []))

unfoldable pub entries_behind : ℕ → List Value → Entries → Entries
entries_behind method arguments entries = entries_in (dictionary_row method arguments entries)

abbrev pub call_of : ℕ → Entries → Line
call_of choice entries = call_line (worker_of choice) (method_chosen choice) (arguments_chosen choice) entries

abbrev pub entries_after : ℕ → Entries → Entries
entries_after choice entries = entries_behind (method_chosen choice) (arguments_chosen choice) entries

-- ---- the lines

abbrev pub fork_of : ℕ → Line
fork_of worker = Event (Fork (codes "main") (worker_name worker))

abbrev pub join_of : ℕ → Line
join_of worker = Event (Join (codes "main") (worker_name worker))

abbrev pub acquire_of : ℕ → Line
acquire_of choice = Event (Acquire (worker_of choice) (codes "l"))

abbrev pub release_of : ℕ → Line
release_of choice = Event (Release (worker_of choice) (codes "l"))

abbrev pub opening_lines : List Line
opening_lines = Header 1 ∷ Thread (codes "main") ∷ Object (codes "d") (codes "dictionary") ∷ fork_of 0 ∷ fork_of 1 ∷ fork_of 2 ∷ fork_of 3 ∷ []

-- `main` asks for the size last
abbrev pub closing_lines : Entries → List Line
closing_lines entries = join_of 0 ∷ join_of 1 ∷ join_of 2 ∷ join_of 3 ∷ call_line (codes "main") 2 [] entries ∷ []

-- the lines of a call: with a lock taken before it and given back behind it, or the call alone
abbrev pub turn_lines : Bool → ℕ → Entries → List Line
turn_lines true choice entries = acquire_of choice ∷ call_of choice entries ∷ release_of choice ∷ []
turn_lines false choice entries = call_of choice entries ∷ []

-- so many calls behind a number, and the last lines
abbrev pub lines_of_turns : Bool → ℕ → ℕ → Entries → List Line
lines_of_turns locked zero number entries = closing_lines entries
lines_of_turns locked (suc calls) number entries =
    turn_lines locked (choice_of (next_number number)) entries
    ++ lines_of_turns locked calls (next_number number) (entries_after (choice_of (next_number number)) entries)

-- the trace of a number with so many calls; there is a lock where the number is even
unfoldable pub generated : ℕ → ℕ → List Line
generated number calls = opening_lines ++ lines_of_turns (number % 2 == 0) calls (number % 65536) []
