-- What the words of the command line ask for.
use Rattle.rd_adjacent_command.specs.Meanings.{adjacent_meaning}
use Rattle.rd_walk.specs.Meanings.{Meaning, text_meaning}
use Rattle.rd_check_command.specs.Meanings.{check_meaning}
use Rattle.rd_epochs_command.specs.Meanings.{epochs_meaning}
use Rattle.rd_decimals.specs.Decimals.{number_read}
use Rattle.rd_ecl.specs.Specified.{kind_at}
use Rattle.rd_gen.specs.declared.counts.TheConstants.{MOST_CALLS}
use Rattle.rd_gen_command.specs.GeneratedTexts.{gen_text_meaning}
use Rattle.rd_gen_command.specs.Meanings.{gen_check_meaning}
use Rattle.rd_json.specs.declared.forms.Form.{Form}
use Rattle.rd_json.specs.declared.forms.Form.TheVariants.{Text, Json, EndingOnly}
use Rattle.rd_kinds.specs.Shipped.{shipped_kinds}
use Rattle.rd_points_command.specs.PointTexts.{points_text}
use Rattle.rd_print.specs.Printed.{spec_text}
use Rattle.rd_reorder_command.specs.Meanings.{reorder_meaning}
use Rattle.rd_replay_command.specs.Meanings.{replay_meaning}
use Rattle.rd_rules.specs.MayFollow.{same_name}
use Rattle.rd_spec_command.specs.Meanings.{kind_meaning, said_meaning}
use Rattle.rd_walk.specs.Output.{Outcome}
use Rattle.rd_walk.specs.declared.status.Status.TheVariants.{Usage}
use Rattle.rd_weave_command.specs.Meanings.{weave_meaning}
use Rattle.rd_run.specs.declared.commands.Command.TheVariants.{Adjacent, Check, Epochs, Replay, Reorder, Spec, Points, Weave, Kind, Gen, GenText}
use Rattle.rd_run.specs.declared.commands.Command.{Command}
use Rattle.std.specs.List.{cons_option}
use Rattle.std.specs.Option.{option_and_then}
use Rattle.std.specs.Prelude.{◌≡◌, ◌<◌, ◌≤◌, ℕ, Bool, false, drop, List, Option, Some, None, codes, length, nat_lt, option_map, position, slice_get, slice_index_or, if◌then◌else◌, [], ◌∷◌, ⊤}

-- ---- the words

-- the number of the built-in kind with this name
abbrev pub named_number : List ℕ → Option ℕ
named_number name = position (λ kind. same_name name kind.name) shipped_kinds

-- the number of a generated trace, and how many calls it has, where words spell these
abbrev pub numbers_read : List ℕ → List ℕ → Option (ℕ × ℕ)
numbers_read number count = option_and_then (λ n. option_map (λ c. (n, c)) (number_read MOST_CALLS count)) (number_read 18446744073709551615 number)

-- the numbers of two lines, the lesser first, where words spell two different ones
abbrev pub lesser_first : ℕ → ℕ → Option (ℕ × ℕ)
lesser_first first second = if nat_lt first second then Some (first, second) else if nat_lt second first then Some (second, first) else None

abbrev pub lines_read : List ℕ → List ℕ → Option (ℕ × ℕ)
lines_read first second =
    option_and_then (λ one. option_and_then (lesser_first one) (number_read 18446744073709551615 second)) (number_read 18446744073709551615 first)

-- the words are exactly those of a command other than `weave`
abbrev pub other_command : List (List ℕ) → Option Command
other_command (word ∷ name ∷ []) =
    if same_name word (codes "check") then Some (Check Text)
    else if same_name word (codes "check-json") then Some (Check Json)
    else if same_name word (codes "replay") then Some Replay
    else if same_name word (codes "epochs") then Some Epochs
    else if same_name word (codes "spec") then Some Spec
    else if same_name word (codes "points") then Some Points
    else if same_name word (codes "kind") then option_map Kind (named_number name) else None
other_command (word ∷ first ∷ second ∷ []) =
    if same_name word (codes "check") then Some (Check Text)
    else if same_name word (codes "check-json") then Some (Check Json)
    else if same_name word (codes "reorder") then option_map Reorder (number_read 18446744073709551615 second)
    else if same_name word (codes "gen") then option_map (λ numbers. Gen numbers.0 numbers.1) (numbers_read first second)
    else if same_name word (codes "gen-text") then option_map (λ numbers. GenText numbers.0 numbers.1) (numbers_read first second) else None
other_command (word ∷ trace ∷ first ∷ second ∷ []) =
    if same_name word (codes "adjacent") then option_map (λ lines. Adjacent lines.0 lines.1) (lines_read first second) else None
other_command _ = None

-- the words are `weave` and the names of files, one at least
abbrev pub ask_to_weave : List (List ℕ) → Bool
ask_to_weave (word ∷ name ∷ names) = same_name word (codes "weave")
ask_to_weave _ = false

-- the words are exactly those of a command
abbrev pub command_of : List (List ℕ) → Option Command
command_of words = if ask_to_weave words then Some Weave else other_command words

-- its numbers are within their bounds: a built-in kind's, how many calls a generated trace has, and of two lines the lesser is the first
abbrev pub IsWithinBounds : Command → Type 0
IsWithinBounds (Kind number) = number < length shipped_kinds
IsWithinBounds (Gen number count) = count ≤ MOST_CALLS
IsWithinBounds (GenText number count) = count ≤ MOST_CALLS
IsWithinBounds (Adjacent first second) = first < second
IsWithinBounds _ = ⊤

-- ---- what they mean

-- where the words match no command
abbrev pub usage_outcome : Outcome
usage_outcome = record { text = codes "refused usage\n"; status = Usage }

-- memory doesn't run out then
abbrev pub usage_meaning : Meaning
usage_meaning = text_meaning (λ status. status ≡ Usage) usage_outcome

-- the word with this number
abbrev pub nth_word : List (List ℕ) → ℕ → List ℕ
nth_word words at = slice_index_or words at []

-- what a command means, whose files are among these words
abbrev pub meaning_of : List (List ℕ) → Option Command → Meaning
meaning_of words None = usage_meaning
meaning_of words (Some (Check form)) = check_meaning form (nth_word words 1) (slice_get words 2)
meaning_of words (Some Replay) = replay_meaning (nth_word words 1)
meaning_of words (Some Epochs) = epochs_meaning (nth_word words 1)
meaning_of words (Some (Reorder number)) = reorder_meaning (nth_word words 1) number
meaning_of words (Some (Adjacent first second)) = adjacent_meaning (nth_word words 1) first second
meaning_of words (Some Spec) = said_meaning spec_text (nth_word words 1)
meaning_of words (Some Points) = said_meaning points_text (nth_word words 1)
meaning_of words (Some Weave) = weave_meaning (drop 1 words)
meaning_of words (Some (Kind number)) = kind_meaning (kind_at shipped_kinds number)
meaning_of words (Some (Gen number count)) = gen_check_meaning number count
meaning_of words (Some (GenText number count)) = gen_text_meaning number count

-- the words ask for a check of this trace, with this specification where there is one, and for a report in this form
abbrev pub AskForCheck : List (List ℕ) → Form → List ℕ → Option (List ℕ) → Type 0
AskForCheck words Text trace file = words ≡ codes "check" ∷ trace ∷ cons_option file []
AskForCheck words Json trace file = words ≡ codes "check-json" ∷ trace ∷ cons_option file []
AskForCheck words EndingOnly trace file = ⊥
