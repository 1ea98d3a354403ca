-- The walk over the lines of a trace: which are accepted, and how they end. This project's profile.
use Rattle.std.specs.Prelude.{ℕ, ◌+◌, ◌*◌, ◌==◌, List, [], ◌∷◌, ◌++◌, fold, map, length, Option, Some, None, option_map, Result, Ok, Err, if◌then◌else◌}
use Rattle.rd_io.specs.Lines.{Stop, Reading, reading, LinesEnding}
use Rattle.rd_io.specs.Lines.LinesEnding.{at_end, no_final_newline, line_too_long, bytes_limit, faulted}
use Rattle.rd_io.specs.Lines.Reading.{stops, line}
use Rattle.rd_base.specs.declared.limits.Limits.{Limits}
use Rattle.rd_base.specs.declared.limits.LimitName.TheVariants.{Bytes, Line as LineBytes}
use Rattle.rd_event.specs.Reading.{item_of}
use Rattle.rd_event.specs.declared.items.Line.{Line}
use Rattle.rd_ecl.specs.Kinds.{Kind}
use Rattle.rd_rules.specs.MayFollow.{first_broken, is_call, headers, is_event, threads_of, version_of}
use Rattle.rd_rules.specs.declared.causes.WfCause.{WfCause}
use Rattle.rd_rules.specs.declared.causes.WfCause.TheVariants.{HeaderFirst}
use Rattle.rd_rules.specs.declared.causes.TraceCause.{TraceCause}
use Rattle.rd_rules.specs.declared.causes.TraceCause.TheVariants.{BadLine, NoFinalNewline, Wf, Limit}
use Rattle.rd_walk.specs.declared.walk.WalkEnd.{WalkEnd}
use Rattle.rd_walk.specs.declared.walk.WalkEnd.TheVariants.{End, Refused, Fault}

-- an accepted line, and its number in the trace, from 1
pub record Entry : Type 0 where
  pub number : ℕ
  pub item : Line

abbrev pub items : List Entry → List Line
items entries = map (λ entry. entry.item) entries

-- the entries of items that the line with this number says
abbrev pub entries_at : ℕ → List Line → List Entry
entries_at number said = map (λ item. record { number = number; item = item }) said

-- how many lines were begun of which these are the accepted entries: the number of the last one
abbrev pub lines_begun : List Entry → ℕ
lines_begun entries = fold (λ before entry. entry.number) 0 entries

-- the accepted lines one after another, and how they end
pub data Walked : Type 0 where
  ends : WalkEnd → Walked
  goes : Entry → Walked → Walked

unfoldable pub entries_of : Walked → List Entry
entries_of (ends ending) = []
entries_of (goes entry more) = entry ∷ entries_of more

unfoldable pub ending_of : Walked → WalkEnd
ending_of (ends ending) = ending
ending_of (goes entry more) = ending_of more

-- an item that breaks no rule is accepted; one that breaks the rule of a cause is refused for it
abbrev pub accepted_or : Line → Option WfCause → Result Line TraceCause
accepted_or item None = Ok item
accepted_or item (Some cause) = Err (Wf cause)

abbrev pub judgement_of_item : List Kind → Limits → List Line → Option Line → Result Line TraceCause
judgement_of_item kinds limits before None = Err BadLine
judgement_of_item kinds limits before (Some item) = accepted_or item (first_broken kinds limits before item)

-- what the bytes of a line behind the accepted ones say in the version of these, or the first cause to refuse it: it says no item, or
-- its item may not follow
unfoldable pub judgement_of : List Kind → Limits → List Line → List ℕ → Result Line TraceCause
judgement_of kinds limits before bytes = judgement_of_item kinds limits before (item_of (version_of before) bytes)

-- how a trace ends where its lines end so behind the accepted ones. The number is that of the next line
abbrev pub trace_end_of : Limits → List Line → ℕ → LinesEnding → WalkEnd
trace_end_of limits before number at_end = if headers before == 0 then Refused number (Wf HeaderFirst) else End
trace_end_of limits before number no_final_newline = Refused number NoFinalNewline
trace_end_of limits before number line_too_long = Refused number (Limit LineBytes limits.line)
trace_end_of limits before number bytes_limit = Refused number (Limit Bytes limits.bytes)
trace_end_of limits before number faulted = Fault

abbrev pub goes_or_ends : ℕ → Result Line TraceCause → (Line → Walked) → Walked
goes_or_ends number (Ok item) more = goes (record { number = number; item = item }) (more item)
goes_or_ends number (Err cause) more = ends (Refused number cause)

-- the items of one line are accepted behind the accepted ones, one after another, up to the first that may not follow; behind all of them it goes on so
abbrev pub items_go : List Kind → Limits → ℕ → List Line → List Line → (List Line → Walked) → Walked
items_go kinds limits number before [] more = more before
items_go kinds limits number before (item ∷ behind) more =
    goes_or_ends number (accepted_or item (first_broken kinds limits before item)) (λ found. items_go kinds limits number (before ++ found ∷ []) behind more)

-- a line that says no item is refused
abbrev pub line_goes : List Kind → Limits → ℕ → List Line → Option (List Line) → (List Line → Walked) → Walked
line_goes kinds limits number before None more = ends (Refused number BadLine)
line_goes kinds limits number before (Some said) more = items_go kinds limits number before said more

-- A grammar of lines: what the bytes of a line say behind the accepted items. Each of these items is accepted or refused by itself.
abbrev pub Saying : Type 0
Saying = List Line → List ℕ → Option (List Line)

-- The walk over lines that come behind the accepted ones, the first of them with this number, by what the bytes of a line say behind them: items, each
-- with the number of the line, or none that the grammar knows.
unfoldable pub walk_by : Saying → List Kind → Limits → List Line → ℕ → Reading → Walked
walk_by says kinds limits before number (stops ending) = ends (trace_end_of limits before number ending)
walk_by says kinds limits before number (line bytes more) =
    line_goes kinds limits number before (says before bytes) (λ behind. walk_by says kinds limits behind (number + 1) more)

-- a line of a trace says one item, in the version of the accepted ones
abbrev pub trace_says : Saying
trace_says before bytes = option_map (λ item. item ∷ []) (item_of (version_of before) bytes)

abbrev pub walk : List Kind → Limits → List Line → ℕ → Reading → Walked
walk kinds limits before number lines = walk_by trace_says kinds limits before number lines

-- the walk over the lines of these bytes, by what lines say
unfoldable pub trace_by : Saying → List Kind → Limits → Stop → List ℕ → Walked
trace_by says kinds limits stop bytes = walk_by says kinds limits [] 1 (reading limits.line limits.bytes stop bytes)

-- the same of a trace
abbrev pub trace_of : List Kind → Limits → Stop → List ℕ → Walked
trace_of kinds limits stop bytes = trace_by trace_says kinds limits stop bytes

-- entries before a walk
unfoldable pub after : List Entry → Walked → Walked
after [] walked = walked
after (entry ∷ entries) walked = goes entry (after entries walked)

-- The bound on the steps on clocks for an accepted line behind others, where they are kept: for a call two for each thread that is known once
-- it is done, for another event six for each such thread, and none for what is no event
abbrev pub tracking_bound : List Line → Line → ℕ
tracking_bound before item =
    if is_call item then 2 * length (threads_of (before ++ item ∷ []))
    else if is_event item then 6 * length (threads_of (before ++ item ∷ [])) else 0

-- the bound on the steps of lines behind others, by that of one line behind those before it
unfoldable pub bound_from : (List Line → Line → ℕ) → List Line → List Entry → ℕ
bound_from bound before [] = 0
bound_from bound before (entry ∷ entries) = bound before entry.item + bound_from bound (before ++ entry.item ∷ []) entries

-- the bound on the steps of all accepted lines
abbrev pub step_bound : (List Line → Line → ℕ) → List Entry → ℕ
step_bound bound entries = bound_from bound [] entries
