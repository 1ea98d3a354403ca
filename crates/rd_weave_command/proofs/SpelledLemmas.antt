-- The lines of a weaving can be spelled.
use Rattle.std.proofs.Common.{◌≡◌, ℕ, zero, suc, ◌+◌, ◌==◌, Bool, true, false, if◌then◌else◌, List, [], ◌∷◌, ◌++◌, map, Option, Some, None, Result, Ok, Err, All, IfOk, IfSome, codes, refl, subst, inl}
use Rattle.std.specs.Prelude.{length, option_map, replicate, slice_get, drop, take}
use Rattle.std.specs.List.{cons_option}
use Rattle.std.specs.Str.{bytes_eq}
use Rattle.std.proofs.lemmas.List.Elements.{All-append, All-cons, All-head, All-nil, All-tail}
use Rattle.rd_base.specs.Names.{IsName}
use Rattle.rd_event.proofs.WordLemmas.{name_is}
use Rattle.rd_event.specs.Items.{HasFewSlots, IsEvent, IsSpellable, is_skipped}
use Rattle.rd_event.specs.Reading.{name_read}
use Rattle.rd_event.specs.declared.items.Line.{Line}
use Rattle.rd_event.specs.declared.items.Line.TheVariants as item
use Rattle.rd_event.specs.declared.items.LineEvent.TheVariants as event
use Rattle.rd_event.specs.declared.items.LineEvent.{LineEvent}
use Rattle.rd_io.specs.Lines.{Parts, part, parts_of, rest}
use Rattle.rd_logs.proofs.LogLemmas.{line_said}
use Rattle.rd_logs.specs.LogLines.{LogLineInRange, log_header_of, log_line_of}
use Rattle.rd_logs.specs.WholeLogs.{LogRecord, SaidLines, begun_by, in_front, line_in_front, log_from, log_lines_from, log_of, of_thread, said_by}
use Rattle.rd_logs.specs.declared.lines.LogEvent.{LogEvent}
use Rattle.rd_logs.specs.declared.lines.LogLine.{LogLine}
use Rattle.rd_logs.specs.declared.lines.LogLine.TheVariants.{Skip, Object, Event, Acquire}
use Rattle.rd_logs.specs.declared.lines.LogObject.{LogObject}
use Rattle.rd_numbered_logs.specs.LogNames.{declared_objects, have_own_names}
use Rattle.rd_numbered_logs.specs.LogsUnder.{logs_under}
use Rattle.rd_weave.specs.Answers.{BadLine, answer_by, placed_lines, events_of_log, log_then, object_lines, records_from, root_lines, weave_answer, woven_lines, woven_spots}
use Rattle.rd_weave.specs.Answers.WeaveAnswer.{Stuck, Woven}
use Rattle.rd_weavings.specs.WeaveTests.{counts_of, turns_left}
use Rattle.rd_weavings.specs.declared.spots.Spot.{Spot}

-- ---- what logs say

few_slots : (own : LineEvent) → IsEvent own → HasFewSlots own
few_slots (event.Fork thread child) is = tt
few_slots (event.Join thread child) is = tt
few_slots (event.Acquire thread lock) is = tt
few_slots (event.Release thread lock) is = tt
few_slots (event.Share thread lock) is = tt
few_slots (event.Unshare thread lock) is = tt
few_slots (event.Call thread object method slots) is = (is.3.some, is.3.few)

abbrev Few : LogEvent → Type 0
Few noted = HasFewSlots noted.event

abbrev AllFew : List LogEvent → Type 0
AllFew noted = All Few noted

said_few : (thread : List ℕ) (line : LogLine) → LogLineInRange thread line → AllFew (said_by thread line).events
said_few thread Skip range = All-nil Few
said_few thread (Object name kind) range = All-nil Few
said_few thread (Event own) range = All-cons Few (record { event = own; number = 0 }) [] (few_slots own range.1) (All-nil Few)
said_few thread (Acquire lock number) range = All-cons Few (record { event = event.Acquire thread lock; number = number }) [] tt (All-nil Few)

abbrev SaidFew : SaidLines → Type 0
SaidFew said = AllFew said.events

behind_few : (front : SaidLines) (more : Result SaidLines ℕ) → SaidFew front → IfOk more SaidFew → IfOk (in_front front more) SaidFew
behind_few front (Ok more) here there = All-append Few front.events more.events here there
behind_few front (Err number) here there = tt

line_few : (thread : List ℕ) (found : Option LogLine) (number : ℕ) (more : Result SaidLines ℕ) → IfSome found (LogLineInRange thread) → IfOk more SaidFew
    → IfOk (line_in_front thread found number more) SaidFew
line_few thread None number more here there = tt
line_few thread (Some line) number more here there = behind_few (said_by thread line) more (said_few thread line here) there

in_range : (thread bytes : List ℕ) → IsName thread → (found : Option LogLine) → log_line_of thread bytes ≡ found → IfSome found (LogLineInRange thread)
in_range thread bytes named None is = tt
in_range thread bytes named (Some line) is = (line_said thread bytes line named is).0

lines_few : (thread : List ℕ) → IsName thread → (parts : Parts) (number : ℕ) → IfOk (log_lines_from thread number parts) SaidFew
unfolding log_lines_from
lines_few thread named (rest []) number = All-nil Few
lines_few thread named (rest (byte ∷ bytes)) number = tt
lines_few thread named (part bytes more) number =
    line_few thread (log_line_of thread bytes) number (log_lines_from thread (number + 1) more) (in_range thread bytes named (log_line_of thread bytes) refl)
    (lines_few thread named more (number + 1))

-- ---- whole logs

abbrev LogFew : LogRecord → Type 0
LogFew log = AllFew log.events

of_thread_few : (thread : List ℕ) (said : Result SaidLines ℕ) → IfOk said SaidFew → IfOk (of_thread thread said) LogFew
of_thread_few thread (Ok lines) few = few
of_thread_few thread (Err number) few = tt

begun_few : (found : Option (List ℕ)) (number : ℕ) (more : Parts) → IfSome found IsName → IfOk (begun_by found number more) LogFew
begun_few None number more named = tt
begun_few (Some thread) number more named = of_thread_few thread (log_lines_from thread (number + 1) more) (lines_few thread named more (number + 1))

name_named : (bytes : List ℕ) (found : Option (List ℕ)) → name_read bytes ≡ found → IfSome found IsName
name_named bytes None is = tt
name_named bytes (Some name) is = (name_is bytes name is).0

header_named : (bytes : List ℕ) → IfSome (log_header_of bytes) IsName
unfolding log_header_of
header_named bytes = by (bytes_eq (take 8 bytes) (codes "rdlog 1 "))
  where
    by : (b : Bool) → IfSome (if b then name_read (drop 8 bytes) else None) IsName
    by true = name_named (drop 8 bytes) (name_read (drop 8 bytes)) refl
    by false = tt

log_few : (parts : Parts) (number : ℕ) → IfOk (log_from number parts) LogFew
unfolding log_from
log_few (rest bytes) number = tt
log_few (part bytes more) number = by (is_skipped bytes) (log_few more (number + 1))
  where
    by : (b : Bool) → IfOk (log_from (number + 1) more) LogFew → IfOk (if b then log_from (number + 1) more else begun_by (log_header_of bytes) number more) LogFew
    by true behind = behind
    by false behind = begun_few (log_header_of bytes) number more (header_named bytes)

abbrev LogsFew : List LogRecord → Type 0
LogsFew logs = All LogFew logs

then_few : (number : ℕ) (log : Result LogRecord ℕ) (more : Result (List LogRecord) BadLine) → IfOk log LogFew → IfOk more LogsFew → IfOk (log_then number log more) LogsFew
then_few number (Err line) more here there = tt
then_few number (Ok log) (Err bad) here there = tt
then_few number (Ok log) (Ok logs) here there = All-cons LogFew log logs here there

records_few : (number : ℕ) (texts : List (List ℕ)) → IfOk (records_from number texts) LogsFew
unfolding records_from
records_few number [] = All-nil LogFew
records_few number (text ∷ texts) = then_few number (log_of text) (records_from (number + 1) texts) (log_few (parts_of text) 1) (records_few (number + 1) texts)

-- ---- the lines

root_spelled : (is_root : ℕ → Bool) (number : ℕ) (logs : List LogRecord) → All IsSpellable (root_lines is_root number logs)
root_spelled is_root number [] = All-nil IsSpellable
root_spelled is_root number (log ∷ logs) = by (is_root number) (root_spelled is_root (number + 1) logs)
  where
    by : (b : Bool) → All IsSpellable (root_lines is_root (number + 1) logs)
        → All IsSpellable (if b then item.Thread log.thread ∷ root_lines is_root (number + 1) logs else root_lines is_root (number + 1) logs)
    by true more = All-cons IsSpellable (item.Thread log.thread) (root_lines is_root (number + 1) logs) tt more
    by false more = more

object_spelled : (objects : List LogObject) → All IsSpellable (map (λ declared. item.Object declared.name declared.kind) objects)
object_spelled [] = All-nil IsSpellable
object_spelled (declared ∷ objects) =
    All-cons IsSpellable (item.Object declared.name declared.kind) (map (λ declared. item.Object declared.name declared.kind) objects) tt (object_spelled objects)

-- the events of a log
log_at_few : (logs : List LogRecord) → LogsFew logs → (log : ℕ) → AllFew (events_of_log logs log)
log_at_few [] few log = All-nil Few
log_at_few (one ∷ logs) few zero = All-head LogFew one logs few
log_at_few (one ∷ logs) few (suc log) = log_at_few logs (All-tail LogFew one logs few) log

found_few : (events : List LogEvent) → AllFew events → (place : ℕ) → IfSome (slice_get events place) Few
found_few [] few place = tt
found_few (one ∷ events) few zero = All-head Few one events few
found_few (one ∷ events) few (suc place) = found_few events (All-tail Few one events few) place

module _ (logs : List LogRecord) (few : LogsFew logs) where
  event_spelled : (spots : List Spot) → All IsSpellable (placed_lines logs spots)
  event_spelled [] = All-nil IsSpellable
  event_spelled (spot ∷ spots) =
      by (slice_get (events_of_log logs spot.log) spot.place) (found_few (events_of_log logs spot.log) (log_at_few logs few spot.log) spot.place) (event_spelled spots)
    where
      by : (found : Option LogEvent) → IfSome found Few → All IsSpellable (placed_lines logs spots)
          → All IsSpellable (cons_option (option_map (λ noted. item.Event noted.event) found) (placed_lines logs spots))
      by None here more = more
      by (Some noted) here more = All-cons IsSpellable (item.Event noted.event) (placed_lines logs spots) here more

  woven_spelled : (spots : List Spot) → All IsSpellable (woven_lines logs spots)
  woven_spelled spots =
      let roots = root_lines (logs_under [] logs).roots 0 logs in
      All-append IsSpellable (item.Header 1 ∷ roots ++ object_lines logs) (placed_lines logs spots)
      (All-append IsSpellable (item.Header 1 ∷ roots) (object_lines logs)
      (All-cons IsSpellable (item.Header 1) roots (inl refl) (root_spelled (logs_under [] logs).roots 0 logs)) (object_spelled (declared_objects logs)))
      (event_spelled spots)

-- ---- the answer

-- where lines are answered they are these
tested : (own none : Bool) (lines given : List Line) (counts zeros : List ℕ) → (if own then (if none then Woven lines else Stuck counts) else Stuck zeros) ≡ Woven given → lines ≡ given
tested true true lines given counts zeros is = cc
tested true false lines given counts zeros is = cc
tested false none lines given counts zeros is = cc

answered : (said : Result (List LogRecord) BadLine) (lines : List Line) → IfOk said LogsFew → answer_by said ≡ Woven lines → All IsSpellable lines
answered (Err bad) lines few is = cc
answered (Ok logs) lines few is =
    subst (All IsSpellable)
    (tested (have_own_names logs) (turns_left (logs_under [] logs) (woven_spots logs) == 0) (woven_lines logs (woven_spots logs)) lines (counts_of (logs_under [] logs) (woven_spots logs))
    (replicate (length logs) 0) is)
    (woven_spelled logs few (woven_spots logs))

pub all_spelled : (texts : List (List ℕ)) (lines : List Line) → weave_answer texts ≡ Woven lines → All IsSpellable lines
all_spelled texts lines is = answered (records_from 0 texts) lines (records_few 0 texts) is
