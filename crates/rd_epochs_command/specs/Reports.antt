-- What `epochs` says of the bytes of a trace, in the words of accepted lines and of first races. This project's profile.
use Rattle.std.specs.Prelude.{◌≡◌, ◌⊎◌, ◌↔◌, ℕ, ◌+◌, ◌<◌, List, [], ◌∷◌, ◌++◌, Contains, flat_map, length}
use Rattle.std.specs.List.{AllPairs}
use Rattle.rd_base.specs.declared.limits.Limits.{Limits}
use Rattle.rd_check_command.specs.Checked.{event_numbers}
use Rattle.rd_epoch.specs.Accesses.{IsFirstRace, variable_kinds}
use Rattle.rd_epoch.specs.Epochs.{HasRaced}
use Rattle.rd_epochs_command.specs.Firsts.{accesses, first_text, last_line}
use Rattle.rd_epochs_command.specs.Watching.{memory_kinds}
use Rattle.rd_event.specs.declared.events.Event.{Event}
use Rattle.rd_event.specs.declared.items.Line.{Line}
use Rattle.rd_io.specs.Lines.Reading.{stops, line}
use Rattle.rd_io.specs.Lines.{Reading, Stop, reading}
use Rattle.rd_memory.specs.MemoryLines.{MemLineInRange, SaysMemory}
use Rattle.rd_memory.specs.MemoryTraces.{items_said}
use Rattle.rd_memory.specs.declared.lines.MemLine.{MemLine}
use Rattle.rd_object.specs.declared.shapes.ReplayEnd.TheVariants.{NotShipped}
use Rattle.rd_order.specs.EventLists.{WellFormedWith}
use Rattle.rd_races.specs.Commuting.{Commute}
use Rattle.rd_races.specs.Races.{IsLatest}
use Rattle.rd_report.specs.Endings.{check_status, ending_of_report, thread_names}
use Rattle.rd_report.specs.Texts.{races_line}
use Rattle.rd_rules.specs.Events.{roots_of}
use Rattle.rd_rules.specs.MayFollow.{IsBrokenFirst, MayFollow, objects_of}
use Rattle.rd_rules.specs.declared.causes.TraceCause.TheVariants.{BadLine, Wf}
use Rattle.rd_rules.specs.declared.causes.WfCause.{WfCause}
use Rattle.rd_walk.specs.Output.{Outcome}
use Rattle.rd_walk.specs.Walk.{Entry, items, trace_end_of}
use Rattle.rd_walk.specs.declared.walk.WalkEnd.TheVariants.{Refused}
use Rattle.rd_walk.specs.declared.walk.WalkEnd.{WalkEnd}

-- ---- which lines are accepted

-- Of the items that the line with this number stands for these entries are accepted behind the accepted ones, up to the first that may not follow; behind
-- all of them it goes on so.
abbrev pub AreItemsAccepted : Limits → ℕ → List Line → List Line → (List Line → List Entry → WalkEnd → Type 0) → List Entry → WalkEnd → Type 0
AreItemsAccepted limits number before [] GoesOn entries ending = GoesOn before entries ending
AreItemsAccepted limits number before (item ∷ said) GoesOn entries ending =
    ((cause : WfCause) × IsBrokenFirst memory_kinds limits before item cause × (entries ≡ []) × (ending ≡ Refused number (Wf cause)))
    ⊎ (MayFollow memory_kinds limits before item × ((later : List Entry) × (entries ≡ record { number = number; item = item } ∷ later)
    × AreItemsAccepted limits number (before ++ item ∷ []) said GoesOn later ending))

-- Of the lines of reads and writes that come behind the accepted items, the first of them with this number, these entries are accepted, up to the first
-- that is refused or to the end of the lines, and so they end.
abbrev pub IsMemoryWalk : Limits → List Line → ℕ → Reading → List Entry → WalkEnd → Type 0
IsMemoryWalk limits before number (stops end) entries ending = (entries ≡ []) × (ending ≡ trace_end_of limits before number end)
IsMemoryWalk limits before number (line bytes more) entries ending =
    (((said : MemLine) → MemLineInRange said → ¬ (SaysMemory bytes said)) × (entries ≡ []) × (ending ≡ Refused number BadLine))
    ⊎ ((said : MemLine) × MemLineInRange said × SaysMemory bytes said
    × AreItemsAccepted limits number before (items_said before said) (λ behind later last. IsMemoryWalk limits behind (number + 1) more later last) entries ending)

-- ---- first races

-- Each access that is the first race of its variable, with the latest access that races with it, once and in their order.
pub record AreFirstRaces (es : List Event) (races : List (ℕ × ℕ)) : Type 0 where
  pub each : (j i : ℕ) → (Contains races (j, i) ↔ ((variable : ℕ) × IsFirstRace es variable j × IsLatest (Commute variable_kinds) es j i))
  pub rising : AllPairs (λ a b. a.0 < b.0) races
  -- each variable on which some access is reported has its first race
  pub every : (variable : ℕ) → HasRaced es variable → (j : ℕ) × (i : ℕ) × Contains races (j, i) × IsFirstRace es variable j

-- What `epochs` writes and answers for the bytes of a trace whose reading ends so.
pub record IsEpochsReport (limits : Limits) (stop : Stop) (bytes : List ℕ) (outcome : Outcome) : Type 0 where
  -- the accepted lines, and how they end
  pub entries : List Entry
  pub ending : WalkEnd
  pub walk : IsMemoryWalk limits [] 1 (reading limits.line limits.bytes stop bytes) entries ending
  -- their events are a well-formed list
  pub formed : WellFormedWith memory_kinds (roots_of (items entries)) (accesses entries)
  -- the first races of all variables, and how many they are; then how the lines end
  pub races : List (ℕ × ℕ)
  pub are : AreFirstRaces (accesses entries) races
  pub text : outcome.text ≡ flat_map (λ race. first_text (objects_of (items entries)) (event_numbers entries) (accesses entries) race.0 race.1) races
      ++ (races_line (length races) ++ last_line (thread_names entries) ending)
  pub status : outcome.status ≡ check_status (length races) (ending_of_report (length races) NotShipped ending)
