-- What `epochs` keeps of the accepted lines.
use Rattle.std.specs.Prelude.{◌≡◌, ◌≤◌, ℕ, Bool, List, [], ◌∷◌, ◌++◌, ◌==◌, length}
use Rattle.rd_base.specs.declared.values.Value.{Value}
use Rattle.rd_check_command.specs.Checked.{event_numbers}
use Rattle.rd_check_command.specs.Checking.{IsNextLine as IsNextTracked, Tracks}
use Rattle.rd_clock.specs.declared.clock.Stamp.{Stamp}
use Rattle.rd_ecl.specs.Kinds.{Kind, kinds_of}
use Rattle.rd_epoch.specs.Accesses.{variable_kinds}
use Rattle.rd_epoch.specs.Epochs.{EpochsStandFor, HeldAccesses, IsNextAccess}
use Rattle.rd_epoch.specs.Lessons.{AreLessons}
use Rattle.rd_epochs_command.specs.Firsts.{accesses, firsts_of}
use Rattle.rd_epochs_command.specs.declared.watching.FirstRaces.{FirstRaces}
use Rattle.rd_epoch.specs.declared.epochs.Access.{Access}
use Rattle.rd_event.specs.declared.events.Call.{Call}
use Rattle.rd_event.specs.declared.events.Event.{Event}
use Rattle.rd_event.specs.declared.items.Line.{Line}
use Rattle.rd_order.specs.EventLists.{WellFormedWith}
use Rattle.rd_rules.specs.Events.{roots_of}
use Rattle.rd_rules.specs.MayFollow.{objects_of}
use Rattle.rd_rules.specs.declared.causes.Accepted.TheVariants as accepted
use Rattle.rd_rules.specs.declared.causes.Accepted.{Accepted}
use Rattle.rd_walk.specs.Analysis.{AreBefore}
use Rattle.rd_walk.specs.Walk.{Entry, items}

-- the kinds of a trace of reads and writes
abbrev pub memory_kinds : List Kind
memory_kinds = kinds_of variable_kinds

-- it has taken no line
pub record WatchesNone (start : FirstRaces) : Type 0 where
  pub no_event : start.tracker ≡ record { threads = []; locks = record { releases = []; unshares = [] } }
  pub no_lesson : start.lessons ≡ []
  pub no_variable : start.epochs ≡ []
  pub stands : (roots : ℕ → Bool) → WellFormedWith memory_kinds roots [] → EpochsStandFor start.epochs roots [] []
  pub no_race : start.firsts ≡ 0

-- from a new one on, the tracker and what is held of each variable stand for the events of these accepted lines, the first races among them are
-- counted, and each thread has learnt nothing behind its line
pub record Watches (entries : List Entry) (now : FirstRaces) : Type 0 where
  pub tracks : Tracks memory_kinds now.tracker (items entries)
  pub holds : EpochsStandFor now.epochs (roots_of (items entries)) (event_numbers entries) (accesses entries)
  pub declared : length (objects_of (items entries)) ≤ length now.epochs
  pub firsts : now.firsts ≡ firsts_of entries
  pub lessons : AreLessons now.lessons (event_numbers entries) (accesses entries)
  pub each : length now.lessons ≡ length now.tracker.threads

-- so it is where the kinds are those of reads and writes
pub record WatchLeads (kinds : List Kind) (start : FirstRaces) (entries : List Entry) (now : FirstRaces) : Type 0 where
  pub kinds_are : kinds ≡ memory_kinds
  pub starts : WatchesNone start
  pub watches : Watches entries now

-- it has taken no line, and the kinds are these
pub record WatchBegins (kinds : List Kind) (start : FirstRaces) : Type 0 where
  pub kinds_are : kinds ≡ memory_kinds
  pub new : WatchesNone start

-- the line may follow these, it is this in numbers, and its number is behind those of the events among them
pub record IsNextWatched (before : List Entry) (now : FirstRaces) (number : ℕ) (item : Line) (numbers : Accepted) : Type 0 where
  pub watches : Watches before now
  pub next : IsNextTracked memory_kinds now.tracker (items before) item numbers
  pub rising : AreBefore number before

-- its event is the next one, at this place, and the names are those of the variables with it
pub record IsNextWatchedEvent (before : List Entry) (now : FirstRaces) (number : ℕ) (item : Line) (e : Event) (names : List (List ℕ)) (place : ℕ) : Type 0 where
  pub line : IsNextWatched before now number item (accepted.Event e)
  pub named : names ≡ objects_of (items before ++ item ∷ [])
  pub at_end : place ≡ length (accesses before)

-- the access that a call on this line, at this place, is
abbrev pub access_by : ℕ → ℕ → Call → Access
access_by line place call = record { place = place; line = line; variable = call.object; write = call.method == 1 }

-- the access is the next event of some list for which this is held, and where these are the threads' lessons
abbrev pub MayAccess : List HeldAccesses → List ℕ → Access → Stamp → Type 0
MayAccess held lessons access stamp = (roots : ℕ → Bool) × (lines : List ℕ) × (es : List Event) × (slots : List Value) × IsNextAccess held roots lines es access stamp slots × AreLessons lessons lines es
