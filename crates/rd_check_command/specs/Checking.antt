-- What `check` keeps of the accepted lines.
use Rattle.std.specs.Prelude.{◌≡◌, ◌≤◌, ℕ, Bool, List, [], ◌∷◌, ◌++◌, length, is_some, slice_get, Option, Some, None, if◌then◌else◌}
use Rattle.rd_base.specs.Limits.{AreUsable}
use Rattle.rd_base.specs.declared.limits.Limits.{Limits}
use Rattle.rd_event.specs.declared.events.Call.{Call}
use Rattle.rd_event.specs.declared.events.Event.{Event}
use Rattle.rd_event.specs.declared.events.Event.TheVariants as event
use Rattle.rd_event.specs.declared.items.Line.{Line}
use Rattle.rd_hb.specs.Tracker.{TrackerStandsFor, Tracking}
use Rattle.rd_races.specs.Commuting.{calls_commute}
use Rattle.rd_detect.specs.Covers.{CoversStandFor}
use Rattle.rd_detect.specs.Detect.{DetectorStandsFor}
use Rattle.rd_races.specs.RaceTests.{latest_of}
use Rattle.rd_ecl.specs.Kinds.{Kind, kinds_of}
use Rattle.rd_ecl.specs.Specified.{SpecifiedKind}
use Rattle.rd_json.specs.Forms.{told_in}
use Rattle.rd_json.specs.declared.forms.Form.{Form}
use Rattle.rd_order.specs.EventLists.{WellFormedWith}
use Rattle.rd_report.specs.Races.{IsNamed, told_by}
use Rattle.rd_report.specs.Texts.{Naming, naming}
use Rattle.rd_rules.specs.Events.{AreTold, events_of, roots_of}
use Rattle.rd_rules.specs.MayFollow.{MayFollow, accepted_of, threads_of}
use Rattle.rd_check_command.specs.Checked.{entry_events, event_numbers, race_at, races_of, text_with, told_at}
use Rattle.rd_store.specs.declared.Witness.{Witness}
use Rattle.rd_walk.specs.Walk.{Entry, items}
use Rattle.rd_check_command.specs.declared.checking.Check.{Check}
use Rattle.rd_rules.specs.declared.causes.Accepted.{Accepted}
use Rattle.rd_rules.specs.declared.causes.Accepted.TheVariants as accepted

-- the tracker stands for the events of these lines, which are a well-formed list, and has their threads
pub record Tracks (kinds : List Kind) (tracker : Tracking) (lines : List Line) : Type 0 where
  pub told : AreTold kinds lines
  pub stands : TrackerStandsFor tracker (roots_of lines) (events_of kinds lines)
  pub count : length tracker.threads ≡ length (threads_of lines)

-- the line may follow those that the tracker stands for, it is this in numbers, and the threads behind it fit 32 bits
pub record IsNextLine (kinds : List Kind) (tracker : Tracking) (before : List Line) (line : Line) (numbers : Accepted) : Type 0 where
  pub tracks : Tracks kinds tracker before
  pub limits : Limits
  pub usable : AreUsable limits
  pub follows : MayFollow kinds limits before line
  pub few : length (threads_of (before ++ line ∷ [])) ≤ 4294967295
  pub told_as : numbers ≡ accepted_of kinds before line

-- ---- what was told of a call

-- what a race told of a call as its later one, in this form, where a place is named: that of the call
abbrev pub IsToldOf : Form → List SpecifiedKind → Naming → Witness → List ℕ → Option ℕ → Type 0
IsToldOf form kinds names witness told None = Unit {0}
IsToldOf form kinds names witness told (Some place) = (place ≡ witness.place) × (told ≡ told_in form kinds names (told_by witness))

-- where the place that is named is that of the call, it is what a race told of the call
abbrev pub IsKnownOf : Form → List SpecifiedKind → Naming → Witness → List ℕ → Option ℕ → Type 0
IsKnownOf form kinds names witness told place = place ≡ Some witness.place → told ≡ told_in form kinds names (told_by witness)

-- a call stands at the place among these events, and it is what a race tells of it as its later one
pub record IsToldAt (form : Form) (kinds : List SpecifiedKind) (names : Naming) (numbers : List ℕ) (es : List Event) (told : List ℕ) (place : ℕ) : Type 0 where
  pub call : Call
  pub at : slice_get es place ≡ Some (event.Call call)
  pub told_is : told ≡ told_in form kinds names (told_at numbers es place call)

-- so it is where a place is named
abbrev pub IsToldAmong : Form → List SpecifiedKind → Naming → List ℕ → List Event → List ℕ → Option ℕ → Type 0
IsToldAmong form kinds names numbers es told None = Unit {0}
IsToldAmong form kinds names numbers es told (Some place) = IsToldAt form kinds names numbers es told place

-- ---- the state

-- it has taken no line, and its detector is one of no call for the kinds of its specification, of whose points nothing is known
pub record IsNew (start : Check) : Type 0 where
  pub no_event : start.tracker ≡ record { threads = []; locks = record { releases = []; unshares = [] } }
  pub no_call : (roots : ℕ → Bool) → WellFormedWith (kinds_of start.spec.now) roots [] → DetectorStandsFor start.spec.now start.detector roots [] []
  pub no_cover : CoversStandFor [] start.detector.store start.covers
  pub no_race : start.races ≡ 0
  pub formulas : start.formulas ≡ record { form = start.form; kinds = start.spec.now }
  pub none_told : start.told_place ≡ None

-- from a new one on, the tracker and the detector stand for the events of these accepted lines, whose objects are of the kinds of its
-- specification, what is known of points is true for these and later events, the calls that are reported among them are counted, and what it
-- keeps of the last of them is what a race tells of it
pub record Checks (start : Check) (entries : List Entry) (now : Check) : Type 0 where
  pub starts : IsNew start
  pub form : now.form ≡ start.form
  pub spec : now.spec.now ≡ start.spec.now
  pub formulas : now.formulas ≡ record { form = start.form; kinds = start.spec.now }
  pub tracks : Tracks (kinds_of start.spec.now) now.tracker (items entries)
  pub detects : DetectorStandsFor start.spec.now now.detector (roots_of (items entries)) (event_numbers entries) (entry_events start.spec.now entries)
  pub covers : CoversStandFor (entry_events start.spec.now entries) now.detector.store now.covers
  pub races : now.races ≡ races_of start.spec.now entries
  pub told : IsToldAmong start.form start.spec.now (naming (items entries)) (event_numbers entries) (entry_events start.spec.now entries) now.told now.told_place

-- so it is where the kinds are these
pub record CheckLeads (kinds : List Kind) (start : Check) (entries : List Entry) (now : Check) : Type 0 where
  pub kinds_are : kinds ≡ kinds_of start.spec.now
  pub checks : Checks start entries now

-- it has taken no line, and the kinds are those of its specification
pub record CheckBegins (kinds : List Kind) (start : Check) : Type 0 where
  pub kinds_are : kinds ≡ kinds_of start.spec.now
  pub new : IsNew start

-- each call has names
abbrev pub AreNamed : List SpecifiedKind → Naming → List Event → Type 0
AreNamed kinds names es = (i : ℕ) (call : Call) → slice_get es i ≡ Some (event.Call call) → IsNamed kinds names call

-- what is written for one event more, which is on the line of this number
abbrev pub next_text : Form → List SpecifiedKind → Naming → List ℕ → ℕ → List Event → Event → List ℕ
next_text form kinds names numbers number es e =
    text_with (race_at form kinds names (numbers ++ number ∷ []) (es ++ e ∷ [])) (length es) (latest_of (calls_commute kinds) (es ++ e ∷ []) (length es))

-- whether it is reported, by a number
abbrev pub next_races : List SpecifiedKind → List Event → Event → ℕ
next_races kinds es e = if is_some (latest_of (calls_commute kinds) (es ++ e ∷ []) (length es)) then 1 else 0

-- the event of this line is the next one, at this place, and the names are those of the lines with it
pub record IsNextEventLine (start now : Check) (before : List Entry) (item : Line) (e : Event) (names : Naming) (place : ℕ) : Type 0 where
  pub checks : Checks start before now
  pub next : IsNextLine (kinds_of start.spec.now) now.tracker (items before) item (accepted.Event e)
  pub naming_is : names ≡ naming (items before ++ item ∷ [])
  pub at_end : place ≡ length (entry_events start.spec.now before)
