-- What a tracker and a detector hold of the lines of a trace.
use Rattle.std.specs.Prelude.{◌≡◌, ◌≤◌, ℕ, Bool, List, [], ◌∷◌, ◌++◌, length, Some}
use Rattle.rd_base.specs.Limits.{AreUsable}
use Rattle.rd_base.specs.declared.limits.Limits.{Limits}
use Rattle.rd_detect.specs.Detect.{Detecting, DetectorStandsFor}
use Rattle.rd_ecl.specs.Kinds.{kinds_of}
use Rattle.rd_ecl.specs.Specified.{SpecifiedKind}
use Rattle.rd_event.specs.declared.events.Event.{Event}
use Rattle.rd_event.specs.declared.items.Line.{Line}
use Rattle.rd_hb.specs.Tracker.{TrackerStandsFor, Tracking}
use Rattle.rd_order.specs.EventLists.{WellFormedWith}
use Rattle.rd_order.specs.Order.{forked_thread}
use Rattle.rd_rules.specs.Events.{AreTold, events_of, roots_of}
use Rattle.rd_rules.specs.MayFollow.{MayFollow, accepted_of, threads_of}
use Rattle.rd_wf.specs.Roster.{RosterStandsFor}
use Rattle.rd_rules.specs.declared.causes.Accepted.{Accepted}
use Rattle.rd_wf.specs.declared.roster.Roster.{Roster}

-- the tracker and the detector stand for the events of these lines
pub record StandsForLines (kinds : List SpecifiedKind) (tracker : Tracking) (detector : Detecting) (before : List Line) : Type 0 where
  pub told : AreTold (kinds_of kinds) before
  pub tracked : TrackerStandsFor tracker (roots_of before) (events_of (kinds_of kinds) before)
  pub count : length tracker.threads ≡ length (threads_of before)
  -- the numbers of the lines of the events
  pub numbers : List ℕ
  pub detects : DetectorStandsFor kinds detector (roots_of before) numbers (events_of (kinds_of kinds) before)

-- the roster stands for these lines too
pub record IsCourse (roster : Roster) (tracker : Tracking) (detector : Detecting) : Type 0 where
  pub kinds : List SpecifiedKind
  pub lines : List Line
  pub roster_stands : RosterStandsFor (kinds_of kinds) roster lines
  pub stands : StandsForLines kinds tracker detector lines

-- the line may follow, it is this in numbers, and so many events stand in front of it
pub record IsNext (kinds : List SpecifiedKind) (tracker : Tracking) (detector : Detecting) (before : List Line) (line : Line) (numbers : Accepted) (place : ℕ) : Type 0 where
  pub stands : StandsForLines kinds tracker detector before
  pub limits : Limits
  pub usable : AreUsable limits
  pub follows : MayFollow (kinds_of kinds) limits before line
  pub few : length (threads_of (before ++ line ∷ [])) ≤ 4294967295
  pub told_as : numbers ≡ accepted_of (kinds_of kinds) before line
  pub at_end : place ≡ length (events_of (kinds_of kinds) before)

-- the event is the next one, at this place
pub record MayHappenNext (kinds : List SpecifiedKind) (tracker : Tracking) (detector : Detecting) (roots : ℕ → Bool) (numbers : List ℕ) (es : List Event) (place : ℕ) (e : Event) : Type 0 where
  pub detects : DetectorStandsFor kinds detector roots numbers es
  pub tracked : TrackerStandsFor tracker roots es
  pub formed : WellFormedWith (kinds_of kinds) roots (es ++ e ∷ [])
  pub numbered : (u : ℕ) → forked_thread e ≡ Some u → u ≡ length tracker.threads
  pub at_end : place ≡ length es
