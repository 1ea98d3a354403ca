-- What is kept of the lines of a trace.
use Rattle.std.specs.Prelude.{◌≡◌, List, Option, Some, None}
use Rattle.rd_ecl.specs.Kinds.{Kind}
use Rattle.rd_event.specs.declared.events.Event.{Event as Numbered}
use Rattle.rd_event.specs.declared.items.Line.{Line}
use Rattle.rd_rules.specs.Events.{AreTold, events_of}
use Rattle.rd_wf.specs.Roster.{RosterStandsFor}
use Rattle.rd_rules.specs.declared.causes.Accepted.{Accepted}
use Rattle.rd_rules.specs.declared.causes.Accepted.TheVariants.{Event}
use Rattle.rd_wf.specs.declared.roster.Roster.{Roster}

-- the event that an accepted line is
abbrev pub event_in : Accepted → Option Numbered
event_in (Event event) = Some event
event_in _ = None

-- the roster stands for some lines, of which these are the events
pub record HasEvents (roster : Roster) (events : List Numbered) : Type 0 where
  pub kinds : List Kind
  pub lines : List Line
  pub stands : RosterStandsFor kinds roster lines
  pub told : AreTold kinds lines
  pub events_are : events ≡ events_of kinds lines
