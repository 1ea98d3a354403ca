-- What `reorder` keeps of the accepted lines.
use Rattle.std.specs.Prelude.{◌≡◌, List, [], Option, Some, None, map}
use Rattle.rd_ecl.specs.Kinds.{Kind}
use Rattle.rd_event.specs.declared.events.Event.{Event}
use Rattle.rd_event.specs.declared.items.Line.{Line}
use Rattle.rd_reorder_command.specs.Values.{without_values}
use Rattle.rd_reorder_command.specs.declared.reordering.Reordering.{Reordering}
use Rattle.rd_rewriting.specs.Keeping.{KeepsLines, KeepsNamed, KeepsNothing}
use Rattle.rd_rules.specs.Events.{events_of}
use Rattle.rd_rules.specs.declared.causes.Accepted.{Accepted}
use Rattle.rd_rules.specs.declared.causes.Accepted.TheVariants as accepted
use Rattle.rd_walk.specs.Walk.{Entry, items}
use Rattle.rd_wf.specs.declared.roster.Roster.{Roster}

-- nothing is kept
pub record ReorderingBegins (kinds : List Kind) (start : Reordering) : Type 0 where
  pub nothing : KeepsNothing start.kept
  pub no_event : start.events.items ≡ []

-- the events of these lines are kept, without the values of calls
abbrev pub KeepsEvents : List Kind → Reordering → List Line → Type 0
KeepsEvents kinds now lines = now.events.items ≡ map without_values (events_of kinds lines)

-- from the first on, what is kept is of these lines
pub record ReorderingLeads (kinds : List Kind) (start : Reordering) (entries : List Entry) (now : Reordering) : Type 0 where
  pub number : now.number ≡ start.number
  pub keeps : KeepsLines kinds now.kept (items entries)
  pub events : KeepsEvents kinds now (items entries)

-- so it is, and the roster stands for the lines
pub record ReordersNamed (kinds : List Kind) (now : Reordering) (names : Roster) (lines : List Line) : Type 0 where
  pub named : KeepsNamed kinds now.kept names lines
  pub events : KeepsEvents kinds now lines

-- the event that a line is in numbers, as it is kept
abbrev pub event_kept : Accepted → Option Event
event_kept (accepted.Event event) = Some (without_values event)
event_kept _ = None
