-- What `adjacent` keeps of the accepted lines.
use Rattle.std.specs.Prelude.{◌≡◌, ℕ, ◌<◌, List, [], Option, Some, None}
use Rattle.rd_adjacent_command.specs.Outcomes.{event_lines}
use Rattle.rd_adjacent_command.specs.declared.adjoining.Adjoining.{Adjoining}
use Rattle.rd_ecl.specs.Kinds.{Kind}
use Rattle.rd_event.specs.declared.events.Event.{Event}
use Rattle.rd_event.specs.declared.items.Line.{Line}
use Rattle.rd_rewriting.specs.Keeping.{KeepsLines, KeepsNamed, KeepsNothing}
use Rattle.rd_rules.specs.Events.{events_of}
use Rattle.rd_rules.specs.declared.causes.Accepted.{Accepted}
use Rattle.rd_rules.specs.declared.causes.Accepted.TheVariants as accepted
use Rattle.rd_walk.specs.Walk.{Entry, items}
use Rattle.rd_wf.specs.declared.roster.Roster.{Roster}

-- nothing is kept, and the lesser line is the first
pub record AdjoiningBegins (kinds : List Kind) (start : Adjoining) : Type 0 where
  pub order : start.first < start.second
  pub nothing : KeepsNothing start.kept
  pub no_event : start.events.items ≡ []
  pub no_line : start.lines.items ≡ []

-- from the first on, what is kept is of these lines
pub record AdjoiningLeads (kinds : List Kind) (start : Adjoining) (entries : List Entry) (now : Adjoining) : Type 0 where
  pub order : now.first < now.second
  pub first : now.first ≡ start.first
  pub second : now.second ≡ start.second
  pub keeps : KeepsLines kinds now.kept (items entries)
  pub events : now.events.items ≡ events_of kinds (items entries)
  pub lines : now.lines.items ≡ event_lines entries

-- what is kept is of these lines, and the roster stands for them
pub record AdjoinsNamed (kinds : List Kind) (now : Adjoining) (names : Roster) (lines : List Line) : Type 0 where
  pub named : KeepsNamed kinds now.kept names lines
  pub events : now.events.items ≡ events_of kinds lines

-- the event that a line is in numbers
abbrev pub event_told : Accepted → Option Event
event_told (accepted.Event event) = Some event
event_told _ = None

-- the number of the line that is this in numbers, if it is an event
abbrev pub line_told : ℕ → Accepted → Option ℕ
line_told number (accepted.Event event) = Some number
line_told number _ = None
