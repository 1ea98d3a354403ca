-- The replay of the calls of accepted lines.
use Rattle.std.specs.Prelude.{◌≡◌, List, [], ◌∷◌, ◌++◌, Option, option_map}
use Rattle.std.specs.List.{cons_option}
use Rattle.std.specs.Option.{option_and_then}
use Rattle.rd_ecl.specs.Kinds.{Kind, kinds_of}
use Rattle.rd_ecl.specs.Specified.{SpecifiedKind}
use Rattle.rd_event.specs.declared.items.Line.{Line}
use Rattle.rd_kinds.specs.Shipped.{shipped_kinds}
use Rattle.rd_object.specs.declared.shapes.ReplayEnd.{ReplayEnd}
use Rattle.rd_order.specs.Order.{call_in}
use Rattle.rd_replay.specs.Replays.{Recorded, replay_end}
use Rattle.rd_replay.specs.Replayer.{ReplayerStandsFor}
use Rattle.rd_replay.specs.declared.replayer.Replayer.{Replayer}
use Rattle.rd_rules.specs.Events.{AreTold, event_of}
use Rattle.rd_rules.specs.MayFollow.{object_kinds}
use Rattle.rd_walk.specs.Walk.{Entry, items}

-- the call of a line behind others, with the number of the line
abbrev pub recorded_at : List Kind → List Line → Entry → Option Recorded
recorded_at kinds before entry = option_map (λ call. (entry.number, call)) (option_and_then call_in (event_of kinds before entry.item))

-- the calls of lines behind others, in their order
abbrev pub recorded_from : List Kind → List Line → List Entry → List Recorded
recorded_from kinds before [] = []
recorded_from kinds before (entry ∷ entries) = cons_option (recorded_at kinds before entry) (recorded_from kinds (before ++ entry.item ∷ []) entries)

-- the calls of accepted lines, in their order
unfoldable pub recorded_of : List Kind → List Entry → List Recorded
recorded_of kinds entries = recorded_from kinds [] entries

-- how their replay ends
abbrev pub replay_of : List Kind → List Entry → ReplayEnd
replay_of kinds entries = replay_end (object_kinds kinds (items entries)) (recorded_of kinds entries)

-- the first kinds are those that are built in, so that they have the numbers of their machines
abbrev pub BeginWithBuiltIn : List Kind → Type 0
BeginWithBuiltIn kinds = (more : List SpecifiedKind) × (kinds ≡ kinds_of (shipped_kinds ++ more))

-- the replayer stands for the objects and the calls of these accepted lines
pub record Replayed (kinds : List Kind) (entries : List Entry) (replayer : Replayer) : Type 0 where
  pub numbered : BeginWithBuiltIn kinds
  pub told : AreTold kinds (items entries)
  pub stands : ReplayerStandsFor replayer (object_kinds kinds (items entries)) (recorded_of kinds entries)
