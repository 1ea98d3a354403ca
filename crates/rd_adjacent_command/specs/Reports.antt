-- What `adjacent` says of the bytes of a trace, in the words of accepted lines, of linear orders and of paths. This project's profile.
use Rattle.std.specs.Prelude.{◌≡◌, ℕ, ◌+◌, ◌<◌, List, [], Some, filter, max, min, slice_get, IsPermutation}
use Rattle.rd_adjacent.specs.Adjacent.{IsCallAt}
use Rattle.rd_adjacent.specs.Beside.{beside}
use Rattle.rd_adjacent_command.specs.Outcomes.{adjacent_end, call_on, event_lines}
use Rattle.rd_base.specs.declared.limits.Limits.{Limits}
use Rattle.rd_event.specs.declared.events.Event.{Event}
use Rattle.rd_io.specs.Lines.{Stop, reading}
use Rattle.rd_linear.specs.Orders.{IsLinear}
use Rattle.rd_order.specs.Order.{Reaches}
use Rattle.rd_order.specs.Paths.{IsFarthestPath, farthest_path}
use Rattle.rd_replay_command.specs.States.{built_in_kinds}
use Rattle.rd_report.specs.Endings.{thread_names}
use Rattle.rd_rewriting.specs.Ended.{ended_as}
use Rattle.rd_rewriting.specs.Reordered.{is_counted, reordered}
use Rattle.rd_rules.specs.Events.{events_of}
use Rattle.rd_walk.specs.AcceptedLines.{IsWalk}
use Rattle.rd_walk.specs.Output.{Outcome}
use Rattle.rd_walk.specs.Walk.{Entry, items}
use Rattle.rd_walk.specs.declared.walk.WalkEnd.TheVariants.{End}
use Rattle.rd_walk.specs.declared.walk.WalkEnd.{WalkEnd}

-- Two calls of which one is in front of the other. Where it doesn't reach the other, the order in which they are set side by side is linear: all
-- places, each once, and one that reaches another before it; and they are neighbours in it. Where it does, the path leads from one to the other, and each
-- next place is the greatest to which an edge leads and that is the last or reaches it.
pub record AreBeside (es : List Event) (i j : ℕ) : Type 0 where
  pub one : IsCallAt es i
  pub other : IsCallAt es j
  pub order : i < j
  pub linear : ¬ (Reaches es i j) → IsLinear es (beside es i j)
  pub neighbours : (at : ℕ) × (slice_get (beside es i j) at ≡ Some i) × (slice_get (beside es i j) (at + 1) ≡ Some j)
  pub path : Reaches es i j → IsFarthestPath es i (farthest_path es i j) j

-- What `adjacent` with these lines writes and answers for the bytes of a trace whose reading ends so.
pub record IsAdjacentTrace (first second : ℕ) (limits : Limits) (stop : Stop) (bytes : List ℕ) (outcome : Outcome) : Type 0 where
  -- the accepted lines, and how they end
  pub entries : List Entry
  pub ending : WalkEnd
  pub walk : IsWalk built_in_kinds limits [] 1 (reading limits.line limits.bytes stop bytes) entries ending
  -- what is told of the two lines at the end of the trace, or the one line that tells how the accepted lines end
  pub told : outcome ≡ ended_as (thread_names entries) (adjacent_end built_in_kinds entries first second) ending
  -- where both are the lines of calls
  pub two : (i j : ℕ) → call_on (events_of built_in_kinds (items entries)) (event_lines entries) first ≡ Some i
      → call_on (events_of built_in_kinds (items entries)) (event_lines entries) second ≡ Some j
      → AreBeside (events_of built_in_kinds (items entries)) (min i j) (max i j)
  -- and the first doesn't reach the other, the lines that are written are those of the trace, each as often as it was read, but for those that
  -- are skipped
  pub same : ending ≡ End → (i j : ℕ) → i < j → IsCallAt (events_of built_in_kinds (items entries)) j → ¬ (Reaches (events_of built_in_kinds (items entries)) i j)
      → IsPermutation (filter is_counted (items entries)) (reordered (items entries) (beside (events_of built_in_kinds (items entries)) i j))
