-- What `reorder` says of the bytes of a trace, in the words of accepted lines and of linear orders. This project's profile.
use Rattle.std.specs.Prelude.{◌≡◌, ℕ, List, [], filter, IsPermutation}
use Rattle.rd_event.specs.Items.{lines_text}
use Rattle.rd_base.specs.declared.limits.Limits.{Limits}
use Rattle.rd_io.specs.Lines.{Stop, reading}
use Rattle.rd_linear.specs.Orders.{IsLinear}
use Rattle.rd_reorder_command.specs.Outcomes.{written_whole}
use Rattle.rd_report.specs.Endings.{thread_names}
use Rattle.rd_replay_command.specs.States.{built_in_kinds}
use Rattle.rd_rewriting.specs.Ended.{ended_as}
use Rattle.rd_rewriting.specs.Reordered.{is_counted, reordered}
use Rattle.rd_walk.specs.AcceptedLines.{IsWalk}
use Rattle.rd_walk.specs.Output.{Outcome}
use Rattle.rd_walk.specs.Walk.{Entry, items}
use Rattle.rd_walk.specs.declared.walk.WalkEnd.TheVariants.{End}
use Rattle.rd_walk.specs.declared.walk.WalkEnd.{WalkEnd}
use Rattle.rd_rules.specs.Events.{events_of}

-- What `reorder` writes and answers for the bytes of a trace whose reading ends so.
pub record IsReordered (limits : Limits) (stop : Stop) (bytes : List ℕ) (outcome : Outcome) : Type 0 where
  -- the accepted lines, and how they end
  pub entries : List Entry
  pub ending : WalkEnd
  pub walk : IsWalk built_in_kinds limits [] 1 (reading limits.line limits.bytes stop bytes) entries ending
  -- all places of their events, each once, and one that reaches another before it
  pub places : List ℕ
  pub linear : IsLinear (events_of built_in_kinds (items entries)) places
  -- the lines with the events in that order, or the one line that tells how the accepted lines end
  pub told : outcome ≡ ended_as (thread_names entries) (written_whole (lines_text (reordered (items entries) places))) ending
  -- at the end of the trace these are its lines, each as often as it was read, but for those that are skipped
  pub same : ending ≡ End → IsPermutation (filter is_counted (items entries)) (reordered (items entries) places)
