use Rattle.std.proofs.Common.{◌≡◌, ◌<◌, ◌++◌, ℕ, List, [], Some, get_or, reverse, length, slice_get, take}
use Rattle.rd_logs.specs.WholeLogs.{LogRecord}
use Rattle.rd_weave.specs.Answers.{placed_lines, events_of_log, rest_events}
use Rattle.rd_weavings.specs.declared.spots.Spot.{Spot}
use Rattle.rd_weavings.specs.Logs.{given}
use Rattle.rd_weave.proofs.LineLemmas.{AreRests}
use Rattle.rd_weave.proofs.lines.append_events.Given as goal

abbrev pub invariant-loop-spot : goal.invariant-loop-spot
invariant-loop-spot l = (records : List LogRecord) → ((log : ℕ) → get_or (rest_events l.initial.logs) log [] ≡ reverse (events_of_log records log))
    → ((j : ℕ) (s : Spot) → slice_get l.spots j ≡ Some s → (s.place ≡ given (take j l.spots) s.log) × (s.place < length (events_of_log records s.log)))
    → (l.lines.items ≡ l.initial.lines.items ++ placed_lines records (take l.spot-index l.spots)) × AreRests records (take l.spot-index l.spots) (rest_events l.logs)
