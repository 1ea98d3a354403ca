use Rattle.std.specs.BTreeSet.{contains}
use Rattle.std.specs.Ordering.{nat_cmp}
use Rattle.rd_turns.specs.NumberedLogs.{logs_by_numbers}
use Rattle.rd_turns.specs.Turning.{IsTurning}
use Rattle.rd_weavings.specs.WeaveTests.{turns_left}
use Rattle.rd_turns.proofs.turns.take_turns.Given as goal

abbrev pub decreases-loop-log : goal.decreases-loop-log
decreases-loop-log l = turns_left (logs_by_numbers l.logs) l.spots.items

abbrev pub invariant-loop-log : goal.invariant-loop-log
invariant-loop-log l = IsTurning l.logs l.spots.items l.tables (contains nat_cmp l.ready)
