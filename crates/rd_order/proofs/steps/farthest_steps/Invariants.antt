use Rattle.std.proofs.Common.{◌≡◌, ◌-◌, length}
use Rattle.rd_order.specs.Noting.{AreNoted}
use Rattle.rd_order.specs.Paths.{AreFarthestSteps}
use Rattle.rd_order.proofs.steps.farthest_steps.Given as goal

abbrev pub invariant-loop-back : goal.invariant-loop-back
invariant-loop-back l = record {
  count : length l.steps.items ≡ l.back;
  noted : AreNoted l.events l.j (l.j - l.back) l.notes;
  each : AreFarthestSteps l.events l.j l.steps.items;
}
