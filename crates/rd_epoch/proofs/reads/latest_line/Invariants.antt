use Rattle.std.proofs.Common.{◌≡◌, ◌+◌, take}
use Rattle.rd_epoch.specs.EpochParts.{latest_line}
use Rattle.rd_epoch.proofs.reads.latest_line.Given as goal

abbrev pub invariant-loop-epoch : goal.invariant-loop-epoch
invariant-loop-epoch g l = record {
  value : l.latest ≡ latest_line l.clock l.fn.found (take l.epoch-index l.epochs);
  cost : l.steps ≡ l.initial.steps + l.epoch-index;
}
