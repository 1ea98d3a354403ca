use Rattle.std.proofs.Common.{◌≡◌, take}
use Rattle.rd_base.proofs.slots.few_copies.Given as goal

abbrev pub invariant-loop-value : goal.invariant-loop-value
invariant-loop-value l = l.few.items ≡ take l.value-index l.values
