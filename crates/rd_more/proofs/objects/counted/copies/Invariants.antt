use Rattle.std.proofs.Common.{◌≡◌, ◌++◌}
use Rattle.rd_more.proofs.objects.counted.copies.Given as goal

abbrev pub invariant-loop-item : goal.invariant-loop-item
invariant-loop-item l = l.list.items ++ l.item-iterator ≡ l.counts.entries
