use Rattle.std.proofs.Common.{◌-◌, ◌≤◌, length}
use Rattle.std.specs.List.{prefix_len}
use Rattle.rd_base.specs.Names.{is_name_byte}
use Rattle.rd_base.proofs.names.fours.Given as goal

abbrev pub invariant-loop-length : goal.invariant-loop-length
invariant-loop-length l = (l.length ≤ prefix_len is_name_byte l.bytes) × (l.length ≤ length l.bytes)

abbrev pub decreases-loop-length : goal.decreases-loop-length
decreases-loop-length l = length l.bytes - l.length
