use Rattle.std.proofs.Common.{length}
use Rattle.rd_reading.specs.Reading.{IsHalfRead}
use Rattle.rd_reading.proofs.parsing.read_lines.Given as goal

abbrev pub invariant-loop-rest : goal.invariant-loop-rest
invariant-loop-rest l = IsHalfRead l.taken l.text l.rest l.number l.known

abbrev pub decreases-loop-rest : goal.decreases-loop-rest
decreases-loop-rest l = length l.rest
