use Rattle.std.proofs.Common.{◌≡◌, drop}
use Rattle.rd_ecl.specs.Variables.{is_one_of}
use Rattle.rd_reading.proofs.judging.kinds.is_taken.Given as goal

abbrev pub invariant-loop-other : goal.invariant-loop-other
invariant-loop-other l = is_one_of l.name l.taken ≡ is_one_of l.name (drop l.other-index l.taken)
