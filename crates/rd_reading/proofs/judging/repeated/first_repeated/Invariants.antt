use Rattle.rd_reading.proofs.RepeatLemmas.{AreSeen}
use Rattle.rd_reading.proofs.judging.repeated.first_repeated.Given as goal

abbrev pub invariant-loop-number : goal.invariant-loop-number
invariant-loop-number l = AreSeen l.names l.seen.keys l.number
