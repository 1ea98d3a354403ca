use Rattle.rd_ecl.proofs.SlotPairLemmas.{Splits}
use Rattle.rd_ecl.proofs.slot_pairs.place.Given as goal

abbrev pub invariant-loop-at : goal.invariant-loop-at
invariant-loop-at l = Splits l.pair l.pairs l.at
