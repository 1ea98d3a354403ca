use Rattle.std.proofs.Common.{◌≡◌, take}
use Rattle.rd_weave.proofs.counts.places_of.Given as goal

abbrev pub invariant-loop-count : goal.invariant-loop-count
invariant-loop-count l = l.places ≡ take l.count-index l.counts
