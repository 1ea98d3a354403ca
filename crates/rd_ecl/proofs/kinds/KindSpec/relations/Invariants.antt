use Rattle.std.proofs.Common.{◌≡◌, length}
use Rattle.rd_ecl.proofs.WalkLemmas.{IsKept}
use Rattle.rd_ecl.proofs.kinds.KindSpec.relations.Given as goal

abbrev pub invariant-loop-other : goal.invariant-loop-other
invariant-loop-other l = IsKept l.self l.method l.other l.seen × (l.count ≡ length l.self.methods)
