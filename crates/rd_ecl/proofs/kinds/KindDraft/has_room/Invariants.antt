use Rattle.std.proofs.Common.{◌≡◌, length}
use Rattle.rd_ecl.specs.Formulas.{tree_of}
use Rattle.rd_ecl.specs.Specified.{with_pair}
use Rattle.rd_ecl.proofs.WalkLemmas.{IsKept}
use Rattle.rd_ecl.proofs.kinds.KindDraft.has_room.Given as goal

abbrev pub invariant-loop-other : goal.invariant-loop-other
invariant-loop-other l = IsKept (with_pair l.self l.first l.second (tree_of l.formula)) l.method l.other l.seen × (l.count ≡ length l.self.methods)
