use Rattle.std.proofs.Common.{◌≡◌, fold, length}
use Rattle.rd_base.specs.Hashing.{eights_of}
use Rattle.rd_base.proofs.hashing.hash_parts.Given as goal

abbrev pub invariant-loop-rest : goal.invariant-loop-rest
invariant-loop-rest g l = fold g.H.Hasher.write l.state (eights_of l.rest) ≡ fold g.H.Hasher.write l.initial.state (eights_of l.bytes)

abbrev pub decreases-loop-rest : goal.decreases-loop-rest
decreases-loop-rest g l = length l.rest
