use Rattle.std.proofs.Common.{◌≡◌, take}
use Rattle.rd_detect.specs.Detect.{tables_of}
use Rattle.rd_detect.proofs.detector.tables.Given as goal

abbrev pub invariant-loop-kind : goal.invariant-loop-kind
invariant-loop-kind l = l.tables.items ≡ tables_of (take l.kind-index l.kinds)
