use Rattle.std.proofs.Common.{◌≡◌, drop}
use Rattle.rd_classes.specs.Leaders.{signature_from}
use Rattle.rd_classes.proofs.merging.signature.Given as goal

abbrev pub invariant-loop-class : goal.invariant-loop-class
invariant-loop-class l = signature_from l.signature (drop l.class-index l.row) ≡ signature_from 0 l.row
