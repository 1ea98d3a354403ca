use Rattle.std.proofs.Common.{take}
use Rattle.rd_classes.specs.Leaders.{AreClassMarks}
use Rattle.rd_classes.proofs.merging.marks.Given as goal

abbrev pub invariant-loop-class : goal.invariant-loop-class
invariant-loop-class l = AreClassMarks (take l.class-index l.row) l.count l.marks.items
