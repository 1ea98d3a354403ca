use Rattle.std.proofs.Common.{◌≡◌, drop}
use Rattle.rd_ecl.specs.Specified.{names_of}
use Rattle.rd_lines.specs.Reading.{names_behind}
use Rattle.rd_lines.proofs.order.behind.Given as goal

abbrev pub invariant-loop-index : goal.invariant-loop-index
invariant-loop-index l = names_behind l.name (names_of l.methods) ≡ names_behind l.name (names_of (drop l.index l.methods))
