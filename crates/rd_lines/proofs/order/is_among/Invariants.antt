use Rattle.std.proofs.Common.{◌≡◌, drop}
use Rattle.rd_ecl.specs.Specified.{names_of}
use Rattle.rd_ecl.specs.Variables.{is_one_of}
use Rattle.rd_lines.proofs.order.is_among.Given as goal

abbrev pub invariant-loop-method : goal.invariant-loop-method
invariant-loop-method l = is_one_of l.name (names_of l.methods) ≡ is_one_of l.name (names_of (drop l.method-index l.methods))
