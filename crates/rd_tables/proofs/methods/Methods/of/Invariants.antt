use Rattle.std.proofs.Common.{◌≡◌, map, take}
use Rattle.rd_ecl.specs.Kinds.{method_of}
use Rattle.rd_tables.specs.Tables.{method_entry}
use Rattle.rd_tables.proofs.methods.Methods.of.Given as goal

-- the first methods are kept
abbrev pub invariant-loop-method : goal.invariant-loop-method
invariant-loop-method l = map method_entry l.slots.entries ≡ map method_of (take l.method-index l.method-items)
