use Rattle.std.proofs.Common.{◌≡◌, ◌++◌, drop, flat_map}
use Rattle.rd_print.specs.Printed.{block_text, spec_text}
use Rattle.rd_print.proofs.printing.print.Given as goal

abbrev pub invariant-loop-kind : goal.invariant-loop-kind
invariant-loop-kind l = spec_text l.kinds ≡ l.text ++ flat_map block_text (drop l.kind-index l.kinds)
