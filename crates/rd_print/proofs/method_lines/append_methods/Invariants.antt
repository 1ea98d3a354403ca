use Rattle.std.proofs.Common.{◌≡◌, ◌++◌, drop}
use Rattle.rd_print.specs.Writing.{methods_text}
use Rattle.rd_print.proofs.method_lines.append_methods.Given as goal

abbrev pub invariant-loop-method : goal.invariant-loop-method
invariant-loop-method l = l.initial.text ++ methods_text l.methods ≡ l.text ++ methods_text (drop l.method-index l.methods)
