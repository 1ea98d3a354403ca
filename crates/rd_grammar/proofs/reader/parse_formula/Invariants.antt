use Rattle.std.proofs.Common.{◌≡◌, drop}
use Rattle.rd_grammar.specs.Machine.{start, state_of}
use Rattle.rd_grammar.proofs.RunLemmas.{run}
use Rattle.rd_grammar.proofs.reader.parse_formula.Given as goal

abbrev pub invariant-loop-place : goal.invariant-loop-place
invariant-loop-place l = run start l.marks ≡ run (state_of l.reader) (drop l.place l.marks)
