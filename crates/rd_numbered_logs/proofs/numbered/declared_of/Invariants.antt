use Rattle.std.proofs.Common.{◌≡◌, ◌<◌, ℕ, false, nat_lt, length}
use Rattle.std.specs.Prelude.{slice_index_or}
use Rattle.rd_numbered_logs.proofs.numbered.declared_of.Given as goal

abbrev pub invariant-loop-object : goal.invariant-loop-object
invariant-loop-object l = record {
  count : length l.marks.items ≡ l.object;
  marks : (object : ℕ) → object < l.object → slice_index_or l.marks.items object false ≡ nat_lt object l.declared;
}
