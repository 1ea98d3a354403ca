use Rattle.std.proofs.Common.{◌≡◌, ◌-◌, ◌++◌, flat_map, length}
use Rattle.std.specs.List.{range_with_len}
use Rattle.rd_print.specs.Writing.{pairs_text, row_text}
use Rattle.rd_print.proofs.pairs.append_pairs.Given as goal

abbrev pub invariant-loop-first : goal.invariant-loop-first
invariant-loop-first l = l.initial.text ++ pairs_text l.kind ≡ l.text ++ flat_map (row_text l.kind) (range_with_len l.first (length l.kind.methods - l.first))
