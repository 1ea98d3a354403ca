use Rattle.std.proofs.Common.{◌≡◌, ◌-◌, ◌++◌, flat_map, length}
use Rattle.std.specs.List.{range_with_len}
use Rattle.rd_print.specs.Printed.{commute_words, printed_line}
use Rattle.rd_print.specs.Writing.{row_text}
use Rattle.rd_print.proofs.pairs.append_row.Given as goal

abbrev pub invariant-loop-second : goal.invariant-loop-second
invariant-loop-second l =
    l.initial.text ++ row_text l.kind l.first ≡ l.text
    ++ flat_map (λ second. printed_line (commute_words l.kind (l.first, second))) (range_with_len l.second (length l.kind.methods - l.second))
