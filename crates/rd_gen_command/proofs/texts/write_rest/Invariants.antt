use Rattle.std.proofs.Common.{◌≡◌, ℕ, List, ◌++◌, length}
use Rattle.rd_event.specs.Items.{lines_text}
use Rattle.rd_io.specs.Sinks.{Appends}
use Rattle.rd_gen_command.proofs.texts.write_rest.Given as goal

abbrev pub invariant-loop-line : goal.invariant-loop-line
invariant-loop-line g l =
    (part : List ℕ) × Appends (g.S.Sink.written l.initial.out) (g.S.Sink.written l.out) part
    × (lines_text l.initial.generator.lines ≡ part ++ lines_text l.generator.lines)
    × (g.S.Sink.faults l.out ≡ g.S.Sink.faults l.initial.out)

abbrev pub decreases-loop-line : goal.decreases-loop-line
decreases-loop-line g l = length l.generator.lines
