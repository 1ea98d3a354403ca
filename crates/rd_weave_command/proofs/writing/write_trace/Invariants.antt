use Rattle.std.proofs.Common.{◌≡◌, ◌++◌, List, ℕ}
use Rattle.std.specs.Prelude.{drop}
use Rattle.rd_event.specs.Items.{lines_text}
use Rattle.rd_io.specs.Sinks.{Appends}
use Rattle.rd_weave_command.proofs.writing.write_trace.Given as goal

abbrev pub invariant-loop-line : goal.invariant-loop-line
invariant-loop-line g l =
    (front : List ℕ) × (lines_text l.lines ≡ front ++ lines_text (drop l.line-index l.lines))
    × Appends (g.S.Sink.written l.initial.out) (g.S.Sink.written l.out) front
    × (g.S.Sink.faults l.out ≡ g.S.Sink.faults l.initial.out)
