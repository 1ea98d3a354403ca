use Rattle.std.proofs.Common.{◌≡◌}
use Rattle.rd_io.specs.Sinks.{Appends}
use Rattle.rd_points.specs.Classes.{joined}
use Rattle.rd_points_command.proofs.numbered.write_numbered.Given as goal

abbrev pub invariant-loop-number : goal.invariant-loop-number
invariant-loop-number g l = record {
  written : Appends (g.S.Sink.written l.initial.out) (g.S.Sink.written l.out) (joined (g.N.Numbered.text_of l.numbered) l.number);
  calm : g.S.Sink.faults l.out ≡ g.S.Sink.faults l.initial.out;
}
