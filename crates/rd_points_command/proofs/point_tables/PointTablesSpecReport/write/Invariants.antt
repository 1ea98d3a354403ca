use Rattle.std.proofs.Common.{◌≡◌, flat_map, take}
use Rattle.rd_classes.specs.Merged.{merged}
use Rattle.rd_io.specs.Sinks.{Appends}
use Rattle.rd_points.specs.Compiled.{compiled}
use Rattle.rd_points_command.specs.PointTexts.{kind_text}
use Rattle.rd_points_command.proofs.point_tables.PointTablesSpecReport.write.Given as goal

abbrev pub invariant-loop-kind : goal.invariant-loop-kind
invariant-loop-kind g l = record {
  written : Appends (g.S.Sink.written l.initial.out) (g.S.Sink.written l.out)
      (flat_map (λ kind. kind_text kind (merged (compiled kind))) (take l.kind-index l.kind-items));
  calm : g.S.Sink.faults l.out ≡ g.S.Sink.faults l.initial.out;
}
