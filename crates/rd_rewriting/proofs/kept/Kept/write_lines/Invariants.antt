use Rattle.std.proofs.Common.{◌≡◌, ◌≤◌, List, take}
use Rattle.rd_event.specs.Items.{lines_text}
use Rattle.rd_ecl.specs.Kinds.{Kind}
use Rattle.rd_event.specs.declared.items.Line.{Line}
use Rattle.rd_io.specs.Sinks.{Appends}
use Rattle.rd_rewriting.specs.Keeping.{KeepsNamed}
use Rattle.rd_rewriting.specs.Reordered.{reordered}
use Rattle.rd_rewriting.proofs.kept.Kept.write_lines.Given as goal

abbrev pub invariant-loop-index : goal.invariant-loop-index
invariant-loop-index g l = record {
  within : l.index ≤ l.index-end;
  written : (kinds : List Kind) (lines : List Line) → KeepsNamed kinds l.self l.names lines
      → Appends (g.S.Sink.written l.initial.out) (g.S.Sink.written l.out) (lines_text (take l.index (reordered lines l.places)));
  calm : g.S.Sink.faults l.out ≡ g.S.Sink.faults l.initial.out;
}
