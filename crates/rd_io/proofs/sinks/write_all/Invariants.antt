use Rattle.std.proofs.Common.{◌≡◌, ◌-◌, ◌≤◌, length, take}
use Rattle.rd_io.specs.Sinks.{Appends}
use Rattle.rd_io.proofs.sinks.write_all.Given as goal

abbrev pub invariant-loop-written : goal.invariant-loop-written
invariant-loop-written g l =
    record {
      within : l.written ≤ length l.part;
      front : Appends (g.S.Sink.written l.initial.out) (g.S.Sink.written l.out) (take l.written l.part);
      calm : g.S.Sink.faults l.out ≡ g.S.Sink.faults l.initial.out;
      kept : g.S.Sink.at_fault l.out ≡ g.S.Sink.at_fault l.initial.out;
    }

abbrev pub decreases-loop-written : goal.decreases-loop-written
decreases-loop-written g l = length l.part - l.written
