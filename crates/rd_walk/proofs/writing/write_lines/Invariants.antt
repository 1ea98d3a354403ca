use Rattle.std.proofs.Common.{◌≡◌, ℕ, List, ◌++◌, length}
use Rattle.rd_io.specs.Sinks.{Appends}
use Rattle.rd_walk.proofs.writing.write_lines.Given as goal

abbrev pub invariant-loop-rest : goal.invariant-loop-rest
invariant-loop-rest g l =
    (front : List ℕ) × (l.text ≡ front ++ l.rest) × Appends (g.S.Sink.written l.initial.out) (g.S.Sink.written l.out) front
    × (g.S.Sink.faults l.out ≡ g.S.Sink.faults l.initial.out)

abbrev pub decreases-loop-rest : goal.decreases-loop-rest
decreases-loop-rest g l = length l.rest
