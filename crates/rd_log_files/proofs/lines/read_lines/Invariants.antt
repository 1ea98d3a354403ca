use Rattle.std.proofs.Common.{◌≡◌, ℕ, List, None, length}
use Rattle.std.specs.List.{flat_map}
use Rattle.rd_io.specs.Inputs.{Goes, Takes}
use Rattle.rd_walk.specs.Progress.{IsCut, with_feed}
use Rattle.rd_log_files.proofs.LineLemmas.{CountsOn}
use Rattle.rd_log_files.proofs.lines.read_lines.Given as goal

abbrev pub invariant-lines : goal.invariant-lines
invariant-lines g l =
    (taken : List ℕ) × (lines : List (List ℕ))
    × (l.reader.ended ≡ None)
    × CountsOn l.initial.limits l.initial.log l.initial.events taken l.reader l.events
    × IsCut l.initial.limits taken l.reader lines
    × (l.reader.number ≡ length lines)
    × (l.text ≡ flat_map with_feed lines)
    × Goes (g.I.Inputs.told l.initial.inputs) (g.I.Inputs.told l.inputs) (λ old new. Takes old new taken)
    × (g.I.Inputs.faults l.inputs ≡ g.I.Inputs.faults l.initial.inputs)

abbrev pub decreases-lines : goal.decreases-lines
decreases-lines g l = l.reader.room
