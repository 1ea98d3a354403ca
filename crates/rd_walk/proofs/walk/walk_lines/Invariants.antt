use Rattle.std.proofs.Common.{◌≡◌, ℕ, ◌+◌, ◌≤◌, List, None, length}
use Rattle.rd_io.specs.Inputs.{Goes, Takes}
use Rattle.rd_io.specs.Sinks.{Appends}
use Rattle.rd_wf.specs.Roster.{RosterStandsFor, kinds_in}
use Rattle.rd_walk.specs.Analysis.{AreBefore}
use Rattle.rd_walk.specs.Walk.{Entry, items, lines_begun, step_bound}
use Rattle.rd_walk.specs.Progress.{Continues, IsCut}
use Rattle.rd_walk.proofs.walk.walk_lines.Given as goal

abbrev pub invariant-lines : goal.invariant-lines
invariant-lines g l =
    (entries : List Entry) × (taken : List ℕ) × (lines : List (List ℕ))
    × (l.reader.ended ≡ None)
    × Continues g.G.Grammar.says (kinds_in l.initial.walker.roster) l.initial.walker.limits taken l.reader entries
    × RosterStandsFor (kinds_in l.initial.walker.roster) l.walker.roster (items entries)
    × g.A.Analysis.leads (kinds_in l.initial.walker.roster) l.initial.walker.analysis entries l.walker.analysis
    × Appends (g.S.Sink.written l.initial.out) (g.S.Sink.written l.out) (g.A.Analysis.text (kinds_in l.initial.walker.roster) l.initial.walker.analysis entries)
    × (l.steps ≤ l.initial.steps + step_bound (g.A.Analysis.bound (kinds_in l.initial.walker.roster) l.initial.walker.analysis) entries)
    × Goes (g.I.Inputs.told l.initial.inputs) (g.I.Inputs.told l.inputs) (λ old new. Takes old new taken)
    × (g.I.Inputs.faults l.inputs ≡ g.I.Inputs.faults l.initial.inputs)
    × (g.S.Sink.faults l.out ≡ g.S.Sink.faults l.initial.out)
    × (l.walker.limits ≡ l.initial.walker.limits)
    × IsCut l.initial.walker.limits taken l.reader lines
    × (lines_begun entries ≡ length lines)
    × (l.reader.number ≡ length lines)
    × AreBefore (l.reader.number + 1) entries

abbrev pub decreases-lines : goal.decreases-lines
decreases-lines g l = l.reader.room
