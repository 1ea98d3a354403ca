use Rattle.std.proofs.Common.{◌≡◌, ◌+◌, ◌≤◌, List, [], length}
use Rattle.rd_gen_command.specs.GeneratedWalks.{walk_items}
use Rattle.rd_io.specs.Sinks.{Appends}
use Rattle.rd_walk.specs.Analysis.{AreBefore}
use Rattle.rd_walk.specs.Walk.{Entry, after, items, step_bound}
use Rattle.rd_wf.specs.Roster.{RosterStandsFor, kinds_in}
use Rattle.rd_gen_command.proofs.walk.walk_generated.Given as goal

abbrev pub invariant-lines : goal.invariant-lines
invariant-lines g l =
    (entries : List Entry)
    × (walk_items (kinds_in l.initial.walker.roster) l.initial.walker.limits [] 1 l.initial.generator.lines
    ≡ after entries (walk_items (kinds_in l.initial.walker.roster) l.initial.walker.limits (items entries) (l.number + 1) l.generator.lines))
    × RosterStandsFor (kinds_in l.initial.walker.roster) l.walker.roster (items entries)
    × g.A.Analysis.leads (kinds_in l.initial.walker.roster) l.initial.walker.analysis entries l.walker.analysis
    × Appends (g.S.Sink.written l.initial.out) (g.S.Sink.written l.out) (g.A.Analysis.text (kinds_in l.initial.walker.roster) l.initial.walker.analysis entries)
    × (l.steps ≤ l.initial.steps + step_bound (g.A.Analysis.bound (kinds_in l.initial.walker.roster) l.initial.walker.analysis) entries)
    × (g.S.Sink.faults l.out ≡ g.S.Sink.faults l.initial.out)
    × (l.walker.limits ≡ l.initial.walker.limits)
    × (l.number + length l.generator.lines ≡ length l.initial.generator.lines)
    × AreBefore (l.number + 1) entries

abbrev pub decreases-lines : goal.decreases-lines
decreases-lines g l = length l.generator.lines
