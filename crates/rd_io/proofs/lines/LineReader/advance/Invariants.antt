use Rattle.std.proofs.Common.{◌≡◌, ℕ, ◌-◌, List, length}
use Rattle.rd_io.specs.Inputs.{Goes, Takes}
use Rattle.rd_io.specs.LineReader.{HasLine}
use Rattle.rd_io.proofs.AdvanceLemmas.{Searches}
use Rattle.rd_io.proofs.lines.LineReader.advance.Given as goal

abbrev pub invariant-search : goal.invariant-search
invariant-search g l =
    (bytes : List ℕ) × Searches l.initial.self l.self bytes l.seen
    × Goes (g.I.Inputs.told l.initial.inputs) (g.I.Inputs.told l.inputs) (λ old new. Takes old new bytes)
    × (g.I.Inputs.faults l.inputs ≡ g.I.Inputs.faults l.initial.inputs)
    × (HasLine l.initial.self → l.inputs ≡ l.initial.inputs)

abbrev pub decreases-search : goal.decreases-search
decreases-search g l = l.self.limit - length l.self.pending
