use Rattle.std.proofs.Common.{[], ◌∷◌}
use Rattle.rd_formulas.specs.Meaning.{of_term}
use Rattle.rd_formulas.specs.Scope.{IsUnknownUse}
use Rattle.rd_formulas.proofs.FindingLemmas.{use_both}
use Rattle.rd_formulas.proofs.finding.unknown_of.Goals as goal

pub returns : goal.returns
returns c =
    rw c.earlier.ensures (use_both (IsUnknownUse c.args.scope.now) (of_term c.args.left ∷ []) (of_term c.args.right ∷ []) c.unknown_at.result c.unknown_at-2.result
    c.unknown_at.ensures c.unknown_at-2.ensures)
