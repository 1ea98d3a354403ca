use Rattle.rd_formulas.specs.Meaning.{of_term}
use Rattle.rd_formulas.specs.Scope.{IsUnknownUse}
use Rattle.rd_formulas.proofs.FindingLemmas.{use_one}
use Rattle.rd_formulas.proofs.finding.unknown_at.Goals as goal

pub returns : goal.returns
returns c =
    rw c.number_if.ensures (use_one (IsUnknownUse c.args.scope.now) (of_term c.args.number) c.is_unknown.result c.is_unknown.ensures.0 c.is_unknown.ensures.1)
