use Rattle.rd_formulas.specs.Meaning.{Related}
use Rattle.rd_formulas.specs.Scope.{IsBare}
use Rattle.rd_formulas.proofs.FindingLemmas.{sign_one}
use Rattle.rd_formulas.proofs.finding.bare_at.Goals as goal

pub returns : goal.returns
returns c =
    let asked : Related = record { sign = c.args.sign; left = c.args.left; right = c.args.right } in
    rw c.number_if.ensures (sign_one (IsBare c.args.scope.now) asked c.is_bare.result (c.is_bare.ensures c.args.sign).0 (c.is_bare.ensures c.args.sign).1)
