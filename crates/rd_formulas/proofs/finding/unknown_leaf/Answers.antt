use Rattle.rd_ecl.specs.Formulas.{tree_of}
use Rattle.rd_ecl.specs.Sides.{on_side}
use Rattle.rd_formulas.specs.Meaning.{of_name}
use Rattle.rd_formulas.specs.Scope.{IsUnknownName, IsUnknownUse, NameStandsFor}
use Rattle.rd_formulas.proofs.FindingLemmas.{test_none, use_one}
use Rattle.rd_formulas.proofs.OutlineLemmas.{standing_known}
use Rattle.rd_formulas.proofs.finding.unknown_leaf.Goals as goal

pub returns-in-Name : goal.returns-in-Name
returns-in-Name c =
    let scope = c.args.scope.now in
    let told =
    test_none c.named.result c.is_none.result (λ found. NameStandsFor scope c.args.token (on_side found.0 (tree_of found.1.now))) (IsUnknownName scope c.args.token) c.is_none.ensures
    c.named.ensures.some c.named.ensures.none (λ found stands. standing_known scope c.args.token (on_side found.0 (tree_of found.1.now)) stands) in
    rw (c.in-Name.is, c.number_if.ensures) (use_one (IsUnknownUse scope) (of_name c.args.token) c.is_none.result told.0 told.1)
