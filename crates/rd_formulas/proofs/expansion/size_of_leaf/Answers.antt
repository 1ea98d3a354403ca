use Rattle.std.proofs.Common.{sym, ◌∙◌}
use Rattle.rd_ecl.specs.Formulas.{tree_of}
use Rattle.rd_ecl.specs.Sides.{on_side}
use Rattle.rd_formulas.specs.Scope.{NameStandsFor}
use Rattle.rd_formulas.proofs.FindingLemmas.{given_at}
use Rattle.rd_formulas.proofs.OutlineLemmas.{standing_size}
use Rattle.rd_formulas.proofs.expansion.size_of_leaf.Goals as goal

pub returns-in-Name-clause-size : goal.returns-in-Name-clause-size
returns-in-Name-clause-size c =
    let scope = c.args.scope.now in
    let found = c.unwrap.result in
    let here = given_at c.named.result (λ found. NameStandsFor scope c.args.token (on_side found.0 (tree_of found.1.now))) found c.unwrap.ensures c.named.ensures.some in
    rw c.in-Name.is (λ f stands.
    let size = standing_size scope c.args.token found.0 (tree_of found.1.now) f here stands in
    (size.0 ∙ sym c.nodes.ensures, size.1 ∙ sym c.levels.ensures))
