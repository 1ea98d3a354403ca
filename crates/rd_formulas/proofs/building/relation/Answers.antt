use Rattle.std.proofs.Common.{◌≡◌, Some}
use Rattle.rd_ecl.specs.Formulas.{tree_of}
use Rattle.rd_formulas.specs.Meaning.{Gives, relation_of_terms}
use Rattle.rd_formulas.specs.Scope.{IsTruth, MeansAt}
use Rattle.rd_formulas.proofs.BuildingLemmas.{related_some}
use Rattle.rd_formulas.proofs.FindingLemmas.{ok_then}
use Rattle.rd_formulas.proofs.building.relation.Goals as goal
use Rattle.rd_grammar.specs.Grammar.{relation}

pub related-requires : goal.related-requires
related-requires c =
    related_some c.args.scope.now c.args.sign c.args.left c.args.token c.args.right c.in_ok-left.left c.in_ok-right.right c.in_ok-left.ensures c.in_ok-right.ensures
    (c.requires.2.2)

pub returns : goal.returns
returns c =
    ok_then c.related.result (λ f. relation_of_terms c.args.sign c.in_ok-left.left c.in_ok-right.right ≡ Some (tree_of f))
    (λ f. Gives (MeansAt c.args.scope.now) IsTruth (relation c.args.left c.args.sign c.args.token c.args.right) (tree_of f))
    (λ f e. (c.in_ok-left.left, c.in_ok-right.right, c.in_ok-left.ensures, c.in_ok-right.ensures, e)) c.related.ensures
