use Rattle.std.proofs.Common.{subst, sym, ◌∙◌}
use Rattle.rd_ecl.specs.Formulas.{tree_of}
use Rattle.rd_formulas.specs.Scope.{Outlines, SaysTree}
use Rattle.rd_formulas.proofs.OutlineLemmas.{same_size}
use Rattle.rd_formulas.proofs.expansion.+expanded_size.Goals as goal
use Rattle.rd_grammar.specs.Grammar.{parsed_tree}

pub returns-in-Relation-clause-size : goal.returns-in-Relation-clause-size
returns-in-Relation-clause-size t c = λ f says.
    let scope = c.args.scope.now in
    let outline = tree_of c.args.outline.now in
    let said = subst (λ p. SaysTree scope (parsed_tree p) f) c.in-Relation.is says in
    let drawn = subst (λ p. Outlines scope (parsed_tree p) outline) c.in-Relation.is c.requires.outlines in
    let size = same_size scope c.in-Relation.left c.in-Relation.sign c.in-Relation.token c.in-Relation.right f outline said drawn in
    (size.0 ∙ sym c.nodes.ensures, size.1 ∙ sym c.levels.ensures)
