use Rattle.std.proofs.Common.{◌∙◌, sym}
use Rattle.rd_ecl.specs.Formulas.{tree_of}
use Rattle.rd_formulas.specs.Scope.{IsTruth, MeansAt}
use Rattle.rd_formulas.proofs.OutlineLemmas.{offends_alike}
use Rattle.rd_formulas.proofs.ReadingLemmas.{few_nodes, token_there}
use Rattle.rd_formulas.proofs.SayingLemmas.{says_some}
use Rattle.rd_formulas.proofs.reading.refused_outside.Goals as goal
use Rattle.rd_grammar.specs.Grammar.{parsed_tree}

pub token_of_node-requires-clause-nodes : goal.token_of_node-requires-clause-nodes
token_of_node-requires-clause-nodes c =
    few_nodes (MeansAt c.args.scope.now) (parsed_tree c.args.parsed.now) (tree_of c.args.formula.now) c.requires.outlines c.requires.few

pub unwrap-number-requires : goal.unwrap-number-requires
unwrap-number-requires c =
    rw c.token_of_node.ensures (token_there (MeansAt c.args.scope.now) IsTruth (parsed_tree c.args.parsed.now) (tree_of c.args.formula.now) c.args.outside
    c.requires.outlines c.requires.outside)

pub returns : goal.returns
returns c =
    let scope = c.args.scope.now in
    let read = parsed_tree c.args.parsed.now in
    let outline = tree_of c.args.formula.now in
    let (f, says) = says_some scope read c.requires.ready.0 c.requires.ready.1 in
    let (node, first, at) = offends_alike scope read f outline c.args.outside.node c.unwrap-number.result c.args.outside.reason c.requires.scope.0 says c.requires.outlines
    c.requires.outside (sym c.token_of_node.ensures ∙ c.unwrap-number.ensures) in
    (f, node, c.unwrap-number.result, says, first, at, c.place.ensures)
