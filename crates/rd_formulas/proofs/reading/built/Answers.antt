use Rattle.std.proofs.Common.{arith, refl, rules, tests}
use Rattle.rd_ecl.specs.Formulas.{tree_of}
use Rattle.rd_formulas.specs.Scope.{MeansAt}
use Rattle.rd_formulas.proofs.ReadingLemmas.{few_nodes, is_formula}
use Rattle.rd_formulas.proofs.reading.built.Goals as goal
use Rattle.rd_grammar.specs.Grammar.{parsed_tree}

pub place_outside-requires : goal.place_outside-requires
place_outside-requires c =
    let few = few_nodes (MeansAt c.args.scope.now) (parsed_tree c.args.parsed.now) (tree_of c.in_ok-formula.formula) c.in_ok-formula.ensures c.requires.few in
    omega (arith, few)

pub returns-in-None-clause-formula : goal.returns-in-None-clause-formula
returns-in-None-clause-formula c =
    is_formula c.args.scope.now (parsed_tree c.args.parsed.now) (tree_of c.in_ok-formula.formula) c.in_ok-formula.ensures (c.in-None.ensures.fragment.0 refl)
    c.requires.few

pub returns-in-Some-clause-formula : goal.returns-in-Some-clause-formula
returns-in-Some-clause-formula c = search (tests, rules)
