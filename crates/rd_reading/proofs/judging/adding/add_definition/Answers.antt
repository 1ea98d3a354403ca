use Rattle.std.proofs.Common.{ap}
use Rattle.rd_reading.specs.Adding.{with_open}
use Rattle.rd_open_kind.specs.Opened.{Opened}
use Rattle.rd_lines.specs.declared.forms.Stage.TheVariants.{Definitions}
use Rattle.rd_ecl.specs.Formulas.{tree_of}
use Rattle.rd_grammar.specs.Grammar.{parsed_tree}
use Rattle.rd_reading.proofs.AddLemmas.{definition_added}
use Rattle.rd_reading.proofs.judging.adding.add_definition.Goals as goal

pub returns-clause-adds : goal.returns-clause-adds
returns-clause-adds c =
    definition_added c.args.known.now c.in-Some.block (cc) c.args.line.now c.args.tokens.now c.args.owner.now c.args.name (parsed_tree c.args.parsed.now)
    c.in_ok-defined.defined.method (tree_of c.in_ok-defined.defined.formula) _ c.in_ok-defined.ensures.says
    (ap (λ (opened : Opened). with_open c.args.known.now opened Definitions) c.in_ok-define.ensures.ok)
