use Rattle.std.proofs.Common.{ap, subst, sym}
use Rattle.rd_reading.specs.Adding.{with_open}
use Rattle.rd_pairs.specs.Causes.{HasNone}
use Rattle.rd_pairs.specs.PairCauses.{PairHas}
use Rattle.rd_open_kind.specs.Opened.{Opened}
use Rattle.rd_reading.specs.Known.{stage_of}
use Rattle.rd_lines.specs.declared.forms.Stage.TheVariants.{Pairs}
use Rattle.rd_lines.specs.Lines.{IsCommuteLine, words_of}
use Rattle.rd_ecl.specs.Formulas.{tree_of}
use Rattle.rd_ecl.specs.Specified.{names_of}
use Rattle.rd_grammar.specs.Grammar.{parsed_tree}
use Rattle.rd_reading.proofs.AddLemmas.{open_kind, pair_added}
use Rattle.rd_reading.proofs.judging.adding.add_pair.Goals as goal

pub returns-clause-adds : goal.returns-clause-adds
returns-clause-adds c =
    pair_added c.args.known.now c.in-Some.block (cc) c.args.version c.args.line.now c.args.tokens.now c.args.names.0.now c.args.names.1.now
    (parsed_tree c.args.parsed.now) c.in_ok-pair.pair.first c.in_ok-pair.pair.second (tree_of c.in_ok-pair.pair.formula) _ c.in_ok-pair.ensures.says
    (ap (λ (opened : Opened). with_open c.args.known.now opened Pairs) c.pair.ensures.value)

pub judge_pair-requires-clause-right : goal.judge_pair-requires-clause-right
judge_pair-requires-clause-right c = (
  stage_of c.args.known.now,
  subst (λ (opened : Opened). IsCommuteLine c.args.version (stage_of c.args.known.now) (names_of opened.kind.methods) (words_of c.args.line.now c.args.tokens.now)
      c.args.names.0.now c.args.names.1.now (parsed_tree c.args.parsed.now)) (open_kind c.args.known.now c.in-Some.block (cc)) c.requires.right,
)

pub returns-clause-clean : goal.returns-clause-clean
returns-clause-clean c =
    subst (λ (opened : Opened). HasNone (PairHas c.args.version opened c.args.line.now c.args.tokens.now c.args.names.0.now c.args.names.1.now
    (parsed_tree c.args.parsed.now))) (sym (open_kind c.args.known.now c.in-Some.block (cc))) c.in_ok-pair.ensures.clean
