use Rattle.std.proofs.Common.{refl, sym, true≢false, ◌∙◌}
use Rattle.rd_ecl.specs.Formulas.{tree_of}
use Rattle.rd_formulas.proofs.SayingLemmas.{unnamed_says}
use Rattle.rd_formulas.proofs.expansion.expand.Goals as goal
use Rattle.rd_grammar.specs.Grammar.{parsed_tree}

pub returns-then-ne : goal.returns-then-ne
returns-then-ne c =
    record {
      says = unnamed_says c.args.scope.now (parsed_tree c.args.parsed.now) (tree_of c.args.outline)
          (λ named. true≢false (sym c.if-ne.true ∙ c.ne.ensures ∙ rw named refl)) c.requires.ready.1 c.requires.outlines;
    }
