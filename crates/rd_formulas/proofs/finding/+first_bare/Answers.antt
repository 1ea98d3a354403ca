use Rattle.rd_formulas.specs.Meaning.{relations_in}
use Rattle.rd_formulas.specs.Scope.{IsBare}
use Rattle.rd_formulas.proofs.FindingLemmas.{sign_both}
use Rattle.rd_formulas.proofs.finding.+first_bare.Goals as goal
use Rattle.rd_grammar.specs.Grammar.{parsed_tree}

pub returns-in-And : goal.returns-in-And
returns-in-And t c =
    rw (c.in-And.is, c.earlier.ensures)
    (sign_both (IsBare c.args.scope.now) (relations_in (parsed_tree c.in-And.left.value)) (relations_in (parsed_tree c.in-And.right.value)) c.first_bare-in-And.result
    c.first_bare-in-And-2.result (rw (← c.deref-in-And.ensures) c.first_bare-in-And.ensures) (rw (← c.deref-in-And-2.ensures) c.first_bare-in-And-2.ensures))

pub returns-in-Or : goal.returns-in-Or
returns-in-Or t c =
    rw (c.in-Or.is, c.earlier-in-Or.ensures)
    (sign_both (IsBare c.args.scope.now) (relations_in (parsed_tree c.in-Or.left.value)) (relations_in (parsed_tree c.in-Or.right.value)) c.first_bare-in-Or.result
    c.first_bare-in-Or-2.result (rw (← c.deref-in-Or.ensures) c.first_bare-in-Or.ensures) (rw (← c.deref-in-Or-2.ensures) c.first_bare-in-Or-2.ensures))
