use Rattle.rd_formulas.specs.Meaning.{uses_in}
use Rattle.rd_formulas.specs.Scope.{IsUnknownUse}
use Rattle.rd_formulas.proofs.FindingLemmas.{use_both}
use Rattle.rd_formulas.proofs.finding.+first_unknown.Goals as goal
use Rattle.rd_grammar.specs.Grammar.{parsed_tree}

pub returns-in-And : goal.returns-in-And
returns-in-And t c =
    rw (c.in-And.is, c.earlier.ensures)
    (use_both (IsUnknownUse c.args.scope.now) (uses_in (parsed_tree c.in-And.left.value)) (uses_in (parsed_tree c.in-And.right.value)) c.first_unknown-in-And.result
    c.first_unknown-in-And-2.result (rw (← c.deref-in-And.ensures) c.first_unknown-in-And.ensures) (rw (← c.deref-in-And-2.ensures) c.first_unknown-in-And-2.ensures))

pub returns-in-Or : goal.returns-in-Or
returns-in-Or t c =
    rw (c.in-Or.is, c.earlier-in-Or.ensures)
    (use_both (IsUnknownUse c.args.scope.now) (uses_in (parsed_tree c.in-Or.left.value)) (uses_in (parsed_tree c.in-Or.right.value)) c.first_unknown-in-Or.result
    c.first_unknown-in-Or-2.result (rw (← c.deref-in-Or.ensures) c.first_unknown-in-Or.ensures) (rw (← c.deref-in-Or-2.ensures) c.first_unknown-in-Or-2.ensures))
