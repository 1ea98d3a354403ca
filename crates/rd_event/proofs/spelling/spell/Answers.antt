use Rattle.std.proofs.Common.{◌∙◌, ◌++◌, sym, ap, subst}
use Rattle.rd_event.specs.Items.{Says, line_spelling}
use Rattle.rd_event.specs.Reading.{item_of}
use Rattle.rd_event.proofs.ReadingLemmas.{spelling_says, found_again}
use Rattle.rd_event.proofs.spelling.spell.Goals as goal

pub returns-clause-says : goal.returns-clause-says
returns-clause-says c = λ version has.
    subst (λ text. Says version text c.args.line.now)
    (sym (c.in_ok-append_line.ensures.ok ∙ ap (λ text. text ++ line_spelling c.args.line.now) c.new-text.ensures))
    (spelling_says version c.args.line.now has)

pub returns-clause-again : goal.returns-clause-again
returns-clause-again c = λ version has.
    ap (item_of version) (c.in_ok-append_line.ensures.ok ∙ ap (λ text. text ++ line_spelling c.args.line.now) c.new-text.ensures)
    ∙ found_again version c.args.line.now c.in_ok-append_line.ensures.range has
