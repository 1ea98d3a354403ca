use Rattle.std.proofs.Common.{◌∙◌, ap, arith, sym}
use Rattle.std.proofs.lemmas.Grind.{common_steps}
use Rattle.rd_run.proofs.RunLemmas.{four_words}
use Rattle.rd_run.specs.Commands.{other_command}
use Rattle.rd_run.proofs.commands.other_command.Goals as goal

pub returns-in-len2-clause-asked : goal.returns-in-len2-clause-asked
returns-in-len2-clause-asked c = grind (arith, common_steps)

pub returns-in-len3-clause-asked : goal.returns-in-len3-clause-asked
returns-in-len3-clause-asked c = grind (arith, common_steps)

pub returns-in-len4-clause-asked : goal.returns-in-len4-clause-asked
returns-in-len4-clause-asked c =
    let words = four_words c.args.words.now c.word-item-then-words-lt5.result c.first-item-then-words-lt5.result c.second-item-then-words-lt5.result c.in-len4.len_at_least c.in-len4.len_below
    c.word-item-then-words-lt5.is c.first-item-then-words-lt5.is c.second-item-then-words-lt5.is in
    c.command_of_four.ensures.asked words.0 ∙ ap other_command (sym words.1)
