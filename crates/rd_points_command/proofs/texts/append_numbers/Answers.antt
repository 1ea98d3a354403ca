use Rattle.std.proofs.Common.{get_or}
use Rattle.std.proofs.lemmas.List.{get_or_default}
use Rattle.rd_print.proofs.JoinLemmas.{element_more}
use Rattle.rd_points_command.specs.PointTexts.{number_text}
use Rattle.rd_points_command.proofs.texts.append_numbers.Goals as goal

pub loop-number-preserved : goal.loop-number-preserved
loop-number-preserved c =
    let numbers = c.args.numbers.now in
    let i = c.loop-number.number-index in
    let number = get_or numbers i 0 in
    element_more number_text _ c.loop-number.text c.append_listed.new.text numbers i number c.loop-number-test.true
    (get_or_default numbers i 0 number c.loop-number-test.true) c.loop-number.invariant c.in_ok-append_listed.ensures
