use Rattle.std.proofs.Common.{arith}
use Rattle.std.proofs.lemmas.Result.{on_ok_weaker}
use Rattle.std.proofs.lemmas.Grind.{common_steps}
use Rattle.rd_event.proofs.SpellLemmas.{slots_appended}
use Rattle.rd_event.proofs.spelling.append_slots.Goals as goal

pub returns-clause-ok : goal.returns-clause-ok
returns-clause-ok c =
    on_ok_weaker c.append_value-2.result
    (slots_appended c.args.text.now c.loop-argument.text c.append.new.self c.append_value-2.new.text c.args.slots.now c.last-item.result
    c.loop-argument.argument-index c.in-len1-up.len_at_least c.last-item.is c.loop-argument-test.false c.loop-argument.invariant.text
    c.in_ok-append.ensures.ok)
    c.append_value-2.ensures.ok

pub returns-in_default-clause-ok : goal.returns-in_default-clause-ok
returns-in_default-clause-ok c = grind (arith, common_steps)

pub returns-clause-values : goal.returns-clause-values
returns-clause-values c = grind (arith, common_steps)
