use Rattle.std.proofs.Common.{sym, subst, All}
use Rattle.rd_event.specs.Items.{IsSpellable}
use Rattle.rd_logs.specs.WholeLogs.{log_texts}
use Rattle.rd_weave_command.proofs.SpelledLemmas.{all_spelled}
use Rattle.rd_weave_command.proofs.answering.write_answer.Goals as goal

pub write_woven-requires : goal.write_woven-requires
write_woven-requires g c =
    subst (All IsSpellable) (sym c.items.ensures) (all_spelled (log_texts c.args.logs.now) c.in-Ok.weaving.lines c.in-Ok.ensures.woven)
