use Rattle.std.proofs.Common.{◌++◌, ◌∙◌, ap, subst, sym}
use Rattle.std.proofs.lemmas.Result.{on_ok_weaker}
use Rattle.rd_report.specs.Texts.{replay_words}
use Rattle.rd_report.specs.Writing.{ArePlain}
use Rattle.rd_report.proofs.replays.append_replay_words.Goals as goal

pub returns-in-Differs-clause-plain : goal.returns-in-Differs-clause-plain
unfolding replay_words
returns-in-Differs-clause-plain c =
    on_ok_weaker c.append_differs.result (λ plain. subst (λ e. ArePlain (replay_words e)) (sym c.in-Differs.is) plain) c.append_differs.ensures.plain

pub returns-in-NotShipped-clause-text : goal.returns-in-NotShipped-clause-text
unfolding replay_words
returns-in-NotShipped-clause-text c =
    on_ok_weaker c.append-in-NotShipped.result (λ is. is ∙ ap (λ e. c.args.text.now ++ replay_words e) (sym c.in-NotShipped.is)) c.append-in-NotShipped.ensures.ok
