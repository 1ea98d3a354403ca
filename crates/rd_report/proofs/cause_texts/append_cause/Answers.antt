use Rattle.std.proofs.Common.{◌≡◌, ◌++◌, codes, subst, sym, refl}
use Rattle.std.specs.Prelude.{OnOk}
use Rattle.std.proofs.lemmas.Result.{on_ok_weaker}
use Rattle.rd_wf.specs.Roster.{names_in}
use Rattle.rd_report.specs.Texts.{cause_text}
use Rattle.rd_report.specs.Writing.{ArePlain}
use Rattle.rd_report.proofs.PlainLemmas.{written_plain}
use Rattle.rd_report.proofs.cause_texts.append_cause.Goals as goal

pub returns-in-Limit-clause-plain : goal.returns-in-Limit-clause-plain
unfolding cause_text
returns-in-Limit-clause-plain c =
    on_ok_weaker c.append_passed.result
    (λ _. subst (λ cause. ArePlain (cause_text (names_in c.args.names.now) cause)) (sym c.in-Limit.is) c.append_passed.ensures.plain) c.append_passed.ensures.text

pub returns-in-BadLine-clause-text : goal.returns-in-BadLine-clause-text
unfolding cause_text
returns-in-BadLine-clause-text c =
    subst (λ cause. OnOk c.append.result (c.append.new.self ≡ c.args.text.now ++ cause_text (names_in c.args.names.now) cause)) (sym c.in-BadLine.is) c.append.ensures.ok

pub returns-in-BadLine-clause-plain : goal.returns-in-BadLine-clause-plain
unfolding cause_text
returns-in-BadLine-clause-plain c =
    on_ok_weaker c.append.result
    (λ _. subst (λ cause. ArePlain (cause_text (names_in c.args.names.now) cause)) (sym c.in-BadLine.is) (written_plain (codes "bad-line") refl)) c.append.ensures.ok

pub returns-in-NoFinalNewline-clause-text : goal.returns-in-NoFinalNewline-clause-text
unfolding cause_text
returns-in-NoFinalNewline-clause-text c =
    subst (λ cause. OnOk c.append-in-NoFinalNewline.result (c.append-in-NoFinalNewline.new.self ≡ c.args.text.now ++ cause_text (names_in c.args.names.now) cause)) (sym c.in-NoFinalNewline.is) c.append-in-NoFinalNewline.ensures.ok

pub returns-in-NoFinalNewline-clause-plain : goal.returns-in-NoFinalNewline-clause-plain
unfolding cause_text
returns-in-NoFinalNewline-clause-plain c =
    on_ok_weaker c.append-in-NoFinalNewline.result
    (λ _. subst (λ cause. ArePlain (cause_text (names_in c.args.names.now) cause)) (sym c.in-NoFinalNewline.is) (written_plain (codes "no-final-newline") refl)) c.append-in-NoFinalNewline.ensures.ok
