use Rattle.std.proofs.Common.{◌++◌, ◌∙◌}
use Rattle.rd_base.specs.Bytes.{IsFront}
use Rattle.rd_print.specs.Text.{words_text}
use Rattle.rd_print.proofs.TextJoinLemmas.{front_of_text, on_err}
use Rattle.rd_print.proofs.texts.text.append_text.Goals as goal

pub returns-in_err-append-clause-err : goal.returns-in_err-append-clause-err
returns-in_err-append-clause-err c =
    on_err c.from_residual-in_err-append.result (IsFront c.append.new.self (c.args.text.now ++ words_text c.args.words.now))
    (front_of_text (c.args.text.now ++ words_text c.args.words.now) c.loop-word.text c.append.new.self c.loop-word.before c.args.words.now c.word-item.result
    c.loop-word.word-index c.loop-word-test.true c.word-item.is c.loop-word.invariant (c.in_err-append.ensures.err ∙ c.in_ok-append_gap.ensures.ok))
