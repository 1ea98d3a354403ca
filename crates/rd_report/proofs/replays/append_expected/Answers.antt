use Rattle.std.proofs.Common.{◌+◌, decimal, subst, sym}
use Rattle.std.proofs.lemmas.Result.{on_ok_weaker}
use Rattle.rd_report.specs.Texts.{expected_text}
use Rattle.rd_report.specs.Writing.{ArePlain}
use Rattle.rd_report.proofs.PlainLemmas.{argument_words, value_words}
use Rattle.rd_report.proofs.replays.append_expected.Goals as goal

pub returns-in_ok-append-in-Value-clause-plain : goal.returns-in_ok-append-in-Value-clause-plain
returns-in_ok-append-in-Value-clause-plain c =
    on_ok_weaker c.append_value.result
    (λ _. subst (λ e. ArePlain (expected_text e)) (sym c.in-Value.is) (value_words c.in-Value.value c.append_value.ensures.range)) c.append_value.ensures.ok

pub returns-in_ok-append-in-BadArgument-clause-plain : goal.returns-in_ok-append-in-BadArgument-clause-plain
returns-in_ok-append-in-BadArgument-clause-plain c =
    on_ok_weaker c.append_decimal.result
    (λ _. subst (λ e. ArePlain (expected_text e)) (sym c.in-BadArgument.is) (argument_words c.in-BadArgument.argument
    (subst (λ n. ArePlain (decimal (n + 1))) c.from.ensures c.append_decimal.ensures.plain))) c.append_decimal.ensures.text
