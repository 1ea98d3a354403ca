use Rattle.std.proofs.Common.{◌≡◌, ◌++◌, codes, decimal, refl}
use Rattle.std.proofs.lemmas.Result.{on_ok_weaker}
use Rattle.rd_wf.specs.Roster.{names_in}
use Rattle.rd_report.specs.Texts.{cause_text}
use Rattle.rd_report.proofs.PlainLemmas.{numbered_plain, numbered_text}
use Rattle.rd_report.proofs.cause_texts.append_refused_words.Goals as goal

pub returns-clause-text : goal.returns-clause-text
returns-clause-text c =
    let cause = cause_text (names_in c.args.names.now) c.args.cause in
    on_ok_weaker c.append_cause.result
    (λ here.
    let is : c.append_cause.new.text ≡ (((c.args.text.now ++ codes "refused line ") ++ decimal c.args.number) ++ codes " ") ++ cause =
    cc (here, c.in_ok-append.ensures.ok, c.in_ok-append_decimal.ensures.text, c.in_ok-append-2.ensures.ok) in
    numbered_text c.args.text.now (codes "refused line ") (decimal c.args.number) cause c.append_cause.new.text is)
    c.append_cause.ensures.text

pub returns-clause-plain : goal.returns-clause-plain
returns-clause-plain c =
    on_ok_weaker c.append_cause.result
    (λ plain. numbered_plain (codes "refused line ") (decimal c.args.number) (cause_text (names_in c.args.names.now) c.args.cause) refl c.append_decimal.ensures.plain plain)
    c.append_cause.ensures.plain
