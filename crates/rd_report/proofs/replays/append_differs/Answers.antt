use Rattle.std.proofs.Common.{◌≡◌, ◌++◌, codes, decimal, refl}
use Rattle.std.proofs.lemmas.Result.{on_ok_weaker}
use Rattle.rd_report.specs.Texts.{expected_text}
use Rattle.rd_report.proofs.PlainLemmas.{numbered_plain, numbered_text}
use Rattle.rd_report.proofs.replays.append_differs.Goals as goal

pub returns-clause-text : goal.returns-clause-text
returns-clause-text c =
    on_ok_weaker c.append_expected.result
    (λ here.
    let is : c.append_expected.new.text ≡ (((c.args.text.now ++ codes "differs line ") ++ decimal c.args.number) ++ codes " ") ++ expected_text c.args.expected.now =
    cc (here, c.in_ok-append.ensures.ok, c.in_ok-append_decimal.ensures.text, c.in_ok-append-2.ensures.ok) in
    numbered_text c.args.text.now (codes "differs line ") (decimal c.args.number) (expected_text c.args.expected.now) c.append_expected.new.text is)
    c.append_expected.ensures.text

pub returns-clause-plain : goal.returns-clause-plain
returns-clause-plain c =
    on_ok_weaker c.append_expected.result
    (λ plain. numbered_plain (codes "differs line ") (decimal c.args.number) (expected_text c.args.expected.now) refl c.append_decimal.ensures.plain plain)
    c.append_expected.ensures.plain
