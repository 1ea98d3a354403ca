use Rattle.std.proofs.Common.{◌≡◌, ap, refl}
use Rattle.rd_event.specs.Items.{lines_text}
use Rattle.rd_gen.specs.Generated.{generated}
use Rattle.rd_gen_command.specs.GeneratedTexts.{gen_text_outcome}
use Rattle.rd_walk.proofs.OutputLemmas.{report_cut}
use Rattle.rd_gen_command.proofs.texts.write_text.Goals as goal

pub returns-clause-output : goal.returns-clause-output
returns-clause-output g c =
    let is : c.new-generator.result.lines ≡ generated c.args.number c.args.count = ap (λ v. v.lines) c.new-generator.ensures in
    (lines_text (generated c.args.number c.args.count), rw is at c.in_ok-write_rest.ensures.ok, (refl, refl))

pub returns-in_err-write_rest-clause-output : goal.returns-in_err-write_rest-clause-output
returns-in_err-write_rest-clause-output g c =
    let is : c.new-generator.result.lines ≡ generated c.args.number c.args.count = ap (λ v. v.lines) c.new-generator.ensures in
    let (part, rest, whole, writes) = rw is at c.in_err-write_rest.ensures.front in
    (part, writes, report_cut c.from_residual.result _ c.from_residual.ensures part rest (gen_text_outcome c.args.number c.args.count) whole)
