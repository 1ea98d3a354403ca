use Rattle.std.proofs.Common.{◌≡◌, ◌∙◌, Err, ap, subst, sym}
use Rattle.std.proofs.lemmas.Option.{same_Some}
use Rattle.rd_spec_command.specs.Meanings.{ReadsSpec}
use Rattle.rd_walk.specs.Output.{ended_status}
use Rattle.rd_spec_command.proofs.SpecLemmas.{spec_accepted, spec_told}
use Rattle.rd_spec_command.proofs.StatusLemmas.{clean_is_spec, unread_told_faults, written_told_faults}
use Rattle.rd_spec_command.proofs.specifications.report_file.Goals as goal

pub returns-in-Ok-clause-runs : goal.returns-in-Ok-clause-runs
returns-in-Ok-clause-runs g c = λ limits steps old told few few_opens.
    let (new, now, leaves) = c.in-Ok.ensures.leaves old told in
    let (other, now_too, reads) = c.in-Ok.ensures.said old told in
    let (bytes, read, says) = reads few_opens in
    let (part, writes, output) = c.accept.ensures.output in
    let same : other ≡ new = same_Some other new (sym now_too ∙ now) in (
      new,
      part,
      now,
      writes,
      spec_accepted (g.R.SpecReport.text c.args.report.now) c.args.file.now limits (g.I.Inputs.faults c.args.inputs.now) (g.I.Inputs.faults c.read_spec.new.inputs) old new part (ended_status c.accept.result) steps few
          (leaves few_opens) (c.in-Ok.ensures.calm (λ e. let is = c.in-Ok.is in cc)) bytes c.in-Ok.said
          (subst (λ source. ReadsSpec c.args.file.now old source bytes) same read) says output,
    )

pub returns-in-Err-clause-runs : goal.returns-in-Err-clause-runs
returns-in-Err-clause-runs g c = λ limits steps old told few few_opens.
    let (new, now, leaves) = c.in-Err.ensures.leaves old told in
    let (part, writes, tells) = c.refuse_unread.ensures.output in (
      new,
      part,
      now,
      writes,
      spec_told (g.R.SpecReport.text c.args.report.now) c.args.file.now limits (g.I.Inputs.faults c.args.inputs.now) (g.I.Inputs.faults c.read_spec.new.inputs) old new part (ended_status c.refuse_unread.result) steps few
          (leaves few_opens) c.in-Err.unread tells
          (λ e. c.read_spec.ensures.fault (c.in-Err.is ∙ ap Err e))
          (λ other. c.read_spec.ensures.calm (λ e. other (let is = c.in-Err.is in cc)))
          (λ refused e.
          let (source, now_too, reads) = c.in-Err.ensures.refused refused e old told in
          let (bytes, read, refuses) = reads few_opens in
          let same : source ≡ new = same_Some source new (sym now_too ∙ now) in
          (bytes, subst (λ source. ReadsSpec c.args.file.now old source bytes) same read, refuses)),
    )

pub returns-in-Ok-clause-ends : goal.returns-in-Ok-clause-ends
returns-in-Ok-clause-ends g c = clean_is_spec c.accept.result c.accept.ensures.clean

pub returns-in-Ok-clause-faults : goal.returns-in-Ok-clause-faults
returns-in-Ok-clause-faults g c = written_told_faults c.accept.result _ _ _ _ _ _ c.accept.ensures.clean (c.in-Ok.ensures.calm (λ e. let is = c.in-Ok.is in cc)) c.accept.ensures.fault

pub returns-in-Err-clause-faults : goal.returns-in-Err-clause-faults
returns-in-Err-clause-faults g c = unread_told_faults c.refuse_unread.result c.in-Err.unread _ _ _ _ _ _ c.refuse_unread.ensures.input
    (λ e. c.read_spec.ensures.fault (c.in-Err.is ∙ ap Err e))
    (λ other. c.read_spec.ensures.calm (λ e. other (let is = c.in-Err.is in cc)))
    c.refuse_unread.ensures.fault
