use Rattle.std.proofs.Common.{[], ◌∷◌, ◌++◌, refl, ◌≡◌, ◌≢◌, ◌^◌, ◌<◌, Err, length, subst, sym, ap, ◌∙◌, inl, inr, arith, true≢false}
use Rattle.std.specs.Prelude.{AllPairs, nat_lt, Some}
use Rattle.std.proofs.lemmas.Option.{same_Some}
use Rattle.rd_io.proofs.SinkLemmas.{appends_none}
use Rattle.rd_ecl.specs.Kinds.{kind_names, kinds_of}
use Rattle.rd_kinds.specs.Shipped.{shipped_kinds}
use Rattle.rd_check_command.specs.Checked.{check_texts}
use Rattle.rd_check_command.specs.Meanings.{check_meaning}
use Rattle.rd_spec_command.specs.Meanings.{ReadsSpec}
use Rattle.rd_spec_command.proofs.StatusLemmas.{unread_told_faults}
use Rattle.rd_walk.proofs.RanLemmas.{ran_over}
use Rattle.rd_walk.proofs.StatusLemmas.{status_ends}
use Rattle.rd_walk.specs.Analysis.{TellsFaults}
use Rattle.rd_walk.specs.Meanings.{Runs, report_meaning, seen}
use Rattle.rd_walk.specs.Output.{IsSpecEnd, IsTraceEnd, ended_status}
use Rattle.rd_walk.specs.declared.analysis.Halt.TheVariants as halt
use Rattle.rd_walk.specs.declared.status.Ended.TheVariants.{InputFault}
use Rattle.rd_check_command.proofs.CombinedLemmas.{runs_said, unread_told, unread_without}
use Rattle.rd_check_command.proofs.KindLemmas.{all_differ, few_kinds}
use Rattle.rd_check_command.proofs.WholeLemmas.{whole_check}
use Rattle.rd_check_command.proofs.commands.check_with.Goals as goal

pub returns-in-Err : goal.returns-in-Err
returns-in-Err g c =
    let form = c.args.asked.now.form in
    let trace = c.args.asked.now.trace.now in
    let file = c.args.file.now in
    let before = seen g.I.Inputs.told g.I.Inputs.faults c.args.inputs.now g.S.Sink.written g.S.Sink.faults g.S.Sink.at_fault c.args.out.now c.args.steps.now in
    let after = seen g.I.Inputs.told g.I.Inputs.faults c.read_spec.new.inputs g.S.Sink.written g.S.Sink.faults g.S.Sink.at_fault c.refuse_unread.new.out c.args.steps.now in
    let result = c.refuse_unread.result in
    ran_over (check_meaning form trace (Some file)) file (trace ∷ []) c.args.limits.now before after result refl
    (λ old told few few_opens.
    let (new, now, leaves) = c.in-Err.ensures.leaves old told in
    let (part, writes, tells) = c.refuse_unread.ensures.output in (
      new,
      part,
      now,
      writes,
      unread_told form trace file c.args.limits.now before.input_faults after.input_faults old new part (ended_status result) before.steps few (leaves few_opens) c.in-Err.unread tells
          (λ e. c.read_spec.ensures.fault (c.in-Err.is ∙ ap Err e))
          (λ other. c.read_spec.ensures.calm (λ e. other (let is = c.in-Err.is in cc)))
          (λ refused e.
          let (source, now_too, reads) = c.in-Err.ensures.refused refused e old told in
          let (bytes, read, refuses) = reads few_opens in
          let same : source ≡ new = same_Some source new (sym now_too ∙ now) in
          (bytes, subst (λ source. ReadsSpec file old source bytes) same read, refuses)),
    ))
    (λ old new part has other. whole_check form trace (Some file) c.args.limits.now old new part (ended_status result) c.requires (omega arith) has other)
    (unread_told_faults result c.in-Err.unread before.input_faults after.input_faults before.output_faults after.output_faults after.at_fault after.written c.refuse_unread.ensures.input
    (λ e. c.read_spec.ensures.fault (c.in-Err.is ∙ ap Err e))
    (λ other. c.read_spec.ensures.calm (λ e. other (let is = c.in-Err.is in cc)))
    c.refuse_unread.ensures.fault)
    (λ e. absurd (true≢false e)) (λ other. inr (status_ends IsSpecEnd result c.refuse_unread.ensures.ends other))

pub check_over-requires-clause-few : goal.check_over-requires-clause-few
check_over-requires-clause-few g c = subst (λ kinds. length kinds < 2 ^ 32) (sym c.in-Ok-with_shipped.ensures) (few_kinds c.in-Ok.said c.in-Ok.ensures.names)

pub check_over-requires-clause-different : goal.check_over-requires-clause-different
check_over-requires-clause-different g c =
    subst (λ kinds. AllPairs (λ x y. x ≢ y) (kind_names (kinds_of kinds))) (sym c.in-Ok-with_shipped.ensures) (all_differ c.in-Ok.said c.in-Ok.ensures.names)

pub check_over-requires-clause-numbered : goal.check_over-requires-clause-numbered
check_over-requires-clause-numbered g c = (c.in-Ok.said, ap kinds_of c.in-Ok-with_shipped.ensures)

pub returns-in-Ok-with_shipped : goal.returns-in-Ok-with_shipped
returns-in-Ok-with_shipped g c =
    let form = c.args.asked.now.form in
    let trace = c.args.asked.now.trace.now in
    let file = c.args.file.now in
    let kinds = shipped_kinds ++ c.in-Ok.said in
    let before = seen g.I.Inputs.told g.I.Inputs.faults c.args.inputs.now g.S.Sink.written g.S.Sink.faults g.S.Sink.at_fault c.args.out.now c.args.steps.now in
    let after = seen g.I.Inputs.told g.I.Inputs.faults c.check_over.new.inputs g.S.Sink.written g.S.Sink.faults g.S.Sink.at_fault c.check_over.new.out c.check_over.new.steps in
    let result = c.check_over.result in
    let calm = c.in-Ok.ensures.calm (λ e. let is = c.in-Ok.is in cc) in
    ran_over (check_meaning form trace (Some file)) file (trace ∷ []) c.args.limits.now before after result refl
    (λ old told few few_opens.
    let (mid, now_mid, leaves) = c.in-Ok.ensures.leaves old told in
    let (other, now_too, reads) = c.in-Ok.ensures.said old told in
    let (bytes, read, says) = reads few_opens in
    let same : other ≡ mid = same_Some other mid (sym now_too ∙ now_mid) in
    let was = subst (λ source. ReadsSpec file old source bytes) same read in
    let (new, part, now, writes, reports) = c.check_over.ensures.reports mid now_mid (subst (λ n. n < 2 ^ 63) (sym calm) few) (omega (arith, was.opens, few_opens)) in (
      new,
      part,
      now,
      writes,
      runs_said form trace file c.args.limits.now (nat_lt before.input_faults after.input_faults) old mid new part (ended_status result) before.steps after.steps
          (leaves few_opens) bytes c.in-Ok.said was says
          (subst (λ faults. Runs (report_meaning (check_texts form kinds) (kinds_of kinds) trace) c.args.limits.now (nat_lt faults after.input_faults) mid new part (ended_status result) before.steps after.steps) calm
          (subst (λ k. Runs (report_meaning (check_texts form k) (kinds_of k) trace) c.args.limits.now (nat_lt (g.I.Inputs.faults c.read_spec.new.inputs) after.input_faults) mid new part (ended_status result) before.steps after.steps)
          c.in-Ok-with_shipped.ensures reports)),
    ))
    (λ old new part has other. whole_check form trace (Some file) c.args.limits.now old new part (ended_status result) c.requires (omega arith) has other)
    (subst (λ faults. TellsFaults InputFault faults after.input_faults before.output_faults after.output_faults after.at_fault after.written result) calm c.check_over.ensures.faults)
    (λ e. absurd (true≢false e)) (λ other. inl (status_ends IsTraceEnd result c.check_over.ensures.ends other))

pub returns-in-Err-with_shipped : goal.returns-in-Err-with_shipped
returns-in-Err-with_shipped g c =
    let form = c.args.asked.now.form in
    let trace = c.args.asked.now.trace.now in
    let file = c.args.file.now in
    let before = seen g.I.Inputs.told g.I.Inputs.faults c.args.inputs.now g.S.Sink.written g.S.Sink.faults g.S.Sink.at_fault c.args.out.now c.args.steps.now in
    let after = seen g.I.Inputs.told g.I.Inputs.faults c.read_spec.new.inputs g.S.Sink.written g.S.Sink.faults g.S.Sink.at_fault c.args.out.now c.args.steps.now in
    let calm = c.in-Ok.ensures.calm (λ e. let is = c.in-Ok.is in cc) in
    ran_over (check_meaning form trace (Some file)) file (trace ∷ []) c.args.limits.now before after (Err halt.NoMemory) refl
    (λ old told few few_opens.
    let (new, now, leaves) = c.in-Ok.ensures.leaves old told in (
      new,
      [],
      now,
      appends_none before.written before.written refl,
      unread_without form trace file c.args.limits.now before.input_faults after.input_faults old new [] (ended_status (Err halt.NoMemory)) before.steps few (leaves few_opens) refl refl,
    ))
    (λ old new part has other. whole_check form trace (Some file) c.args.limits.now old new part (ended_status (Err halt.NoMemory)) c.requires (omega arith) has other)
    (record { input = λ e. cc; calm = tt; output = refl }) (λ e. absurd (true≢false e)) (λ other. inl (inl refl))
