use Rattle.std.proofs.Common.{[], refl, ◌≢◌, ◌^◌, ◌<◌, length, subst, sym, ap, ◌∙◌, arith, true≢false}
use Rattle.std.specs.Prelude.{AllPairs, nat_lt, None}
use Rattle.std.proofs.lemmas.List.{append-nil}
use Rattle.rd_io.proofs.SinkLemmas.{appends_none}
use Rattle.rd_ecl.specs.Kinds.{kind_names, kinds_of}
use Rattle.rd_kinds.specs.Shipped.{shipped_kinds}
use Rattle.rd_kinds.proofs.NameLemmas.{listed_differ}
use Rattle.rd_check_command.specs.Checked.{check_texts}
use Rattle.rd_check_command.specs.Meanings.{check_meaning}
use Rattle.rd_check_command.proofs.CombinedLemmas.{runs_shipped}
use Rattle.rd_check_command.proofs.WholeLemmas.{whole_check}
use Rattle.rd_replay_command.specs.States.{built_in_kinds}
use Rattle.rd_walk.proofs.RanLemmas.{no_fault_told, none_ended, ran_over}
use Rattle.rd_walk.proofs.StatusLemmas.{status_ends}
use Rattle.rd_walk.proofs.TraceLemmas.{reports_without}
use Rattle.rd_walk.specs.Meanings.{Runs, report_meaning, seen}
use Rattle.rd_walk.specs.Output.{IsTraceEnd, ended_status}
use Rattle.rd_check_command.proofs.commands.check_shipped.Goals as goal

pub check_over-requires-clause-few : goal.check_over-requires-clause-few
check_over-requires-clause-few g c = subst (λ kinds. length kinds < 2 ^ 32) (sym c.in_ok-spec.ensures) (omega arith)

pub check_over-requires-clause-different : goal.check_over-requires-clause-different
check_over-requires-clause-different g c = subst (λ kinds. AllPairs (λ x y. x ≢ y) (kind_names (kinds_of kinds))) (sym c.in_ok-spec.ensures) listed_differ

pub check_over-requires-clause-numbered : goal.check_over-requires-clause-numbered
check_over-requires-clause-numbered g c = ([], ap kinds_of (c.in_ok-spec.ensures ∙ sym (append-nil shipped_kinds)))

pub returns-in_err-spec : goal.returns-in_err-spec
returns-in_err-spec g c =
    let form = c.args.asked.now.form in
    let trace = c.args.asked.now.trace.now in
    let before = seen g.I.Inputs.told g.I.Inputs.faults c.args.inputs.now g.S.Sink.written g.S.Sink.faults g.S.Sink.at_fault c.args.out.now c.args.steps.now in
    let result = c.from_residual.result in
    ran_over (check_meaning form trace None) trace [] c.args.limits.now before before result refl
    (λ old told few few_opens. (
      old,
      [],
      told,
      appends_none before.written before.written refl,
      runs_shipped form trace c.args.limits.now (nat_lt before.input_faults before.input_faults) old old [] (ended_status result) before.steps before.steps
          (reports_without (check_texts form shipped_kinds) built_in_kinds trace c.args.limits.now result c.from_residual.ensures before.input_faults old before.steps),
    ))
    (λ old new part has other. whole_check form trace None c.args.limits.now old new part (ended_status result) c.requires (omega arith) has other)
    (no_fault_told result c.from_residual.ensures before.input_faults before.output_faults before.at_fault before.written) (λ e. absurd (true≢false e))
    (status_ends IsTraceEnd result (none_ended IsTraceEnd result c.from_residual.ensures))

pub returns : goal.returns
returns g c =
    let form = c.args.asked.now.form in
    let trace = c.args.asked.now.trace.now in
    let before = seen g.I.Inputs.told g.I.Inputs.faults c.args.inputs.now g.S.Sink.written g.S.Sink.faults g.S.Sink.at_fault c.args.out.now c.args.steps.now in
    let after = seen g.I.Inputs.told g.I.Inputs.faults c.check_over.new.inputs g.S.Sink.written g.S.Sink.faults g.S.Sink.at_fault c.check_over.new.out c.check_over.new.steps in
    let result = c.check_over.result in
    ran_over (check_meaning form trace None) trace [] c.args.limits.now before after result refl
    (λ old told few few_opens.
    let (new, part, now, writes, reports) = c.check_over.ensures.reports old told few (omega (arith, few_opens)) in
    let rose = nat_lt before.input_faults after.input_faults in (
      new,
      part,
      now,
      writes,
      runs_shipped form trace c.args.limits.now rose old new part (ended_status result) before.steps after.steps
          (subst (λ kinds. Runs (report_meaning (check_texts form kinds) (kinds_of kinds) trace) c.args.limits.now rose old new part (ended_status result) before.steps after.steps) c.in_ok-spec.ensures reports),
    ))
    (λ old new part has other. whole_check form trace None c.args.limits.now old new part (ended_status result) c.requires (omega arith) has other)
    c.check_over.ensures.faults (λ e. absurd (true≢false e)) (status_ends IsTraceEnd result c.check_over.ensures.ends)
