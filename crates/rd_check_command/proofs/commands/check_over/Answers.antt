use Rattle.std.specs.Prelude.{nat_lt}
use Rattle.std.proofs.Common.{[], refl, ◌∙◌, subst, sym, ap}
use Rattle.rd_io.proofs.SinkLemmas.{appends_none}
use Rattle.rd_ecl.specs.Kinds.{kinds_of}
use Rattle.rd_rules.specs.laws.NoLines.{told_none}
use Rattle.rd_wf.specs.Roster.{kinds_in}
use Rattle.rd_check_command.specs.Checked.{check_texts}
use Rattle.rd_check_command.specs.Replayed.{ReportBegins}
use Rattle.rd_replay_command.specs.Replaying.{BeginWithBuiltIn, recorded_of}
use Rattle.rd_walk.proofs.RanLemmas.{no_fault_told, none_ended}
use Rattle.rd_walk.proofs.TraceLemmas.{reports_without}
use Rattle.rd_walk.specs.Meanings.{Runs, report_meaning}
use Rattle.rd_walk.specs.Output.{IsTraceEnd, ended_status}
use Rattle.rd_check_command.proofs.commands.check_over.Goals as goal

pub returns-in_err-report-clause-reports : goal.returns-in_err-report-clause-reports
returns-in_err-report-clause-reports g c = λ old told few few_opens.
    let wrote = g.S.Sink.written c.args.out.now in
    let spec = c.args.spec.now in (
      old,
      [],
      told,
      appends_none wrote wrote refl,
      reports_without (check_texts c.args.asked.now.form spec) (kinds_of spec) c.args.asked.now.trace.now c.args.limits.now c.from_residual.result c.from_residual.ensures
          (g.I.Inputs.faults c.args.inputs.now) old c.args.steps.now,
    )

pub returns-in_err-report-clause-ends : goal.returns-in_err-report-clause-ends
returns-in_err-report-clause-ends g c = none_ended IsTraceEnd c.from_residual.result c.from_residual.ensures

pub returns-in_err-report-clause-faults : goal.returns-in_err-report-clause-faults
returns-in_err-report-clause-faults g c =
    no_fault_told c.from_residual.result c.from_residual.ensures (g.I.Inputs.faults c.args.inputs.now) (g.S.Sink.faults c.args.out.now) (g.S.Sink.at_fault c.args.out.now) (g.S.Sink.written c.args.out.now)

pub returns-in_err-walker-clause-reports : goal.returns-in_err-walker-clause-reports
returns-in_err-walker-clause-reports g c = λ old told few few_opens.
    let wrote = g.S.Sink.written c.args.out.now in
    let spec = c.args.spec.now in (
      old,
      [],
      told,
      appends_none wrote wrote refl,
      reports_without (check_texts c.args.asked.now.form spec) (kinds_of spec) c.args.asked.now.trace.now c.args.limits.now c.from_residual-in_err-walker.result c.from_residual-in_err-walker.ensures
          (g.I.Inputs.faults c.args.inputs.now) old c.args.steps.now,
    )

pub returns-in_err-walker-clause-ends : goal.returns-in_err-walker-clause-ends
returns-in_err-walker-clause-ends g c = none_ended IsTraceEnd c.from_residual-in_err-walker.result c.from_residual-in_err-walker.ensures

pub returns-in_err-walker-clause-faults : goal.returns-in_err-walker-clause-faults
returns-in_err-walker-clause-faults g c =
    no_fault_told c.from_residual-in_err-walker.result c.from_residual-in_err-walker.ensures (g.I.Inputs.faults c.args.inputs.now) (g.S.Sink.faults c.args.out.now) (g.S.Sink.at_fault c.args.out.now) (g.S.Sink.written c.args.out.now)

pub report_named-ended-requires-clause-begins : goal.report_named-ended-requires-clause-begins
unfolding recorded_of
report_named-ended-requires-clause-begins g c =
    let kinds = c.in_ok-walker.ensures.kinds in
    subst (ReportBegins (kinds_in c.in_ok-walker.walker.roster)) (sym c.in_ok-walker.ensures.analysis) (record {
      checks = record {
        kinds_are = kinds ∙ ap kinds_of (sym c.in_ok-report.ensures.kinds_are);
        new = c.in_ok-report.ensures.new;
      };
      replayed = record {
        numbered = subst BeginWithBuiltIn (sym kinds) c.requires.numbered;
        told = told_none (kinds_in c.in_ok-walker.walker.roster);
        stands = c.in_ok-report.ensures.no_call;
      };
    })

pub returns-clause-reports : goal.returns-clause-reports
returns-clause-reports g c = λ old told few few_opens.
    let (new, part, now, writes, reports) = c.report_named-ended.ensures.reports old told few few_opens in
    let analysis = c.in_ok-walker.ensures.analysis in
    let form = ap (λ a. a.check.form) analysis ∙ c.in_ok-report.ensures.form_is in
    let spec = ap (λ a. a.check.spec.now) analysis ∙ c.in_ok-report.ensures.kinds_are in
    let status = ended_status c.report_named-ended.result in
    let rose = nat_lt (g.I.Inputs.faults c.args.inputs.now) (g.I.Inputs.faults c.report_named-ended.new.inputs) in (
      new,
      part,
      now,
      writes,
      subst (λ (T : Type 0). T) (λ i. Runs (report_meaning (check_texts (form i) (spec i)) (c.in_ok-walker.ensures.kinds i) c.args.asked.now.trace.now) (c.in_ok-walker.ensures.limits i) rose old new part status
          c.args.steps.now c.report_named-ended.new.steps) reports,
    )
