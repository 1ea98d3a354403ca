use Rattle.std.proofs.Common.{◌∙◌, [], refl, subst, sym, arith}
use Rattle.rd_io.proofs.SinkLemmas.{appends_none}
use Rattle.rd_wf.specs.Roster.{kinds_in}
use Rattle.rd_walk.specs.Output.{ended_status, unopened_outcome}
use Rattle.rd_walk.specs.Traces.{HasReported, ReportTexts, texts_of}
use Rattle.rd_walk.proofs.OutputLemmas.{report_cut}
use Rattle.rd_walk.proofs.TraceLemmas.{reports_opened, reports_unopened, reports_without}
use Rattle.rd_walk.proofs.reporting.report_named.Goals as goal

pub returns-in_err-reader-clause-reports : goal.returns-in_err-reader-clause-reports
returns-in_err-reader-clause-reports g c = λ old told few few_opens.
    let wrote = g.S.Sink.written c.args.out.now in
    let faults = g.I.Inputs.faults c.args.inputs.now in
    let kinds = kinds_in c.args.walker.now.roster in
    let texts : ReportTexts = texts_of g.G.Grammar.says g.A.Analysis.text g.A.Report.outcome g.A.Analysis.bound g.A.Report.unopened kinds c.args.walker.now.analysis in (
      old,
      [],
      told,
      appends_none wrote wrote refl,
      reports_without texts kinds c.args.trace.now c.args.walker.now.limits c.from_residual.result c.from_residual.ensures faults old c.args.steps.now,
    )

pub returns-in_default-clause-reports : goal.returns-in_default-clause-reports
returns-in_default-clause-reports g c = λ old told few few_opens.
    let (new, now, opened) = c.in_default.ensures.told old told in
    let kinds = kinds_in c.args.walker.now.roster in (
      new,
      _,
      now,
      c.in_ok-write_line.ensures.ok,
      reports_unopened (texts_of g.G.Grammar.says g.A.Analysis.text g.A.Report.outcome g.A.Analysis.bound g.A.Report.unopened kinds c.args.walker.now.analysis) kinds c.args.trace.now c.args.walker.now.limits (g.I.Inputs.faults c.args.inputs.now)
          (g.I.Inputs.faults c.open.new.self) old new _ _ c.args.steps.now few c.in_default.ensures.cause.failed opened (c.unopened_text.ensures, refl),
    )

pub returns-in_err-write_line-clause-reports : goal.returns-in_err-write_line-clause-reports
returns-in_err-write_line-clause-reports g c = λ old told few few_opens.
    let (new, now, opened) = c.in_default.ensures.told old told in
    let (part, rest, is, writes) = c.in_err-write_line.ensures.front in
    let kinds = kinds_in c.args.walker.now.roster in (
      new,
      part,
      now,
      writes,
      reports_unopened (texts_of g.G.Grammar.says g.A.Analysis.text g.A.Report.outcome g.A.Analysis.bound g.A.Report.unopened kinds c.args.walker.now.analysis) kinds c.args.trace.now c.args.walker.now.limits (g.I.Inputs.faults c.args.inputs.now)
          (g.I.Inputs.faults c.open.new.self) old new part _ c.args.steps.now few c.in_default.ensures.cause.failed opened
          (report_cut c.from_residual-in_err-write_line.result _ c.from_residual-in_err-write_line.ensures part rest (unopened_outcome (g.A.Report.unopened c.args.walker.now.analysis)) (sym c.unopened_text.ensures ∙ is)),
    )

pub returns-clause-reports : goal.returns-clause-reports
returns-clause-reports g c = λ old told few few_opens.
    let (mid, opened_now, opened) = c.in-Ok.ensures.told old told in
    let (entries, taken, part, writes, cost, read, begun, goes) = c.report_opened.ensures.reported in
    let (new, now, (takes, reported)) = goes mid opened_now in
    let before = g.I.Inputs.faults c.args.inputs.now in
    let after = g.I.Inputs.faults c.report_opened.new.inputs in
    let kinds = kinds_in c.args.walker.now.roster in
    let start = c.args.walker.now.analysis in
    let status = ended_status c.report_opened.result in
    let texts : ReportTexts = texts_of g.G.Grammar.says g.A.Analysis.text g.A.Report.outcome g.A.Analysis.bound g.A.Report.unopened kinds start in (
      new,
      part,
      now,
      writes,
      reports_opened texts kinds c.args.trace.now c.args.walker.now.limits (λ entries walked. c.law_of_outcomes.ensures.fronts kinds entries walked c.requires.begins)
          (λ walked. (c.law_of_outcomes.ensures.well kinds walked).0) c.requires.usable (omega arith) before after old mid new entries taken part status c.args.steps.now
          c.report_opened.new.steps few few_opens opened takes cost read begun
          (subst (λ faults. HasReported texts kinds c.args.walker.now.limits taken new.held entries part status faults after) c.in-Ok.ensures.cause.calm reported),
    )
