use Rattle.std.proofs.Common.{arith}
use Rattle.rd_wf.specs.Roster.{kinds_in}
use Rattle.rd_walk.proofs.RanLemmas.{ran_report}
use Rattle.rd_walk.specs.Meanings.{seen}
use Rattle.rd_walk.specs.Traces.{texts_of}
use Rattle.rd_walk.proofs.reporting.report_trace.Goals as goal

pub returns : goal.returns
returns g c =
    let kinds = kinds_in c.args.walker.now.roster in
    let start = c.args.walker.now.analysis in
    ran_report (texts_of g.G.Grammar.says g.A.Analysis.text g.A.Report.outcome g.A.Analysis.bound g.A.Report.unopened kinds start) kinds c.args.trace.now c.args.walker.now.limits
    (seen g.I.Inputs.told g.I.Inputs.faults c.args.inputs.now g.S.Sink.written g.S.Sink.faults g.S.Sink.at_fault c.args.out.now c.args.steps.now)
    (seen g.I.Inputs.told g.I.Inputs.faults c.report_named.new.inputs g.S.Sink.written g.S.Sink.faults g.S.Sink.at_fault c.report_named.new.out c.report_named.new.steps)
    c.report_named.result (λ walked. (c.law_of_outcomes.ensures.well kinds walked).1) (λ old told few few_opens. c.report_named.ensures.reports old told few (omega (arith, few_opens))) c.report_named.ensures.faults c.report_named.ensures.ends
