use Rattle.std.proofs.Common.{◌++◌, ap, ◌∙◌}
use Rattle.std.proofs.lemmas.List.{append_assoc}
use Rattle.rd_gen_command.specs.GeneratedWalks.{behind_counts, trace_counts_text, gen_outcome, generated_walk}
use Rattle.rd_gen_command.proofs.ReportLemmas.{counts_behind, counts_none}
use Rattle.rd_io.proofs.SinkLemmas.{appends_on}
use Rattle.rd_walk.proofs.OutputLemmas.{behind, report_cut}
use Rattle.rd_walk.specs.Output.{Outcome, ended_status}
use Rattle.rd_wf.specs.Roster.{kinds_in}
use Rattle.rd_gen_command.proofs.checks.gen_check.Goals as goal

pub returns-in_err-write_counts-clause-output : goal.returns-in_err-write_counts-clause-output
returns-in_err-write_counts-clause-output g c =
    let (part, rest, is, writes) = c.in_err-write_counts.ensures.front in
    let kinds = kinds_in c.args.walker.now.roster in
    let limits = c.args.walker.now.limits in
    let start = c.args.walker.now.analysis in
    let more = (g.A.Report.outcome kinds start (generated_walk kinds limits c.args.number c.args.count)).text in (
      part,
      writes,
      report_cut c.from_residual.result _ c.from_residual.ensures part (rest ++ more) (gen_outcome (g.A.Report.outcome kinds start) kinds limits c.args.number c.args.count)
          (ap (λ t. t ++ more) is ∙ append_assoc part rest more),
      counts_none (behind_counts (g.A.Analysis.text kinds start) c.args.number c.args.count) (g.A.Analysis.bound kinds start)
          (generated_walk kinds limits c.args.number c.args.count) part _,
    )

pub returns-clause-output : goal.returns-clause-output
returns-clause-output g c =
    let (part, writes, output, counts) = c.report_generated.ensures.output in
    let kinds = kinds_in c.args.walker.now.roster in
    let start = c.args.walker.now.analysis in
    let walked = generated_walk kinds c.args.walker.now.limits c.args.number c.args.count in
    let whole : Outcome = g.A.Report.outcome kinds start walked in
    let front = trace_counts_text c.args.number c.args.count in (
      front ++ part,
      appends_on _ _ _ front part c.in_ok-write_counts.ensures.ok writes,
      behind (ended_status c.report_generated.result) front part whole.text whole.status output,
      counts_behind (g.A.Analysis.text kinds start) (g.A.Analysis.bound kinds start) walked c.args.number c.args.count part _ _ counts,
    )
