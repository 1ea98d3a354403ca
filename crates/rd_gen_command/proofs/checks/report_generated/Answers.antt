use Rattle.std.proofs.Common.{◌≡◌, [], ◌++◌, refl, ap, sym, ◌∙◌, subst, arith}
use Rattle.rd_gen.specs.Generated.{generated}
use Rattle.rd_gen_command.proofs.ReportLemmas.{counts_begun, front_of_front, items_accepted}
use Rattle.rd_gen_command.specs.GeneratedWalks.{generated_walk}
use Rattle.rd_io.proofs.SinkLemmas.{appends_on}
use Rattle.rd_walk.proofs.OutputLemmas.{report_cut}
use Rattle.rd_walk.proofs.ProgressLemmas.{all_begun}
use Rattle.rd_walk.specs.Output.{IsOutput, ended_status}
use Rattle.rd_walk.specs.Walk.{entries_of, items}
use Rattle.rd_rules.specs.Events.{AreAccepted}
use Rattle.rd_wf.specs.Roster.{kinds_in}
use Rattle.rd_gen_command.proofs.checks.report_generated.Goals as goal

pub walk_generated-requires-clause-few : goal.walk_generated-requires-clause-few
walk_generated-requires-clause-few g c =
    let lines : c.new-generator.result.lines ≡ generated c.args.number c.args.count = ap (λ v. v.lines) c.new-generator.ensures in
    rw lines (omega (arith, c.lines_in-lines.ensures))

pub returns-in_err-ending-clause-output : goal.returns-in_err-ending-clause-output
returns-in_err-ending-clause-output g c =
    let lines : c.new-generator.result.lines ≡ generated c.args.number c.args.count = ap (λ v. v.lines) c.new-generator.ensures in
    let (entries, part, rest, writes, is, counts, walked, so) = rw lines at c.in_err-ending.ensures.halted in
    let kinds = kinds_in c.args.walker.now.roster in
    let limits = c.args.walker.now.limits in
    let start = c.args.walker.now.analysis in
    let accepted = subst (λ w. AreAccepted kinds (items (entries_of w))) so (items_accepted kinds limits c.requires.usable (omega arith) [] 1 (generated c.args.number c.args.count)) in
    let (behind, whole) = front_of_front part rest (g.A.Analysis.text kinds start entries) _ is (c.law_of_outcomes.ensures.fronts kinds entries walked c.requires.begins accepted) in (
      part,
      writes,
      report_cut c.from_residual.result _ c.from_residual.ensures part behind (g.A.Report.outcome kinds start (generated_walk kinds limits c.args.number c.args.count))
          (ap (λ w. (g.A.Report.outcome kinds start w).text) so ∙ whole),
      counts,
    )

pub returns-clause-output : goal.returns-clause-output
returns-clause-output g c =
    let lines : c.new-generator.result.lines ≡ generated c.args.number c.args.count = ap (λ v. v.lines) c.new-generator.ensures in
    let (entries, leads, stands, text, cost, so) = rw lines at c.in_ok-ending.ensures.walked in
    let kinds = kinds_in c.args.walker.now.roster in
    let start = c.args.walker.now.analysis in
    let (part, writes, output) = c.conclude.ensures.output kinds start entries leads stands in
    let front = g.A.Analysis.text kinds start entries in (
      front ++ part,
      appends_on _ _ _ front part text writes,
      subst (λ w. IsOutput (ended_status c.conclude.result) (front ++ part) (g.A.Report.outcome kinds start w)) (sym so) output,
      counts_begun (g.A.Analysis.text kinds start) (g.A.Analysis.bound kinds start) _ _ entries (front ++ part) _ _ so
          (all_begun (g.A.Analysis.text kinds start) part (front ++ part) entries refl) cost,
    )
