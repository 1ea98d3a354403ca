use Rattle.std.proofs.Common.{◌≢◌, [], refl, ◌∙◌, subst, sym, ap}
use Rattle.std.specs.Prelude.{AllPairs}
use Rattle.std.proofs.lemmas.List.{append-nil}
use Rattle.rd_check_command.specs.Checked.{check_bound, check_outcome, race_texts}
use Rattle.rd_check_command.specs.Replayed.{ReportBegins}
use Rattle.rd_ecl.specs.Kinds.{kind_names, kinds_of}
use Rattle.rd_gen_command.specs.GeneratedWalks.{CountsGenerated, behind_counts, gen_outcome, generated_walk}
use Rattle.rd_gen_command.proofs.ReportLemmas.{counts_none}
use Rattle.rd_io.proofs.SinkLemmas.{appends_none}
use Rattle.rd_kinds.proofs.NameLemmas.{listed_differ}
use Rattle.rd_kinds.specs.Shipped.{shipped_kinds}
use Rattle.rd_replay_command.specs.Replaying.{recorded_of}
use Rattle.rd_replay_command.specs.States.{built_in_kinds}
use Rattle.rd_rules.specs.laws.NoLines.{told_none}
use Rattle.rd_json.specs.declared.forms.Form.TheVariants.{EndingOnly}
use Rattle.rd_walk.proofs.OutputLemmas.{report_cut}
use Rattle.rd_walk.specs.Output.{IsOutput, ended_status}
use Rattle.rd_wf.specs.Roster.{kinds_in}
use Rattle.rd_gen_command.proofs.commands.check_generated.Goals as goal

pub returns-in_err-spec-clause-output : goal.returns-in_err-spec-clause-output
returns-in_err-spec-clause-output g c =
    let wrote = g.S.Sink.written c.args.out.now in
    let outcome = gen_outcome (check_outcome EndingOnly shipped_kinds) built_in_kinds c.args.limits.now c.args.number c.args.count in (
      [],
      appends_none wrote wrote refl,
      report_cut c.from_residual.result _ c.from_residual.ensures [] outcome.text outcome refl,
      counts_none (behind_counts (race_texts EndingOnly shipped_kinds) c.args.number c.args.count) (check_bound shipped_kinds)
          (generated_walk built_in_kinds c.args.limits.now c.args.number c.args.count) [] _,
    )

pub returns-in_err-report-clause-output : goal.returns-in_err-report-clause-output
returns-in_err-report-clause-output g c =
    let wrote = g.S.Sink.written c.args.out.now in
    let outcome = gen_outcome (check_outcome EndingOnly shipped_kinds) built_in_kinds c.args.limits.now c.args.number c.args.count in (
      [],
      appends_none wrote wrote refl,
      report_cut c.from_residual-in_err-report.result _ c.from_residual-in_err-report.ensures [] outcome.text outcome refl,
      counts_none (behind_counts (race_texts EndingOnly shipped_kinds) c.args.number c.args.count) (check_bound shipped_kinds)
          (generated_walk built_in_kinds c.args.limits.now c.args.number c.args.count) [] _,
    )

pub returns-in_err-walker-clause-output : goal.returns-in_err-walker-clause-output
returns-in_err-walker-clause-output g c =
    let wrote = g.S.Sink.written c.args.out.now in
    let outcome = gen_outcome (check_outcome EndingOnly shipped_kinds) built_in_kinds c.args.limits.now c.args.number c.args.count in (
      [],
      appends_none wrote wrote refl,
      report_cut c.from_residual-in_err-walker.result _ c.from_residual-in_err-walker.ensures [] outcome.text outcome refl,
      counts_none (behind_counts (race_texts EndingOnly shipped_kinds) c.args.number c.args.count) (check_bound shipped_kinds)
          (generated_walk built_in_kinds c.args.limits.now c.args.number c.args.count) [] _,
    )

pub new-requires-2-clause-different : goal.new-requires-2-clause-different
new-requires-2-clause-different g c = subst (λ kinds. AllPairs (λ x y. x ≢ y) (kind_names (kinds_of kinds))) (sym c.in_ok-spec.ensures) listed_differ

pub gen_check-ended-requires-clause-begins : goal.gen_check-ended-requires-clause-begins
unfolding recorded_of
gen_check-ended-requires-clause-begins g c =
    let kinds = c.in_ok-walker.ensures.kinds in
    subst (ReportBegins (kinds_in c.in_ok-walker.walker.roster)) (sym c.in_ok-walker.ensures.analysis) (record {
      checks = record {
        kinds_are = kinds ∙ ap kinds_of (sym c.in_ok-report.ensures.kinds_are);
        new = c.in_ok-report.ensures.new;
      };
      replayed = record {
        numbered = ([], kinds ∙ ap kinds_of (c.in_ok-spec.ensures ∙ sym (append-nil shipped_kinds)));
        told = told_none (kinds_in c.in_ok-walker.walker.roster);
        stands = c.in_ok-report.ensures.no_call;
      };
    })

pub returns-clause-output : goal.returns-clause-output
returns-clause-output g c =
    let (part, writes, output, counts) = c.gen_check-ended.ensures.output in
    let kinds = c.in_ok-walker.ensures.kinds ∙ ap kinds_of c.in_ok-spec.ensures in
    let analysis = c.in_ok-walker.ensures.analysis in
    let form = ap (λ a. a.check.form) analysis ∙ c.in_ok-report.ensures.form_is in
    let spec = ap (λ a. a.check.spec.now) analysis ∙ c.in_ok-report.ensures.kinds_are ∙ c.in_ok-spec.ensures in
    let status = ended_status c.gen_check-ended.result in (
      part,
      writes,
      subst (λ (T : Type 0). T) (λ i. IsOutput status part (gen_outcome (check_outcome (form i) (spec i)) (kinds i) (c.in_ok-walker.ensures.limits i) c.args.number c.args.count)) output,
      subst (λ (T : Type 0). T) (λ i. CountsGenerated (behind_counts (race_texts (form i) (spec i)) c.args.number c.args.count) (check_bound (spec i))
          (generated_walk (kinds i) (c.in_ok-walker.ensures.limits i) c.args.number c.args.count) part c.args.steps.now c.gen_check-ended.new.steps) counts,
    )
