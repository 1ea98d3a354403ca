use Rattle.std.proofs.Common.{[], ◌++◌, refl, sym, subst}
use Rattle.rd_io.proofs.SinkLemmas.{appends_none}
use Rattle.rd_rules.specs.MayFollow.{object_kinds}
use Rattle.rd_wf.proofs.RosterLemmas.{thread_keys}
use Rattle.rd_walk.specs.Output.{IsOutput, ended_status}
use Rattle.rd_walk.specs.Walk.{after, ends, items}
use Rattle.rd_walk.proofs.OutputLemmas.{report_without}
use Rattle.rd_replay_command.specs.Replaying.{recorded_of}
use Rattle.rd_check_command.specs.Checked.{check_outcome, race_texts}
use Rattle.rd_check_command.proofs.OutcomeLemmas.{check_concluded, check_front}
use Rattle.rd_check_command.proofs.reports.CheckReportReport.conclude.Goals as goal

pub returns-in_err-ending-clause-output : goal.returns-in_err-ending-clause-output
returns-in_err-ending-clause-output g c = λ kinds start entries leads stands.
    let wrote = g.S.Sink.written c.args.out.now in (
      [],
      appends_none wrote wrote refl,
      subst (λ status. IsOutput status (race_texts start.check.form start.check.spec.now entries ++ []) (check_outcome start.check.form start.check.spec.now (after entries (ends c.args.ending))))
          (sym (report_without c.from_residual.result c.from_residual.ensures)) (check_front start.check.form start.check.spec.now entries c.args.ending),
    )

pub returns-clause-output : goal.returns-clause-output
returns-clause-output g c = λ kinds start entries leads stands.
    let (part, writes, output) = c.write_ending.ensures.output in (
      part,
      writes,
      check_concluded (ended_status c.write_ending.result) part start.check.form c.args.self.now.check.form start.check.spec.now kinds entries c.args.ending _ _ c.in_ok-ending.ending leads.checks.checks.form leads.checks.kinds_are
          (thread_keys kinds c.args.names.now (items entries) stands) leads.checks.checks.races
          (c.in_ok-ending.ensures.reported (object_kinds kinds (items entries)) (recorded_of kinds entries) leads.replayed.stands) output,
    )
