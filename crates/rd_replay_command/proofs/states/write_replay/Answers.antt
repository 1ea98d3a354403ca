use Rattle.std.proofs.Common.{length, subst, Ok}
use Rattle.rd_walk.specs.Output.{IsOutput, Outcome, ended_status}
use Rattle.rd_report.specs.Endings.{check_status}
use Rattle.rd_replay_command.specs.States.{replayed_text, states_before}
use Rattle.rd_wf.specs.Roster.{names_in, object_names_in}
use Rattle.rd_walk.proofs.OutputLemmas.{report_cut, whole}
use Rattle.rd_replay_command.proofs.states.write_replay.Goals as goal

pub returns-clause-output : goal.returns-clause-output
returns-clause-output g c = λ kinds calls stands same.
    let objects = object_names_in c.args.names.now in
    let text = replayed_text (names_in c.args.names.now) (states_before objects kinds calls (length objects)) c.args.ending.now in
    let status = ended_status (Ok c.check_status.result) in (
      text,
      c.in_ok-write_replayed.ensures.ok kinds calls stands same,
      subst (λ s. IsOutput status text (let o : Outcome = record { text = text; status = s } in o)) c.check_status.ensures.status (whole status text),
    )

pub returns-in_err-write_replayed-clause-output : goal.returns-in_err-write_replayed-clause-output
returns-in_err-write_replayed-clause-output g c = λ kinds calls stands same.
    let objects = object_names_in c.args.names.now in
    let text = replayed_text (names_in c.args.names.now) (states_before objects kinds calls (length objects)) c.args.ending.now in
    let (part, rest, is, writes) = c.in_err-write_replayed.ensures.front kinds calls stands same in
    let outcome : Outcome = record { text = text; status = check_status 0 c.args.ending.now } in
    (part, writes, report_cut c.from_residual.result _ c.from_residual.ensures part rest outcome is)
