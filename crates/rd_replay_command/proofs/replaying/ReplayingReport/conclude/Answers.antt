use Rattle.std.proofs.Common.{◌≡◌, [], length, refl, sym, ap, ◌∙◌, subst}
use Rattle.std.specs.Prelude.{IsTrue}
use Rattle.rd_io.proofs.SinkLemmas.{appends_none}
use Rattle.rd_rules.specs.MayFollow.{object_kinds, objects_of}
use Rattle.rd_wf.specs.Roster.{object_names_in}
use Rattle.rd_rules.proofs.EventsLemmas.{kinds_placed}
use Rattle.rd_wf.proofs.RosterLemmas.{object_keys, thread_keys}
use Rattle.rd_walk.specs.Output.{IsOutput, ended_status}
use Rattle.rd_walk.specs.Walk.{after, ends, items}
use Rattle.rd_walk.proofs.OutputLemmas.{report_without}
use Rattle.rd_replay_command.specs.States.{is_exact, replay_outcome, states_before}
use Rattle.rd_replay_command.specs.Replaying.{recorded_of, replay_of}
use Rattle.rd_replay_command.proofs.ReplayLemmas.{exact_end, replay_concluded, replay_front}
use Rattle.rd_replay_command.proofs.replaying.ReplayingReport.conclude.Goals as goal

pub returns-in_err-ending-clause-output : goal.returns-in_err-ending-clause-output
returns-in_err-ending-clause-output g c = λ kinds start entries replayed stands.
    let wrote = g.S.Sink.written c.args.out.now in (
      [],
      appends_none wrote wrote refl,
      subst (λ status. IsOutput status [] (replay_outcome kinds (after entries (ends c.args.ending)))) (sym (report_without c.from_residual.result c.from_residual.ensures))
          (replay_front kinds entries c.args.ending),
    )

pub write_replay-requires : goal.write_replay-requires
write_replay-requires g c = λ exact.
    let (kinds, start, entries, replayed, stands) = c.requires in
    let numbers = object_kinds kinds (items entries) in
    let calls = recorded_of kinds entries in (
      numbers,
      calls,
      replayed.stands,
      kinds_placed kinds (items entries) ∙ ap length (sym (object_keys kinds c.args.names.now (items entries) stands)),
      exact_end (replay_of kinds entries) c.args.ending
          (subst (λ e. IsTrue (is_exact e)) (c.in_ok-ending.ensures.reported numbers calls replayed.stands) exact),
    )

pub returns-clause-output : goal.returns-clause-output
returns-clause-output g c = λ kinds start entries replayed stands.
    let numbers = object_kinds kinds (items entries) in
    let calls = recorded_of kinds entries in
    let objects : object_names_in c.args.names.now ≡ objects_of (items entries) = object_keys kinds c.args.names.now (items entries) stands in
    let (part, writes, output) = c.write_replay.ensures.output numbers calls replayed.stands (kinds_placed kinds (items entries) ∙ ap length (sym objects)) in (
      part,
      writes,
      replay_concluded (ended_status c.write_replay.result) part kinds entries c.args.ending _ _ c.in_ok-ending.ending
          (thread_keys kinds c.args.names.now (items entries) stands)
          (ap (λ names. states_before names numbers calls (length names)) objects)
          (c.in_ok-ending.ensures.reported numbers calls replayed.stands) output,
    )
