use Rattle.std.proofs.Common.{◌≡◌, ℕ, List, [], ◌++◌, length, sym, ap, ◌∙◌}
use Rattle.std.proofs.lemmas.List.{append_assoc}
use Rattle.std.proofs.lemmas.Result.{on_err_weaker}
use Rattle.rd_io.proofs.SinkLemmas.{appends_on}
use Rattle.rd_replay.specs.Replays.{Recorded}
use Rattle.rd_replay.specs.Replayer.{ReplayerStandsFor}
use Rattle.rd_walk.specs.Analysis.{WritesFront}
use Rattle.rd_replay_command.specs.States.{replayed_text, states_before}
use Rattle.rd_wf.specs.Roster.{names_in, object_names_in}
use Rattle.rd_walk.proofs.OutputLemmas.{always_err}
use Rattle.rd_replay_command.proofs.StateLemmas.{replayed_exact, replayed_front}
use Rattle.rd_replay_command.proofs.states.write_replayed.Goals as goal

pub returns-in_err-write_end-clause-front : goal.returns-in_err-write_end-clause-front
returns-in_err-write_end-clause-front g c = always_err _ c.from_residual.result (λ kinds calls stands same.
    let objects = object_names_in c.args.names.now in
    let (part, rest, is, writes) = c.in_err-write_end.ensures.front in
    let (more, whole) = replayed_front (names_in c.args.names.now) (states_before objects kinds calls (length objects)) c.args.ending.now in
    (part, rest ++ more, whole ∙ ap (λ t. t ++ more) is ∙ append_assoc part rest more, writes))

pub returns-then-is_exact-clause-front : goal.returns-then-is_exact-clause-front
returns-then-is_exact-clause-front g c =
    let names = names_in c.args.names.now in
    let objects = object_names_in c.args.names.now in
    let now = g.S.Sink.written c.write_states.new.out in
    let middle = g.S.Sink.written c.write_end.new.out in
    on_err_weaker c.write_states.result
    (λ (all : (kinds : List ℕ) (calls : List Recorded) → ReplayerStandsFor c.args.replayer.now kinds calls → length kinds ≡ length objects
    → WritesFront middle now [] (states_before objects kinds calls (length objects))) kinds calls stands same.
    let states = states_before objects kinds calls (length objects) in
    let line = replayed_text names [] c.args.ending.now in
    let (part, rest, is, writes) = all kinds calls stands same in (
      line ++ part,
      rest,
      replayed_exact names states c.args.ending.now (sym c.is_exact.ensures ∙ c.if-is_exact.true) ∙ ap (λ t. line ++ t) is ∙ sym (append_assoc line part rest),
      appends_on _ _ _ line part c.in_ok-write_end.ensures.ok writes,
    ))
    c.write_states.ensures.front
