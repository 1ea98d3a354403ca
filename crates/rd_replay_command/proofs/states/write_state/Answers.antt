use Rattle.std.proofs.Common.{List, ℕ, [], ◌<◌, ◌∙◌, length, subst}
use Rattle.std.proofs.lemmas.Result.{on_err_weaker}
use Rattle.rd_replay.specs.Replays.{Recorded}
use Rattle.rd_replay.specs.Replayer.{ReplayerStandsFor}
use Rattle.rd_walk.specs.Analysis.{WritesFront}
use Rattle.rd_replay_command.proofs.states.write_state.Goals as goal

pub returns-clause-front : goal.returns-clause-front
returns-clause-front g c =
    let old = g.S.Sink.written c.args.out.now in
    let now = g.S.Sink.written c.write_line.new.out in
    on_err_weaker c.write_line.result
    (λ (front : WritesFront old now [] c.items.result.now) (kinds : List ℕ) (calls : List Recorded) (stands : ReplayerStandsFor c.args.replayer.now kinds calls) (below : c.args.object < length kinds).
    subst (WritesFront old now []) (c.items.ensures ∙ c.in_ok-set_state.ensures kinds calls stands below) front)
    c.write_line.ensures.front
