use Rattle.std.proofs.Common.{◌≡◌, ◌≤◌, ℕ, List, length}
use Rattle.rd_io.specs.Sinks.{Appends}
use Rattle.rd_replay.specs.Replays.{Recorded}
use Rattle.rd_replay.specs.Replayer.{ReplayerStandsFor}
use Rattle.rd_replay_command.specs.States.{states_before}
use Rattle.rd_wf.specs.Roster.{object_count, object_names_in}
use Rattle.rd_replay_command.proofs.states.write_states.Given as goal

abbrev pub invariant-loop-object : goal.invariant-loop-object
invariant-loop-object g l = record {
  within : l.object ≤ object_count l.names;
  written : (kinds : List ℕ) (calls : List Recorded) → ReplayerStandsFor l.replayer kinds calls → length kinds ≡ length (object_names_in l.names)
      → Appends (g.S.Sink.written l.initial.out) (g.S.Sink.written l.out) (states_before (object_names_in l.names) kinds calls l.object);
  calm : g.S.Sink.faults l.out ≡ g.S.Sink.faults l.initial.out;
}
