-- What `replay` writes and answers, in the words of accepted lines and of replays.
use Rattle.std.proofs.Common.{◌≡◌, ℕ, ◌^◌, ◌<◌, List, length, refl}
use Rattle.std.specs.Prelude.{All}
use Rattle.rd_base.specs.Limits.{AreUsable}
use Rattle.rd_base.specs.declared.limits.Limits.{Limits}
use Rattle.rd_io.specs.Lines.{Stop}
use Rattle.rd_object.specs.declared.shapes.ReplayEnd.TheVariants.{Exact, Differs, NotShipped}
use Rattle.rd_object.specs.declared.shapes.ReplayEnd.{ReplayEnd}
use Rattle.rd_replay.proofs.LawLemmas.{differs_where, exact_where, not_shipped_where}
use Rattle.rd_replay.specs.Replays.{Recorded, replay_end}
use Rattle.rd_replay_command.proofs.DeclaredLemmas.{calls_declared}
use Rattle.rd_replay_command.specs.Replaying.{recorded_of, replay_of}
use Rattle.rd_replay_command.specs.Reports.{IsReplayed, ReplayEndsSo}
use Rattle.rd_replay_command.specs.States.{built_in_kinds, replay_outcome}
use Rattle.rd_walk.proofs.AcceptedLemmas.{trace_accepted}
use Rattle.rd_walk.proofs.AcceptedLineLemmas.{trace_walk}
use Rattle.rd_walk.specs.Walk.{ending_of, entries_of, items, trace_of}
use Rattle.rd_rules.specs.MayFollow.{object_kinds}

module _ (kinds : List ℕ) (calls : List Recorded) (declared : All (λ (recorded : Recorded). recorded.1.object < length kinds) calls) where
  pub ends_so : (replay : ReplayEnd) → replay_end kinds calls ≡ replay → ReplayEndsSo kinds calls replay
  ends_so Exact is = (exact_where kinds calls declared).0 is
  ends_so (Differs line expected) is = (differs_where kinds calls line expected declared).0 is
  ends_so NotShipped is = (not_shipped_where kinds calls).0 is

pub replayed : (limits : Limits) → AreUsable limits → limits.threads < 2 ^ 32 → (stop : Stop) (bytes : List ℕ)
    → IsReplayed limits stop bytes (replay_outcome built_in_kinds (trace_of built_in_kinds limits stop bytes))
replayed limits usable range stop bytes =
    let walked = trace_of built_in_kinds limits stop bytes in
    let entries = entries_of walked in
    let declared = calls_declared built_in_kinds entries (trace_accepted built_in_kinds limits usable range stop bytes) in record {
      entries = entries;
      ending = ending_of walked;
      walk = trace_walk built_in_kinds limits stop bytes;
      declared = declared;
      replay = replay_of built_in_kinds entries;
      replays = ends_so (object_kinds built_in_kinds (items entries)) (recorded_of built_in_kinds entries) declared (replay_of built_in_kinds entries) refl;
      text = refl;
      status = refl;
    }
