-- What `reorder` writes and answers, in the words of accepted lines and of linear orders.
use Rattle.std.proofs.Common.{◌≡◌, ℕ, ◌^◌, ◌<◌, List, [], length, refl, sym, subst}
use Rattle.std.specs.Prelude.{All, IsPermutation, filter}
use Rattle.std.specs.List.{range_with_len}
use Rattle.rd_base.specs.Limits.{AreUsable}
use Rattle.rd_base.specs.declared.limits.Limits.{Limits}
use Rattle.rd_io.specs.Lines.{Stop, reading}
use Rattle.rd_linear.proofs.LinearLemmas.{linear_inside}
use Rattle.rd_reorder_command.proofs.OrderLemmas.{picked_linear}
use Rattle.rd_reorder_command.specs.Outcomes.{places_by, reorder_outcome}
use Rattle.rd_reorder_command.specs.Reports.{IsReordered}
use Rattle.rd_replay_command.specs.States.{built_in_kinds}
use Rattle.rd_rewriting.proofs.KeepingLemmas.{events_counted}
use Rattle.rd_rewriting.proofs.PermutationLemmas.{accepted_follow, events_permuted, headed, lines_permuted}
use Rattle.rd_rewriting.specs.Keeping.{FollowFrom}
use Rattle.rd_walk.proofs.AcceptedLemmas.{trace_accepted}
use Rattle.rd_walk.proofs.AcceptedLineLemmas.{trace_walk}
use Rattle.rd_walk.specs.Walk.{ending_of, entries_of, items, trace_of}
use Rattle.rd_rules.specs.Events.{events_of}
use Rattle.rd_rules.specs.MayFollow.{is_event}
use Rattle.rd_rules.specs.laws.NoLines.{told_none}

pub reordered_so : (number : ℕ) (limits : Limits) → AreUsable limits → limits.threads < 2 ^ 32 → (stop : Stop) (bytes : List ℕ)
    → IsReordered limits stop bytes (reorder_outcome number built_in_kinds (trace_of built_in_kinds limits stop bytes))
reordered_so number limits usable range stop bytes =
    let walked = trace_of built_in_kinds limits stop bytes in
    let entries = entries_of walked in
    let lines = items entries in
    let walk = trace_walk built_in_kinds limits stop bytes in
    let follow : FollowFrom built_in_kinds [] lines = accepted_follow built_in_kinds [] lines (told_none built_in_kinds) (trace_accepted built_in_kinds limits usable range stop bytes) in
    let linear = picked_linear built_in_kinds lines follow number in
    let es = events_of built_in_kinds lines in
    let many : length (filter is_event lines) ≡ length es = sym (events_counted built_in_kinds lines follow) in
    let places = places_by built_in_kinds lines number in record {
      entries = entries;
      ending = ending_of walked;
      walk = walk;
      places = places;
      linear = linear;
      told = refl;
      same = λ well. lines_permuted built_in_kinds lines follow
          (headed built_in_kinds limits [] 1 (reading limits.line limits.bytes stop bytes) entries (ending_of walked) walk well) places
          (events_permuted (filter is_event lines) places
          (subst (λ n. IsPermutation (range_with_len 0 n) places) (sym many) linear.all)
          (subst (λ n. All (λ p. p < n) places) (sym many) (linear_inside es places linear)));
    }
