use Rattle.std.proofs.Common.{◌≡◌, ℕ, ◌≤◌, None, length, vec_capacity}
use Rattle.std.specs.Prelude.{slice_index_or}
use Rattle.rd_hb.proofs.tracker.grow.Given as goal

abbrev pub invariant-loop : goal.invariant-loop
invariant-loop g l = record {
  filled : length l.list.items ≡ l.counter;
  room : l.room ≤ vec_capacity l.list;
  kept : (i : ℕ) → slice_index_or l.list.items i None ≡ slice_index_or l.initial.list.items i None;
}
