use Rattle.std.proofs.Common.{◌≡◌, ◌==◌, ◌||◌, ℕ, false, length, take}
use Rattle.std.specs.Prelude.{slice_index_or}
use Rattle.std.specs.List.{list_any}
use Rattle.rd_numbered_logs.proofs.numbered.mark_threads.Given as goal

abbrev pub invariant-loop-log : goal.invariant-loop-log
invariant-loop-log l = record {
  marks : (thread : ℕ) → slice_index_or l.roots thread false ≡ (slice_index_or l.initial.roots thread false || list_any (λ log. log.thread == thread) (take l.log-index l.logs));
  count : length l.roots ≡ length l.initial.roots;
}
