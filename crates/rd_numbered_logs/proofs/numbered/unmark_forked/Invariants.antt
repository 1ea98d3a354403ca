use Rattle.std.proofs.Common.{◌≡◌, ◌&&◌, ℕ, not, false, length, take}
use Rattle.std.specs.Prelude.{slice_index_or}
use Rattle.std.specs.List.{list_any}
use Rattle.rd_numbered_logs.specs.Numbering.{step_forks}
use Rattle.rd_numbered_logs.proofs.numbered.unmark_forked.Given as goal

abbrev pub invariant-loop-step : goal.invariant-loop-step
invariant-loop-step l = record {
  marks : (thread : ℕ) → slice_index_or l.roots thread false ≡ (slice_index_or l.initial.roots thread false && not (list_any (step_forks thread) (take l.step-index l.steps)));
  count : length l.roots ≡ length l.initial.roots;
}
