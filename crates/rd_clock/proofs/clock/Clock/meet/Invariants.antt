use Rattle.std.proofs.Common.{◌≡◌, ℕ, ◌<◌, ◌≤◌, min, length}
use Rattle.rd_clock.specs.Clock.{component}
use Rattle.rd_clock.proofs.clock.Clock.meet.Given as goal

abbrev pub invariant-loop-i : goal.invariant-loop-i
invariant-loop-i l = record {
  room : length l.ours ≡ length l.initial.ours;
  done : (t : ℕ) → t < l.i → component l.ours t ≡ min (component l.initial.ours t) (component l.theirs t);
  left : (t : ℕ) → l.i ≤ t → component l.ours t ≡ component l.initial.ours t;
}
