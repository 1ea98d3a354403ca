use Rattle.std.proofs.Common.{ℕ, Bool}
use Rattle.rd_epoch.specs.TestRows.{MayRun}
use Rattle.rd_epoch.proofs.TestLemmas.{IsRunning}
use Rattle.rd_epoch.proofs.epochs.tests.are_told.Given as goal

abbrev pub invariant-loop-i : goal.invariant-loop-i
invariant-loop-i g l = (roots : ℕ → Bool) → MayRun l.initial.tracker roots l.events → IsRunning l.tracker l.epochs roots l.i l.events
