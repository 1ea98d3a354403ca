use Rattle.std.proofs.Common.{◌≡◌, ◌<◌, ◌≤◌, ℕ, [], get_or, length, reverse}
use Rattle.rd_weave.specs.Answers.{rest_events}
use Rattle.rd_weave.proofs.lines.turn_around.Given as goal

abbrev pub invariant-loop-place : goal.invariant-loop-place
invariant-loop-place l = record {
  count : length l.logs ≡ length l.initial.logs;
  turned : (log : ℕ) → log < l.place → get_or (rest_events l.logs) log [] ≡ reverse (get_or (rest_events l.initial.logs) log []);
  left : (log : ℕ) → l.place ≤ log → get_or (rest_events l.logs) log [] ≡ get_or (rest_events l.initial.logs) log [];
}
