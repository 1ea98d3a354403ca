use Rattle.std.proofs.Common.{◌≤◌, ◌-◌, length}
use Rattle.rd_tokens.proofs.CutLemmas.{SoFar}
use Rattle.rd_tokens.proofs.cutting.tokens.Given as goal

abbrev pub invariant-loop-start : goal.invariant-loop-start
invariant-loop-start l = record {
  within : l.start ≤ length l.line;
  so_far : SoFar l.line l.start l.found;
}

abbrev pub decreases-loop-start : goal.decreases-loop-start
decreases-loop-start l = length l.line - l.start
