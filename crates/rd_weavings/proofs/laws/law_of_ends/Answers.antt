use Rattle.rd_weavings.proofs.EndLemmas.{left_over, next_placed, stuck_end, whole_end}
use Rattle.rd_weavings.proofs.laws.law_of_ends.Goals as goal

pub returns : goal.returns
returns c = record {
  whole = λ all logs apart gone. whole_end all logs apart gone;
  stuck = λ all logs some_left spots. stuck_end all logs some_left spots;
  left = λ all. left_over all;
  next = λ all s j at. next_placed all s j at;
}
