use Rattle.rd_weavings.proofs.PlacingLemmas.{goes_on, placed_all}
use Rattle.rd_weavings.proofs.laws.law_of_placing.Goals as goal

pub returns : goal.returns
returns c = record {
  goes_on = λ all spots whole logs placed weaving. goes_on all spots whole logs placed weaving;
  done = λ all spots logs may placed whole. placed_all all spots may placed whole;
}
