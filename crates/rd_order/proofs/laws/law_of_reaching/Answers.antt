use Rattle.std.proofs.Common.{IsTrue}
use Rattle.rd_order.proofs.OrderLemmas.{edge_reaches, reaches_decides, reaches_joined, reaches_least, reaches_longer, reaches_rises, reaches_shorter, reaches_within_length}
use Rattle.rd_order.proofs.laws.law_of_reaching.Goals as goal

pub returns : goal.returns
returns c = record {
  edges = edge_reaches;
  joins = reaches_joined;
  least = λ es p. reaches_least es (λ i j. IsTrue (p i j));
  rises = reaches_rises;
  inside = reaches_within_length;
  test = reaches_decides;
  growth = λ es fs i j inside. (reaches_shorter es fs i j inside, reaches_longer es fs i j);
}
