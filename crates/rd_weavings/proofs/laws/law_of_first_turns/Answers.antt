use Rattle.rd_weavings.proofs.PlacingLemmas.{sound}
use Rattle.rd_weavings.proofs.TestLemmas.{give_decides, weaves}
use Rattle.rd_weavings.proofs.laws.law_of_first_turns.Goals as goal

pub returns : goal.returns
returns c = record {
  told = λ all spots log logs placed. give_decides all logs spots (sound all spots placed) log;
  woven = λ all logs apart. weaves all logs apart;
}
