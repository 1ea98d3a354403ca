use Rattle.rd_weavings.proofs.TurnLemmas.{turn_of}
use Rattle.rd_weavings.proofs.laws.law_of_turns.Goals as goal

pub returns : goal.returns
returns c = record { woken = λ all spots log other logs apart placed may differ after. turn_of all logs apart spots placed log other may differ after }
