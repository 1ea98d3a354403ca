use Rattle.rd_order.proofs.EventListLemmas.{formed_by_places, formed_more}
use Rattle.rd_order.proofs.ImpliedLemmas.{formed_by_implied}
use Rattle.rd_order.proofs.laws.law_of_lists.Goals as goal

pub returns : goal.returns
returns c = record { places = formed_by_places; growth = formed_more; implied = formed_by_implied }
