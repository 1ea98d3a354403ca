use Rattle.rd_races.proofs.CommutingLemmas.{commute_back}
use Rattle.rd_races.proofs.laws.law_of_commuting.Goals as goal

pub returns : goal.returns
returns c = commute_back
