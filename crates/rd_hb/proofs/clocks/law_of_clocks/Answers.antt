use Rattle.rd_hb.proofs.ClockLemmas.{clock_exists, clock_longer, clock_own, clock_same, clock_tells, own_number_longer}
use Rattle.rd_hb.proofs.ClockTestLemmas.{clock_at_is}
use Rattle.rd_hb.proofs.clocks.law_of_clocks.Goals as goal

pub returns : goal.returns
returns c = record {
  exists = clock_exists;
  one = clock_same;
  test = clock_at_is;
  tells = clock_tells;
  own = clock_own;
  growth = λ es fs j t c inside. (let same = clock_longer es fs j t c inside in (same.1, same.0));
  own_growth = λ es fs t i o inside. (let same = own_number_longer es fs t i o inside in (same.1, same.0));
}
