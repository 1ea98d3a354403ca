use Rattle.std.proofs.Common.{refl}
use Rattle.rd_order.specs.EventLists.{forks, givings, joins, takings}
use Rattle.rd_weavings.proofs.laws.examples_of_weaving.Goals as goal

pub returns : goal.returns
unfolding forks givings joins takings
returns c = record {
  row = refl;
  stuck = refl;
  empty = refl;
  no_first = refl;
  again = refl;
  unknown = refl;
  without_log = refl;
  own_fork = refl;
  two_forks = refl;
  undeclared = refl;
}
