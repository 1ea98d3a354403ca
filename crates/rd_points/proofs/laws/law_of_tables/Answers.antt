use Rattle.rd_points.proofs.TableLemmas.{count_few, in_range, rising, symmetric, tells}
use Rattle.rd_points.proofs.laws.law_of_tables.Goals as goal

pub returns-clause-tells : goal.returns-clause-tells
returns-clause-tells c kind is = tells kind is

pub returns-clause-symmetric : goal.returns-clause-symmetric
returns-clause-symmetric c kind = symmetric kind

pub returns-clause-in_range : goal.returns-clause-in_range
returns-clause-in_range c kind = in_range kind

pub returns-clause-rising : goal.returns-clause-rising
returns-clause-rising c kind = rising kind

pub returns-clause-few : goal.returns-clause-few
returns-clause-few c kind is = count_few kind is
