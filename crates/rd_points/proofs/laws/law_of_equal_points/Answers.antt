use Rattle.rd_points.proofs.EqualPointLemmas.{point_decides}
use Rattle.rd_points.proofs.laws.law_of_equal_points.Goals as goal

pub returns : goal.returns
returns c a b = point_decides c.law_of_order.ensures.equal_values a b
