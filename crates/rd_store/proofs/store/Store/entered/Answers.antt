use Rattle.std.proofs.Common.{ap, ◌∙◌, subst}
use Rattle.rd_points.specs.PointLists.{same_point}
use Rattle.rd_store.specs.Stores.{HasOneEach, cells_at, point_at}
use Rattle.rd_store.proofs.EntryLemmas.{one_each_at}
use Rattle.rd_store.proofs.IndexLemmas.{entered_once}
use Rattle.rd_store.proofs.store.Store.entered.Goals as goal

pub returns-clause-one_each : goal.returns-clause-one_each
unfolding same_point
returns-clause-one_each c = record {
  once = λ i j point at also.
      entered_once c.law_of_equal_points.ensures c.self.inside.points.entries c.len.ensures.unique i j point (ap (λ store. point_at store i) c.self.view_is ∙ at)
      (ap (λ store. point_at store j) c.self.view_is ∙ also);
  each = λ point. subst (λ store. HasOneEach (cells_at store point)) c.self.view_is (one_each_at c.self.inside.points.entries point c.self.invariant.one_each);
}
