use Rattle.std.proofs.Common.{◌≡◌, MatchOption, None, Some, subst}
use Rattle.rd_points.specs.PointLists.{same_point}
use Rattle.rd_store.specs.Lent.{lent_point}
use Rattle.rd_store.specs.Stores.{held_of, point_at}
use Rattle.rd_store.proofs.IndexLemmas.{index_found}
use Rattle.rd_store.proofs.store.Store.index_of.Goals as goal

pub returns : goal.returns
unfolding same_point
returns c =
    let p = lent_point c.args.point in
    subst (λ store. MatchOption c.get_index_of.result (held_of store p ≡ None) (λ index. point_at store index ≡ Some p)) c.self.view_is
    (index_found c.law_of_equal_points.ensures c.self.inside.points.entries p c.get_index_of.result c.get_index_of.ensures.index c.get_index_of.ensures.found)
