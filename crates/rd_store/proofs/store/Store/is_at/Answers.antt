use Rattle.std.proofs.Common.{◌≡◌, None, Some, sym, ap, ◌∙◌, true≢false}
use Rattle.std.proofs.lemmas.Option.{none-some, same_Some}
use Rattle.rd_points.specs.PointLists.{same_point}
use Rattle.rd_store.specs.Lent.{lent_point}
use Rattle.rd_store.specs.Stores.{point_at}
use Rattle.rd_store.proofs.IndexLemmas.{point_of_entry, point_of_none}
use Rattle.rd_store.proofs.store.Store.is_at.Goals as goal

pub returns-in-Some : goal.returns-in-Some
unfolding same_point
returns-in-Some c = (
  λ same. here ∙ ap Some (sym ((c.law_of_equal_points.ensures (lent_point c.args.point) c.in-Some.held.now).0 (sym c.equivalent.ensures ∙ same))),
  λ at. c.equivalent.ensures
      ∙ (c.law_of_equal_points.ensures (lent_point c.args.point) c.in-Some.held.now).1 (same_Some (lent_point c.args.point) c.in-Some.held.now (sym at ∙ here)),
)
  where
    here : point_at c.args.self.now c.args.index ≡ Some c.in-Some.held.now
    here = ap (λ store. point_at store c.args.index) (sym c.self.view_is)
        ∙ point_of_entry c.self.inside.points.entries c.args.index c.in-Some.held.now c.in-Some._cells.now (sym c.in-Some.ensures.entry)

pub returns-in-None : goal.returns-in-None
returns-in-None c = (
  λ no. absurd (true≢false (sym no)),
  λ at. absurd (none-some (lent_point c.args.point)
      (sym (point_of_none c.self.inside.points.entries c.args.index (sym c.in-None.ensures.entry)) ∙ ap (λ store. point_at store c.args.index) c.self.view_is ∙ at)),
)
