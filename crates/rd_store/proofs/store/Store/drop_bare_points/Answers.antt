use Rattle.std.proofs.Common.{◌≡◌, ◌≤◌, length, filter, rules, sym, ap, ◌∙◌, subst}
use Rattle.indexmap.proofs.CallerLemmas.{filter-RetainsPairs}
use Rattle.rd_points.specs.PointLists.{same_point}
use Rattle.rd_store.specs.Stores.{cell_count, cells_at}
use Rattle.rd_store.specs.StoreParts.{AreStoreFields, held_entries}
use Rattle.rd_store.proofs.EntryLemmas.{bare_cells, bare_count, bare_few, bare_kept, has_cells}
use Rattle.rd_store.proofs.store.Store.drop_bare_points.Goals as goal

pub invariant_of-self : goal.invariant_of-self
invariant_of-self c =
    let es = c.self.inside.points.entries in
    let kept : c.retain.new.self.entries ≡ filter has_cells es = filter-RetainsPairs _ has_cells _ (λ k v b w g t. search rules) es c.retain.new.self.entries c.retain.ensures.filtered in
    subst (λ entries. AreStoreFields entries c.self.inside.count) (sym kept) (bare_kept es c.self.inside.count c.self.invariant)

pub returns-clause-cells : goal.returns-clause-cells
unfolding same_point
returns-clause-cells c = λ point.
    let es = c.self.inside.points.entries in
    let kept : c.retain.new.self.entries ≡ filter has_cells es = filter-RetainsPairs _ has_cells _ (λ k v b w g t. search rules) es c.retain.new.self.entries c.retain.ensures.filtered in
    ap (λ entries. cells_at (held_entries entries) point) kept ∙ bare_cells c.law_of_equal_points.ensures es c.len-entered.ensures.unique point
    ∙ ap (λ store. cells_at store point) c.self.view_is

pub returns-clause-count : goal.returns-clause-count
returns-clause-count c =
    let es = c.self.inside.points.entries in
    let kept : c.retain.new.self.entries ≡ filter has_cells es = filter-RetainsPairs _ has_cells _ (λ k v b w g t. search rules) es c.retain.new.self.entries c.retain.ensures.filtered in
    ap (λ entries. cell_count (held_entries entries)) kept ∙ bare_count es ∙ ap cell_count c.self.view_is

pub returns-clause-few : goal.returns-clause-few
returns-clause-few c =
    let es = c.self.inside.points.entries in
    let kept : c.retain.new.self.entries ≡ filter has_cells es = filter-RetainsPairs _ has_cells _ (λ k v b w g t. search rules) es c.retain.new.self.entries c.retain.ensures.filtered in
    subst (λ entries. length (held_entries entries) ≤ cell_count (held_entries entries)) (sym kept) (bare_few es)
