use Rattle.std.proofs.Common.{◌≡◌, ◌≤◌, ◌++◌, ◌∷◌, [], None, map, refl, sym, ap, ◌∙◌, subst, arith}
use Rattle.std.specs.Map.{lookup}
use Rattle.indexmap.proofs.CallerLemmas.{insert_entry-new}
use Rattle.rd_points.specs.PointLists.{same_point}
use Rattle.rd_store.specs.Stores.{HasRoom, IsSameStore, held_of, point_at}
use Rattle.rd_store.specs.StoreParts.{AreStoreFields, cell, held_entries, room_of}
use Rattle.rd_store.proofs.EntryLemmas.{kept_entered, room_entered, same_entered}
use Rattle.rd_store.proofs.IndexLemmas.{absent_held, point_last, point_stays}
use Rattle.rd_store.proofs.store.Store.enter_new.Goals as goal

pub invariant_of-self : goal.invariant_of-self
unfolding same_point
invariant_of-self c =
    let es = c.self.inside.points.entries in
    let v = c.in_ok-cells.cells in
    let p = c.args.point in
    let absent : lookup (same_point p) es ≡ None = absent_held es p (ap (λ store. held_of store p) c.self.view_is ∙ c.requires) in
    let made : c.insert.new.self.entries ≡ es ++ (p, v) ∷ [] = c.in-Ok.ensures.entries ∙ insert_entry-new same_point c.self.inside.points p v absent in
    subst (λ entries. AreStoreFields entries c.self.inside.count) (sym made) (kept_entered p v (ap (map cell) c.in_ok-cells.ensures.items) es c.self.inside.count c.self.invariant)

pub returns-in-Ok-clause-entered : goal.returns-in-Ok-clause-entered
unfolding same_point
returns-in-Ok-clause-entered c =
    let es = c.self.inside.points.entries in
    let v = c.in_ok-cells.cells in
    let p = c.args.point in
    let absent : lookup (same_point p) es ≡ None = absent_held es p (ap (λ store. held_of store p) c.self.view_is ∙ c.requires) in
    let made : c.insert.new.self.entries ≡ es ++ (p, v) ∷ [] = c.in-Ok.ensures.entries ∙ insert_entry-new same_point c.self.inside.points p v absent in
    ap (λ entries. point_at (held_entries entries) c.len-index.result) made ∙ ap (point_at (held_entries (es ++ (p, v) ∷ []))) c.len-index.ensures.len ∙ point_last p v es

pub returns-in-Ok-clause-room : goal.returns-in-Ok-clause-room
unfolding same_point
returns-in-Ok-clause-room c = λ thread.
    let es = c.self.inside.points.entries in
    let v = c.in_ok-cells.cells in
    let p = c.args.point in
    let absent : lookup (same_point p) es ≡ None = absent_held es p (ap (λ store. held_of store p) c.self.view_is ∙ c.requires) in
    let made : c.insert.new.self.entries ≡ es ++ (p, v) ∷ [] = c.in-Ok.ensures.entries ∙ insert_entry-new same_point c.self.inside.points p v absent in
    let room : 1 ≤ room_of v = omega (arith, c.in_ok-cells.ensures.capacity, c.in_ok-cells.ensures.len) in
    subst (λ entries. HasRoom (held_entries entries) thread p) (sym made) (room_entered es p v thread ((c.law_of_equal_points.ensures p p).1 refl) absent room)

pub returns-in-Ok-clause-stay : goal.returns-in-Ok-clause-stay
unfolding same_point
returns-in-Ok-clause-stay c = λ index other at.
    let es = c.self.inside.points.entries in
    let v = c.in_ok-cells.cells in
    let p = c.args.point in
    let absent : lookup (same_point p) es ≡ None = absent_held es p (ap (λ store. held_of store p) c.self.view_is ∙ c.requires) in
    let made : c.insert.new.self.entries ≡ es ++ (p, v) ∷ [] = c.in-Ok.ensures.entries ∙ insert_entry-new same_point c.self.inside.points p v absent in
    ap (λ entries. point_at (held_entries entries) index) made ∙ point_stays p v es index other (ap (λ store. point_at store index) c.self.view_is ∙ at)

pub returns-in-Ok-clause-same : goal.returns-in-Ok-clause-same
unfolding same_point
returns-in-Ok-clause-same c =
    let es = c.self.inside.points.entries in
    let v = c.in_ok-cells.cells in
    let p = c.args.point in
    let absent : lookup (same_point p) es ≡ None = absent_held es p (ap (λ store. held_of store p) c.self.view_is ∙ c.requires) in
    let made : c.insert.new.self.entries ≡ es ++ (p, v) ∷ [] = c.in-Ok.ensures.entries ∙ insert_entry-new same_point c.self.inside.points p v absent in
    subst (λ store. IsSameStore store (held_entries c.insert.new.self.entries)) c.self.view_is
    (subst (λ entries. IsSameStore (held_entries es) (held_entries entries)) (sym made) (same_entered p v (ap (map cell) c.in_ok-cells.ensures.items) es))
