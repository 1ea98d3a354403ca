use Rattle.std.proofs.Common.{◌≡◌, ◌<◌, ◌≤◌, length, map, set, inl, inr, refl, sym, ap, ◌∙◌, subst, arith, None}
use Rattle.std.specs.Prelude.{vec_len, vec_capacity}
use Rattle.std.proofs.lemmas.List.{length-map, map-append, map-set}
use Rattle.rd_store.specs.Stores.{cell_of, place_of}
use Rattle.rd_store.specs.StoreParts.{cell, cells_of, with_cell}
use Rattle.rd_store.proofs.CellLemmas.{none-push, own_cell, place_behind, place_set, place_some}
use Rattle.rd_store.proofs.store.put.Goals as goal

pub returns-then-place-len-clause-cells : goal.returns-then-place-len-clause-cells
returns-then-place-len-clause-cells c =
    let cells = cells_of c.args.cells.now in
    let within : place_of cells c.args.thread < length cells = omega (arith, c.if-place-len.true, c.requires.place, length-map c.args.cells.now.items cell) in
    ap (λ held. map cell (set c.args.cells.now.items c.args.place held)) c.replace-thread.ensures.after
    ∙ map-set cell c.args.cells.now.items c.args.place (c.args.thread, c.args.witness)
    ∙ subst (λ n. set cells n (own_cell c.args.thread c.args.witness.value) ≡ with_cell cells c.args.thread c.args.witness.value) (sym c.requires.place)
    (place_set c.args.thread cells c.args.witness.value within)

pub returns-then-place-len-clause-before : goal.returns-then-place-len-clause-before
returns-then-place-len-clause-before c =
    let cells = cells_of c.args.cells.now in
    let within : place_of cells c.args.thread < length cells = omega (arith, c.if-place-len.true, c.requires.place, length-map c.args.cells.now.items cell) in
    rw (place_some c.args.thread cells within) refl

pub push_reserved-requires : goal.push_reserved-requires
push_reserved-requires c =
    let cells = cells_of c.args.cells.now in
    let behind : length cells ≤ place_of cells c.args.thread = omega (arith, c.if-place-len.false, c.requires.place, length-map c.args.cells.now.items cell) in
    let none : cell_of cells c.args.thread ≡ None = place_behind c.args.thread cells behind in
    elim (rw none at c.requires.room) as (λ _. vec_len c.args.cells.now < vec_capacity c.args.cells.now) [
      | inl some ↦ cc
      | inr room ↦ omega (arith, room)
    ]

pub returns-clause-cells : goal.returns-clause-cells
returns-clause-cells c =
    let cells = cells_of c.args.cells.now in
    let behind : length cells ≤ place_of cells c.args.thread = omega (arith, c.if-place-len.false, c.requires.place, length-map c.args.cells.now.items cell) in
    ap (map cell) c.push_reserved.ensures.items ∙ map-append cell c.args.cells.now.items _
    ∙ none-push c.args.thread cells c.args.witness.value (place_behind c.args.thread cells behind)

pub returns-clause-before : goal.returns-clause-before
returns-clause-before c =
    let cells = cells_of c.args.cells.now in
    let behind : length cells ≤ place_of cells c.args.thread = omega (arith, c.if-place-len.false, c.requires.place, length-map c.args.cells.now.items cell) in
    rw (place_behind c.args.thread cells behind) refl
