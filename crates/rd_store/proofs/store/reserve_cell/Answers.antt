use Rattle.std.proofs.Common.{◌≡◌, ◌<◌, length, map, inl, subst, arith}
use Rattle.std.proofs.lemmas.List.{length-map}
use Rattle.rd_store.specs.Stores.{place_of}
use Rattle.rd_store.specs.StoreParts.{cell, cells_of}
use Rattle.rd_store.proofs.CellLemmas.{place_some}
use Rattle.rd_store.proofs.store.reserve_cell.Goals as goal

pub returns-then-place-len-clause-room : goal.returns-then-place-len-clause-room
returns-then-place-len-clause-room c =
    let cells = cells_of c.args.cells.now in
    let is = subst (λ items. c.place_of-place.result ≡ place_of (map cell items) c.args.thread) c.as_slice.ensures.value c.place_of-place.ensures in
    let within : place_of cells c.args.thread < length cells = omega (arith, c.if-place-len.true, is, length-map c.args.cells.now.items cell) in
    inl (place_some c.args.thread cells within)
