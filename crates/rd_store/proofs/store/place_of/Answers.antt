use Rattle.std.proofs.Common.{map, sym, ◌∙◌, arith}
use Rattle.std.proofs.lemmas.List.{length-map, take_all}
use Rattle.rd_store.specs.StoreParts.{cell}
use Rattle.rd_store.proofs.CellLemmas.{none_more, place_here, place_none}
use Rattle.rd_store.proofs.store.place_of.Goals as goal

pub returns-then-held-thread : goal.returns-then-held-thread
returns-then-held-thread c =
    place_here c.args.thread c.args.cells.now c.loop-place.place c.index-cells-place.result c.loop-place-test.true c.index-cells-place.is c.loop-place.invariant c.if-held-thread.true

pub loop-place-preserved : goal.loop-place-preserved
loop-place-preserved c =
    none_more c.args.thread c.args.cells.now c.loop-place.place c.index-cells-place.result c.loop-place-test.true c.index-cells-place.is c.loop-place.invariant c.if-held-thread.false

pub returns : goal.returns
returns c =
    let none = rw (take_all c.loop-place.place c.args.cells.now (omega arith)) at c.loop-place.invariant in
    sym (place_none c.args.thread (map cell c.args.cells.now) none ∙ length-map c.args.cells.now cell)
