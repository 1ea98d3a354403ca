use Rattle.std.proofs.Common.{◌<◌, length, arith}
use Rattle.std.proofs.lemmas.List.{length-map}
use Rattle.std.proofs.lemmas.Result.{IfOk-weaker, on_err_weaker}
use Rattle.rd_store.specs.Stores.{place_of}
use Rattle.rd_store.specs.StoreParts.{cell, cells_of}
use Rattle.rd_store.proofs.CellLemmas.{place_some, renewed, same_renewed}
use Rattle.rd_store.proofs.store.renew_cell.Goals as goal

pub returns-clause-there : goal.returns-clause-there
returns-clause-there c =
    let cells = cells_of c.args.cells.now in
    let within : place_of cells c.args.seen.call.now.thread < length cells = omega (arith, c.if-place-len.false, c.requires, length-map c.args.cells.now.items cell) in
    IfOk-weaker c.renew_held.result _ _ (λ _ _ _. place_some c.args.seen.call.now.thread cells within) c.renew_held.ensures.renewed

pub returns-clause-renewed : goal.returns-clause-renewed
returns-clause-renewed c =
    IfOk-weaker c.renew_held.result _ _
    (λ _ is done. renewed c.args.seen.call.now.thread c.args.cells.now.items c.args.place c.index_mut-held.result.now c.renew_held.new.held _ c.requires (omega (arith, c.if-place-len.false))
    c.index_mut-held.ensures.value (is done)) c.renew_held.ensures.renewed

pub returns-clause-kept : goal.returns-clause-kept
returns-clause-kept c =
    IfOk-weaker c.renew_held.result _ _
    (λ _ is no. same_renewed c.args.cells.now.items c.args.place c.index_mut-held.result.now c.renew_held.new.held c.index_mut-held.ensures.value (is no)) c.renew_held.ensures.kept

pub returns-clause-err : goal.returns-clause-err
returns-clause-err c =
    on_err_weaker c.renew_held.result
    (λ is. same_renewed c.args.cells.now.items c.args.place c.index_mut-held.result.now c.renew_held.new.held c.index_mut-held.ensures.value is) c.renew_held.ensures.err
