use Rattle.rd_event.proofs.ReadingLemmas.{acquire_behind, err_not_found, join_behind, object_behind, ok_found, release_behind}
use Rattle.rd_event.proofs.reading.read_item.Goals as goal

pub returns-in-Some-behind-clause-item : goal.returns-in-Some-behind-clause-item
returns-in-Some-behind-clause-item c =
    ok_found c.args.version c.args.bytes.now _ _ c.read_pair.result (join_behind c.args.version c.args.bytes.now c.in-Some-behind.rest.now c.in-Some-behind.ensures) c.read_pair.ensures.item

pub returns-in-Some-behind-clause-none : goal.returns-in-Some-behind-clause-none
returns-in-Some-behind-clause-none c =
    err_not_found c.args.version c.args.bytes.now _ c.read_pair.result (join_behind c.args.version c.args.bytes.now c.in-Some-behind.rest.now c.in-Some-behind.ensures) c.read_pair.ensures.none

pub returns-in-Some-behind-2-clause-item : goal.returns-in-Some-behind-2-clause-item
returns-in-Some-behind-2-clause-item c =
    ok_found c.args.version c.args.bytes.now _ _ c.read_pair-in-Some-behind-2.result (object_behind c.args.version c.args.bytes.now c.in-Some-behind-2.rest.now c.in-Some-behind-2.ensures) c.read_pair-in-Some-behind-2.ensures.item

pub returns-in-Some-behind-2-clause-none : goal.returns-in-Some-behind-2-clause-none
returns-in-Some-behind-2-clause-none c =
    err_not_found c.args.version c.args.bytes.now _ c.read_pair-in-Some-behind-2.result (object_behind c.args.version c.args.bytes.now c.in-Some-behind-2.rest.now c.in-Some-behind-2.ensures) c.read_pair-in-Some-behind-2.ensures.none

pub returns-in-Some-behind-3-clause-item : goal.returns-in-Some-behind-3-clause-item
returns-in-Some-behind-3-clause-item c =
    ok_found c.args.version c.args.bytes.now _ _ c.read_pair-in-Some-behind-3.result (acquire_behind c.args.version c.args.bytes.now c.in-Some-behind-3.rest.now c.in-Some-behind-3.ensures) c.read_pair-in-Some-behind-3.ensures.item

pub returns-in-Some-behind-3-clause-none : goal.returns-in-Some-behind-3-clause-none
returns-in-Some-behind-3-clause-none c =
    err_not_found c.args.version c.args.bytes.now _ c.read_pair-in-Some-behind-3.result (acquire_behind c.args.version c.args.bytes.now c.in-Some-behind-3.rest.now c.in-Some-behind-3.ensures) c.read_pair-in-Some-behind-3.ensures.none

pub returns-in-Some-behind-4-clause-item : goal.returns-in-Some-behind-4-clause-item
returns-in-Some-behind-4-clause-item c =
    ok_found c.args.version c.args.bytes.now _ _ c.read_pair-in-Some-behind-4.result (release_behind c.args.version c.args.bytes.now c.in-Some-behind-4.rest.now c.in-Some-behind-4.ensures) c.read_pair-in-Some-behind-4.ensures.item

pub returns-in-Some-behind-4-clause-none : goal.returns-in-Some-behind-4-clause-none
returns-in-Some-behind-4-clause-none c =
    err_not_found c.args.version c.args.bytes.now _ c.read_pair-in-Some-behind-4.result (release_behind c.args.version c.args.bytes.now c.in-Some-behind-4.rest.now c.in-Some-behind-4.ensures) c.read_pair-in-Some-behind-4.ensures.none
