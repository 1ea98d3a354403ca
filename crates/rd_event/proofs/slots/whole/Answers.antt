use Rattle.rd_event.proofs.FrontLemmas.{longer_is_none}
use Rattle.rd_event.proofs.slots.whole.Goals as goal

pub returns-then-length-bytes-clause-none : goal.returns-then-length-bytes-clause-none
returns-then-length-bytes-clause-none c = longer_is_none c.args.bytes.now c.args.length c.requires c.if-length-bytes.true
