use Rattle.rd_event.proofs.ReadingLemmas.{ok_in_range, ok_says, err_says_none}
use Rattle.rd_event.proofs.reading.read_into.Goals as goal

pub returns-clause-says : goal.returns-clause-says
returns-clause-says c = ok_says c.args.version _ _ _ c.read_item.ensures.item

pub returns-clause-range : goal.returns-clause-range
returns-clause-range c = ok_in_range c.args.version c.args.bytes.now _ _ c.read_item.ensures.item

pub returns-clause-only : goal.returns-clause-only
returns-clause-only c = err_says_none c.args.version _ _ c.read_item.ensures.none
