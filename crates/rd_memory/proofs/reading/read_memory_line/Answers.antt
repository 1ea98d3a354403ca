use Rattle.rd_memory.proofs.MemoryLemmas.{ok_says, ok_in_range, err_says_none}
use Rattle.rd_memory.proofs.reading.read_memory_line.Goals as goal

pub returns-clause-says : goal.returns-clause-says
returns-clause-says c = ok_says _ _ c.read_spelled.ensures.line

pub returns-clause-range : goal.returns-clause-range
returns-clause-range c = ok_in_range c.args.bytes.now _ c.read_spelled.ensures.line

pub returns-clause-only : goal.returns-clause-only
returns-clause-only c = err_says_none _ _ c.read_spelled.ensures.none
