use Rattle.rd_memory.proofs.TraceLemmas.{items_in_range, items_of_version}
use Rattle.rd_memory.proofs.laws.law_of_memory_traces.Goals as goal

pub returns-clause-range : goal.returns-clause-range
returns-clause-range c = items_in_range

pub returns-clause-version : goal.returns-clause-version
returns-clause-version c = items_of_version
