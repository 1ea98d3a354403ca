use Rattle.rd_memory.proofs.MemoryLemmas.{refused_uncommon}
use Rattle.rd_memory.proofs.reading.read_common.Goals as goal

pub returns-in_default-clause-none : goal.returns-in_default-clause-none
returns-in_default-clause-none c = refused_uncommon _ _ c.in_default.ensures.none c.in_default.ensures.memory c.in_default.ensures.call
