use Rattle.rd_memory.proofs.MemoryLemmas.{header_found}
use Rattle.rd_memory.proofs.TraceLemmas.{read_behind, write_behind, keyword_common, skipped_said, other_none}
use Rattle.rd_memory.proofs.laws.law_of_keywords.Goals as goal

pub returns-clause-read : goal.returns-clause-read
returns-clause-read c = read_behind

pub returns-clause-write : goal.returns-clause-write
returns-clause-write c = write_behind

pub returns-clause-header : goal.returns-clause-header
returns-clause-header c = header_found

pub returns-clause-common : goal.returns-clause-common
returns-clause-common c = keyword_common

pub returns-clause-skipped : goal.returns-clause-skipped
returns-clause-skipped c = skipped_said

pub returns-clause-other : goal.returns-clause-other
returns-clause-other c = other_none
