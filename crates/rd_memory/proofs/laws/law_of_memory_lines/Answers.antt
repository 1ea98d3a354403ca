use Rattle.rd_memory.proofs.MemoryLemmas.{found_said_line, line_found, found_again, one_line}
use Rattle.rd_memory.proofs.laws.law_of_memory_lines.Goals as goal

pub returns-clause-test : goal.returns-clause-test
returns-clause-test c = λ bytes line range. (line_found bytes line range, (λ found. (found_said_line bytes line found).1))

pub returns-clause-range : goal.returns-clause-range
returns-clause-range c = λ bytes line found. (found_said_line bytes line found).0

pub returns-clause-again : goal.returns-clause-again
returns-clause-again c = found_again

pub returns-clause-one_line : goal.returns-clause-one_line
returns-clause-one_line c = one_line
