use Rattle.std.proofs.Common.{rules, tests}
use Rattle.rd_reading.proofs.parsing.refused_at.Goals as goal

pub returns-in-Fault : goal.returns-in-Fault
returns-in-Fault c = search (tests, rules)
