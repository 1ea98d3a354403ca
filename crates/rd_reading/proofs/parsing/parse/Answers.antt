use Rattle.std.proofs.Common.{rules, tests}
use Rattle.rd_reading.proofs.parsing.parse.Goals as goal

pub returns-in-Err-clause-refused : goal.returns-in-Err-clause-refused
returns-in-Err-clause-refused c = search (tests, rules)
