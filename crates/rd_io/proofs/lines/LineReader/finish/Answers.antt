use Rattle.std.proofs.Common.{rules, tests}
use Rattle.rd_io.proofs.lines.LineReader.finish.Goals as goal

pub returns-clause-rest : goal.returns-clause-rest
returns-clause-rest c = search (tests, rules)
