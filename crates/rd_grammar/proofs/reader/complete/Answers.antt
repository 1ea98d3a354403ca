use Rattle.std.proofs.Common.{rules, tests}
use Rattle.rd_grammar.proofs.reader.complete.Goals as goal

pub returns-in-And : goal.returns-in-And
returns-in-And c = search (tests, rules)
