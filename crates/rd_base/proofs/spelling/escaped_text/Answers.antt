use Rattle.std.proofs.Common.{rules, tests}
use Rattle.rd_base.proofs.spelling.escaped_text.Goals as goal

pub returns-in_default-clause-memory : goal.returns-in_default-clause-memory
returns-in_default-clause-memory c = search (tests, rules)
