use Rattle.std.proofs.Common.{rules, tests}
use Rattle.rd_base.proofs.spelling.is_short.Goals as goal

pub returns-else-bytes-ne48-clause-first : goal.returns-else-bytes-ne48-clause-first
returns-else-bytes-ne48-clause-first c = search (tests, rules)
