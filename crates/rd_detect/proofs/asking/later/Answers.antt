use Rattle.std.proofs.Common.{rules, tests}
use Rattle.rd_detect.proofs.asking.later.Goals as goal

pub returns-then-deref : goal.returns-then-deref
returns-then-deref c = search (tests, rules)

pub returns : goal.returns
returns c = search (tests, rules)
