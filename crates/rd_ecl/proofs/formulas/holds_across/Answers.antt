use Rattle.std.proofs.Common.{rules, tests}
use Rattle.rd_ecl.proofs.formulas.holds_across.Goals as goal

pub returns-then-flipped-clause-turned : goal.returns-then-flipped-clause-turned
returns-then-flipped-clause-turned c = search (tests, rules)
