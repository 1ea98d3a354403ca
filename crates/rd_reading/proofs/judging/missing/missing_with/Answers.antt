use Rattle.std.proofs.Common.{rules, tests}
use Rattle.rd_reading.proofs.judging.missing.missing_with.Goals as goal

pub loop-second-init : goal.loop-second-init
loop-second-init c = search (tests, rules)
