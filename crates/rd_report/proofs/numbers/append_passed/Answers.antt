use Rattle.std.proofs.Common.{arith}
use Rattle.rd_report.proofs.PlainLemmas.{limit_cause_plain}
use Rattle.rd_report.proofs.numbers.append_passed.Goals as goal

pub returns-clause-plain : goal.returns-clause-plain
returns-clause-plain c = limit_cause_plain c.args.name c.args.number (omega (arith, c.ranges.number.fits))
