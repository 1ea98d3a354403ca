use Rattle.std.proofs.Common.{rules, tests}
use Rattle.rd_spec_command.proofs.specifications.CanonicalTextSpecReport.write.Goals as goal

pub returns-clause-ok : goal.returns-clause-ok
returns-clause-ok g c = search (tests, rules)

pub returns-clause-front : goal.returns-clause-front
returns-clause-front g c = search (tests, rules)
