use Rattle.std.proofs.Common.{rules, tests}
use Rattle.rd_spec_command.proofs.specifications.refusal_status.Goals as goal

pub returns-in_default : goal.returns-in_default
returns-in_default c = search (tests, rules)
