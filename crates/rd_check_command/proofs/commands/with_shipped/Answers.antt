use Rattle.std.proofs.Common.{rules}
use Rattle.rd_check_command.proofs.commands.with_shipped.Goals as goal

pub returns-in-Ok : goal.returns-in-Ok
returns-in-Ok c = search rules
