use Rattle.std.proofs.Common.{refl}
use Rattle.rd_epoch.specs.Accesses.{variable_kind}
use Rattle.rd_epochs_command.proofs.lines.method_of.Goals as goal

pub returns-then-write-clause-found : goal.returns-then-write-clause-found
unfolding variable_kind
returns-then-write-clause-found c = rw c.if-write.true refl

pub returns-else-write-clause-found : goal.returns-else-write-clause-found
unfolding variable_kind
returns-else-write-clause-found c = rw c.if-write.false refl
