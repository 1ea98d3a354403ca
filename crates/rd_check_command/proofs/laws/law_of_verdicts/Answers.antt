use Rattle.std.proofs.Common.{◌++◌, refl}
use Rattle.rd_kinds.specs.Shipped.{shipped_kinds}
use Rattle.rd_check_command.proofs.VerdictLemmas.{verdicts}
use Rattle.rd_check_command.proofs.laws.law_of_verdicts.Goals as goal

pub returns : goal.returns
returns c more entries accepted none exact = verdicts more (shipped_kinds ++ more) refl entries accepted none exact
