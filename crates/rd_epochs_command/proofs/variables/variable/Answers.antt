use Rattle.std.proofs.Common.{refl, subst, sym}
use Rattle.rd_ecl.specs.Specified.{IsWhole}
use Rattle.rd_epoch.specs.Accesses.{variable_kind}
use Rattle.rd_parts.proofs.KindLemmas.{whole_by}
use Rattle.rd_epochs_command.proofs.variables.variable.Goals as goal

pub finish-requires : goal.finish-requires
unfolding variable_kind
finish-requires c = subst IsWhole (sym c.set_pairs.ensures) (whole_by variable_kind refl)
