use Rattle.std.proofs.Common.{refl}
use Rattle.rd_ecl.specs.Specified.{all_pairs}
use Rattle.rd_ecl.proofs.TestLemmas.{may_by}
use Rattle.rd_epoch.specs.Accesses.{variable_kind}
use Rattle.rd_epochs_command.proofs.variables.set_pairs.Goals as goal

pub put_pair-requires : goal.put_pair-requires
unfolding all_pairs
put_pair-requires c = simp c.requires (may_by _ 0 0 _ refl)

pub put_pair-requires-2 : goal.put_pair-requires-2
unfolding all_pairs
put_pair-requires-2 c = simp (c.put_pair.ensures, c.requires) (may_by _ 0 1 _ refl)

pub put_pair-requires-3 : goal.put_pair-requires-3
unfolding all_pairs
put_pair-requires-3 c = simp (c.put_pair-2.ensures, c.put_pair.ensures, c.requires) (may_by _ 1 1 _ refl)

pub returns : goal.returns
unfolding variable_kind
returns c = simp (c.put_pair-3.ensures, c.put_pair-2.ensures, c.put_pair.ensures, c.requires) refl
