use Rattle.std.proofs.Common.{refl}
use Rattle.rd_kinds.proofs.MachineLemmas.{all_keep, all_sound}
use Rattle.rd_kinds.proofs.ObjectKinds.{machine_of_kind}
use Rattle.rd_kinds.proofs.laws.law_of_machines.Goals as goal

pub returns-clause-kinds : goal.returns-clause-kinds
returns-clause-kinds c = refl

pub returns-clause-sound : goal.returns-clause-sound
returns-clause-sound c = all_sound

pub returns-clause-keeps : goal.returns-clause-keeps
returns-clause-keeps c = all_keep

pub returns-clause-objects : goal.returns-clause-objects
returns-clause-objects c = machine_of_kind
