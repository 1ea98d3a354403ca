use Rattle.rd_more.proofs.MoreLemmas.{more_are, more_keep, more_sound}
use Rattle.rd_more.proofs.laws.law_of_more_machines.Goals as goal

pub returns-clause-kinds : goal.returns-clause-kinds
returns-clause-kinds c = more_are

pub returns-clause-sound : goal.returns-clause-sound
returns-clause-sound c = more_sound

pub returns-clause-keeps : goal.returns-clause-keeps
returns-clause-keeps c = more_keep
