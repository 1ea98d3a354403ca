use Rattle.std.proofs.Common.{[], ◌∷◌, refl}
use Rattle.rd_detect.proofs.LaterLemmas.{stand_longer, stand_none}
use Rattle.rd_detect.proofs.laws.law_of_covers.Goals as goal

pub returns-clause-events : goal.returns-clause-events
returns-clause-events c = λ es e store covers. stand_longer es (e ∷ []) store covers

pub returns-clause-none : goal.returns-clause-none
returns-clause-none c = λ es store. stand_none es store [] refl
