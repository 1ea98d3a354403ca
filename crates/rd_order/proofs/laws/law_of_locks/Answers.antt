use Rattle.rd_order.proofs.HoldLemmas.{formed_sane}
use Rattle.rd_order.proofs.LockLemmas.{holds_reach}
use Rattle.rd_order.proofs.laws.law_of_locks.Goals as goal

pub returns-clause-order : goal.returns-clause-order
returns-clause-order c = λ roots es i j a b h k formed rises at_i at_j uses again against. holds_reach roots es i j a b h k formed rises at_i at_j uses again against

pub returns-clause-covered : goal.returns-clause-covered
returns-clause-covered c = λ roots es t h formed. (formed_sane roots es formed).covered t h

pub returns-clause-alone : goal.returns-clause-alone
returns-clause-alone c = λ roots es t u h k formed against other has. (formed_sane roots es formed).alone t u h k against other has
