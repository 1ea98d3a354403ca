use Rattle.rd_linear.proofs.DeterminismLemmas.{always_quiet, deterministic}
use Rattle.rd_linear.proofs.ExchangeLemmas.{unlinked}
use Rattle.rd_linear.proofs.FollowLemmas.{not_linked_back}
use Rattle.rd_linear.proofs.ReplayLemmas.{ends_exchanged, none_exchanged}
use Rattle.rd_linear.proofs.laws.law_of_determinism.Goals as goal

pub returns-clause-quiet : goal.returns-clause-quiet
returns-clause-quiet c roots kinds objects before after a b formed loose on none =
    let apart = unlinked before a b after loose in
    none_exchanged kinds objects before a b after apart (not_linked_back roots before a b after formed apart) on none

pub returns-clause-ends : goal.returns-clause-ends
returns-clause-ends c machines more objects shapes before after a b sound keeps = ends_exchanged machines more objects shapes before a b after sound keeps

pub returns-clause-always_quiet : goal.returns-clause-always_quiet
returns-clause-always_quiet c = always_quiet

pub returns-clause-deterministic : goal.returns-clause-deterministic
returns-clause-deterministic c = deterministic
