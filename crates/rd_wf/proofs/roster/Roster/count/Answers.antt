use Rattle.std.proofs.Common.{refl}
use Rattle.rd_wf.proofs.NextLemmas.{after_call}
use Rattle.rd_wf.proofs.roster.Roster.count.Goals as goal

pub returns : goal.returns
returns g c = λ kinds lines thread object method slots stands.
    after_call kinds c.args.self.now _ lines stands refl refl refl thread object method slots refl refl refl refl
