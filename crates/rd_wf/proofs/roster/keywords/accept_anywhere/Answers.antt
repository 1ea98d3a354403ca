use Rattle.std.proofs.Common.{refl}
use Rattle.rd_wf.proofs.BytesLemmas.{taken_where}
use Rattle.rd_wf.proofs.roster.keywords.accept_anywhere.Goals as goal

pub returns : goal.returns
returns g c = λ kinds lines stands.
    taken_where _ _ kinds c.args.limits.now lines c.args.bytes.now c.args.roster.now c.accept_bytes.new.roster (λ begins. (refl, begins)) c.accept_bytes.result (c.accept_bytes.ensures kinds lines stands)
