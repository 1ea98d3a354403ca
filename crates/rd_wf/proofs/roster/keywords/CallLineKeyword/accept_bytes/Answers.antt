use Rattle.std.proofs.Common.{refl}
use Rattle.rd_rules.specs.MayFollow.{version_of}
use Rattle.rd_wf.proofs.BytesLemmas.{call_taken, no_call}
use Rattle.rd_wf.proofs.roster.keywords.CallLineKeyword.accept_bytes.Goals as goal

pub returns-in_default : goal.returns-in_default
returns-in_default g c = λ kinds lines stands. ((λ known. no_call (version_of lines) c.args.bytes.now known.1 c.in_default.ensures.none), refl)

pub returns : goal.returns
returns g c = λ kinds lines stands.
    call_taken _ kinds c.args.limits.now lines c.args.bytes.now c.args.roster.now c.call.new.self stands _ (λ known. known.0) c.in-Some.words.now c.in-Some.ensures.some c.call.result c.call.ensures
