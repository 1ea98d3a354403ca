use Rattle.rd_gen.proofs.CountLemmas.{calls_generated}
use Rattle.rd_gen.proofs.counts.calls_in.Goals as goal

pub returns : goal.returns
returns c = λ number. calls_generated number c.args.count
