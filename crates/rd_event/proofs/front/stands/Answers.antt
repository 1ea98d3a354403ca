use Rattle.rd_event.proofs.FrontLemmas.{standing_at}
use Rattle.rd_event.proofs.front.stands.Goals as goal

pub returns : goal.returns
returns c = standing_at c.args.byte _ c.ranges.byte.fits
