use Rattle.rd_base.proofs.TextLemmas.{standing_at}
use Rattle.rd_base.proofs.spelling.stands.Goals as goal

pub returns : goal.returns
returns c = standing_at c.args.byte _ c.ranges.byte.fits
