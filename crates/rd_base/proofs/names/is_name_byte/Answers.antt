use Rattle.rd_base.proofs.NameLemmas.{name_byte_at}
use Rattle.rd_base.proofs.names.is_name_byte.Goals as goal

pub returns : goal.returns
returns c = name_byte_at c.args.byte _ c.ranges.byte.fits
