use Rattle.rd_ecl.proofs.SideLemmas.{fits_there}
use Rattle.rd_ecl.proofs.sides.law_of_sides.Goals as goal

pub returns-clause-fits : goal.returns-clause-fits
returns-clause-fits c = fits_there
