use Rattle.rd_ecl.proofs.TestLemmas.{may_by}
use Rattle.rd_ecl.proofs.kinds.law_of_pairs.Goals as goal

pub returns : goal.returns
returns c = may_by
