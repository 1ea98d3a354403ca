use Rattle.rd_decimals.proofs.DecimalLemmas.{read_is_decimal}
use Rattle.rd_decimals.proofs.laws.law_of_decimals.Goals as goal

pub returns : goal.returns
returns c = read_is_decimal
