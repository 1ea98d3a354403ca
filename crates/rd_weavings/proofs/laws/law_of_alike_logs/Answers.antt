use Rattle.rd_weavings.proofs.AlikeLemmas.{counts_alike, turns_alike}
use Rattle.rd_weavings.proofs.laws.law_of_alike_logs.Goals as goal

pub returns : goal.returns
returns c = record { turns = λ one other alike. turns_alike one other alike; counts = λ one other spots alike. counts_alike one other spots alike }
