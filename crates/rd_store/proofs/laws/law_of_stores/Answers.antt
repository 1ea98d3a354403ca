use Rattle.rd_store.proofs.FewLemmas.{few_cells, few_others}
use Rattle.rd_store.proofs.laws.law_of_stores.Goals as goal

pub returns-clause-few : goal.returns-clause-few
returns-clause-few c = λ cells n each below. few_cells n cells each below

pub returns-clause-others : goal.returns-clause-others
returns-clause-others c = λ cells n thread each below known. few_others cells n thread each below known
