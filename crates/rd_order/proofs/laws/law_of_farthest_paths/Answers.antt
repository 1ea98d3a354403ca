use Rattle.rd_order.proofs.FarthestLemmas.{farthest_alone, farthest_is_path, path_is_farthest}
use Rattle.rd_order.proofs.laws.law_of_farthest_paths.Goals as goal

pub returns-clause-path : goal.returns-clause-path
returns-clause-path c = farthest_is_path

pub returns-clause-alone : goal.returns-clause-alone
returns-clause-alone c = farthest_alone

pub returns-clause-computed : goal.returns-clause-computed
returns-clause-computed c = path_is_farthest
