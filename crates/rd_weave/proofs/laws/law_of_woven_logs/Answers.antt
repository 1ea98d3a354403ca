use Rattle.rd_ecl.specs.Kinds.{kinds_of}
use Rattle.rd_numbered_logs.specs.LogsUnder.{logs_under}
use Rattle.rd_races.specs.Commuting.{calls_commute}
use Rattle.rd_weave.proofs.laws.law_of_woven_logs.Goals as goal

pub returns-clause-reaches : goal.returns-clause-reaches
returns-clause-reaches c = λ kinds logs one other is_one is_other.
    c.law_of_weavings.ensures.reaches (logs_under kinds logs) one other (c.law_of_numbers.ensures.logs kinds logs) is_one.weaves is_other.weaves

pub returns-clause-races : goal.returns-clause-races
returns-clause-races c = λ kinds logs one other is_one is_other.
    c.law_of_weavings.ensures.races (calls_commute kinds) (logs_under (kinds_of kinds) logs) one other (λ a b same commute. c.law_of_commuting.ensures kinds a b same commute)
    (c.law_of_numbers.ensures.logs (kinds_of kinds) logs) is_one.weaves is_other.weaves
