use Rattle.rd_rules.proofs.FollowLemmas.{judged, follows_apart, some_from_broken}
use Rattle.rd_rules.proofs.laws.law_of_following.Goals as goal

pub returns : goal.returns
returns c = record { test = judged; apart = follows_apart; only = some_from_broken }
