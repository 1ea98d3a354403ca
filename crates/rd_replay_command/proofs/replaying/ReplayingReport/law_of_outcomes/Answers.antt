use Rattle.rd_walk.specs.Walk.{after}
use Rattle.rd_replay_command.proofs.ReplayLemmas.{replay_fronts, replay_well}
use Rattle.rd_replay_command.proofs.replaying.ReplayingReport.law_of_outcomes.Goals as goal

pub returns-clause-fronts : goal.returns-clause-fronts
returns-clause-fronts c = λ kinds entries walked begins accepted. replay_fronts kinds (after entries walked)

pub returns-clause-well : goal.returns-clause-well
returns-clause-well c = replay_well
