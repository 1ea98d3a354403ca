use Rattle.std.proofs.Common.{rules, tests}
use Rattle.rd_replay_command.proofs.following.follow_call.Goals as goal

pub returns-in-Ok-clause-follows : goal.returns-in-Ok-clause-follows
returns-in-Ok-clause-follows c = search (tests, rules)
