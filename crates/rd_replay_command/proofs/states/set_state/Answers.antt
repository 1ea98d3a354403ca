use Rattle.std.proofs.Common.{arith}
use Rattle.std.proofs.lemmas.Grind.{common_steps, elements}
use Rattle.rd_replay_command.proofs.states.set_state.Goals as goal

pub object_name-requires : goal.object_name-requires
object_name-requires c = grind (arith, common_steps)

pub returns : goal.returns
returns c = grind (arith, elements)
