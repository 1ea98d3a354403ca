use Rattle.std.proofs.Common.{arith}
use Rattle.std.proofs.lemmas.Grind.{common_steps}
use Rattle.rd_hb.proofs.tracker.Tracker.first_clock.Goals as goal

pub returns-clause-ticked : goal.returns-clause-ticked
returns-clause-ticked g c = grind (arith, common_steps)

pub tick-requires-clause-below : goal.tick-requires-clause-below
tick-requires-clause-below g c = grind (arith, common_steps)

pub returns-clause-room : goal.returns-clause-room
returns-clause-room g c = grind (arith, common_steps)
