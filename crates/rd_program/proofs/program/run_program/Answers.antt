use Rattle.std.proofs.Common.{inr}
use Rattle.rd_walk.specs.declared.status.Status.TheVariants.{NoMemory}
use Rattle.rd_program.proofs.program.run_program.Goals as goal

pub returns-in-Err-NoMemory : goal.returns-in-Err-NoMemory
returns-in-Err-NoMemory g c = inr (NoMemory, c.exit_code.ensures)
