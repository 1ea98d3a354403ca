use Rattle.std.proofs.lemmas.Grind.{common_steps}
use Rattle.std.proofs.Common.{arith}
use Rattle.rd_io.proofs.memory_sink.MemorySinkSink.write.Goals as goal

pub returns-then-failing-clause-failed : goal.returns-then-failing-clause-failed
returns-then-failing-clause-failed c = grind (arith, common_steps)

pub returns-then-failing-clause-err : goal.returns-then-failing-clause-err
returns-then-failing-clause-err c = grind (arith, common_steps)

pub unreachable-requires : goal.unreachable-requires
unreachable-requires c = grind (arith, common_steps)

pub unreachable-unreachable : goal.unreachable-unreachable
unreachable-unreachable c = grind (arith, common_steps)

pub overflow_sub-self : goal.overflow_sub-self
overflow_sub-self c = grind (arith, common_steps)

pub invariant_of-self-2 : goal.invariant_of-self-2
invariant_of-self-2 c = grind (arith, common_steps)

pub returns-clause-bound : goal.returns-clause-bound
returns-clause-bound c = grind (arith, common_steps)

pub returns-clause-written : goal.returns-clause-written
returns-clause-written c = grind (arith, common_steps)

pub returns-clause-later : goal.returns-clause-later
returns-clause-later c = grind (arith, common_steps)

pub returns-clause-failed : goal.returns-clause-failed
returns-clause-failed c = grind (arith, common_steps)

pub returns-clause-calm : goal.returns-clause-calm
returns-clause-calm c = grind (arith, common_steps)

pub returns-clause-refused : goal.returns-clause-refused
returns-clause-refused c = grind (arith, common_steps)

pub returns-clause-whole : goal.returns-clause-whole
returns-clause-whole c = grind (arith, common_steps)

pub returns-clause-ok : goal.returns-clause-ok
returns-clause-ok c = grind (arith, common_steps)

pub returns-clause-err : goal.returns-clause-err
returns-clause-err c = grind (arith, common_steps)
