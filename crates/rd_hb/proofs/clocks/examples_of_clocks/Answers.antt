use Rattle.std.specs.Prelude.{[], ◌∷◌}
use Rattle.rd_event.specs.declared.events.Event.TheVariants.{Fork, Join}
use Rattle.rd_order.specs.OrderTests.{is_linked, is_edge, reaches}
use Rattle.rd_hb.specs.ClockTests.{clock_at}
use Rattle.rd_hb.proofs.ClockTestLemmas.{clock_at_is}
use Rattle.rd_hb.proofs.clocks.examples_of_clocks.Goals as goal

pub returns-clause-clock_of_a_join_at_its_thread : goal.returns-clause-clock_of_a_join_at_its_thread
unfolding clock_at reaches is_edge is_linked
returns-clause-clock_of_a_join_at_its_thread c = clock_at_is (Fork 0 1 ∷ Fork 1 2 ∷ Join 0 1 ∷ []) 2 0

pub returns-clause-clock_of_a_join_at_the_joined : goal.returns-clause-clock_of_a_join_at_the_joined
unfolding clock_at reaches is_edge is_linked
returns-clause-clock_of_a_join_at_the_joined c = clock_at_is (Fork 0 1 ∷ Fork 1 2 ∷ Join 0 1 ∷ []) 2 1

pub returns-clause-clock_of_a_child : goal.returns-clause-clock_of_a_child
unfolding clock_at reaches is_edge is_linked
returns-clause-clock_of_a_child c = clock_at_is (Fork 0 1 ∷ Fork 1 2 ∷ Join 0 1 ∷ []) 1 0
