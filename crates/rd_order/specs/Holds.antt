-- What an event takes and gives back, as the code has it.
use Rattle.rd_order.specs.declared.edges.Hold.{Hold as Held}
use Rattle.rd_order.specs.declared.edges.Hold.TheVariants.{Exclusive, Shared}
use Rattle.rd_order.specs.Order.{Hold, exclusive, shared}

abbrev pub hold_in : Held → Hold
hold_in (Exclusive lock) = exclusive lock
hold_in (Shared lock) = shared lock
