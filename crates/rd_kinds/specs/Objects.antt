-- What an object of a kind that is built in holds, and its machine.
use Rattle.std.specs.Prelude.{ℕ}
use Rattle.rd_object.specs.Machines.{Machine}
use Rattle.rd_object.specs.declared.shapes.Shape.{Shape}
use Rattle.rd_object.specs.declared.shapes.Shape.TheVariants.{One, Number, Items, Map, Counts, Row}
use Rattle.rd_kinds.specs.Machines.{counter_machine, dictionary_machine, register_machine, set_machine}
use Rattle.rd_more.specs.Machines.{bag_machine, peak_machine, queue_machine, tally_machine}
use Rattle.rd_more.specs.Peaks.{peak_value}
use Rattle.rd_kinds.specs.declared.objects.Object.{Object}
use Rattle.rd_kinds.specs.declared.objects.Object.TheVariants.{Register, Counter, Set, Dictionary, Bag, Peak, Queue, Tally}

-- the number of its kind
abbrev pub object_kind : Object → ℕ
object_kind (Register held) = 0
object_kind (Counter number) = 1
object_kind (Set items) = 2
object_kind (Dictionary entries) = 3
object_kind (Bag counts) = 4
object_kind (Peak peak) = 5
object_kind (Queue items) = 6
object_kind (Tally counts) = 7

-- what it holds
abbrev pub shape_of : Object → Shape
shape_of (Register held) = One held
shape_of (Counter number) = Number number
shape_of (Set items) = Items items
shape_of (Dictionary entries) = Map entries
shape_of (Bag counts) = Counts counts
shape_of (Peak peak) = One (peak_value peak)
shape_of (Queue items) = Row items
shape_of (Tally counts) = Counts counts

abbrev pub machine_for : Object → Machine
machine_for (Register held) = register_machine
machine_for (Counter number) = counter_machine
machine_for (Set items) = set_machine
machine_for (Dictionary entries) = dictionary_machine
machine_for (Bag counts) = bag_machine
machine_for (Peak peak) = peak_machine
machine_for (Queue items) = queue_machine
machine_for (Tally counts) = tally_machine
