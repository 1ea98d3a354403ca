use Rattle.std.proofs.Common.{◌≡◌, ◌++◌, codes, Some, subst}
use Rattle.rd_event.specs.Items.{words_apart}
use Rattle.rd_event.specs.Reading.{item_of}
use Rattle.rd_event.specs.declared.items.Line.{Line}
use Rattle.rd_event.specs.declared.items.Line.TheVariants.{Event}
use Rattle.rd_event.specs.declared.items.LineEvent.TheVariants.{Call}
use Rattle.rd_event.proofs.ReadingLemmas.{found_again}
use Rattle.rd_event.proofs.SlotLemmas.{slots_said}
use Rattle.rd_event.proofs.reading.law_of_calls.Goals as goal

pub returns : goal.returns
returns c = λ version thread object method values slots thread_is object_is method_is found.
    let said = slots_said values slots found in
    let item : Line = Event (Call thread object method slots) in
    subst (λ behind. item_of version (codes "call " ++ words_apart thread (words_apart object (words_apart method behind))) ≡ Some item) said.1
    (found_again version item (thread_is, object_is, method_is, said.0) tt)
