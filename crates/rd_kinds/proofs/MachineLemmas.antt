-- The laws of the machines of the kinds that are built in, of all of them.
use Rattle.std.proofs.Common.{◌∷◌}
use Rattle.std.specs.Prelude.{All}
use Rattle.std.proofs.lemmas.List.Elements.{All-cons}
use Rattle.rd_object.specs.Machines.{IsSound, KeepsShapes}
use Rattle.rd_more.proofs.MoreLemmas.{more_keep, more_sound}
use Rattle.rd_more.specs.Machines.{more_machines}
use Rattle.rd_kinds.specs.laws.CounterLaws.{counter_keeps, counter_sound}
use Rattle.rd_kinds.specs.laws.DictionaryLaws.{dictionary_keeps, dictionary_sound}
use Rattle.rd_kinds.specs.Machines.{counter_machine, dictionary_machine, register_machine, set_machine, shipped_machines}
use Rattle.rd_kinds.specs.laws.RegisterLaws.{register_keeps, register_sound}
use Rattle.rd_kinds.specs.laws.SetLaws.{set_keeps, set_sound}

pub all_sound : All IsSound shipped_machines
all_sound =
    All-cons IsSound register_machine (counter_machine ∷ set_machine ∷ dictionary_machine ∷ more_machines) register_sound
    (All-cons IsSound counter_machine (set_machine ∷ dictionary_machine ∷ more_machines) counter_sound
    (All-cons IsSound set_machine (dictionary_machine ∷ more_machines) set_sound (All-cons IsSound dictionary_machine more_machines dictionary_sound more_sound)))

pub all_keep : All KeepsShapes shipped_machines
all_keep =
    All-cons KeepsShapes register_machine (counter_machine ∷ set_machine ∷ dictionary_machine ∷ more_machines) register_keeps
    (All-cons KeepsShapes counter_machine (set_machine ∷ dictionary_machine ∷ more_machines) counter_keeps
    (All-cons KeepsShapes set_machine (dictionary_machine ∷ more_machines) set_keeps
    (All-cons KeepsShapes dictionary_machine more_machines dictionary_keeps more_keep)))
