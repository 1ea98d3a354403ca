-- Each of the four kinds is a kind, and each of the machines is sound and keeps shapes.
use Rattle.std.proofs.Common.{[], ◌∷◌, codes, refl}
use Rattle.std.specs.Prelude.{All, map}
use Rattle.std.proofs.lemmas.List.Elements.{All-cons, All-nil}
use Rattle.rd_base.specs.Names.{is_name}
use Rattle.rd_ecl.specs.Specified.{IsKind, all_pairs}
use Rattle.rd_object.specs.Machines.{IsSound, KeepsShapes, Machine}
use Rattle.rd_parts.proofs.KindLemmas.{kind_by}
use Rattle.rd_more.specs.Machines.{bag_machine, more_machines, peak_machine, queue_machine, tally_machine}
use Rattle.rd_more.specs.MoreKinds.{bag_kind, bag_methods, bag_pairs, peak_kind, peak_methods, peak_pairs, queue_kind, queue_methods, queue_pairs, tally_kind, tally_methods, tally_pairs}
use Rattle.rd_more.specs.laws.BagLaws.{bag_keeps, bag_sound}
use Rattle.rd_more.specs.laws.PeakLaws.{peak_keeps, peak_sound}
use Rattle.rd_more.specs.laws.QueueLaws.{queue_keeps, queue_sound}
use Rattle.rd_more.specs.laws.TallyLaws.{tally_keeps, tally_sound}

bag_is : IsKind bag_kind
unfolding all_pairs bag_kind is_name
bag_is = kind_by (codes "bag") bag_methods bag_pairs refl

peak_is : IsKind peak_kind
unfolding all_pairs peak_kind is_name
peak_is = kind_by (codes "peak") peak_methods peak_pairs refl

queue_is : IsKind queue_kind
unfolding all_pairs queue_kind is_name
queue_is = kind_by (codes "queue") queue_methods queue_pairs refl

tally_is : IsKind tally_kind
unfolding all_pairs tally_kind is_name
tally_is = kind_by (codes "tally") tally_methods tally_pairs refl

pub more_are : All IsKind (map (λ (machine : Machine). machine.kind) more_machines)
more_are =
    All-cons IsKind bag_kind (peak_kind ∷ queue_kind ∷ tally_kind ∷ []) bag_is
    (All-cons IsKind peak_kind (queue_kind ∷ tally_kind ∷ []) peak_is
    (All-cons IsKind queue_kind (tally_kind ∷ []) queue_is (All-cons IsKind tally_kind [] tally_is (All-nil IsKind))))

pub more_sound : All IsSound more_machines
more_sound =
    All-cons IsSound bag_machine (peak_machine ∷ queue_machine ∷ tally_machine ∷ []) bag_sound
    (All-cons IsSound peak_machine (queue_machine ∷ tally_machine ∷ []) peak_sound
    (All-cons IsSound queue_machine (tally_machine ∷ []) queue_sound (All-cons IsSound tally_machine [] tally_sound (All-nil IsSound))))

pub more_keep : All KeepsShapes more_machines
more_keep =
    All-cons KeepsShapes bag_machine (peak_machine ∷ queue_machine ∷ tally_machine ∷ []) bag_keeps
    (All-cons KeepsShapes peak_machine (queue_machine ∷ tally_machine ∷ []) peak_keeps
    (All-cons KeepsShapes queue_machine (tally_machine ∷ []) queue_keeps (All-cons KeepsShapes tally_machine [] tally_keeps (All-nil KeepsShapes))))
