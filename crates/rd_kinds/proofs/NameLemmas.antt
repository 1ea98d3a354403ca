-- The names of the kinds that are built in: they differ, and are taken.
use Rattle.std.proofs.Common.{◌≢◌, refl}
use Rattle.std.specs.Prelude.{All, AllPairs, Contains, IsTrue, map}
use Rattle.std.proofs.lemmas.List.Elements.{All-weaker}
use Rattle.std.proofs.lemmas.List.Sums.{AllPass-from_list_all}
use Rattle.rd_ecl.specs.Kinds.{kind_names, kinds_of}
use Rattle.rd_ecl.specs.Specified.{SpecifiedKind}
use Rattle.rd_ecl.specs.Variables.{is_one_of}
use Rattle.rd_ecl.proofs.VariableLemmas.{among_decides, different_decides}
use Rattle.rd_more.specs.MoreKinds.{bag_kind, peak_kind, queue_kind, tally_kind}
use Rattle.rd_kinds.specs.Shipped.{counter_kind, dictionary_kind, register_kind, reserved_names, set_kind, shipped_kinds}

pub names_differ : AllPairs (λ x y. x ≢ y) (map (λ (kind : SpecifiedKind). kind.name) shipped_kinds)
unfolding counter_kind dictionary_kind register_kind set_kind bag_kind peak_kind queue_kind tally_kind
names_differ = (different_decides (map (λ (kind : SpecifiedKind). kind.name) shipped_kinds)).0 refl

pub listed_differ : AllPairs (λ x y. x ≢ y) (kind_names (kinds_of shipped_kinds))
unfolding counter_kind dictionary_kind register_kind set_kind bag_kind peak_kind queue_kind tally_kind
listed_differ = (different_decides (map (λ (kind : SpecifiedKind). kind.name) shipped_kinds)).0 refl

pub names_reserved : All (λ (kind : SpecifiedKind). Contains reserved_names kind.name) shipped_kinds
unfolding counter_kind dictionary_kind register_kind set_kind bag_kind peak_kind queue_kind tally_kind
names_reserved =
    All-weaker (λ kind. IsTrue (is_one_of kind.name reserved_names)) (λ kind. Contains reserved_names kind.name)
    (λ kind. (among_decides kind.name reserved_names).0) shipped_kinds (AllPass-from_list_all (λ kind. is_one_of kind.name reserved_names) shipped_kinds refl)
