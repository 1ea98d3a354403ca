-- The names of the kinds that a text says, as a roster asks for them.
use Rattle.std.proofs.Common.{◌≡◌, ◌≢◌, ℕ, List, [], ◌∷◌, length, ◌<◌, ◌^◌, arith, refl, sym, ap, subst}
use Rattle.std.specs.Prelude.{AllPairs, map}
use Rattle.rd_ecl.specs.Kinds.{kind_names, kinds_of}
use Rattle.rd_ecl.specs.Specified.{SpecifiedKind}
use Rattle.rd_reading.specs.Texts.{SpecSays}
use Rattle.rd_reading.proofs.NameLemmas.{read_names}

names_kept : (kinds : List SpecifiedKind) → kind_names (kinds_of kinds) ≡ map (λ kind. kind.name) kinds
names_kept [] = refl
names_kept (kind ∷ kinds) = ap (λ rest. kind.name ∷ rest) (names_kept kinds)

pub names_differ : (text : List ℕ) (taken : List (List ℕ)) (kinds : List SpecifiedKind) → SpecSays text taken kinds → AllPairs (λ x y. x ≢ y) (kind_names (kinds_of kinds))
names_differ text taken kinds says =
    subst (AllPairs (λ x y. x ≢ y)) (sym (names_kept kinds)) (read_names text taken kinds says).different

pub few_kinds : (text : List ℕ) (taken : List (List ℕ)) (kinds : List SpecifiedKind) → SpecSays text taken kinds → length kinds < 2 ^ 32
few_kinds text taken kinds says = let few = (read_names text taken kinds says).few in omega arith
