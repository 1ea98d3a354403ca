-- The names of the kinds of a trace's objects differ.
use Rattle.std.proofs.Common.{◌≡◌, ◌≢◌, ℕ, suc, ◌^◌, ◌<◌, List, [], ◌∷◌, ◌++◌, length, refl, sym, ap, ◌∙◌, subst, arith}
use Rattle.std.specs.Prelude.{All, AllPairs, Contains, map}
use Rattle.std.proofs.lemmas.List.{length-append, map-append}
use Rattle.std.proofs.lemmas.List.Elements.{All-append, All-head, All-map, All-tail, All-weaker}
use Rattle.std.proofs.lemmas.List.Kept.{AllPairs-cons}
use Rattle.rd_ecl.specs.Kinds.{kind_names, kinds_of}
use Rattle.rd_ecl.specs.Specified.{SpecifiedKind}
use Rattle.rd_kinds.specs.Shipped.{reserved_names, shipped_kinds}
use Rattle.rd_kinds.proofs.NameLemmas.{names_differ, names_reserved}
use Rattle.rd_reading.specs.Texts.{HasNewNames}

abbrev names : List SpecifiedKind → List (List ℕ)
names kinds = map (λ kind. kind.name) kinds

names_kept : (kinds : List SpecifiedKind) → kind_names (kinds_of kinds) ≡ names kinds
names_kept [] = refl
names_kept (kind ∷ kinds) = ap (λ rest. kind.name ∷ rest) (names_kept kinds)

pairs_appended : {X : Type 0} (R : X → X → Type 0) (xs ys : List X) → AllPairs R xs → AllPairs R ys → All (λ x. All (R x) ys) xs → AllPairs R (xs ++ ys)
pairs_appended R [] ys first second across = second
pairs_appended R (x ∷ xs) ys first second across =
    AllPairs-cons R x (xs ++ ys)
    (All-append (R x) xs ys (λ k d below. first 0 (suc k) d (omega arith) (omega arith)) (All-head (λ x. All (R x) ys) x xs across))
    (pairs_appended R xs ys (λ i j d before below. first (suc i) (suc j) d (omega arith) (omega arith)) second (All-tail (λ x. All (R x) ys) x xs across))

module _ (said : List SpecifiedKind) (new : HasNewNames reserved_names said) where
  across : All (λ x. All (λ y. x ≢ y) (names said)) (names shipped_kinds)
  across =
      All-map (λ x. All (λ y. x ≢ y) (names said)) (λ (kind : SpecifiedKind). kind.name) shipped_kinds
      (All-weaker (λ (kind : SpecifiedKind). Contains reserved_names kind.name) (λ (kind : SpecifiedKind). All (λ y. kind.name ≢ y) (names said))
      (λ kind taken. All-map (λ y. kind.name ≢ y) (λ (other : SpecifiedKind). other.name) said
      (All-weaker (λ (other : SpecifiedKind). ¬ (Contains reserved_names other.name)) (λ (other : SpecifiedKind). kind.name ≢ other.name)
      (λ other free same. free (subst (Contains reserved_names) same taken)) said new.free))
      shipped_kinds names_reserved)

  pub all_differ : AllPairs (λ x y. x ≢ y) (kind_names (kinds_of (shipped_kinds ++ said)))
  all_differ =
      subst (AllPairs (λ x y. x ≢ y)) (sym (names_kept (shipped_kinds ++ said) ∙ map-append (λ (kind : SpecifiedKind). kind.name) shipped_kinds said))
      (pairs_appended (λ x y. x ≢ y) (names shipped_kinds) (names said) names_differ new.different across)

  pub few_kinds : length (shipped_kinds ++ said) < 2 ^ 32
  few_kinds = omega (arith, length-append shipped_kinds said, new.few)
