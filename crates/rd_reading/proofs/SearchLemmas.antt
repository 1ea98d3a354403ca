-- The first number with a property, and the pair of a kind that is missing first.
use Rattle.std.proofs.Common.{◌≡◌, ℕ, zero, suc, ◌<◌, ◌≤◌, List, [], ◌∷◌, length, Option, Some, None, refl, subst, arith, ◌⊎◌, inl, inr}
use Rattle.std.specs.Prelude.{IsSome, slice_get}
use Rattle.std.proofs.lemmas.Bool.{cases_eq, cases_lt}
use Rattle.std.proofs.lemmas.List.{length-map}
use Rattle.rd_ecl.specs.declared.kinds.Method.{Method}
use Rattle.rd_ecl.specs.Formulas.{Tree}
use Rattle.rd_ecl.specs.Specified.{IsWhole, SpecifiedKind, formula_at, names_of}
use Rattle.rd_reading.specs.Causes.{IsFirstMissing, LacksPair}

-- the number is below the count and has the property, and none before it has
pub record IsLeast (P : ℕ → Type 0) (count number : ℕ) : Type 0 where
  pub within : number < count
  pub here : P number
  pub before : (other : ℕ) → other < number → ¬ (P other)

abbrev pub NoneBelow : (ℕ → Type 0) → ℕ → Type 0
NoneBelow P count = (other : ℕ) → other < count → ¬ (P other)

-- below a count a property that can be asked of each number is that of a first one, or of none
pub least : (P : ℕ → Type 0) → ((number : ℕ) → P number ⊎ ¬ (P number)) → (count : ℕ) → ((number : ℕ) × IsLeast P count number) ⊎ NoneBelow P count
least P asked zero = inr (λ other below. absurd (omega (arith, below)))
least P asked (suc count) = elim (least P asked count) [
  | inl found ↦
      let first : IsLeast P count found.0 = found.1 in
      let within = first.within in
      inl (found.0, record { within = omega (arith, within); here = first.here; before = first.before })
  | inr none ↦ elim (asked count) [
    | inl here ↦ inl (count, record { within = omega arith; here = here; before = none })
    | inr lacks ↦ inr (λ other below holds. elim (cases_eq other count) [
      | inl same ↦ lacks (subst P same holds)
      | inr apart ↦ none other (omega (arith, below, apart)) holds
    ])
  ]
]

unset_or : (o : Option Tree) → (o ≡ None) ⊎ (IsSome o)
unset_or None = inl refl
unset_or (Some f) = inr refl

no_some : (o : Option Tree) → o ≡ None → ¬ (IsSome o)
no_some None same is = absurd (cc)
no_some (Some f) same is = absurd (cc)

some_there : (o : Option Tree) → ¬ (o ≡ None) → IsSome o
some_there None other = absurd (other refl)
some_there (Some f) other = refl

module _ (kind : SpecifiedKind) where
  -- the pair of the two methods is missing
  abbrev LacksAt : ℕ → ℕ → Type 0
  LacksAt first second = (first ≤ second) × (formula_at kind first second ≡ None)

  lacks_at : (first second : ℕ) → LacksAt first second ⊎ ¬ (LacksAt first second)
  lacks_at first second = elim (cases_lt second first) [
    | inl below ↦ inr (λ lacks. let ordered = lacks.0 in omega (arith, below, ordered))
    | inr ordered ↦ elim (unset_or (formula_at kind first second)) [
      | inl none ↦ inl (omega arith, none)
      | inr some ↦ inr (λ lacks. no_some (formula_at kind first second) lacks.1 some)
    ]
  ]

  -- a pair of the method and one from it on is missing, and this is the first
  abbrev LacksOf : ℕ → Type 0
  LacksOf first = (second : ℕ) × IsLeast (LacksAt first) (length kind.methods) second

  lacks_of : (first : ℕ) → LacksOf first ⊎ ¬ (LacksOf first)
  lacks_of first = elim (least (LacksAt first) (lacks_at first) (length kind.methods)) [
    | inl found ↦ inl found
    | inr none ↦ inr (λ found. none found.0 found.1.within found.1.here)
  ]

  -- where none is missing of a method, each is there
  row_whole : (first : ℕ) → ¬ (LacksOf first) → (second : ℕ) → first ≤ second → second < length kind.methods → IsSome (formula_at kind first second)
  row_whole first none second ordered within = elim (least (LacksAt first) (lacks_at first) (length kind.methods)) [
    | inl found ↦ absurd (none found)
    | inr others ↦ some_there (formula_at kind first second) (λ same. others second within (ordered, same))
  ]

  first_missing : (first : ℕ) → IsLeast LacksOf (length kind.methods) first → (second : ℕ) → IsLeast (LacksAt first) (length kind.methods) second
      → IsFirstMissing kind first second
  first_missing first row second found = record {
    ordered = found.here.0;
    known = found.within;
    missing = found.here.1;
    others = λ m n ordered within earlier. elim earlier [
      | inl below ↦ row_whole m (row.before m below) n ordered within
      | inr place ↦ some_there (formula_at kind m n) (λ same. found.before n place.1 (subst (λ (k : ℕ). LacksAt k n) place.0 (ordered, same)))
    ];
  }

  name_at : (i : ℕ) → i < length kind.methods → (name : List ℕ) × (slice_get (names_of kind.methods) i ≡ Some name)
  name_at i within = by (names_of kind.methods) i (omega (arith, within, length-map kind.methods (λ (m : Method). m.name))) where
    by : (names : List (List ℕ)) (i : ℕ) → i < length names → (name : List ℕ) × (slice_get names i ≡ Some name)
    by [] i within = absurd (omega (arith, within))
    by (name ∷ names) zero within = (name, refl)
    by (name ∷ names) (suc i) within = by names i (omega (arith, within))

  -- a kind has a pair missing, or each of its pairs
  pub lacks_or_whole : ((first : List ℕ) × (second : List ℕ) × LacksPair kind first second) ⊎ IsWhole kind
  lacks_or_whole = elim (least LacksOf lacks_of (length kind.methods)) [
    | inl row ↦
        let found = row.1.here in
        let second_within = found.1.within in
        let first_name = name_at row.0 row.1.within in
        let second_name = name_at found.0 second_within in
        inl (
          first_name.0,
          second_name.0,
          record {
            first_number = row.0;
            second_number = found.0;
            missing = first_missing row.0 row.1 found.0 found.1;
            first_name = first_name.1;
            second_name = second_name.1;
          },
        )
    | inr none ↦ inr (λ first second ordered within. row_whole first (none first (omega (arith, ordered, within))) second ordered within)
  ]

  -- a kind of which no pair is missing has each
  pub whole_of : ((first second : List ℕ) → ¬ (LacksPair kind first second)) → IsWhole kind
  whole_of none = elim lacks_or_whole [
    | inl lacks ↦ absurd (none lacks.0 lacks.1 lacks.2)
    | inr whole ↦ whole
  ]
