-- What calls touch, and which of it conflicts.
use Rattle.std.proofs.Common.{◌≡◌, ◌↔◌, ◌⊎◌, inl, inr, ℕ, ◌<◌, false, List, [], ◌∷◌, length, Option, refl, sym, ap, subst, ◌∙◌, arith, true≢false}
use Rattle.std.specs.Prelude.{All, Contains, flat_map, map}
use Rattle.std.proofs.lemmas.Bool.{cases_Bool}
use Rattle.std.proofs.lemmas.List.Concat.{flat_map-cons}
use Rattle.std.proofs.lemmas.List.Elements.{All-get_or, Contains-append_cases, Contains-append_left, Contains-append_right, Contains-push_cases}
use Rattle.std.proofs.lemmas.List.{get_or-map}
use Rattle.rd_base.specs.declared.values.Value.{Value}
use Rattle.rd_classes.specs.Merged.{merged}
use Rattle.rd_ecl.proofs.CommuteLemmas.{symmetric}
use Rattle.rd_ecl.specs.Kinds.{kinds_of}
use Rattle.rd_ecl.specs.Specified.{IsKind, SpecifiedKind, commutes, kind_at, no_kind}
use Rattle.rd_event.specs.declared.events.Call.{Call as CallOf}
use Rattle.rd_order.specs.EventLists.{IsCallOf}
use Rattle.rd_points.specs.Compiled.{compiled}
use Rattle.rd_points.specs.Points.{value_of_slot}
use Rattle.rd_points.specs.Tables.{MeetsIn, PointTable, Tells, conflicts_at, touched}
use Rattle.rd_points.specs.declared.points.Point.{Point}
use Rattle.rd_points.specs.declared.touches.Touch.{Touch}
use Rattle.rd_races.specs.Commuting.{Commute, calls_commute}
use Rattle.rd_detect.specs.Detect.{asked_points, conflicting_points, in_class, no_table, point_of, table_at, tables_of, touched_points}
use Rattle.rd_detect.proofs.AskLemmas.{IsOfKind, of_kind}

-- ---- lists

pub none_in : {X : Type 0} {P : Type 0} (x : X) → Contains [] x → P
none_in x has = absurd (omega (arith, has.1))

pub here : {X : Type 0} (x : X) (xs : List X) → Contains (x ∷ xs) x
here x xs = (0, omega arith, refl)

pub later : {X : Type 0} (x : X) (xs : List X) (y : X) → Contains xs y → Contains (x ∷ xs) y
later x xs y has = Contains-append_right (x ∷ []) xs y has

-- it is the first, or among the rest
pub first_or_later : {X : Type 0} (x : X) (xs : List X) (y : X) → Contains (x ∷ xs) y → (x ≡ y) ⊎ Contains xs y
first_or_later x xs y has = elim (Contains-append_cases (x ∷ []) xs y has) [
  | inl first ↦ elim (Contains-push_cases [] x y first) [ inl none ↦ none_in y none | inr same ↦ inl same ]
  | inr rest ↦ inr rest
]

module _ {X Y : Type 0} (f : X → Y) where
  pub mapped : (xs : List X) (x : X) → Contains xs x → Contains (map f xs) (f x)
  mapped [] x has = none_in x has
  mapped (y ∷ ys) x has = elim (first_or_later y ys x has) [
    | inl same ↦ subst (λ z. Contains (f y ∷ map f ys) (f z)) same (here (f y) (map f ys))
    | inr rest ↦ later (f y) (map f ys) (f x) (mapped ys x rest)
  ]

  pub unmapped : (xs : List X) (y : Y) → Contains (map f xs) y → (x : X) × Contains xs x × (f x ≡ y)
  unmapped [] y has = none_in y has
  unmapped (x ∷ xs) y has = elim (first_or_later (f x) (map f xs) y has) [
    | inl same ↦ (x, here x xs, same)
    | inr rest ↦ let found = unmapped xs y rest in (found.0, later x xs found.0 found.1, found.2)
  ]

module _ {X Y : Type 0} (f : X → List Y) where
  pub flattened : (xs : List X) (x : X) (y : Y) → Contains xs x → Contains (f x) y → Contains (flat_map f xs) y
  flattened [] x y has inside = none_in x has
  flattened (z ∷ zs) x y has inside = subst (λ l. Contains l y) (sym (flat_map-cons f z zs)) (elim (first_or_later z zs x has) [
    | inl same ↦ Contains-append_left (f z) (flat_map f zs) y (subst (λ w. Contains (f w) y) (sym same) inside)
    | inr rest ↦ Contains-append_right (f z) (flat_map f zs) y (flattened zs x y rest inside)
  ])

  pub unflattened : (xs : List X) (y : Y) → Contains (flat_map f xs) y → (x : X) × Contains xs x × Contains (f x) y
  unflattened [] y has = none_in y has
  unflattened (x ∷ xs) y has = elim (Contains-append_cases (f x) (flat_map f xs) y (subst (λ l. Contains l y) (flat_map-cons f x xs) has)) [
    | inl first ↦ (x, here x xs, first)
    | inr rest ↦ let found = unflattened xs y rest in (found.0, later x xs found.0 found.1, found.2)
  ]

-- ---- tables

-- the table of a kind is its merged one
pub table_is : (kinds : List SpecifiedKind) (number : ℕ) → number < length kinds → table_at (tables_of kinds) number ≡ merged (compiled (kind_at kinds number))
table_is kinds number inside = get_or-map (λ kind. merged (compiled kind)) kinds number no_kind no_table inside

-- the touches of a call
abbrev touches_of : List PointTable → CallOf → List Touch
touches_of tables call = touched (table_at tables call.kind) call.method call.slots

-- the merged table of each kind tells which calls commute
abbrev pub MergedTell : Type 0
MergedTell = (kind : SpecifiedKind) → IsKind kind → Tells kind (merged (compiled kind))

abbrev pub point : ℕ → ℕ → Option Value → Point
point object class value = record { object = object; class = class; value = value }

pub same_points : (o o' c c' : ℕ) (v v' : Option Value) → o ≡ o' → c ≡ c' → v ≡ v' → point o c v ≡ point o' c' v'
same_points o o' c c' v v' e f g = rw (e, f, g) refl

-- a point that conflicts with one that a call touches, and that another touches: the calls are on one object
pub same_object : (tables : List PointTable) (a b : CallOf) (p : Point) → Contains (asked_points tables b) p → Contains (touched_points tables a) p → a.object ≡ b.object
same_object tables a b p asked touches =
    let by = unflattened (conflicting_points (table_at tables b.kind)) (touched_points tables b) p asked in
    let mine = unmapped (point_of b) (touches_of tables b) by.0 by.1 in
    let class = unmapped (in_class by.0) (conflicts_at (table_at tables b.kind) by.0.class) p by.2 in
    let theirs = unmapped (point_of a) (touches_of tables a) p touches in
    ap (λ (q : Point). q.object) (theirs.2 ∙ sym class.2) ∙ sym (ap (λ (q : Point). q.object) mine.2)

-- two calls of one kind
module _ (tell : MergedTell) (kinds : List SpecifiedKind) (known : All IsKind kinds) (a b : CallOf) (fits_a : IsCallOf (kinds_of kinds) a) (fits_b : IsCallOf (kinds_of kinds) b) (alike : a.kind ≡ b.kind) where
  abbrev kind : SpecifiedKind
  kind = kind_at kinds b.kind

  abbrev table : PointTable
  table = table_at (tables_of kinds) b.kind

  told : MeetsIn table b.method b.slots a.method a.slots ↔ (commutes kind b.method b.slots a.method a.slots ≡ false)
  told =
      let of_a = of_kind kinds a fits_a in
      let of_b = of_kind kinds b fits_b in
      let as_a : IsOfKind kind a = subst (λ number. IsOfKind (kind_at kinds number) a) alike of_a.1 in
      subst (λ (t : PointTable). MeetsIn t b.method b.slots a.method a.slots ↔ (commutes kind b.method b.slots a.method a.slots ≡ false)) (sym (table_is kinds b.kind of_b.0))
      (tell kind (All-get_or IsKind kinds b.kind no_kind of_b.0 known) b.method a.method b.slots a.slots of_b.1.method as_a.method of_b.1.slots as_a.slots)

  -- the touches of the first by the table of the second
  touches_a : touches_of (tables_of kinds) a ≡ touched table a.method a.slots
  touches_a = ap (λ number. touched (table_at (tables_of kinds) number) a.method a.slots) alike

  commuting_is : calls_commute kinds a b ≡ commutes kind b.method b.slots a.method a.slots
  unfolding calls_commute
  commuting_is = ap (λ number. commutes (kind_at kinds number) a.method a.slots b.method b.slots) alike ∙ symmetric kind a.method b.method a.slots b.slots

  -- a point that conflicts with one that the second touches, and that the first touches: they are on one object and don't commute
  pub apart : (p : Point) → Contains (asked_points (tables_of kinds) b) p → Contains (touched_points (tables_of kinds) a) p → (a.object ≡ b.object) × ¬ (Commute kinds a b)
  apart p asked touches =
      let by = unflattened (conflicting_points table) (touched_points (tables_of kinds) b) p asked in
      let mine = unmapped (point_of b) (touches_of (tables_of kinds) b) by.0 by.1 in
      let class = unmapped (in_class by.0) (conflicts_at table by.0.class) p by.2 in
      let theirs = unmapped (point_of a) (touches_of (tables_of kinds) a) p touches in
      let same : point_of a theirs.0 ≡ in_class by.0 class.0 = theirs.2 ∙ sym class.2 in
      let object : a.object ≡ b.object = ap (λ (q : Point). q.object) same ∙ sym (ap (λ (q : Point). q.object) mine.2) in
      let class_is : theirs.0.class ≡ class.0 = ap (λ (q : Point). q.class) same in
      let value : value_of_slot a.slots theirs.0.slot ≡ value_of_slot b.slots mine.0.slot = ap (λ (q : Point). q.value) same ∙ sym (ap (λ (q : Point). q.value) mine.2) in
      let conflict : Contains (conflicts_at table mine.0.class) theirs.0.class
      = subst (λ c. Contains (conflicts_at table c) theirs.0.class) (sym (ap (λ (q : Point). q.class) mine.2)) (subst (Contains (conflicts_at table by.0.class)) (sym class_is) class.1) in
      let fails = told.0 (mine.0, theirs.0, mine.1, subst (λ touches. Contains touches theirs.0) touches_a theirs.1, conflict, sym value) in
      (object, λ commute. true≢false (sym commute ∙ commuting_is ∙ fails))

  -- where they are on one object and don't commute, there is such a point
  pub met : a.object ≡ b.object → ¬ (Commute kinds a b) → (p : Point) × Contains (asked_points (tables_of kinds) b) p × Contains (touched_points (tables_of kinds) a) p
  met object fails =
      let found = told.1 (elim (cases_Bool (commutes kind b.method b.slots a.method a.slots)) [
        | inl holds ↦ absurd (fails (commuting_is ∙ holds))
        | inr differ ↦ differ
      ]) in
      let x : Touch = found.0 in
      let y : Touch = found.1 in
      let same : in_class (point_of b x) y.class ≡ point_of a y = same_points b.object a.object y.class y.class (value_of_slot b.slots x.slot) (value_of_slot a.slots y.slot) (sym object) refl found.5 in (
        point_of a y,
        flattened (conflicting_points table) (touched_points (tables_of kinds) b) (point_of b x) (point_of a y)
            (mapped (point_of b) (touches_of (tables_of kinds) b) x found.2)
            (subst (Contains (conflicting_points table (point_of b x))) same (mapped (in_class (point_of b x)) (conflicts_at table x.class) y.class found.4)),
        mapped (point_of a) (touches_of (tables_of kinds) a) y (subst (λ touches. Contains touches y) (sym touches_a) found.3),
      )
