-- The entries of a store by their indices.
use Rattle.std.proofs.Common.{◌≡◌, ℕ, zero, suc, ◌<◌, Bool, true, false, cond, List, [], ◌∷◌, ◌++◌, length, get_or, Option, None, Some, is_some, IsTrue, ◌↔◌, refl, sym, ap, ◌∙◌, subst, arith, true≢false}
use Rattle.std.specs.Prelude.{MatchOption, position, slice_get}
use Rattle.std.specs.List.{AllByRecursion, IsDistinct}
use Rattle.std.specs.Map.{keys_of, values_of, lookup}
use Rattle.std.proofs.lemmas.Bool.{false_from_ne_true}
use Rattle.std.proofs.lemmas.List.Quantifiers.{position-Some}
use Rattle.indexmap.specs.Layout.{set_value_at}
use Rattle.rd_points.specs.PointLists.{same_point}
use Rattle.rd_points.specs.declared.points.Point.{Point}
use Rattle.rd_store.specs.Stores.{PointCells, held_of, point_at}
use Rattle.rd_store.specs.StoreParts.{Cells, held_entries}
use Rattle.rd_store.proofs.EntryLemmas.{Entries, FirstAt, IsFound, held_entry}

-- ---- the point at an index

-- an index of a point is in range; callers cite it
pub point_within : (store : List PointCells) (i : ℕ) (p : Point) → point_at store i ≡ Some p → i < length store
point_within [] i p at = cc
point_within (h ∷ store) zero p at = omega arith
point_within (h ∷ store) (suc i) p at = omega (arith, point_within store i p at)

point_from : (es : Entries) (i : ℕ) (d : Point) → i < length (keys_of es) → point_at (held_entries es) i ≡ Some (get_or (keys_of es) i d)
point_from [] i d within = absurd (omega arith)
point_from (e ∷ es) zero d within = refl
point_from (e ∷ es) (suc i) d within = point_from es i d (omega arith)

-- a value that is set leaves the points
pub point_set : (es : Entries) (i : ℕ) (w : Cells) (k : ℕ) → point_at (held_entries (set_value_at es i w)) k ≡ point_at (held_entries es) k
point_set [] i w k = refl
point_set (e ∷ es) zero w zero = refl
point_set (e ∷ es) zero w (suc k) = refl
point_set (e ∷ es) (suc i) w zero = refl
point_set (e ∷ es) (suc i) w (suc k) = point_set es i w k

-- a point that is entered stands last
module _ (p : Point) (v : Cells) where
  pub point_last : (es : Entries) → point_at (held_entries (es ++ (p, v) ∷ [])) (length es) ≡ Some p
  point_last [] = refl
  point_last (e ∷ es) = point_last es

  pub point_stays : (es : Entries) (i : ℕ) (q : Point) → point_at (held_entries es) i ≡ Some q → point_at (held_entries (es ++ (p, v) ∷ [])) i ≡ Some q
  point_stays [] i q at = cc
  point_stays (e ∷ es) zero q at = at
  point_stays (e ∷ es) (suc i) q at = point_stays es i q at

-- ---- what is held of a point

pub held_absent : (es : Entries) (p : Point) → lookup (same_point p) es ≡ None → held_of (held_entries es) p ≡ None
held_absent [] p absent = refl
held_absent (e ∷ es) p absent = by (same_point p e.0) absent (held_absent es p)
  where
    by : (b : Bool) → cond b (Some e.1) (lookup (same_point p) es) ≡ None → (lookup (same_point p) es ≡ None → held_of (held_entries es) p ≡ None)
        → cond b (Some (held_entry e)) (held_of (held_entries es) p) ≡ None
    by true h rest = cc
    by false h rest = rest h

pub absent_held : (es : Entries) (p : Point) → held_of (held_entries es) p ≡ None → lookup (same_point p) es ≡ None
absent_held [] p absent = refl
absent_held (e ∷ es) p absent = by (same_point p e.0) absent (absent_held es p)
  where
    by : (b : Bool) → cond b (Some (held_entry e)) (held_of (held_entries es) p) ≡ None → (held_of (held_entries es) p ≡ None → lookup (same_point p) es ≡ None)
        → cond b (Some e.1) (lookup (same_point p) es) ≡ None
    by true h rest = cc
    by false h rest = rest h

-- the point of an entry is that at its index
pub point_of_entry : (es : Entries) (i : ℕ) (q : Point) (v : Cells) → slice_get es i ≡ Some (q, v) → point_at (held_entries es) i ≡ Some q
point_of_entry [] i q v at = cc
point_of_entry (e ∷ es) zero q v at = cc
point_of_entry (e ∷ es) (suc i) q v at = point_of_entry es i q v at

pub point_of_none : (es : Entries) (i : ℕ) → slice_get es i ≡ None → point_at (held_entries es) i ≡ None
point_of_none [] i none = refl
point_of_none (e ∷ es) zero none = cc
point_of_none (e ∷ es) (suc i) none = point_of_none es i none

-- what a look-up of the entry's own point finds is what is held of the point at its index
pub entry_found : (es : Entries) (store : List PointCells) (i : ℕ) (p q : Point) (v : Cells) → held_entries es ≡ store → point_at store i ≡ Some p → slice_get es i ≡ Some (q, v)
    → lookup (same_point q) es ≡ Some v → lookup (same_point p) es ≡ Some v
entry_found es store i p q v is at entry found =
    let both : Some q ≡ Some p = sym (point_of_entry es i q v entry) ∙ ap (λ s. point_at s i) is ∙ at in
    let one : q ≡ p = cc in
    subst (λ point. lookup (same_point point) es ≡ Some v) one found

found_first : (test : Point → Bool) (es : Entries) (i : ℕ) (v : Cells) → FirstAt test es i → slice_get (values_of es) i ≡ Some v → lookup test es ≡ Some v
found_first test [] i v first at = absurd first
found_first test (e ∷ es) zero v first at = rw first at
found_first test (e ∷ es) (suc i) v first at = rw (first.0) (found_first test es i v first.1 at)

module _ (same : (a b : Point) → IsTrue (same_point a b) ↔ (a ≡ b)) where
  -- the index that a look-up gives is that of the point
  pub index_found : (es : Entries) (p : Point) (r : Option ℕ) → r ≡ position (same_point p) (keys_of es) → is_some r ≡ is_some (lookup (same_point p) es)
      → MatchOption r (held_of (held_entries es) p ≡ None) (λ i. point_at (held_entries es) i ≡ Some p)
  index_found es p None is found = held_absent es p (none (lookup (same_point p) es) found)
    where
      none : (o : Option Cells) → false ≡ is_some o → o ≡ None
      none None h = refl
      none (Some v) h = absurd (true≢false (sym h))
  index_found es p (Some i) is found =
      let s = position-Some (same_point p) (keys_of es) i p (sym is) in
      point_from es i p s.0 ∙ ap Some (sym ((same p (get_or (keys_of es) i p)).0 s.1))

  apart_at : (x p : Point) (es : Entries) (i : ℕ) → AllByRecursion (λ y. same_point x y ≡ false) (keys_of es) → point_at (held_entries es) i ≡ Some p → same_point p x ≡ false
  apart_at x p [] i all at = cc
  apart_at x p (e ∷ es) zero all at =
      let is : e.0 ≡ p = cc in
      false_from_ne_true (same_point p x) (λ too. true≢false (sym ((same x e.0).1 (sym ((same p x).0 too) ∙ sym is)) ∙ all.0))
  apart_at x p (e ∷ es) (suc i) all at = apart_at x p es i all.1 at

  -- points are distinct, so the one at an index is the first that is the same
  first_at : (es : Entries) (i : ℕ) (p : Point) → IsDistinct same_point (keys_of es) → point_at (held_entries es) i ≡ Some p → FirstAt (same_point p) es i
  unfolding IsDistinct
  first_at [] i p distinct at = cc
  first_at (e ∷ es) zero p distinct at = (same p e.0).1 cc
  first_at (e ∷ es) (suc i) p distinct at = (apart_at e.0 p es i distinct.0 at, first_at es i p distinct.1 at)

  -- what is held at an index is what is held of its point
  pub found_at : (es : Entries) (store : List PointCells) (i : ℕ) (p : Point) (v : Cells) → IsDistinct same_point (keys_of es) → held_entries es ≡ store → point_at store i ≡ Some p
      → slice_get (values_of es) i ≡ Some v → IsFound es p i v
  found_at es store i p v distinct is at value =
      let first = first_at es i p distinct (ap (λ s. point_at s i) is ∙ at) in
      record { first = first; found = found_first (same_point p) es i v first value; at = value }

  -- a point stands at one index alone
  pub entered_once : (es : Entries) → IsDistinct same_point (keys_of es) → (i j : ℕ) (p : Point) → point_at (held_entries es) i ≡ Some p → point_at (held_entries es) j ≡ Some p → i ≡ j
  unfolding IsDistinct
  entered_once [] distinct i j p at also = cc
  entered_once (e ∷ es) distinct zero zero p at also = refl
  entered_once (e ∷ es) distinct zero (suc j) p at also =
      let own : e.0 ≡ p = cc in
      absurd (true≢false (sym ((same p e.0).1 (sym own)) ∙ apart_at e.0 p es j distinct.0 also))
  entered_once (e ∷ es) distinct (suc i) zero p at also =
      let own : e.0 ≡ p = cc in
      absurd (true≢false (sym ((same p e.0).1 (sym own)) ∙ apart_at e.0 p es i distinct.0 at))
  entered_once (e ∷ es) distinct (suc i) (suc j) p at also = ap suc (entered_once es distinct.1 i j p at also)
