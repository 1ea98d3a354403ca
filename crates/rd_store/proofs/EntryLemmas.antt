-- A store as the list of its entries.
use Rattle.std.proofs.Common.{◌≡◌, ◌≢◌, ℕ, zero, suc, ◌+◌, ◌-◌, ◌*◌, ◌<◌, ◌≤◌, ◌==◌, not, Bool, true, false, cond, filter, ◌⊎◌, inl, inr, List, [], ◌∷◌, ◌++◌, length, map, Option, None, Some, is_some, IsSome, IsTrue, Result, Ok, Err, IfOk, OnErr, ◌↔◌, refl, sym, ap, ◌∙◌, subst, arith, true≢false}
use Rattle.std.specs.Prelude.{slice_get, vec_len}
use Rattle.std.specs.Option.{option_map_or}
use Rattle.std.specs.List.{AllByRecursion, IsDistinct}
use Rattle.std.specs.Map.{keys_of, values_of, lookup}
use Rattle.std.proofs.lemmas.Bool.{eqb-false, eqb-true, false_from_ne_true}
use Rattle.std.proofs.lemmas.List.{length-map}
use Rattle.std.proofs.lemmas.List.Sums.{sum_by-cons}
use Rattle.indexmap.specs.Layout.{set_value_at}
use Rattle.rd_base.specs.declared.memory.NoMemory.{NoMemory}
use Rattle.rd_points.specs.PointLists.{same_point}
use Rattle.rd_points.specs.declared.points.Point.{Point}
use Rattle.rd_store.specs.declared.Seat.{Seat}
use Rattle.rd_store.specs.declared.Witness.{Witness}
use Rattle.rd_store.specs.Stores.{Cell, HasOneEach, HasRoom, IsSameStore, IsSeat, IsSwept, IsTouched, PointCells, cell_at, cell_count, cell_of, cells_at, held_of, place_of, point_at, spare_at}
use Rattle.rd_store.specs.StoreParts.{Cells, Held, cell, HaveOneEach, AreStoreFields, cells_of, held_entries, live, room_of, swept, swept_at, swept_below, with_cell}
use Rattle.rd_store.proofs.CellLemmas.{live-cell_of, live-one_each, place_stays, with-length, with-one_each, with-others, with-own}

abbrev pub Entries : Type 0
Entries = List (Point × Cells)

abbrev pub held_entry : Point × Cells → PointCells
held_entry e = record { point = e.0; cells = cells_of e.1; spare = room_of e.1 }

-- ---- look-ups

pub cells_at-entries : (es : Entries) (p : Point) → cells_at (held_entries es) p ≡ option_map_or cells_of (lookup (same_point p) es) []
cells_at-entries [] p = refl
cells_at-entries (e ∷ es) p = by (same_point p e.0) (cells_at-entries es p)
  where
    by : (b : Bool) → cells_at (held_entries es) p ≡ option_map_or cells_of (lookup (same_point p) es) []
        → option_map_or (λ (h : PointCells). h.cells) (cond b (Some (held_entry e)) (held_of (held_entries es) p)) [] ≡ option_map_or cells_of (cond b (Some e.1) (lookup (same_point p) es)) []
    by true rest = refl
    by false rest = rest

pub spare_at-entries : (es : Entries) (p : Point) → spare_at (held_entries es) p ≡ option_map_or room_of (lookup (same_point p) es) 0
spare_at-entries [] p = refl
spare_at-entries (e ∷ es) p = by (same_point p e.0) (spare_at-entries es p)
  where
    by : (b : Bool) → spare_at (held_entries es) p ≡ option_map_or room_of (lookup (same_point p) es) 0
        → option_map_or (λ (h : PointCells). h.spare) (cond b (Some (held_entry e)) (held_of (held_entries es) p)) 0 ≡ option_map_or room_of (cond b (Some e.1) (lookup (same_point p) es)) 0
    by true rest = refl
    by false rest = rest

-- the cells of a point that was found
pub found_cells : (es : Entries) (p : Point) (v : Cells) → lookup (same_point p) es ≡ Some v → cells_at (held_entries es) p ≡ cells_of v
found_cells es p v found = cells_at-entries es p ∙ ap (λ o. option_map_or cells_of o []) found

pub found_spare : (es : Entries) (p : Point) (v : Cells) → lookup (same_point p) es ≡ Some v → spare_at (held_entries es) p ≡ room_of v
found_spare es p v found = spare_at-entries es p ∙ ap (λ o. option_map_or room_of o 0) found

pub absent_cells : (es : Entries) (p : Point) → lookup (same_point p) es ≡ None → cells_at (held_entries es) p ≡ []
absent_cells es p absent = cells_at-entries es p ∙ ap (λ o. option_map_or cells_of o []) absent

pub absent_spare : (es : Entries) (p : Point) → lookup (same_point p) es ≡ None → spare_at (held_entries es) p ≡ 0
absent_spare es p absent = spare_at-entries es p ∙ ap (λ o. option_map_or room_of o 0) absent

pub one_each_found : (es : Entries) (test : Point → Bool) (v : Cells) → HaveOneEach es → lookup test es ≡ Some v → HasOneEach (cells_of v)
one_each_found [] test v each found = cc
one_each_found (e ∷ es) test v each found = by (test e.0) found (one_each_found es test v each.1)
  where
    by : (b : Bool) → cond b (Some e.1) (lookup test es) ≡ Some v → (lookup test es ≡ Some v → HasOneEach (cells_of v)) → HasOneEach (cells_of v)
    by true h rest = let same : e.1 ≡ v = cc in subst (λ (w : Cells). HasOneEach (cells_of w)) same each.0
    by false h rest = rest h

pub one_each_place : (es : Entries) (i : ℕ) (v : Cells) → HaveOneEach es → slice_get (values_of es) i ≡ Some v → HasOneEach (cells_of v)
one_each_place [] i v each at = cc
one_each_place (e ∷ es) zero v each at = let one : e.1 ≡ v = cc in subst (λ (w : Cells). HasOneEach (cells_of w)) one each.0
one_each_place (e ∷ es) (suc i) v each at = one_each_place es i v each.1 at

pub one_each_at : (es : Entries) (p : Point) → HaveOneEach es → HasOneEach (cells_at (held_entries es) p)
one_each_at es p each = by (lookup (same_point p) es) refl
  where
    by : (o : Option Cells) → lookup (same_point p) es ≡ o → HasOneEach (cells_at (held_entries es) p)
    by None is = subst HasOneEach (sym (absent_cells es p is)) tt
    by (Some v) is = subst HasOneEach (sym (found_cells es p v is)) (one_each_found es (same_point p) v each is)

-- ---- the first entry whose key passes

abbrev pub FirstAt : (Point → Bool) → Entries → ℕ → Type 0
FirstAt test [] i = ⊥
FirstAt test (e ∷ es) zero = test e.0 ≡ true
FirstAt test (e ∷ es) (suc i) = (test e.0 ≡ false) × FirstAt test es i

module _ (test : Point → Bool) (w : Cells) where
  pub lookup-set_own : (es : Entries) (i : ℕ) → FirstAt test es i → lookup test (set_value_at es i w) ≡ Some w
  lookup-set_own [] i first = absurd first
  lookup-set_own (e ∷ es) zero first = rw first refl
  lookup-set_own (e ∷ es) (suc i) first = rw (first.0) (lookup-set_own es i first.1)

  pub lookup-set_other : (other : Point → Bool) → ((k : Point) → test k ≡ true → other k ≡ false) → (es : Entries) (i : ℕ) → FirstAt test es i
      → lookup other (set_value_at es i w) ≡ lookup other es
  lookup-set_other other apart [] i first = absurd first
  lookup-set_other other apart (e ∷ es) zero first = rw (apart e.0 first) refl
  lookup-set_other other apart (e ∷ es) (suc i) first = ap (λ r. cond (other e.0) (Some e.1) r) (lookup-set_other other apart es i first.1)

-- ---- a value that is set

pub one_each_set : (es : Entries) (i : ℕ) (w : Cells) → HaveOneEach es → HasOneEach (cells_of w) → HaveOneEach (set_value_at es i w)
one_each_set [] i w each own = tt
one_each_set (e ∷ es) zero w each own = (own, each.1)
one_each_set (e ∷ es) (suc i) w each own = (each.0, one_each_set es i w each.1 own)

pub count-cons : (h : PointCells) (store : List PointCells) → cell_count (h ∷ store) ≡ length h.cells + cell_count store
count-cons h store = sum_by-cons (λ n. n) (length h.cells) (map (λ (h : PointCells). length h.cells) store)

pub count-set : (es : Entries) (i : ℕ) (v w : Cells) → slice_get (values_of es) i ≡ Some v
    → cell_count (held_entries (set_value_at es i w)) + length (cells_of v) ≡ cell_count (held_entries es) + length (cells_of w)
count-set [] i v w at = cc
count-set (e ∷ es) zero v w at =
    let same : length (cells_of e.1) ≡ length (cells_of v) = let is : e.1 ≡ v = cc in ap (λ (c : Cells). length (cells_of c)) is in
    rw (count-cons (held_entry e) (held_entries es), count-cons (held_entry (e.0, w)) (held_entries es)) (omega arith)
count-set (e ∷ es) (suc i) v w at =
    rw (count-cons (held_entry e) (held_entries es), count-cons (held_entry e) (held_entries (set_value_at es i w))) (omega (arith, count-set es i v w at))

-- there are far fewer cells than the count has room for
pub count-fits : (es : Entries) → cell_count (held_entries es) ≤ length es * 9223372036854775808
count-fits [] = omega arith
count-fits (e ∷ es) =
    rw (count-cons (held_entry e) (held_entries es))
    (omega (arith, count-fits es, length-map e.1.items cell, e.1.ok.0, e.1.ok.1, e.1.small))

pub fits_one_more : (es : Entries) (count entered more : ℕ) (b : Bool) → AreStoreFields es count → entered ≡ length es → entered < 9223372036854775808 → more ≡ cond b 0 1
    → count + more < 340282366920938463463374607431768211456
fits_one_more es count entered more true kept is few new = omega (arith, count-fits es, kept.counted)
fits_one_more es count entered more false kept is few new = omega (arith, count-fits es, kept.counted)

-- what a look-up by place found
pub record IsFound (es : Entries) (p : Point) (i : ℕ) (v : Cells) : Type 0 where
  pub first : FirstAt (same_point p) es i
  pub found : lookup (same_point p) es ≡ Some v
  pub at : slice_get (values_of es) i ≡ Some v

pub room_found : (es : Entries) (store : List PointCells) (p : Point) (t : ℕ) (v : Cells) → held_entries es ≡ store → lookup (same_point p) es ≡ Some v → HasRoom store t p
    → IsSome (cell_of (cells_of v) t) ⊎ (1 ≤ room_of v)
room_found es store p t v is found room = elim (subst (λ s. HasRoom s t p) (sym is) room) as (λ _. IsSome (cell_of (cells_of v) t) ⊎ (1 ≤ room_of v)) [
  | inl h ↦ inl (subst (λ l. IsSome (cell_of l t)) (found_cells es p v found) h)
  | inr h ↦ inr (subst (λ n. 1 ≤ n) (found_spare es p v found) h)
]

-- ---- what changes

pub kept_touched : (es : Entries) (i : ℕ) (v new : Cells) (count t : ℕ) (witness : Witness) (more : ℕ) → slice_get (values_of es) i ≡ Some v → AreStoreFields es count → cells_of new ≡ with_cell (cells_of v) t witness
    → more ≡ cond (is_some (cell_of (cells_of v) t)) 0 1 → AreStoreFields (set_value_at es i new) (count + more)
kept_touched es i v new count t witness more at kept put is = record {
  one_each = one_each_set es i new kept.one_each (subst HasOneEach (sym put) (with-one_each t (cells_of v) witness (one_each_place es i v kept.one_each at)));
  counted = omega (arith, kept.counted, count-set es i v new at, ap length put, with-length t (cells_of v) witness);
}

module _ (same : (a b : Point) → IsTrue (same_point a b) ↔ (a ≡ b)) where
  apart : (p q : Point) → q ≢ p → (k : Point) → same_point p k ≡ true → same_point q k ≡ false
  apart p q differ k is = false_from_ne_true (same_point q k) (λ too. differ ((same q k).0 too ∙ sym ((same p k).0 is)))

  module _ (es : Entries) (i : ℕ) (p : Point) (v new : Cells) (f : IsFound es p i v) where
    set_found : lookup (same_point p) (set_value_at es i new) ≡ Some new
    set_found = lookup-set_own (same_point p) new es i f.first

    set_other : (q : Point) → q ≢ p → lookup (same_point q) (set_value_at es i new) ≡ lookup (same_point q) es
    set_other q differ = lookup-set_other (same_point p) new (same_point q) (apart p q differ) es i f.first

    other_cells : (q : Point) → q ≢ p → cells_at (held_entries (set_value_at es i new)) q ≡ cells_at (held_entries es) q
    other_cells q differ =
        cells_at-entries (set_value_at es i new) q ∙ ap (λ o. option_map_or cells_of o []) (set_other q differ) ∙ sym (cells_at-entries es q)

    other_spare : (q : Point) → q ≢ p → spare_at (held_entries (set_value_at es i new)) q ≡ spare_at (held_entries es) q
    other_spare q differ =
        spare_at-entries (set_value_at es i new) q ∙ ap (λ o. option_map_or room_of o 0) (set_other q differ) ∙ sym (spare_at-entries es q)

    pub touched : (t : ℕ) (witness : Witness) → cells_of new ≡ with_cell (cells_of v) t witness
        → room_of new + cond (is_some (cell_of (cells_of v) t)) 0 1 ≡ room_of v → IsTouched (held_entries es) (held_entries (set_value_at es i new)) p t witness
    touched t witness put room = record {
      own = ap (λ l. cell_of l t) cells_new ∙ with-own t (cells_of v) witness;
      others = λ other differ. ap (λ l. cell_of l other) cells_new ∙ with-others t (cells_of v) witness other differ ∙ ap (λ l. cell_of l other) (sym cells_old);
      points = other_cells;
      spare = rw (found_spare (set_value_at es i new) p new set_found, found_spare es p v f.found, cells_old) room;
      spares = other_spare;
      count = rw cells_old (omega (arith, count-set es i v new f.at, ap length put, with-length t (cells_of v) witness));
    }
      where
        cells_old : cells_at (held_entries es) p ≡ cells_of v
        cells_old = found_cells es p v f.found

        cells_new : cells_at (held_entries (set_value_at es i new)) p ≡ with_cell (cells_of v) t witness
        cells_new = found_cells (set_value_at es i new) p new set_found ∙ put

    pub touched_renewed : (t : ℕ) (w : Witness) → IsSome (cell_of (cells_of v) t) → cells_of new ≡ with_cell (cells_of v) t w → room_of new ≡ room_of v
        → IsTouched (held_entries es) (held_entries (set_value_at es i new)) p t w
    touched_renewed t w some put room =
        let is : is_some (cell_of (cells_of v) t) ≡ true = some in
        touched t w put (rw is (omega (arith, room)))

    -- a seat of the thread stays one
    pub seat_stays : (t : ℕ) (witness : Witness) → cells_of new ≡ with_cell (cells_of v) t witness → IsTouched (held_entries es) (held_entries (set_value_at es i new)) p t witness
        → (q : Point) (s : Seat) → point_at (held_entries (set_value_at es i new)) s.index ≡ point_at (held_entries es) s.index
        → IsSeat (held_entries es) t q s → IsSeat (held_entries (set_value_at es i new)) t q s
    seat_stays t witness put done q s stay seat = by (same_point q p) refl
      where
        before : List PointCells
        before = held_entries es

        after : List PointCells
        after = held_entries (set_value_at es i new)

        own_place : place_of (cells_at before p) t ≡ place_of (cells_at after p) t
        own_place = ap (λ l. place_of l t) (found_cells es p v f.found) ∙ sym (place_stays t (cells_of v) witness)
            ∙ ap (λ l. place_of l t) (sym (found_cells (set_value_at es i new) p new set_found ∙ put))

        by : (b : Bool) → same_point q p ≡ b → IsSeat after t q s
        by true e =
            let is : q ≡ p = (same q p).0 e in
            record {
              at = stay ∙ seat.at;
              place = seat.place ∙ subst (λ k. place_of (cells_at before k) t ≡ place_of (cells_at after k) t) (sym is) own_place;
              room = subst (HasRoom after t) (sym is) (inl (subst (λ o. IsSome o) (sym done.own) refl));
            }
        by false e =
            let differ : q ≢ p = λ is. true≢false (sym ((same q p).1 is) ∙ e) in
            record {
              at = stay ∙ seat.at;
              place = seat.place ∙ ap (λ l. place_of l t) (sym (other_cells q differ));
              room = elim seat.room as (λ _. HasRoom after t q) [
                | inl some ↦ inl (subst (λ l. IsSome (cell_of l t)) (sym (other_cells q differ)) some)
                | inr room ↦ inr (subst (λ n. 1 ≤ n) (sym (other_spare q differ)) room)
              ];
            }

-- ---- a cell in the memory of another

-- how it ends where a cell may be made another's
pub renewed_or_not : {A B C : Type 0} (r : Result Bool NoMemory) → IfOk r (λ done. IsTrue done → A) → IfOk r (λ done. IsTrue done → B) → IfOk r (λ done. done ≡ false → C) → OnErr r C → C ⊎ (A × B)
renewed_or_not (Ok true) a b c e = inr (a refl, b refl)
renewed_or_not (Ok false) a b c e = inl (c refl)
renewed_or_not (Err x) a b c e = inl e

pub both_ok : (A B : Type 0) (r : Result Bool NoMemory) → IfOk r (λ done. IsTrue done → A) → IfOk r (λ done. IsTrue done → B) → IfOk r (λ done. IsTrue done → A × B)
both_ok A B (Ok done) a b = λ is. (a is, b is)
both_ok A B (Err e) a b = tt

module _ (es : Entries) (i : ℕ) (v new : Cells) where
  pub count_renewed : (t : ℕ) (w : Witness) → slice_get (values_of es) i ≡ Some v
      → (cells_of new ≡ cells_of v) ⊎ (IsSome (cell_of (cells_of v) t) × (cells_of new ≡ with_cell (cells_of v) t w))
      → cell_count (held_entries (set_value_at es i new)) ≡ cell_count (held_entries es)
  count_renewed t w at (inl same) = omega (arith, count-set es i v new at, ap length same)
  count_renewed t w at (inr both) =
      let some : is_some (cell_of (cells_of v) t) ≡ true = both.0 in
      let more : length (with_cell (cells_of v) t w) ≡ length (cells_of v) + 0 = with-length t (cells_of v) w ∙ ap (λ b. length (cells_of v) + cond b 0 1) some in
      omega (arith, count-set es i v new at, ap length both.1, more)

  pub kept_renewed : (count t : ℕ) (w : Witness) → slice_get (values_of es) i ≡ Some v → AreStoreFields es count
      → (cells_of new ≡ cells_of v) ⊎ (IsSome (cell_of (cells_of v) t) × (cells_of new ≡ with_cell (cells_of v) t w))
      → AreStoreFields (set_value_at es i new) count
  kept_renewed count t w at kept how = record {
    one_each = one_each_set es i new kept.one_each (elim how as (λ _. HasOneEach (cells_of new)) [
      | inl same ↦ subst HasOneEach (sym same) (one_each_place es i v kept.one_each at)
      | inr both ↦ subst HasOneEach (sym both.1) (with-one_each t (cells_of v) w (one_each_place es i v kept.one_each at))
    ]);
    counted = kept.counted ∙ sym (count_renewed t w at how);
  }

-- where the cells and the room of a point are as before, so is the store
pub same_entries : (v new : Cells) → cells_of new ≡ cells_of v → room_of new ≡ room_of v → (es : Entries) (i : ℕ) → slice_get (values_of es) i ≡ Some v
    → held_entries (set_value_at es i new) ≡ held_entries es
same_entries v new cells room [] i at = refl
same_entries v new cells room (e ∷ es) zero at =
    let is : e.1 ≡ v = cc in
    ap (λ h. h ∷ held_entries es) (rw (cells, room) (ap (λ (c : Cells). held_entry (e.0, c)) (sym is)))
same_entries v new cells room (e ∷ es) (suc i) at = ap (λ l. held_entry e ∷ l) (same_entries v new cells room es i at)

-- ---- where only room changes

module _ (v new : Cells) (is : cells_of new ≡ cells_of v) (more : room_of v ≤ room_of new) where
  same_cells : (es : Entries) (i : ℕ) → slice_get (values_of es) i ≡ Some v → (q : Point) → cells_at (held_entries (set_value_at es i new)) q ≡ cells_at (held_entries es) q
  same_cells [] i at q = refl
  same_cells (e ∷ es) zero at q = by (same_point q e.0)
    where
      by : (b : Bool) → option_map_or (λ (h : PointCells). h.cells) (cond b (Some (held_entry (e.0, new))) (held_of (held_entries es) q)) []
          ≡ option_map_or (λ (h : PointCells). h.cells) (cond b (Some (held_entry e)) (held_of (held_entries es) q)) []
      by true = let one : e.1 ≡ v = cc in is ∙ ap cells_of (sym one)
      by false = refl
  same_cells (e ∷ es) (suc i) at q = by (same_point q e.0) (same_cells es i at q)
    where
      by : (b : Bool) → cells_at (held_entries (set_value_at es i new)) q ≡ cells_at (held_entries es) q
          → option_map_or (λ (h : PointCells). h.cells) (cond b (Some (held_entry e)) (held_of (held_entries (set_value_at es i new)) q)) []
          ≡ option_map_or (λ (h : PointCells). h.cells) (cond b (Some (held_entry e)) (held_of (held_entries es) q)) []
      by true rest = refl
      by false rest = rest

  more_spare : (es : Entries) (i : ℕ) → slice_get (values_of es) i ≡ Some v → (q : Point) → spare_at (held_entries es) q ≤ spare_at (held_entries (set_value_at es i new)) q
  more_spare [] i at q = omega arith
  more_spare (e ∷ es) zero at q = by (same_point q e.0)
    where
      by : (b : Bool) → option_map_or (λ (h : PointCells). h.spare) (cond b (Some (held_entry e)) (held_of (held_entries es) q)) 0
          ≤ option_map_or (λ (h : PointCells). h.spare) (cond b (Some (held_entry (e.0, new))) (held_of (held_entries es) q)) 0
      by true = let one : e.1 ≡ v = cc in subst (λ (w : Cells). room_of w ≤ room_of new) (sym one) more
      by false = omega arith
  more_spare (e ∷ es) (suc i) at q = by (same_point q e.0) (more_spare es i at q)
    where
      by : (b : Bool) → spare_at (held_entries es) q ≤ spare_at (held_entries (set_value_at es i new)) q
          → option_map_or (λ (h : PointCells). h.spare) (cond b (Some (held_entry e)) (held_of (held_entries es) q)) 0
          ≤ option_map_or (λ (h : PointCells). h.spare) (cond b (Some (held_entry e)) (held_of (held_entries (set_value_at es i new)) q)) 0
      by true rest = omega arith
      by false rest = rest

  pub same_set : (es : Entries) (i : ℕ) → slice_get (values_of es) i ≡ Some v → IsSameStore (held_entries es) (held_entries (set_value_at es i new))
  same_set es i at = record {
    cells = same_cells es i at;
    count = omega (arith, count-set es i v new at, ap length is);
    spare = more_spare es i at;
  }

  pub kept_set : (es : Entries) (i count : ℕ) → slice_get (values_of es) i ≡ Some v → AreStoreFields es count → AreStoreFields (set_value_at es i new) count
  kept_set es i count at kept = record {
    one_each = one_each_set es i new kept.one_each (subst HasOneEach (sym is) (one_each_place es i v kept.one_each at));
    counted = kept.counted ∙ omega (arith, count-set es i v new at, ap length is);
  }

-- room for a cell of the thread, after a value was set
pub room_set : (es : Entries) (p : Point) (i t : ℕ) (v new : Cells) → IsFound es p i v → IsSome (cell_of (cells_of new) t) ⊎ (1 ≤ room_of new) → HasRoom (held_entries (set_value_at es i new)) t p
room_set es p i t v new f room =
    let found = lookup-set_own (same_point p) new es i f.first in
    elim room as (λ _. HasRoom (held_entries (set_value_at es i new)) t p) [
      | inl h ↦ inl (subst (λ l. IsSome (cell_of l t)) (sym (found_cells (set_value_at es i new) p new found)) h)
      | inr h ↦ inr (subst (λ n. 1 ≤ n) (sym (found_spare (set_value_at es i new) p new found)) h)
    ]

-- ---- a point that is entered without cells

module _ (k : Point) (v : Cells) (is : cells_of v ≡ []) where
  entered_cells : (es : Entries) (q : Point) → cells_at (held_entries (es ++ (k, v) ∷ [])) q ≡ cells_at (held_entries es) q
  entered_cells [] q = by (same_point q k)
    where
      by : (b : Bool) → option_map_or (λ (h : PointCells). h.cells) (cond b (Some (held_entry (k, v))) None) [] ≡ []
      by true = is
      by false = refl
  entered_cells (e ∷ es) q = by (same_point q e.0) (entered_cells es q)
    where
      by : (b : Bool) → cells_at (held_entries (es ++ (k, v) ∷ [])) q ≡ cells_at (held_entries es) q
          → option_map_or (λ (h : PointCells). h.cells) (cond b (Some (held_entry e)) (held_of (held_entries (es ++ (k, v) ∷ [])) q)) []
          ≡ option_map_or (λ (h : PointCells). h.cells) (cond b (Some (held_entry e)) (held_of (held_entries es) q)) []
      by true rest = refl
      by false rest = rest

  entered_spare : (es : Entries) (q : Point) → spare_at (held_entries es) q ≤ spare_at (held_entries (es ++ (k, v) ∷ [])) q
  entered_spare [] q = omega arith
  entered_spare (e ∷ es) q = by (same_point q e.0) (entered_spare es q)
    where
      by : (b : Bool) → spare_at (held_entries es) q ≤ spare_at (held_entries (es ++ (k, v) ∷ [])) q
          → option_map_or (λ (h : PointCells). h.spare) (cond b (Some (held_entry e)) (held_of (held_entries es) q)) 0
          ≤ option_map_or (λ (h : PointCells). h.spare) (cond b (Some (held_entry e)) (held_of (held_entries (es ++ (k, v) ∷ [])) q)) 0
      by true rest = omega arith
      by false rest = rest

  entered_count : (es : Entries) → cell_count (held_entries (es ++ (k, v) ∷ [])) ≡ cell_count (held_entries es)
  entered_count [] = count-cons (held_entry (k, v)) [] ∙ ap (λ l. length l + 0) is
  entered_count (e ∷ es) = rw (count-cons (held_entry e) (held_entries es), count-cons (held_entry e) (held_entries (es ++ (k, v) ∷ []))) (ap (λ n. length (cells_of e.1) + n) (entered_count es))

  entered_one_each : (es : Entries) → HaveOneEach es → HaveOneEach (es ++ (k, v) ∷ [])
  entered_one_each [] each = (subst HasOneEach (sym is) tt, tt)
  entered_one_each (e ∷ es) each = (each.0, entered_one_each es each.1)

  pub same_entered : (es : Entries) → IsSameStore (held_entries es) (held_entries (es ++ (k, v) ∷ []))
  same_entered es = record { cells = entered_cells es; count = entered_count es; spare = entered_spare es }

  pub kept_entered : (es : Entries) (count : ℕ) → AreStoreFields es count → AreStoreFields (es ++ (k, v) ∷ []) count
  kept_entered es count kept = record { one_each = entered_one_each es kept.one_each; counted = kept.counted ∙ sym (entered_count es) }

lookup_entered : (test : Point → Bool) (es : Entries) (k : Point) (v : Cells) → test k ≡ true → lookup test es ≡ None → lookup test (es ++ (k, v) ∷ []) ≡ Some v
lookup_entered test [] k v own absent = rw own refl
lookup_entered test (e ∷ es) k v own absent = by (test e.0) absent (lookup_entered test es k v own)
  where
    by : (b : Bool) → cond b (Some e.1) (lookup test es) ≡ None → (lookup test es ≡ None → lookup test (es ++ (k, v) ∷ []) ≡ Some v) → cond b (Some e.1) (lookup test (es ++ (k, v) ∷ [])) ≡ Some v
    by true h rest = cc
    by false h rest = rest h

pub room_entered : (es : Entries) (k : Point) (v : Cells) (t : ℕ) → same_point k k ≡ true → lookup (same_point k) es ≡ None → 1 ≤ room_of v → HasRoom (held_entries (es ++ (k, v) ∷ [])) t k
room_entered es k v t own absent room =
    inr (subst (λ n. 1 ≤ n) (sym (found_spare (es ++ (k, v) ∷ []) k v (lookup_entered (same_point k) es k v own absent))) room)

-- ---- sweeping

abbrev held : Point → List Cell → ℕ → PointCells
held p cells spare = record { point = p; cells = cells; spare = spare }

pub swept_set : (clock : List ℕ) (v new : Cells) → cells_of new ≡ live clock (cells_of v) → (gone : ℕ) → length (cells_of new) + gone ≡ length (cells_of v) → room_of new ≡ room_of v + gone
    → (es : Entries) (i : ℕ) → slice_get (values_of es) i ≡ Some v → held_entries (set_value_at es i new) ≡ swept_at clock (held_entries es) i
swept_set clock v new is gone less room [] i at = refl
swept_set clock v new is gone less room (e ∷ es) zero at = ap (λ h. h ∷ held_entries es) (parts e.0 is spare ∙ ap (λ (w : Cells). swept clock (held_entry (e.0, w))) (sym one))
  where
    one : e.1 ≡ v
    one = cc

    spare : room_of new ≡ room_of v + (length (cells_of v) - length (live clock (cells_of v)))
    spare = omega (arith, ap length is)

    parts : (p : Point) → {cells cells' : List Cell} → cells ≡ cells' → {n m : ℕ} → n ≡ m → held p cells n ≡ held p cells' m
    parts p a b = rw (a, b) refl
swept_set clock v new is gone less room (e ∷ es) (suc i) at = ap (λ l. held_entry e ∷ l) (swept_set clock v new is gone less room es i at)

pub swept-kept : (clock : List ℕ) (es : Entries) (i count gone : ℕ) (v new : Cells) → cells_of new ≡ live clock (cells_of v) → length (cells_of new) + gone ≡ length (cells_of v)
    → slice_get (values_of es) i ≡ Some v → AreStoreFields es count → (gone ≤ count) × AreStoreFields (set_value_at es i new) (count - gone)
swept-kept clock es i count gone v new is less at kept = (
  omega (arith, kept.counted, part),
  record {
    one_each = one_each_set es i new kept.one_each (subst HasOneEach (sym is) (live-one_each clock (cells_of v) (one_each_place es i v kept.one_each at)));
    counted = omega (arith, kept.counted, count-set es i v new at, part);
  },
)
  where
    part : length (cells_of v) ≤ cell_count (held_entries es)
    part = part_of es i at
      where
        part_of : (es : Entries) (i : ℕ) → slice_get (values_of es) i ≡ Some v → length (cells_of v) ≤ cell_count (held_entries es)
        part_of [] i at = cc
        part_of (e ∷ es) zero at = let one : e.1 ≡ v = cc in rw (count-cons (held_entry e) (held_entries es)) (omega (arith, ap (λ (w : Cells). length (cells_of w)) one))
        part_of (e ∷ es) (suc i) at = rw (count-cons (held_entry e) (held_entries es)) (omega (arith, part_of es i at))

-- ---- sweeping place by place

pub swept_more : (clock : List ℕ) (store : List PointCells) (i : ℕ) → i < length store → swept_at clock (swept_below clock store i) i ≡ swept_below clock store (suc i)
swept_more clock [] i within = absurd (omega arith)
swept_more clock (h ∷ store) zero within = ap (λ l. swept clock h ∷ l) (none store)
  where
    none : (store : List PointCells) → store ≡ swept_below clock store 0
    none [] = refl
    none (h ∷ store) = refl
swept_more clock (h ∷ store) (suc i) within = ap (λ l. swept clock h ∷ l) (swept_more clock store i (omega arith))

pub length-swept_below : (clock : List ℕ) (store : List PointCells) (i : ℕ) → length (swept_below clock store i) ≡ length store
length-swept_below clock [] i = refl
length-swept_below clock (h ∷ store) zero = refl
length-swept_below clock (h ∷ store) (suc i) = ap suc (length-swept_below clock store i)

-- points keep their indices
pub point_at-swept_below : (clock : List ℕ) (store : List PointCells) (i index : ℕ) → point_at (swept_below clock store i) index ≡ point_at store index
point_at-swept_below clock [] i index = refl
point_at-swept_below clock (held ∷ store) zero index = refl
point_at-swept_below clock (held ∷ store) (suc i) zero = refl
point_at-swept_below clock (held ∷ store) (suc i) (suc index) = point_at-swept_below clock store i index

pub swept_none : (clock : List ℕ) (store : List PointCells) → swept_below clock store 0 ≡ store
swept_none clock [] = refl
swept_none clock (h ∷ store) = refl

swept_cells : (clock : List ℕ) (store : List PointCells) (p : Point) → cells_at (swept_below clock store (length store)) p ≡ live clock (cells_at store p)
swept_cells clock [] p = refl
swept_cells clock (h ∷ store) p = by (same_point p h.point) (swept_cells clock store p)
  where
    by : (b : Bool) → cells_at (swept_below clock store (length store)) p ≡ live clock (cells_at store p)
        → option_map_or (λ (h : PointCells). h.cells) (cond b (Some (swept clock h)) (held_of (swept_below clock store (length store)) p)) []
        ≡ live clock (option_map_or (λ (h : PointCells). h.cells) (cond b (Some h) (held_of store p)) [])
    by true rest = refl
    by false rest = rest

pub swept_all : (clock : List ℕ) (store new : List PointCells) → ((p : Point) → HasOneEach (cells_at store p)) → new ≡ swept_below clock store (length store) → IsSwept clock store new
swept_all clock store new each is = λ point thread.
    ap (λ s. cell_at s point thread) is ∙ ap (λ l. cell_of l thread) (swept_cells clock store point) ∙ live-cell_of clock thread (cells_at store point) (each point)

-- ---- points without cells

-- an entry has cells
abbrev pub has_cells : Point × Cells → Bool
has_cells e = not (vec_len e.1 == 0)

none_left : (items : List Held) → length items ≡ 0 → map cell items ≡ []
none_left [] none = refl
none_left (x ∷ items) none = absurd (omega (arith, none))

not_false : (b : Bool) → not b ≡ false → b ≡ true
not_false true h = refl
not_false false h = absurd (true≢false h)

not_true : (b : Bool) → not b ≡ true → b ≡ false
not_true true h = absurd (true≢false (sym h))
not_true false h = refl

no_cells : (e : Point × Cells) → has_cells e ≡ false → cells_of e.1 ≡ []
no_cells e none =
    let zero : vec_len e.1 ≡ 0 = eqb-true (vec_len e.1) 0 (not_false (vec_len e.1 == 0) none) in
    none_left e.1.items (omega (arith, zero, e.1.ok.0, e.1.ok.1))

some_cells : (e : Point × Cells) → has_cells e ≡ true → 1 ≤ length (cells_of e.1)
some_cells e some =
    let more : vec_len e.1 ≡ 0 → ⊥ = eqb-false (vec_len e.1) 0 (not_true (vec_len e.1 == 0) some) in
    omega (arith, more, length-map e.1.items cell, e.1.ok.0, e.1.ok.1)

cells_apart : (x : Point) (es : Entries) → AllByRecursion (λ y. same_point x y ≡ false) (keys_of es) → cells_at (held_entries es) x ≡ []
cells_apart x [] apart = refl
cells_apart x (e ∷ es) apart = rw (apart.0) (cells_apart x es apart.1)

module _ (same : (a b : Point) → IsTrue (same_point a b) ↔ (a ≡ b)) where
  pub bare_cells : (es : Entries) → IsDistinct same_point (keys_of es) → (p : Point) → cells_at (held_entries (filter has_cells es)) p ≡ cells_at (held_entries es) p
  unfolding IsDistinct
  bare_cells [] distinct p = refl
  bare_cells (e ∷ es) distinct p = by (has_cells e) refl (same_point p e.0) refl (bare_cells es distinct.1 p)
    where
      by : (kept : Bool) → has_cells e ≡ kept → (here : Bool) → same_point p e.0 ≡ here → cells_at (held_entries (filter has_cells es)) p ≡ cells_at (held_entries es) p
          → cells_at (held_entries (cond kept (e ∷ filter has_cells es) (filter has_cells es))) p ≡ option_map_or (λ (h : PointCells). h.cells) (cond here (Some (held_entry e)) (held_of (held_entries es) p)) []
      by true k true h rest = rw h refl
      by true k false h rest = rw h rest
      by false k true h rest =
          let is : p ≡ e.0 = (same p e.0).0 h in
          rest ∙ ap (cells_at (held_entries es)) is ∙ cells_apart e.0 es distinct.0 ∙ sym (no_cells e k)
      by false k false h rest = rest

pub bare_count : (es : Entries) → cell_count (held_entries (filter has_cells es)) ≡ cell_count (held_entries es)
bare_count [] = refl
bare_count (e ∷ es) = by (has_cells e) refl (bare_count es)
  where
    by : (kept : Bool) → has_cells e ≡ kept → cell_count (held_entries (filter has_cells es)) ≡ cell_count (held_entries es)
        → cell_count (held_entries (cond kept (e ∷ filter has_cells es) (filter has_cells es))) ≡ cell_count (held_entries (e ∷ es))
    by true k rest = rw (count-cons (held_entry e) (held_entries es), count-cons (held_entry e) (held_entries (filter has_cells es))) (omega (arith, rest))
    by false k rest = rw (count-cons (held_entry e) (held_entries es)) (omega (arith, rest, ap length (no_cells e k)))

pub bare_few : (es : Entries) → length (held_entries (filter has_cells es)) ≤ cell_count (held_entries (filter has_cells es))
bare_few [] = omega arith
bare_few (e ∷ es) = by (has_cells e) refl (bare_few es)
  where
    by : (kept : Bool) → has_cells e ≡ kept → length (held_entries (filter has_cells es)) ≤ cell_count (held_entries (filter has_cells es))
        → length (held_entries (cond kept (e ∷ filter has_cells es) (filter has_cells es))) ≤ cell_count (held_entries (cond kept (e ∷ filter has_cells es) (filter has_cells es)))
    by true k rest = rw (count-cons (held_entry e) (held_entries (filter has_cells es))) (omega (arith, rest, some_cells e k))
    by false k rest = rest

bare_one_each : (es : Entries) → HaveOneEach es → HaveOneEach (filter has_cells es)
bare_one_each [] each = tt
bare_one_each (e ∷ es) each = by (has_cells e) (bare_one_each es each.1)
  where
    by : (kept : Bool) → HaveOneEach (filter has_cells es) → HaveOneEach (cond kept (e ∷ filter has_cells es) (filter has_cells es))
    by true rest = (each.0, rest)
    by false rest = rest

pub bare_kept : (es : Entries) (count : ℕ) → AreStoreFields es count → AreStoreFields (filter has_cells es) count
bare_kept es count kept = record { one_each = bare_one_each es kept.one_each; counted = kept.counted ∙ sym (bare_count es) }

-- where the cells stay, what was swept is
pub swept_same : (clock : List ℕ) (old middle new : List PointCells) → IsSwept clock old middle → ((p : Point) → cells_at new p ≡ cells_at middle p) → IsSwept clock old new
swept_same clock old middle new swept same p t = ap (λ cells. cell_of cells t) (same p) ∙ swept p t
