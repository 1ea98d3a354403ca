-- Cells of one point.
use Rattle.std.proofs.Common.{◌≡◌, ◌≢◌, ℕ, zero, suc, ◌+◌, ◌<◌, ◌≤◌, ◌==◌, ◌⊎◌, inl, inr, not, nat_le, Bool, true, false, cond, List, [], ◌∷◌, ◌++◌, length, map, take, set, get_or, fold, filter, Option, None, Some, is_some, refl, sym, ap, ◌∙◌, subst, arith}
use Rattle.std.proofs.lemmas.Bool.{eqb-true, eqb-false, eq-eqb, leb-false, leb-true, ne_eqb}
use Rattle.std.specs.Global.{Global}
use Rattle.std.specs.declared.rc.Rc.{Rc}
use Rattle.std.proofs.Math.Seq.{map-set_same}
use Rattle.std.proofs.lemmas.List.{get_or-map, length-map, map-set, map_more}
use Rattle.std.proofs.lemmas.List.Sums.{count_by-le-length, length-filter}
use Rattle.rd_points.specs.declared.points.Point.{Point}
use Rattle.rd_store.specs.declared.Witness.{Witness}
use Rattle.rd_store.specs.Stores.{Cell, HasOneEach, IsCovered, IsLatestUncovered, PointCells, cell_at, cell_of, cells_at, is_covered, place_of, uncovered}
use Rattle.rd_store.specs.StoreParts.{Held, cell, later_found, latest_in_cells, live, with_cell}

abbrev pub own_cell : ℕ → Witness → Cell
own_cell thread witness = record { thread = thread; witness = witness }

-- ---- the place of a thread's cell

module _ (t : ℕ) where
  none_cons : (c : Cell) (cells : List Cell) → cell_of (c ∷ cells) t ≡ None → ((c.thread == t) ≡ false) × (cell_of cells t ≡ None)
  none_cons c cells none = by (c.thread == t) refl none
    where
      by : (b : Bool) → (c.thread == t) ≡ b → cond b (Some c.witness) (cell_of cells t) ≡ None → ((c.thread == t) ≡ false) × (cell_of cells t ≡ None)
      by true e h = cc
      by false e h = (e, h)

  pub place_none : (cells : List Cell) → cell_of cells t ≡ None → place_of cells t ≡ length cells
  place_none [] none = refl
  place_none (c ∷ cells) none = rw ((none_cons c cells none).0) (ap suc (place_none cells (none_cons c cells none).1))

  -- a place among the cells is that of a cell of the thread
  pub place_some : (cells : List Cell) → place_of cells t < length cells → is_some (cell_of cells t) ≡ true
  place_some [] within = absurd (omega (arith, within))
  place_some (c ∷ cells) within = by (c.thread == t) within (place_some cells)
    where
      by : (b : Bool) → cond b 0 (suc (place_of cells t)) < suc (length cells) → (place_of cells t < length cells → is_some (cell_of cells t) ≡ true)
          → is_some (cond b (Some c.witness) (cell_of cells t)) ≡ true
      by true h rest = refl
      by false h rest = rest (omega (arith, h))

  -- a place behind the cells is that of no cell
  pub place_behind : (cells : List Cell) → length cells ≤ place_of cells t → cell_of cells t ≡ None
  place_behind [] behind = refl
  place_behind (c ∷ cells) behind = by (c.thread == t) behind (place_behind cells)
    where
      by : (b : Bool) → suc (length cells) ≤ cond b 0 (suc (place_of cells t)) → (length cells ≤ place_of cells t → cell_of cells t ≡ None)
          → cond b (Some c.witness) (cell_of cells t) ≡ None
      by true h rest = absurd (omega (arith, h))
      by false h rest = rest (omega (arith, h))

  pub place_set : (cells : List Cell) (w : Witness) → place_of cells t < length cells → set cells (place_of cells t) (own_cell t w) ≡ with_cell cells t w
  place_set [] w within = absurd (omega (arith, within))
  place_set (c ∷ cells) w within = by (c.thread == t) within (place_set cells w)
    where
      by : (b : Bool) → cond b 0 (suc (place_of cells t)) < suc (length cells) → (place_of cells t < length cells → set cells (place_of cells t) (own_cell t w) ≡ with_cell cells t w)
          → set (c ∷ cells) (cond b 0 (suc (place_of cells t))) (own_cell t w) ≡ cond b (own_cell t w ∷ cells) (c ∷ with_cell cells t w)
      by true h rest = refl
      by false h rest = ap (λ l. c ∷ l) (rest (omega (arith, h)))

  place_own : (cells : List Cell) (d : Cell) → place_of cells t < length cells → (get_or cells (place_of cells t) d).thread ≡ t
  place_own [] d within = absurd (omega (arith, within))
  place_own (c ∷ cells) d within = by (c.thread == t) refl within (place_own cells d)
    where
      by : (b : Bool) → (c.thread == t) ≡ b → cond b 0 (suc (place_of cells t)) < suc (length cells) → (place_of cells t < length cells → (get_or cells (place_of cells t) d).thread ≡ t)
          → (get_or (c ∷ cells) (cond b 0 (suc (place_of cells t))) d).thread ≡ t
      by true e h rest = eqb-true c.thread t e
      by false e h rest = rest (omega (arith, h))

  pub none-push : (cells : List Cell) (w : Witness) → cell_of cells t ≡ None → cells ++ own_cell t w ∷ [] ≡ with_cell cells t w
  none-push [] w none = refl
  none-push (c ∷ cells) w none = rw ((none_cons c cells none).0) (ap (λ l. c ∷ l) (none-push cells w (none_cons c cells none).1))

  -- a cell that is put stays in its place
  pub place_stays : (cells : List Cell) (w : Witness) → place_of (with_cell cells t w) t ≡ place_of cells t
  place_stays [] w = rw (eq-eqb t t refl) refl
  place_stays (c ∷ cells) w = by (c.thread == t) refl (place_stays cells w)
    where
      by : (b : Bool) → (c.thread == t) ≡ b → place_of (with_cell cells t w) t ≡ place_of cells t
          → place_of (cond b (own_cell t w ∷ cells) (c ∷ with_cell cells t w)) t ≡ cond b 0 (suc (place_of cells t))
      by true e rest = rw (eq-eqb t t refl) refl
      by false e rest = rw e (ap suc rest)

  -- ---- after a cell is put

  pub with-own : (cells : List Cell) (w : Witness) → cell_of (with_cell cells t w) t ≡ Some w
  with-own [] w = rw (eq-eqb t t refl) refl
  with-own (c ∷ cells) w = by (c.thread == t) refl (with-own cells w)
    where
      by : (b : Bool) → (c.thread == t) ≡ b → cell_of (with_cell cells t w) t ≡ Some w → cell_of (cond b (own_cell t w ∷ cells) (c ∷ with_cell cells t w)) t ≡ Some w
      by true e rest = rw (eq-eqb t t refl) refl
      by false e rest = rw e rest

  pub with-others : (cells : List Cell) (w : Witness) (o : ℕ) → o ≢ t → cell_of (with_cell cells t w) o ≡ cell_of cells o
  with-others [] w o apart = rw (ne_eqb t o (λ e. apart (sym e))) refl
  with-others (c ∷ cells) w o apart = by (c.thread == t) refl (with-others cells w o apart)
    where
      by : (b : Bool) → (c.thread == t) ≡ b → cell_of (with_cell cells t w) o ≡ cell_of cells o → cell_of (cond b (own_cell t w ∷ cells) (c ∷ with_cell cells t w)) o ≡ cell_of (c ∷ cells) o
      by true e rest = rw (ne_eqb t o (λ e. apart (sym e)), ne_eqb c.thread o (λ f. apart (sym f ∙ eqb-true c.thread t e))) refl
      by false e rest = ap (λ r. cond (c.thread == o) (Some c.witness) r) rest

  pub with-length : (cells : List Cell) (w : Witness) → length (with_cell cells t w) ≡ length cells + cond (is_some (cell_of cells t)) 0 1
  with-length [] w = refl
  with-length (c ∷ cells) w = by (c.thread == t) (with-length cells w)
    where
      by : (b : Bool) → length (with_cell cells t w) ≡ length cells + cond (is_some (cell_of cells t)) 0 1 → length (cond b (own_cell t w ∷ cells) (c ∷ with_cell cells t w)) ≡ suc (length cells) + cond (is_some (cond b (Some c.witness) (cell_of cells t))) 0 1
      by true rest = omega arith
      by false rest = omega arith

  pub with-one_each : (cells : List Cell) (w : Witness) → HasOneEach cells → HasOneEach (with_cell cells t w)
  with-one_each [] w each = (refl, tt)
  with-one_each (c ∷ cells) w each = by (c.thread == t) refl (with-one_each cells w each.1)
    where
      by : (b : Bool) → (c.thread == t) ≡ b → HasOneEach (with_cell cells t w) → HasOneEach (cond b (own_cell t w ∷ cells) (c ∷ with_cell cells t w))
      by true e rest = (subst (λ thread. cell_of cells thread ≡ None) (eqb-true c.thread t e) each.0, each.1)
      by false e rest = (with-others cells w c.thread (λ f. eqb-false c.thread t e f) ∙ each.0, rest)

  -- ---- a loop that looks for it

  pub none-push_none : (cells : List Cell) (c : Cell) → cell_of cells t ≡ None → (c.thread == t) ≡ false → cell_of (cells ++ c ∷ []) t ≡ None
  none-push_none [] c none apart = rw apart refl
  none-push_none (one ∷ cells) c none apart = rw ((none_cons one cells none).0) (none-push_none cells c (none_cons one cells none).1 apart)

  pub none_more : (held : List Held) (i : ℕ) (one : Held) → i < length held → one ≡ get_or held i one → cell_of (map cell (take i held)) t ≡ None → (one.0 ≡ t → ⊥)
      → cell_of (map cell (take (i + 1) held)) t ≡ None
  none_more held i one within read none apart =
      rw (map_more cell held i one within, ← read) (none-push_none (map cell (take i held)) (cell one) none (ne_eqb one.0 t apart))

  pub place_here : (held : List Held) (i : ℕ) (one : Held) → i < length held → one ≡ get_or held i one → cell_of (map cell (take i held)) t ≡ None → one.0 ≡ t
      → i ≡ place_of (map cell held) t
  place_here [] i one within read none own = absurd (omega (arith, within))
  place_here (h ∷ held) zero one within read none own = rw (eq-eqb h.0 t (ap (λ (x : Held). x.0) (sym read) ∙ own)) refl
  place_here (h ∷ held) (suc i) one within read none own =
      let parts = none_cons (cell h) (map cell (take i held)) none in
      rw (parts.0) (ap suc (place_here held i one (omega (arith, within)) read parts.1 own))

  -- a cell in the memory of the one at the thread's place
  pub renewed : (held : List Held) (i : ℕ) (one : Held) (new : Rc Witness Global) (w : Witness) → i ≡ place_of (map cell held) t → i < length held → one ≡ get_or held i one → new.value ≡ w
      → map cell (set held i (one.0, new)) ≡ with_cell (map cell held) t w
  renewed held i one new w is within read same =
      let inside : place_of (map cell held) t < length (map cell held) = omega (arith, within, is, length-map held cell) in
      let own : one.0 ≡ t =
      ap (λ (h : Held). h.0) read ∙ ap (λ (c : Cell). c.thread) (sym (get_or-map cell held i one (cell one) within))
      ∙ subst (λ n. (get_or (map cell held) n (cell one)).thread ≡ t) (sym is) (place_own (map cell held) (cell one) inside) in
      let cell_is : cell (one.0, new) ≡ own_cell t w = rw (own, same) refl in
      map-set cell held i (one.0, new) ∙ ap (λ c. set (map cell held) i c) cell_is
      ∙ subst (λ n. set (map cell held) n (own_cell t w) ≡ with_cell (map cell held) t w) (sym is) (place_set (map cell held) w inside)

pub same_renewed : (held : List Held) (i : ℕ) (one : Held) (new : Rc Witness Global) → one ≡ get_or held i one → new.value ≡ one.1.value → map cell (set held i (one.0, new)) ≡ map cell held
same_renewed held i one new read same = map-set_same cell held i (one.0, new) one (rw (same, ← read) refl)

-- ---- the cells that a clock doesn't cover

pub live-filter : (clock : List ℕ) (held : List Held) → map cell (filter (λ (one : Held). not (is_covered clock one.0 one.1.value)) held) ≡ live clock (map cell held)
live-filter clock [] = refl
live-filter clock (one ∷ held) = by (is_covered clock one.0 one.1.value) (live-filter clock held)
  where
    by : (b : Bool) → map cell (filter (λ (one : Held). not (is_covered clock one.0 one.1.value)) held) ≡ live clock (map cell held)
        → map cell (cond (not b) (one ∷ filter (λ (one : Held). not (is_covered clock one.0 one.1.value)) held) (filter (λ (one : Held). not (is_covered clock one.0 one.1.value)) held))
        ≡ cond (not b) (cell one ∷ live clock (map cell held)) (live clock (map cell held))
    by true rest = rest
    by false rest = ap (λ l. cell one ∷ l) rest

abbrev is_live : List ℕ → Cell → Bool
is_live clock c = not (is_covered clock c.thread c.witness)

live_none : (clock : List ℕ) (t : ℕ) (cells : List Cell) → cell_of cells t ≡ None → cell_of (live clock cells) t ≡ None
live_none clock t [] none = refl
live_none clock t (c ∷ cells) none = by (is_live clock c) (live_none clock t cells (none_cons t c cells none).1) (none_cons t c cells none).0
  where
    by : (b : Bool) → cell_of (live clock cells) t ≡ None → (c.thread == t) ≡ false → cell_of (cond b (c ∷ live clock cells) (live clock cells)) t ≡ None
    by true rest apart = rw apart rest
    by false rest apart = rest

pub live-one_each : (clock : List ℕ) (cells : List Cell) → HasOneEach cells → HasOneEach (live clock cells)
live-one_each clock [] each = tt
live-one_each clock (c ∷ cells) each = by (is_live clock c) (live-one_each clock cells each.1) (live_none clock c.thread cells each.0)
  where
    by : (b : Bool) → HasOneEach (live clock cells) → cell_of (live clock cells) c.thread ≡ None → HasOneEach (cond b (c ∷ live clock cells) (live clock cells))
    by true rest none = (none, rest)
    by false rest none = rest

pub live-cell_of : (clock : List ℕ) (t : ℕ) (cells : List Cell) → HasOneEach cells → cell_of (live clock cells) t ≡ uncovered clock t (cell_of cells t)
live-cell_of clock t [] each = refl
live-cell_of clock t (c ∷ cells) each = by (is_covered clock c.thread c.witness) refl (c.thread == t) refl (live-cell_of clock t cells each.1) (live_none clock c.thread cells each.0)
  where
    by : (covered : Bool) → is_covered clock c.thread c.witness ≡ covered → (own : Bool) → (c.thread == t) ≡ own → cell_of (live clock cells) t ≡ uncovered clock t (cell_of cells t)
        → cell_of (live clock cells) c.thread ≡ None
        → cell_of (cond (not covered) (c ∷ live clock cells) (live clock cells)) t ≡ uncovered clock t (cond own (Some c.witness) (cell_of cells t))
    by true is true own rest none =
        let same : c.thread ≡ t = eqb-true c.thread t own in
        let covered : is_covered clock t c.witness ≡ true = subst (λ thread. is_covered clock thread c.witness ≡ true) same is in
        rw covered (subst (λ thread. cell_of (live clock cells) thread ≡ None) same none)
    by true is false own rest none = rest
    by false is true own rest none =
        let same : c.thread ≡ t = eqb-true c.thread t own in
        let covered : is_covered clock t c.witness ≡ false = subst (λ thread. is_covered clock thread c.witness ≡ false) same is in
        rw (own, covered) refl
    by false is false own rest none = rw own rest

pub live-length : (clock : List ℕ) (cells : List Cell) → length (live clock cells) ≤ length cells
live-length clock cells = omega (arith, length-filter (is_live clock) cells, count_by-le-length (is_live clock) cells)

-- ---- the latest that a clock doesn't cover

-- what the latest is, of those that were found before and of cells
record IsLatest (clock : List ℕ) (before : Option Witness) (cells : List Cell) (found : Option Witness) : Type 0 where
  none : found ≡ None → (before ≡ None) × ((t : ℕ) (seen : Witness) → cell_of cells t ≡ Some seen → IsCovered clock t seen)
  some : (latest : Witness) → found ≡ Some latest → (before ≡ Some latest) ⊎ ((t : ℕ) × (cell_of cells t ≡ Some latest) × ¬ (IsCovered clock t latest))
  most_before : (latest one : Witness) → found ≡ Some latest → before ≡ Some one → one.place ≤ latest.place
  most : (latest : Witness) → found ≡ Some latest → (t : ℕ) (seen : Witness) → cell_of cells t ≡ Some seen → ¬ (IsCovered clock t seen) → seen.place ≤ latest.place

module _ (clock : List ℕ) where
  -- what one cell does to what was found before
  record IsStep (before : Option Witness) (c : Cell) (mid : Option Witness) : Type 0 where
    none : mid ≡ None → (before ≡ None) × IsCovered clock c.thread c.witness
    some : (m : Witness) → mid ≡ Some m → (before ≡ Some m) ⊎ ((m ≡ c.witness) × ¬ (IsCovered clock c.thread c.witness))
    keeps : (b : Witness) → before ≡ Some b → (m : Witness) × (mid ≡ Some m) × (b.place ≤ m.place)
    takes : ¬ (IsCovered clock c.thread c.witness) → (m : Witness) × (mid ≡ Some m) × (c.witness.place ≤ m.place)

  step_is : (before : Option Witness) (c : Cell) → IsStep before c (later_found clock before c)
  step_is None c = by (is_covered clock c.thread c.witness) refl
    where
      by : (b : Bool) → is_covered clock c.thread c.witness ≡ b → IsStep None c (cond b None (Some c.witness))
      by true e = record {
        none = λ h. (refl, leb-true _ _ e);
        some = λ m h. cc;
        keeps = λ b h. cc;
        takes = λ un. absurd (un (leb-true _ _ e));
      }
      by false e = record {
        none = λ h. cc;
        some = λ m h. inr (cc, λ covered. omega (arith, leb-false _ _ e));
        keeps = λ b h. cc;
        takes = λ un. (c.witness, refl, omega arith);
      }
  step_is (Some before) c = by (is_covered clock c.thread c.witness) refl (nat_le c.witness.place before.place) refl
    where
      place_of_some : (x y : Witness) → Some x ≡ Some y → x.place ≤ y.place
      place_of_some x y e = let same : x ≡ y = cc in subst (λ (z : Witness). x.place ≤ z.place) same (omega arith)

      by : (b : Bool) → is_covered clock c.thread c.witness ≡ b → (l : Bool) → nat_le c.witness.place before.place ≡ l
          → IsStep (Some before) c (cond b (Some before) (cond l (Some before) (Some c.witness)))
      by true e l f = record {
        none = λ h. cc;
        some = λ m h. inl h;
        keeps = λ b h. (before, refl, place_of_some b before (sym h));
        takes = λ un. absurd (un (leb-true _ _ e));
      }
      by false e true f = record {
        none = λ h. cc;
        some = λ m h. inl h;
        keeps = λ b h. (before, refl, place_of_some b before (sym h));
        takes = λ un. (before, refl, leb-true _ _ f);
      }
      by false e false f = record {
        none = λ h. cc;
        some = λ m h. inr (cc, λ covered. omega (arith, leb-false _ _ e));
        keeps = λ b h. (c.witness, refl, omega (arith, leb-false _ _ f, place_of_some b before (sym h)));
        takes = λ un. (c.witness, refl, omega arith);
      }

  in_cons : (c : Cell) (cells : List Cell) (t : ℕ) (seen : Witness) → cell_of (c ∷ cells) t ≡ Some seen → ((c.thread ≡ t) × (c.witness ≡ seen)) ⊎ (cell_of cells t ≡ Some seen)
  in_cons c cells t seen at = by (c.thread == t) refl at
    where
      by : (b : Bool) → (c.thread == t) ≡ b → cond b (Some c.witness) (cell_of cells t) ≡ Some seen → ((c.thread ≡ t) × (c.witness ≡ seen)) ⊎ (cell_of cells t ≡ Some seen)
      by true e h = inl (eqb-true c.thread t e, cc)
      by false e h = inr h

  later_one : (c : Cell) (cells : List Cell) (t : ℕ) (seen : Witness) → cell_of cells c.thread ≡ None → cell_of cells t ≡ Some seen → cell_of (c ∷ cells) t ≡ Some seen
  later_one c cells t seen none at =
      let apart : c.thread ≡ t → ⊥ = λ same. (let own : cell_of cells t ≡ None = subst (λ x. cell_of cells x ≡ None) same none in cc) in
      rw (ne_eqb c.thread t apart) at

  latest_after : (before : Option Witness) (cells : List Cell) → HasOneEach cells → IsLatest clock before cells (fold (later_found clock) before cells)
  latest_after before [] each = record {
    none = λ h. (h, λ t seen at. cc);
    some = λ latest h. inl h;
    most_before = λ latest one h b. (let same : latest ≡ one = cc in subst (λ (z : Witness). one.place ≤ z.place) (sym same) (omega arith));
    most = λ latest h t seen at un. cc;
  }
  latest_after before (c ∷ cells) each = joined (later_found clock before c) (step_is before c) (fold (later_found clock) (later_found clock before c) cells) (latest_after (later_found clock before c) cells each.1)
    where
      joined : (mid : Option Witness) → IsStep before c mid → (found : Option Witness) → IsLatest clock mid cells found → IsLatest clock before (c ∷ cells) found
      joined mid step found rest = record {
        none = λ h.
            let ih = rest.none h in
            let s = step.none ih.0 in (
              s.0,
              λ t seen at. elim (in_cons c cells t seen at) as (λ _. IsCovered clock t seen) [
                | inl same ↦ subst (λ (w : Witness). IsCovered clock t w) same.1 (subst (λ x. IsCovered clock x c.witness) same.0 s.1)
                | inr at ↦ ih.1 t seen at
              ],
            );
        some = λ latest h. elim (rest.some latest h) as (λ _. (before ≡ Some latest) ⊎ ((t : ℕ) × (cell_of (c ∷ cells) t ≡ Some latest) × ¬ (IsCovered clock t latest))) [
          | inl is_mid ↦ elim (step.some latest is_mid) as (λ _. (before ≡ Some latest) ⊎ ((t : ℕ) × (cell_of (c ∷ cells) t ≡ Some latest) × ¬ (IsCovered clock t latest))) [
            | inl b ↦ inl b
            | inr own ↦ inr (c.thread, rw (eq-eqb c.thread c.thread refl) (ap Some (sym own.0)), subst (λ (w : Witness). ¬ (IsCovered clock c.thread w)) (sym own.0) own.1)
          ]
          | inr one ↦ inr (one.0, later_one c cells one.0 latest each.0 one.1, one.2)
        ];
        most_before = λ latest one h b.
            let k = step.keeps one b in
            omega (arith, k.2, rest.most_before latest k.0 h k.1);
        most = λ latest h t seen at un. elim (in_cons c cells t seen at) as (λ _. seen.place ≤ latest.place) [
          | inl same ↦
              let open' : ¬ (IsCovered clock c.thread c.witness) =
              λ covered. un (subst (λ (w : Witness). IsCovered clock t w) same.1 (subst (λ x. IsCovered clock x c.witness) same.0 covered)) in
              let k = step.takes open' in
              subst (λ (w : Witness). w.place ≤ latest.place) same.1 (omega (arith, k.2, rest.most_before latest k.0 h k.1))
          | inr at ↦ rest.most latest h t seen at un
        ];
      }

  pub latest_is : (store : List PointCells) (point : Point) (cells : List Cell) (found : Option Witness) → cells_at store point ≡ cells → HasOneEach cells → found ≡ latest_in_cells clock cells
      → IsLatestUncovered store point clock found
  latest_is store point cells found is each same = by found (subst (IsLatest clock None cells) (sym same) (latest_after None cells each))
    where
      from : (t : ℕ) (seen : Witness) → cell_at store point t ≡ Some seen → cell_of cells t ≡ Some seen
      from t seen at = ap (λ l. cell_of l t) (sym is) ∙ at

      by : (found : Option Witness) → IsLatest clock None cells found → IsLatestUncovered store point clock found
      by None latest = λ t seen at. (latest.none refl).1 t seen (from t seen at)
      by (Some one) latest = (
        elim (latest.some one refl) as (λ _. (t : ℕ) × (cell_at store point t ≡ Some one) × ¬ (IsCovered clock t one)) [
          | inl h ↦ cc
          | inr h ↦ (h.0, ap (λ l. cell_of l h.0) is ∙ h.1, h.2)
        ],
        λ t seen at un. latest.most one refl t seen (from t seen at) un,
      )
