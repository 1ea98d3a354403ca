-- What a lane has ready is what its thread has ready.
use Rattle.std.specs.Bool.{Decides}
use Rattle.std.proofs.Common.{◌≡◌, ◌≢◌, ◌<◌, ◌≤◌, ◌+◌, ◌-◌, ◌⊎◌, ◌==◌, ◌&&◌, ◌||◌, ◌++◌, not, ℕ, zero, suc, Bool, true, false, cond, List, [], ◌∷◌, Option, Some, None, length, slice_get, get_or, filter_map, arith, inl, inr, refl, sym, ◌∙◌, ap, subst}
use Rattle.std.specs.Prelude.{slice_set}
use Rattle.std.specs.Option.{option_map_or}
use Rattle.std.specs.List.{range_with_len, list_all, find, filter, cons_option}
use Rattle.std.proofs.lemmas.Bool.{cases_Bool, cases_eq, cases_lt}
use Rattle.std.proofs.lemmas.Bool.Decides.{Decides-eqb, Decides-or, Decides-not, Decides-like, same_from_decides, not_from_Decides}
use Rattle.std.proofs.lemmas.Option.{none-some, same_Some, slice_get-get_or, slice_get_within}
use Rattle.rd_event.specs.declared.events.Event.{Event}
use Rattle.rd_order.specs.Order.{Reaches}
use Rattle.rd_order.proofs.OrderLemmas.{reaches_rises}
use Rattle.rd_linear.specs.declared.lanes.Lane.{Lane}
use Rattle.rd_linear.specs.declared.waits.Part.{Part}
use Rattle.rd_linear.specs.declared.waits.Waits.{Waits}
use Rattle.rd_linear.specs.Lanes.{AreThreadsRising, threads_in, are_over, is_over, is_seen, part_over, ready_in, thread_at, places_of, IsLane, AreLanes}
use Rattle.rd_linear.specs.Linear.{Marks, Placed, Stands}
use Rattle.rd_linear.specs.Noting.{HaveWaits, IsPart}
use Rattle.rd_linear.specs.Turns.{is_placed, keep_if, ready_at, choices}
use Rattle.rd_linear.specs.Waits.{AllStand, AreWaits}
use Rattle.rd_linear.proofs.TurnLemmas.{all_at, at_each, decides_placed}
use Rattle.rd_linear.proofs.LinearLemmas.{stands_more, stands_still, stands_last}
use Rattle.rd_linear.proofs.OrderLemmas.{range_below}
use Rattle.rd_linear.proofs.WaitLemmas.{ready_law}

-- ---- the first that waits

pub find_lane : (f placed : ℕ → Bool) (xs : List ℕ) (g : ℕ) → ((i p : ℕ) → i < g → slice_get (filter f xs) i ≡ Some p → placed p ≡ true)
    → ((p : ℕ) → slice_get (filter f xs) g ≡ Some p → placed p ≡ false) → find (λ p. f p && not (placed p)) xs ≡ slice_get (filter f xs) g
find_lane f placed [] g given left = refl
find_lane f placed (x ∷ xs) g given left = go (f x) g (λ h. find_lane f placed xs h) given left
  where
    go : (b : Bool) (g : ℕ)
        → ((h : ℕ) → ((i p : ℕ) → i < h → slice_get (filter f xs) i ≡ Some p → placed p ≡ true) → ((p : ℕ) → slice_get (filter f xs) h ≡ Some p → placed p ≡ false)
        → find (λ p. f p && not (placed p)) xs ≡ slice_get (filter f xs) h)
        → ((i p : ℕ) → i < g → slice_get (cond b (x ∷ filter f xs) (filter f xs)) i ≡ Some p → placed p ≡ true)
        → ((p : ℕ) → slice_get (cond b (x ∷ filter f xs) (filter f xs)) g ≡ Some p → placed p ≡ false)
        → cond (b && not (placed x)) (Some x) (find (λ p. f p && not (placed p)) xs) ≡ slice_get (cond b (x ∷ filter f xs) (filter f xs)) g
    go false g rest given left = rest g given left
    go true zero rest given left = rw (left x refl) refl
    go true (suc g) rest given left = rw (given 0 x (omega arith) refl) (rest g (λ i p l. given (suc i) p (omega arith)) left)

-- ---- what a filter keeps

kept : (f : ℕ → Bool) (xs : List ℕ) (i p : ℕ) → slice_get (filter f xs) i ≡ Some p → (f p ≡ true) × Stands xs p
kept f [] i p at = absurd (none-some p at)
kept f (x ∷ xs) i p at = go (f x) refl i at (kept f xs)
  where
    go : (b : Bool) → f x ≡ b → (i : ℕ) → slice_get (cond b (x ∷ filter f xs) (filter f xs)) i ≡ Some p
        → ((j q : ℕ) → slice_get (filter f xs) j ≡ Some q → (f q ≡ true) × Stands xs q) → (f p ≡ true) × Stands (x ∷ xs) p
    go false is i at on = let r = on i p at in (r.0, (suc r.1.0, r.1.1))
    go true is zero at on = let q : x ≡ p = cc in (subst (λ y. f y ≡ true) q is, (0, at))
    go true is (suc i) at on = let r = on i p at in (r.0, (suc r.1.0, r.1.1))

range_from : (a n j p : ℕ) → slice_get (range_with_len a n) j ≡ Some p → a ≤ p
range_from a zero j p at = absurd (none-some p at)
range_from a (suc n) zero p at = let q : a ≡ p = cc in omega (arith, q)
range_from a (suc n) (suc j) p at = let l = range_from (a + 1) n j p at in omega (arith, l)

kept_once : (f : ℕ → Bool) (a n i j p : ℕ) → slice_get (filter f (range_with_len a n)) i ≡ Some p → slice_get (filter f (range_with_len a n)) j ≡ Some p → i ≡ j
kept_once f a zero i j p at also = absurd (none-some p at)
kept_once f a (suc n) i j p at also = go (f a) i j at also (kept_once f (a + 1) n)
  where
    higher : (k : ℕ) → slice_get (filter f (range_with_len (a + 1) n)) k ≡ Some a → ⊥
    higher k at = let r = kept f (range_with_len (a + 1) n) k a at in let l = range_from (a + 1) n r.1.0 a r.1.1 in omega (arith, l)

    go : (b : Bool) (i j : ℕ) → slice_get (cond b (a ∷ filter f (range_with_len (a + 1) n)) (filter f (range_with_len (a + 1) n))) i ≡ Some p
        → slice_get (cond b (a ∷ filter f (range_with_len (a + 1) n)) (filter f (range_with_len (a + 1) n))) j ≡ Some p
        → ((i j p : ℕ) → slice_get (filter f (range_with_len (a + 1) n)) i ≡ Some p → slice_get (filter f (range_with_len (a + 1) n)) j ≡ Some p → i ≡ j) → i ≡ j
    go false i j at also on = on i j p at also
    go true zero zero at also on = refl
    go true zero (suc j) at also on = absurd (higher j (also ∙ sym at))
    go true (suc i) zero at also on = absurd (higher i (at ∙ sym also))
    go true (suc i) (suc j) at also on = ap suc (on i j p at also)

pub in_lane : (es : List Event) (t i p : ℕ) → slice_get (places_of es t) i ≡ Some p → (p < length es) × (thread_at es p ≡ t)
in_lane es t i p at =
    let r = kept (λ p. thread_at es p == t) (range_with_len 0 (length es)) i p at in
    let l = range_below 0 (length es) r.1.0 p r.1.1 in
    (omega (arith, l), (Decides-eqb (thread_at es p) t).0 r.0)

-- ---- what stands before it

-- the wait with a number of the part is over where it is marked
over_at : (waits : Waits) (seen : List Bool) (part : Part) (ws : List ℕ) → IsPart waits.places.items part ws → (i w : ℕ) → slice_get ws i ≡ Some w → is_over waits seen (part.from + i) ≡ is_seen seen w
over_at waits seen part ws is i w at = ap (λ o. option_map_or (is_seen seen) o false) (is.each i (slice_get_within ws i w at) ∙ at)

part_decides : (waits : Waits) (seen : List Bool) (n : ℕ) (places : List ℕ) → Marks seen n places → (part : Part) (ws : List ℕ) → IsPart waits.places.items part ws → ((w : ℕ) → Stands ws w → w < n)
    → Decides (part_over waits seen part) (AllStand places ws)
part_decides waits seen n places marks part ws is below = (to, from)
  where
    to : part_over waits seen part ≡ true → AllStand places ws
    to over w stands =
        let at = stands.1 in
        let inside = slice_get_within ws stands.0 w at in
        (marks.told w (below w stands)).0
        (sym (over_at waits seen part ws is stands.0 w at)
        ∙ all_at (is_over waits seen) part.from (part.to - part.from) over (part.from + stands.0) (omega arith) (omega (arith, inside, is.count_is)))

    from : AllStand places ws → part_over waits seen part ≡ true
    from stand = at_each (is_over waits seen) part.from (part.to - part.from) (λ k lo hi.
        let i = k - part.from in
        let same : part.from + i ≡ k = omega (arith, lo) in
        let inside : i < length ws = omega (arith, lo, hi, is.count_is) in
        let at = slice_get-get_or ws i 0 inside in
        subst (λ m. is_over waits seen m ≡ true) same
        (over_at waits seen part ws is i (get_or ws i 0) at ∙ (marks.told (get_or ws i 0) (below (get_or ws i 0) (i, at))).1 (stand (get_or ws i 0) (i, at))))

module _ (es : List Event) (r : ℕ → ℕ → Bool) (dec : (k p : ℕ) → Decides (r k p) (Reaches es k p))
    (places : List ℕ) (placed : Placed es places) (seen : List Bool) (marks : Marks seen (length es) places) (waits : Waits) (have : HaveWaits es waits) where
  abbrev Ready : ℕ → Type 0
  Ready p = (k : ℕ) → Reaches es k p → Stands places k

  abbrev full : ℕ → Bool
  full p = list_all (λ k. not (r k p) || is_placed places k) (range_with_len 0 (length es))

  full_decides : (p : ℕ) → p < length es → Decides (full p) (Ready p)
  full_decides p inside = (
    λ all k reach.
        let rises = reaches_rises es k p reach in
        elim ((Decides-or _ _ (Decides-not _ (dec k p)) (decides_placed places k)).0 (all_at (λ m. not (r m p) || is_placed places m) 0 (length es) all k (omega arith) (omega arith))) [
          | inl n ↦ absurd (n reach)
          | inr s ↦ s
        ],
    λ ready. at_each (λ k. not (r k p) || is_placed places k) 0 (length es) (λ k lo hi. elim (cases_Bool (r k p)) [
      | inl y ↦ (Decides-or _ _ (Decides-not _ (dec k p)) (decides_placed places k)).1 (inr (ready k ((dec k p).0 y)))
      | inr n ↦ (Decides-or _ _ (Decides-not _ (dec k p)) (decides_placed places k)).1 (inl (not_from_Decides _ (dec k p) n))
    ]),
  )

  over_decides : (p : ℕ) (part : Part) (ws : List ℕ) → p < length es → IsPart waits.places.items part ws → AreWaits es p ws → Decides (part_over waits seen part) (Ready p)
  over_decides p part ws inside is are =
      let law = ready_law es places ws p placed are in
      Decides-like (part_over waits seen part) law.1 law.0
      (part_decides waits seen (length es) places marks part ws is (λ w stands. let rises = reaches_rises es w p (are.reach w stands) in omega arith))

  over_full : (p : ℕ) → p < length es → are_over waits seen p ≡ full p
  over_full p inside =
      go (slice_get waits.parts.items p) refl
    where
      go : (o : Option Part) → slice_get waits.parts.items p ≡ o → option_map_or (part_over waits seen) o false ≡ full p
      go None e = absurd (none-some _ (sym e ∙ slice_get-get_or waits.parts.items p (record { from = 0; to = 0 }) (omega (arith, inside, have.length_is))))
      go (Some part) e =
          let x = have.each p part e in
          same_from_decides (part_over waits seen part) (full p) (over_decides p part x.0 inside x.1 x.2) (full_decides p inside)

  same_keep : (f g : ℕ → Bool) (o : Option ℕ) → ((p : ℕ) → o ≡ Some p → f p ≡ g p) → keep_if f o ≡ keep_if g o
  same_keep f g None same = refl
  same_keep f g (Some p) same = rw (same p refl) refl

  pub ready_same : (lane : Lane) → IsLane es places lane → ready_in waits seen lane ≡ ready_at (length es) (thread_at es) r places lane.thread
  unfolding ready_in ready_at
  ready_same lane is =
      let t = lane.thread in
      let same = is.items_are in
      let found = find_lane (λ p. thread_at es p == t) (is_placed places) (range_with_len 0 (length es)) lane.given
      (λ i p l at. (decides_placed places p).1 (is.given_stand i p l (ap (λ xs. slice_get xs i) same ∙ at)))
      (λ p at. elim (cases_Bool (is_placed places p)) [
        | inl y ↦ absurd (is.others_wait lane.given p (omega arith) (ap (λ xs. slice_get xs lane.given) same ∙ at) ((decides_placed places p).0 y))
        | inr n ↦ n
      ]) in
      same_keep (are_over waits seen) full (slice_get lane.places.items lane.given) (λ p at. over_full p (in_lane es t lane.given p (sym (ap (λ xs. slice_get xs lane.given) same) ∙ at)).0)
      ∙ ap (keep_if full) (ap (λ xs. slice_get xs lane.given) same ∙ sym found)

  pub choices_same : (lanes : List Lane) → AreLanes es places lanes → filter_map (ready_in waits seen) lanes ≡ choices (length es) (thread_at es) r (threads_in lanes) places
  choices_same [] are = refl
  choices_same (lane ∷ lanes) are =
      (λ i. cons_option (ready_same lane (are 0 lane refl) i) (filter_map (ready_in waits seen) lanes))
      ∙ ap (cons_option (ready_at (length es) (thread_at es) r places lane.thread)) (choices_same lanes (λ i. are (suc i)))

-- ---- threads of lanes

pub thread_at_lane : (lanes : List Lane) (i : ℕ) (lane : Lane) → slice_get lanes i ≡ Some lane → slice_get (threads_in lanes) i ≡ Some lane.thread
thread_at_lane [] i lane at = absurd (none-some lane at)
thread_at_lane (l ∷ ls) zero lane at = ap (λ l. Some l.thread) (same_Some l lane at)
thread_at_lane (l ∷ ls) (suc i) lane at = thread_at_lane ls i lane at

pub threads_kept : (lanes : List Lane) (i : ℕ) (lane next : Lane) → slice_get lanes i ≡ Some lane → next.thread ≡ lane.thread → threads_in (slice_set lanes i next) ≡ threads_in lanes
threads_kept [] i lane next at same = refl
threads_kept (l ∷ ls) zero lane next at same = ap (λ t. t ∷ threads_in ls) (same ∙ sym (ap (λ l. l.thread) (same_Some l lane at)))
threads_kept (l ∷ ls) (suc i) lane next at same = ap (λ ts. l.thread ∷ ts) (threads_kept ls i lane next at same)

apart : (lanes : List Lane) (i j : ℕ) (lane other : Lane) → AreThreadsRising (threads_in lanes) → slice_get lanes i ≡ Some lane → slice_get lanes j ≡ Some other → i ≢ j → lane.thread ≢ other.thread
apart lanes i j lane other rising at also differ same = elim (cases_lt i j) [
  | inl below ↦ (let l = rising i j lane.thread other.thread below (thread_at_lane lanes i lane at) (thread_at_lane lanes j other also) in omega (arith, l, same))
  | inr past ↦ (let l = rising j i other.thread lane.thread (omega (arith, past, differ)) (thread_at_lane lanes j other also) (thread_at_lane lanes i lane at) in omega (arith, l, same))
]

-- ---- a turn

pub changed : {X : Type 0} (lanes : List X) (t : ℕ) (next : X) (u : ℕ) (other : X) → slice_get (slice_set lanes t next) u ≡ Some other
    → ((u ≡ t) × (other ≡ next)) ⊎ ((u ≢ t) × (slice_get lanes u ≡ Some other))
changed [] t next u other is = absurd (none-some other is)
changed (l ∷ ls) zero next zero other is = inl (refl, sym (same_Some next other is))
changed (l ∷ ls) zero next (suc u) other is = inr (λ e. omega (arith, e), is)
changed (l ∷ ls) (suc t) next zero other is = inr (λ e. omega (arith, e), is)
changed (l ∷ ls) (suc t) next (suc u) other is = elim (changed ls t next u other is) [
  | inl y ↦ inl (ap suc y.0, y.1)
  | inr n ↦ inr (λ e. n.0 (omega (arith, e)), n.1)
]

pub lanes_more : (es : List Event) (places : List ℕ) (lanes : List Lane) (t p : ℕ) (lane next : Lane) → AreLanes es places lanes → AreThreadsRising (threads_in lanes) → slice_get lanes t ≡ Some lane
    → slice_get lane.places.items lane.given ≡ Some p → next.thread ≡ lane.thread → next.places.items ≡ lane.places.items → next.given ≡ lane.given + 1
    → AreLanes es (places ++ p ∷ []) (slice_set lanes t next)
lanes_more es places lanes t p lane next are rising at picked thread items given u other is = elim (changed lanes t next u other is) [
  | inl y ↦ subst (λ o. IsLane es (places ++ p ∷ []) o) (sym y.1) here
  | inr n ↦ there (apart lanes u t other lane rising n.1 at n.0) (are u other n.1)
]
  where
    old : IsLane es places lane
    old = are t lane at

    at_items : (i : ℕ) → slice_get next.places.items i ≡ slice_get lane.places.items i
    at_items i = ap (λ xs. slice_get xs i) items

    of_thread : thread_at es p ≡ lane.thread
    of_thread = (in_lane es lane.thread lane.given p (sym (ap (λ xs. slice_get xs lane.given) old.items_are) ∙ picked)).1

    once : (i : ℕ) → slice_get lane.places.items i ≡ Some p → i ≡ lane.given
    once i also = kept_once (λ q. thread_at es q == lane.thread) 0 (length es) i lane.given p (sym (ap (λ xs. slice_get xs i) old.items_are) ∙ also) (sym (ap (λ xs. slice_get xs lane.given) old.items_are) ∙ picked)

    here : IsLane es (places ++ p ∷ []) next
    here = record {
      items_are = items ∙ (old.items_are ∙ ap (places_of es) (sym thread));
      given_stand = λ i q below found. elim (cases_eq i lane.given) [
        | inl e ↦ (let q_is : p ≡ q = (let z = sym picked ∙ (ap (slice_get lane.places.items) (sym e) ∙ (sym (at_items i) ∙ found)) in same_Some p q z) in subst (Stands (places ++ p ∷ [])) q_is (stands_last places p))
        | inr ne ↦ stands_still places q p (old.given_stand i q (omega (arith, below, given, ne)) (sym (at_items i) ∙ found))
      ];
      others_wait = λ i q from found stands. elim (stands_more places q p stands) [
        | inl s ↦ old.others_wait i q (omega (arith, from, given)) (sym (at_items i) ∙ found) s
        | inr e ↦ (let z = once i (sym (at_items i) ∙ (found ∙ ap Some e)) in omega (arith, from, given, z))
      ];
    }

    there : other.thread ≢ lane.thread → IsLane es places other → IsLane es (places ++ p ∷ []) other
    there differs o = record {
      items_are = o.items_are;
      given_stand = λ i q below found. stands_still places q p (o.given_stand i q below found);
      others_wait = λ i q from found stands. elim (stands_more places q p stands) [
        | inl s ↦ o.others_wait i q from found s
        | inr e ↦ differs (sym (in_lane es other.thread i q (sym (ap (λ xs. slice_get xs i) o.items_are) ∙ found)).1 ∙ (ap (thread_at es) e ∙ of_thread))
      ];
    }
