-- The waits that are told from what is noted are waits of the event.
use Rattle.std.proofs.Common.{◌≡◌, ◌<◌, ◌≤◌, ◌+◌, ◌⊎◌, ◌++◌, ℕ, Bool, List, [], ◌∷◌, Option, Some, None, zero, suc, length, slice_get, take, arith, inl, inr, refl, sym, ◌∙◌, ap, subst, length-append}
use Rattle.std.proofs.lemmas.Bool.{cases_eq}
use Rattle.std.proofs.lemmas.Option.{none-some, same_Some}
use Rattle.rd_event.specs.declared.events.Event.{Event}
use Rattle.rd_event.specs.declared.events.Event.TheVariants.{Fork, Join, Acquire, Release, Share, Unshare, Call}
use Rattle.rd_order.specs.EventLists.{IsKnownThread, WellFormed, forks}
use Rattle.rd_order.specs.Order.{Against, Edge, GivesBack, Hold, Linked, Reaches, begins, ends, exclusive, forked_thread, hands_over, hold_taken, joined_thread, same_thread, shared, spans, thread_of}
use Rattle.rd_order.specs.OrderTests.{is_this}
use Rattle.rd_order.proofs.EventListLemmas.{counted_once, known_later, may_follow_at}
use Rattle.rd_order.proofs.LockLemmas.{holds_reach}
use Rattle.rd_order.proofs.OrderLemmas.{at_front, edge_reaches, reaches_last, this_decides}
use Rattle.rd_linear.specs.declared.waits.Notes.{Notes}
use Rattle.rd_linear.specs.declared.waits.Part.{Part}
use Rattle.rd_linear.specs.declared.waits.Waits.{Waits}
use Rattle.rd_linear.specs.Linear.{Stands}
use Rattle.rd_linear.specs.Noting.{AreFirstWaits, AreNotedBelow, IsLastBelow, IsPart, Touches, UsesLock, one_if, other_waits, release_noted, touch_noted, unshares_noted, waits_by}
use Rattle.rd_linear.specs.Waits.{AreWaits}

-- ---- lists of places

one_stands : (o : Option ℕ) (w : ℕ) → o ≡ Some w → Stands (one_if o) w
one_stands None w is = absurd (none-some w is)
one_stands (Some v) w is = (0, is)

stands_one : (o : Option ℕ) (w : ℕ) → Stands (one_if o) w → o ≡ Some w
stands_one None w stands = absurd (none-some w stands.1)
stands_one (Some v) w (zero, at) = at
stands_one (Some v) w (suc j, at) = absurd (none-some w at)

stands_front : (xs ys : List ℕ) (w : ℕ) → Stands xs w → Stands (xs ++ ys) w
stands_front [] ys w stands = absurd (none-some w stands.1)
stands_front (x ∷ xs) ys w (zero, at) = (0, at)
stands_front (x ∷ xs) ys w (suc j, at) = let s = stands_front xs ys w (j, at) in (suc s.0, s.1)

stands_behind : (xs ys : List ℕ) (w : ℕ) → Stands ys w → Stands (xs ++ ys) w
stands_behind [] ys w stands = stands
stands_behind (x ∷ xs) ys w stands = let s = stands_behind xs ys w stands in (suc s.0, s.1)

stands_either : (xs ys : List ℕ) (w : ℕ) → Stands (xs ++ ys) w → Stands xs w ⊎ Stands ys w
stands_either [] ys w stands = inr stands
stands_either (x ∷ xs) ys w (zero, at) = inl (0, at)
stands_either (x ∷ xs) ys w (suc j, at) = elim (stands_either xs ys w (j, at)) [ inl s ↦ inl (suc s.0, s.1) | inr s ↦ inr s ]

-- ---- fronts

front_get : {X : Type 0} (xs : List X) (n j : ℕ) (x : X) → j < n → slice_get xs j ≡ Some x → slice_get (take n xs) j ≡ Some x
front_get [] n j x below at = absurd (none-some x at)
front_get (y ∷ xs) zero j x below at = absurd (omega arith)
front_get (y ∷ xs) (suc n) zero x below at = at
front_get (y ∷ xs) (suc n) (suc j) x below at = front_get xs n j x (omega arith) at

front_of_front : {X : Type 0} (xs : List X) (i j : ℕ) → i ≤ j → take i (take j xs) ≡ take i xs
front_of_front [] zero zero le = refl
front_of_front [] zero (suc j) le = refl
front_of_front [] (suc i) zero le = refl
front_of_front [] (suc i) (suc j) le = refl
front_of_front (x ∷ xs) zero j le = refl
front_of_front (x ∷ xs) (suc i) zero le = absurd (omega arith)
front_of_front (x ∷ xs) (suc i) (suc j) le = ap (λ l. x ∷ l) (front_of_front xs i j (omega arith))

-- ---- the last place with a property

last_is : (P : ℕ → Type 0) (n : ℕ) (o : Option ℕ) (w : ℕ) → IsLastBelow P n o → o ≡ Some w → (w < n) × P w
last_is P n None w last is = absurd (none-some w is)
last_is P n (Some v) w last is = subst (λ x. (x < n) × P x) (same_Some v w is) (last.0, last.1)

module _ (roots : ℕ → Bool) (es : List Event) (formed : WellFormed roots es) where
  -- a place with the property is the last one, or reaches it where of two such places the earlier reaches the later
  chained : (P : ℕ → Type 0) (n : ℕ) (o : Option ℕ) → ((i j : ℕ) → i < j → P i → P j → Reaches es i j) → IsLastBelow P n o
      → (k : ℕ) → k < n → P k → (o ≡ Some k) ⊎ ((w : ℕ) × (o ≡ Some w) × Reaches es k w)
  chained P n None chain last k below has = absurd (last k below has)
  chained P n (Some w) chain (inside, is, latest) k below has = elim (cases_eq k w) [
    | inl same ↦ inl (ap Some (sym same))
    | inr apart ↦ (let le : k ≤ w = latest k below has in inr (w, refl, chain k w (omega (arith, le, apart)) has is))
  ]

  -- a thread does nothing before it is forked, and is forked once
  forks_first : (i j : ℕ) (a b : Event) → i < j → slice_get es i ≡ Some a → slice_get es j ≡ Some b → (t : ℕ) → (thread_of a ≡ t) ⊎ (forked_thread a ≡ Some t) → ¬ (forked_thread b ≡ Some t)
  unfolding forks
  forks_first i j a b rises at_i at_j t touches fork = (may_follow_at roots es j b formed at_j).fresh t fork (known touches)
    where
      known : (thread_of a ≡ t) ⊎ (forked_thread a ≡ Some t) → IsKnownThread roots (take j es) t
      known (inl same) = known_later roots (take j es) i t
          (subst (λ l. IsKnownThread roots l t) (sym (front_of_front es i j (omega arith)))
          (subst (IsKnownThread roots (take i es)) same (may_follow_at roots es i a formed at_i).known_actor))
      known (inr forks_it) = inr (counted_once (λ e. is_this (forked_thread e) t) (take j es) i a (front_get es j i a rises at_i) ((this_decides (forked_thread a) t).1 forks_it))

  -- of two events of a thread, its fork among them, the earlier reaches the later
  touches_reach : (t i j : ℕ) → i < j → Touches es t i → Touches es t j → Reaches es i j
  touches_reach t i j rises (a, at_i, x) (b, at_j, inl acts) = by x
    where
      edge : Linked a b → Reaches es i j
      edge linked = edge_reaches es i j (record { rises = rises; a = a; b = b; at_i = at_i; at_j = at_j; linked = linked })

      by : (thread_of a ≡ t) ⊎ (forked_thread a ≡ Some t) → Reaches es i j
      by (inl same) = edge (same_thread (same ∙ sym acts))
      by (inr forks_it) = edge (begins (forks_it ∙ ap Some (sym acts)))
  touches_reach t i j rises (a, at_i, x) (b, at_j, inr forks_it) = absurd (forks_first i j a b rises at_i at_j t x forks_it)

  -- of two releases of a lock the earlier reaches the later
  gives_reach : (lock i j : ℕ) → i < j → GivesBack es (exclusive lock) i → GivesBack es (exclusive lock) j → Reaches es i j
  gives_reach lock i j rises (a, at_i, gives) (b, at_j, gives_too) =
      holds_reach roots es i j a b (exclusive lock) (exclusive lock) formed rises at_i at_j (inr gives) (inr gives_too) refl

  -- what uses a lock reaches a later acquire of it
  uses_reach : (lock m n : ℕ) (e : Event) → m < n → UsesLock es lock m → slice_get es n ≡ Some e → hold_taken e ≡ Some (exclusive lock) → Reaches es m n
  uses_reach lock m n e rises (a, at_m, inl uses) at takes = holds_reach roots es m n a e (exclusive lock) (exclusive lock) formed rises at_m at uses (inl takes) refl
  uses_reach lock m n e rises (a, at_m, inr uses) at takes = holds_reach roots es m n a e (shared lock) (exclusive lock) formed rises at_m at uses (inl takes) refl

  module _ (n : ℕ) (e : Event) (at : slice_get es n ≡ Some e) (notes : Notes) (noted : AreNotedBelow es n notes) where
    edge : (k : ℕ) (a : Event) → k < n → slice_get es k ≡ Some a → Linked a e → Reaches es k n
    edge k a rises at_k linked = edge_reaches es k n (record { rises = rises; a = a; b = e; at_i = at_k; at_j = at; linked = linked })

    own_reaches : (w : ℕ) → touch_noted notes (thread_of e) ≡ Some w → Reaches es w n
    own_reaches w is = by (last_is (Touches es (thread_of e)) n (touch_noted notes (thread_of e)) w (noted.threads_are (thread_of e)) is)
      where
        by : (w < n) × Touches es (thread_of e) w → Reaches es w n
        by (rises, (a, at_w, inl same)) = edge w a rises at_w (same_thread same)
        by (rises, (a, at_w, inr fork)) = edge w a rises at_w (begins fork)

    child_reaches : (child w : ℕ) → joined_thread e ≡ Some child → touch_noted notes child ≡ Some w → Reaches es w n
    child_reaches child w joins is = by (last_is (Touches es child) n (touch_noted notes child) w (noted.threads_are child) is)
      where
        by : (w < n) × Touches es child w → Reaches es w n
        by (rises, (a, at_w, inl same)) = edge w a rises at_w (ends (joins ∙ ap Some (sym same)))
        by (rises, (a, at_w, inr fork)) = edge w a rises at_w (spans child fork joins)

    release_reaches : (lock w : ℕ) (hold : Hold) → hold_taken e ≡ Some hold → Against (exclusive lock) hold → release_noted notes lock ≡ Some w → Reaches es w n
    release_reaches lock w hold takes against is =
        let x = last_is (GivesBack es (exclusive lock)) n (release_noted notes lock) w (noted.releases_are lock) is in
        let a = x.1 in
        edge w a.0 x.0 a.1 (hands_over (exclusive lock) hold a.2 takes against)

    unshare_reaches : (lock w : ℕ) → hold_taken e ≡ Some (exclusive lock) → Stands (unshares_noted notes lock) w → Reaches es w n
    unshare_reaches lock w takes stands =
        let x = noted.unshares_are lock w stands in
        let a = x.1 in
        edge w a.0 x.0 a.1 (hands_over (shared lock) (exclusive lock) a.2 takes refl)

    -- a place that waits aren't asked of, since it reaches another that reaches the event
    abbrev Passed : ℕ → Type 0
    Passed k = (m : ℕ) × Reaches es k m × Reaches es m n

    own_rest : (k : ℕ) → k < n → Touches es (thread_of e) k → (touch_noted notes (thread_of e) ≡ Some k) ⊎ Passed k
    own_rest k rises touches =
        elim (chained (Touches es (thread_of e)) n (touch_noted notes (thread_of e)) (touches_reach (thread_of e)) (noted.threads_are (thread_of e)) k rises touches) [
          | inl last ↦ inl last
          | inr x ↦ inr (x.0, x.2, own_reaches x.0 x.1)
        ]

    child_rest : (child k : ℕ) → joined_thread e ≡ Some child → k < n → Touches es child k → (touch_noted notes child ≡ Some k) ⊎ Passed k
    child_rest child k joins rises touches =
        elim (chained (Touches es child) n (touch_noted notes child) (touches_reach child) (noted.threads_are child) k rises touches) [
          | inl last ↦ inl last
          | inr x ↦ inr (x.0, x.2, child_reaches child x.0 joins x.1)
        ]

    release_rest : (lock k : ℕ) (hold : Hold) → hold_taken e ≡ Some hold → Against (exclusive lock) hold → k < n → GivesBack es (exclusive lock) k → (release_noted notes lock ≡ Some k) ⊎ Passed k
    release_rest lock k hold takes against rises gives =
        elim (chained (GivesBack es (exclusive lock)) n (release_noted notes lock) (gives_reach lock) (noted.releases_are lock) k rises gives) [
          | inl last ↦ inl last
          | inr x ↦ inr (x.0, x.2, release_reaches lock x.0 hold takes against x.1)
        ]

    unshare_rest : (lock k : ℕ) → hold_taken e ≡ Some (exclusive lock) → k < n → GivesBack es (shared lock) k → Stands (unshares_noted notes lock) k ⊎ Passed k
    unshare_rest lock k takes rises gives = elim (noted.others lock k rises gives) [
      | inl stands ↦ inl stands
      | inr x ↦ inr (x.0, x.2, uses_reach lock x.0 n e x.1 x.3 at takes)
    ]

others_reach : (roots : ℕ → Bool) (es : List Event) → WellFormed roots es → (n : ℕ) (e : Event) → slice_get es n ≡ Some e → (notes : Notes) → AreNotedBelow es n notes
    → (w : ℕ) → Stands (other_waits notes e) w → Reaches es w n
others_reach roots es formed n (Join thread child) at notes noted w stands =
    child_reaches roots es formed n (Join thread child) at notes noted child w refl (stands_one (touch_noted notes child) w stands)
others_reach roots es formed n (Acquire thread lock) at notes noted w stands = elim (stands_either (one_if (release_noted notes lock)) (unshares_noted notes lock) w stands) [
  | inl release ↦ release_reaches roots es formed n (Acquire thread lock) at notes noted lock w (exclusive lock) refl refl (stands_one (release_noted notes lock) w release)
  | inr unshare ↦ unshare_reaches roots es formed n (Acquire thread lock) at notes noted lock w refl unshare
]
others_reach roots es formed n (Share thread lock) at notes noted w stands =
    release_reaches roots es formed n (Share thread lock) at notes noted lock w (shared lock) refl refl (stands_one (release_noted notes lock) w stands)
others_reach roots es formed n (Fork thread child) at notes noted w stands = absurd (none-some w stands.1)
others_reach roots es formed n (Release thread lock) at notes noted w stands = absurd (none-some w stands.1)
others_reach roots es formed n (Unshare thread lock) at notes noted w stands = absurd (none-some w stands.1)
others_reach roots es formed n (Call call) at notes noted w stands = absurd (none-some w stands.1)

-- what leads to a join by the joined thread
joined_rest : (roots : ℕ → Bool) (es : List Event) (formed : WellFormed roots es) (n : ℕ) (e : Event) (at : slice_get es n ≡ Some e) (notes : Notes) (noted : AreNotedBelow es n notes)
    → (k u : ℕ) → joined_thread e ≡ Some u → k < n → Touches es u k → Stands (other_waits notes e) k ⊎ ((m : ℕ) × Reaches es k m × Reaches es m n)
joined_rest roots es formed n (Join thread child) at notes noted k u joins rises touches =
    elim (child_rest roots es formed n (Join thread child) at notes noted child k refl rises (subst (λ t. Touches es t k) (sym (same_Some child u joins)) touches)) [
      | inl last ↦ inl (one_stands (touch_noted notes child) k last)
      | inr x ↦ inr x
    ]
joined_rest roots es formed n (Fork thread child) at notes noted k u joins rises touches = absurd (none-some u joins)
joined_rest roots es formed n (Acquire thread lock) at notes noted k u joins rises touches = absurd (none-some u joins)
joined_rest roots es formed n (Release thread lock) at notes noted k u joins rises touches = absurd (none-some u joins)
joined_rest roots es formed n (Share thread lock) at notes noted k u joins rises touches = absurd (none-some u joins)
joined_rest roots es formed n (Unshare thread lock) at notes noted k u joins rises touches = absurd (none-some u joins)
joined_rest roots es formed n (Call call) at notes noted k u joins rises touches = absurd (none-some u joins)

-- the lock of a hold that is taken
taken_exclusive : (a : ℕ) (h : Hold) → Some (exclusive a) ≡ Some h → h ≡ exclusive a
taken_exclusive a h is = sym (same_Some (exclusive a) h is)

taken_shared : (a : ℕ) (h : Hold) → Some (shared a) ≡ Some h → h ≡ shared a
taken_shared a h is = sym (same_Some (shared a) h is)

-- what leads to an event by a hold that it takes
handed_rest : (roots : ℕ → Bool) (es : List Event) (formed : WellFormed roots es) (n : ℕ) (e : Event) (at : slice_get es n ≡ Some e) (notes : Notes) (noted : AreNotedBelow es n notes)
    → (k : ℕ) (given taken : Hold) → hold_taken e ≡ Some taken → Against given taken → k < n → GivesBack es given k
    → Stands (other_waits notes e) k ⊎ ((m : ℕ) × Reaches es k m × Reaches es m n)
handed_rest roots es formed n (Acquire thread lock) at notes noted k (exclusive released) taken takes against rises gives =
    let same : released ≡ lock = subst (Against (exclusive released)) (taken_exclusive lock taken takes) against in
    elim (release_rest roots es formed n (Acquire thread lock) at notes noted lock k (exclusive lock) refl refl rises (subst (λ l. GivesBack es (exclusive l) k) same gives)) [
      | inl last ↦ inl (stands_front (one_if (release_noted notes lock)) (unshares_noted notes lock) k (one_stands (release_noted notes lock) k last))
      | inr x ↦ inr x
    ]
handed_rest roots es formed n (Acquire thread lock) at notes noted k (shared unshared) taken takes against rises gives =
    let same : unshared ≡ lock = subst (Against (shared unshared)) (taken_exclusive lock taken takes) against in
    elim (unshare_rest roots es formed n (Acquire thread lock) at notes noted lock k refl rises (subst (λ l. GivesBack es (shared l) k) same gives)) [
      | inl stands ↦ inl (stands_behind (one_if (release_noted notes lock)) (unshares_noted notes lock) k stands)
      | inr x ↦ inr x
    ]
handed_rest roots es formed n (Share thread lock) at notes noted k (exclusive released) taken takes against rises gives =
    let same : released ≡ lock = subst (Against (exclusive released)) (taken_shared lock taken takes) against in
    elim (release_rest roots es formed n (Share thread lock) at notes noted lock k (shared lock) refl refl rises (subst (λ l. GivesBack es (exclusive l) k) same gives)) [
      | inl last ↦ inl (one_stands (release_noted notes lock) k last)
      | inr x ↦ inr x
    ]
handed_rest roots es formed n (Share thread lock) at notes noted k (shared unshared) taken takes against rises gives =
    absurd (subst (Against (shared unshared)) (taken_shared lock taken takes) against)
handed_rest roots es formed n (Fork thread child) at notes noted k given taken takes against rises gives = absurd (none-some taken takes)
handed_rest roots es formed n (Join thread child) at notes noted k given taken takes against rises gives = absurd (none-some taken takes)
handed_rest roots es formed n (Release thread lock) at notes noted k given taken takes against rises gives = absurd (none-some taken takes)
handed_rest roots es formed n (Unshare thread lock) at notes noted k given taken takes against rises gives = absurd (none-some taken takes)
handed_rest roots es formed n (Call call) at notes noted k given taken takes against rises gives = absurd (none-some taken takes)

-- one of the waits, or a place that reaches another one that reaches the event
abbrev IsRest : List Event → ℕ → Notes → Event → ℕ → Type 0
IsRest es n notes e k = Stands (waits_by notes e) k ⊎ ((m : ℕ) × Reaches es k m × Reaches es m n)

pub waits_hold : (roots : ℕ → Bool) (es : List Event) (formed : WellFormed roots es) (n : ℕ) (e : Event) (at : slice_get es n ≡ Some e) (notes : Notes) (noted : AreNotedBelow es n notes)
    → AreWaits es n (waits_by notes e)
waits_hold roots es formed n e at notes noted = record { reach = reach; rest = rest }
  where
    reach : (w : ℕ) → Stands (waits_by notes e) w → Reaches es w n
    reach w stands = elim (stands_either (one_if (touch_noted notes (thread_of e))) (other_waits notes e) w stands) [
      | inl mine ↦ own_reaches roots es formed n e at notes noted w (stands_one (touch_noted notes (thread_of e)) w mine)
      | inr other ↦ others_reach roots es formed n e at notes noted w other
    ]

    mine : (k : ℕ) → k < n → Touches es (thread_of e) k → IsRest es n notes e k
    mine k rises touches = elim (own_rest roots es formed n e at notes noted k rises touches) [
      | inl last ↦ inl (stands_front (one_if (touch_noted notes (thread_of e))) (other_waits notes e) k (one_stands (touch_noted notes (thread_of e)) k last))
      | inr x ↦ inr x
    ]

    other : (k : ℕ) → Stands (other_waits notes e) k ⊎ ((m : ℕ) × Reaches es k m × Reaches es m n) → IsRest es n notes e k
    other k (inl stands) = inl (stands_behind (one_if (touch_noted notes (thread_of e))) (other_waits notes e) k stands)
    other k (inr x) = inr x

    linked : (k : ℕ) (a : Event) → k < n → slice_get es k ≡ Some a → Linked a e → IsRest es n notes e k
    linked k a rises at_k (same_thread same) = mine k rises (a, at_k, inl same)
    linked k a rises at_k (begins fork) = mine k rises (a, at_k, inr fork)
    linked k a rises at_k (ends join) = other k (joined_rest roots es formed n e at notes noted k (thread_of a) join rises (a, at_k, inl refl))
    linked k a rises at_k (spans u fork join) = other k (joined_rest roots es formed n e at notes noted k u join rises (a, at_k, inr fork))
    linked k a rises at_k (hands_over h g gives takes against) = other k (handed_rest roots es formed n e at notes noted k h g takes against rises (a, at_k, gives))

    rest : (k : ℕ) → Reaches es k n → IsRest es n notes e k
    rest k reach_it = by (reaches_last es k n reach_it)
      where
        by : (m : ℕ) × ((k ≡ m) ⊎ Reaches es k m) × Edge es m n → IsRest es n notes e k
        by (m, inr first, last) = inr (m, first, edge_reaches es m n last)
        by (m, inl same, last) = subst (IsRest es n notes e) (sym same) (linked m last.a last.rises last.at_i (subst (Linked last.a) (same_Some last.b e (sym last.at_j ∙ at)) last.linked))

-- ---- parts of a list

behind_same : (xs ys : List ℕ) (k : ℕ) → slice_get (xs ++ ys) (length xs + k) ≡ slice_get ys k
behind_same [] ys k = let e : length {A = ℕ} [] + k ≡ k = omega arith in ap (slice_get ys) e
behind_same (x ∷ xs) ys k = let e : length (x ∷ xs) + k ≡ suc (length xs + k) = omega arith in ap (slice_get (x ∷ (xs ++ ys))) e ∙ behind_same xs ys k

part_kept : (xs ys ws : List ℕ) (part : Part) → IsPart xs part ws → IsPart (xs ++ ys) part ws
part_kept xs ys ws part is = record {
  count_is = is.count_is;
  within = omega (arith, is.within, length-append xs ys);
  each = λ i inside. at_front xs ys (part.from + i) (omega (arith, is.within, is.count_is, inside)) ∙ is.each i inside;
}

part_last : (xs ws : List ℕ) (part : Part) → part.from ≡ length xs → part.to ≡ length (xs ++ ws) → IsPart (xs ++ ws) part ws
part_last xs ws part from to = record {
  count_is = omega (arith, from, to, length-append xs ws);
  within = omega (arith, to);
  each = λ i inside. ap (λ n. slice_get (xs ++ ws) (n + i)) from ∙ behind_same xs ws i;
}

pushed_part : (parts : List Part) (last : Part) (p : ℕ) (part : Part) → slice_get (parts ++ last ∷ []) p ≡ Some part → (slice_get parts p ≡ Some part) ⊎ ((p ≡ length parts) × (part ≡ last))
pushed_part [] last zero part at = inr (refl, sym (same_Some last part at))
pushed_part [] last (suc p) part at = absurd (none-some part at)
pushed_part (x ∷ parts) last zero part at = inl at
pushed_part (x ∷ parts) last (suc p) part at = elim (pushed_part parts last p part at) [ inl before ↦ inl before | inr here ↦ inr (ap suc here.0, here.1) ]

pub no_waits : (es : List Event) (waits : Waits) → waits.parts.items ≡ [] → AreFirstWaits es 0 waits
no_waits es waits none = record {
  length_is = ap length none;
  each = λ p part at. absurd (none-some part (ap (λ l. slice_get l p) (sym none) ∙ at));
}

pub waits_more : (es : List Event) (n : ℕ) (old new : Waits) (ws : List ℕ) (part : Part) → AreFirstWaits es n old → AreWaits es n ws
    → new.places.items ≡ old.places.items ++ ws → new.parts.items ≡ old.parts.items ++ part ∷ [] → part.from ≡ length old.places.items → part.to ≡ length new.places.items
    → AreFirstWaits es (n + 1) new
waits_more es n old new ws part are waits places parts from to = record {
  length_is = omega (arith, ap length parts, length-append old.parts.items (part ∷ []), are.length_is);
  each = λ p other at. elim (pushed_part old.parts.items part p other (ap (λ l. slice_get l p) (sym parts) ∙ at)) [
    | inl before ↦ (let x = are.each p other before in
        (x.0, subst (λ l. IsPart l other x.0) (sym places) (part_kept old.places.items ws x.0 other x.1), x.2))
    | inr here ↦ (let place : p ≡ n = here.0 ∙ are.length_is in
        let last = part_last old.places.items ws part from (to ∙ ap length places) in
        (ws, subst (λ l. IsPart l other ws) (sym places) (subst (λ q. IsPart (old.places.items ++ ws) q ws) (sym here.1) last), subst (λ k. AreWaits es k ws) (sym place) waits))
  ];
}
