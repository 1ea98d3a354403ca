-- Links, put one behind another and followed back.
use Rattle.std.proofs.Common.{◌≡◌, ◌≢◌, ◌⊎◌, ◌<◌, ◌≤◌, ◌+◌, ◌-◌, ◌++◌, ℕ, zero, suc, List, [], ◌∷◌, Some, length, slice_get, arith, inl, inr, refl, sym, ◌∙◌, ap, subst, length-append}
use Rattle.std.specs.Prelude.{replicate, slice_index_or, slice_set}
use Rattle.std.proofs.lemmas.Bool.{cases_eq, cases_lt}
use Rattle.std.specs.Option.{option_map_or}
use Rattle.std.proofs.lemmas.Option.{none-some, same_Some, get_or_from_slice_get, slice_get_within}
use Rattle.rd_event.specs.declared.events.Event.{Event}
use Rattle.rd_order.specs.Order.{IsOf, thread_of}
use Rattle.rd_order.proofs.OrderLemmas.{reaches_rises}
use Rattle.rd_linear.specs.declared.links.Link.{Link}
use Rattle.rd_linear.specs.declared.links.Links.{Links}
use Rattle.rd_linear.specs.declared.waits.Part.{Part}
use Rattle.rd_linear.specs.declared.waits.Waits.{Waits}
use Rattle.rd_linear.specs.Lanes.{AreThreadsRising, thread_at}
use Rattle.rd_linear.specs.Linear.{Stands}
use Rattle.rd_linear.specs.Links.{AreChained, LinksStay, HaveLanes, HaveLinksBelow, IsOwnOrLinked, IsLinked}
use Rattle.rd_linear.specs.Noting.{HaveWaits}
use Rattle.rd_linear.proofs.ThreadLemmas.{Gap}

-- ---- a list with one more

pub was_or_last : {X : Type 0} (xs : List X) (x : X) (k : ℕ) (y : X) → slice_get (xs ++ x ∷ []) k ≡ Some y → (slice_get xs k ≡ Some y) ⊎ ((k ≡ length xs) × (x ≡ y))
was_or_last [] x zero y at = inr (refl, same_Some x y at)
was_or_last [] x (suc k) y at = absurd (none-some y at)
was_or_last (z ∷ xs) x zero y at = inl at
was_or_last (z ∷ xs) x (suc k) y at = elim (was_or_last xs x k y at) [ inl old ↦ inl old | inr new ↦ inr (ap suc new.0, new.1) ]

pub still_there : {X : Type 0} (xs : List X) (x : X) (k : ℕ) (y : X) → slice_get xs k ≡ Some y → slice_get (xs ++ x ∷ []) k ≡ Some y
still_there [] x k y at = absurd (none-some y at)
still_there (z ∷ xs) x zero y at = at
still_there (z ∷ xs) x (suc k) y at = still_there xs x k y at

pub last_there : {X : Type 0} (xs : List X) (x : X) → slice_get (xs ++ x ∷ []) (length xs) ≡ Some x
last_there [] x = refl
last_there (z ∷ xs) x = last_there xs x

pub set_here : (xs : List ℕ) (i n : ℕ) → i < length xs → slice_index_or (slice_set xs i n) i 0 ≡ n
set_here [] i n inside = absurd (omega arith)
set_here (x ∷ xs) zero n inside = refl
set_here (x ∷ xs) (suc i) n inside = set_here xs i n (omega arith)

pub set_apart : {X : Type 0} (xs : List X) (i j : ℕ) (x d : X) → i ≢ j → slice_index_or (slice_set xs i x) j d ≡ slice_index_or xs j d
set_apart [] i j x d differ = refl
set_apart (y ∷ xs) zero zero x d differ = absurd (differ refl)
set_apart (y ∷ xs) zero (suc j) x d differ = refl
set_apart (y ∷ xs) (suc i) zero x d differ = refl
set_apart (y ∷ xs) (suc i) (suc j) x d differ = set_apart xs i j x d (λ e. differ (ap suc e))

-- ---- a link more

module _ (old new : Links) (place lane : ℕ) (chained : AreChained old) (inside : place < length old.last.items) (link : Link)
    (link_place : link.place ≡ place) (link_before : link.before ≡ slice_index_or old.last.items place 0)
    (items : new.items.items ≡ old.items.items ++ link ∷ []) (last : new.last.items ≡ slice_set old.last.items place (length new.items.items)) where
  count : length new.items.items ≡ length old.items.items + 1
  count = ap length items ∙ length-append old.items.items (link ∷ [])

  last_here : slice_index_or new.last.items place 0 ≡ length old.items.items + 1
  last_here = ap (λ xs. slice_index_or xs place 0) last ∙ (set_here old.last.items place (length new.items.items) inside ∙ count)

  last_apart : (q : ℕ) → place ≢ q → slice_index_or new.last.items q 0 ≡ slice_index_or old.last.items q 0
  last_apart q differ = ap (λ xs. slice_index_or xs q 0) last ∙ set_apart old.last.items place q (length new.items.items) 0 differ

  was : (k : ℕ) (x : Link) → slice_get new.items.items k ≡ Some x → (slice_get old.items.items k ≡ Some x) ⊎ ((k ≡ length old.items.items) × (link ≡ x))
  was k x at = was_or_last old.items.items link k x (sym (ap (λ xs. slice_get xs k) items) ∙ at)

  still : (k : ℕ) (x : Link) → slice_get old.items.items k ≡ Some x → slice_get new.items.items k ≡ Some x
  still k x at = ap (λ xs. slice_get xs k) items ∙ still_there old.items.items link k x at

  there : slice_get new.items.items (length old.items.items) ≡ Some link
  there = ap (λ xs. slice_get xs (length old.items.items)) items ∙ last_there old.items.items link

  below : (k : ℕ) (x : Link) → slice_get old.items.items k ≡ Some x → k < length old.items.items
  below k x at = slice_get_within old.items.items k x at

  last_is : (k : ℕ) (x : Link) → slice_get new.items.items k ≡ Some x → k < slice_index_or new.last.items x.place 0
  last_is k x at = elim (was k x at) [
    | inl before ↦ elim (cases_eq place x.place) [
      | inl e ↦ subst (λ q. k < slice_index_or new.last.items q 0) e (let b = below k x before in let l = last_here in omega (arith, b, l))
      | inr ne ↦ (let o = chained.last_is k x before in let l = last_apart x.place ne in omega (arith, o, l))
    ]
    | inr now ↦ subst (λ q. k < slice_index_or new.last.items q 0) (sym link_place ∙ ap (λ y. y.place) now.1) (let l = last_here in omega (arith, now.0, l))
  ]

  last_to : (q k : ℕ) → slice_index_or new.last.items q 0 ≡ suc k → (x : Link) × (slice_get new.items.items k ≡ Some x) × (x.place ≡ q)
  last_to q k is = elim (cases_eq place q) [
    | inl e ↦ (let k_is : length old.items.items ≡ k = (let l = last_here in let m : slice_index_or new.last.items place 0 ≡ suc k = subst (λ r. slice_index_or new.last.items r 0 ≡ suc k) (sym e) is in omega (arith, l, m)) in
        (link, subst (λ n. slice_get new.items.items n ≡ Some link) k_is there, link_place ∙ e))
    | inr ne ↦ (let o = chained.last_to q k (sym (last_apart q ne) ∙ is) in (o.0, still k o.0 o.1, o.2))
  ]

  before_is : (k j : ℕ) (x other : Link) → slice_get new.items.items k ≡ Some x → slice_get new.items.items j ≡ Some other → other.place ≡ x.place → j < k → j < x.before
  before_is k j x other at also same less = elim (was j other also) [
    | inr now ↦ elim (was k x at) [
      | inl old_k ↦ (let b = below k x old_k in absurd (omega (arith, b, now.0, less)))
      | inr now_k ↦ absurd (omega (arith, now.0, now_k.0, less))
    ]
    | inl old_j ↦ elim (was k x at) [
      | inl old_k ↦ chained.before_is k j x other old_k old_j same less
      | inr now_k ↦ subst (λ y. j < y.before) now_k.1
          (subst (λ n. j < n) (sym link_before)
          (subst (λ q. j < slice_index_or old.last.items q 0) (same ∙ (sym (ap (λ y. y.place) now_k.1) ∙ link_place)) (chained.last_is j other old_j)))
    ]
  ]

  before_to : (k j : ℕ) (x : Link) → slice_get new.items.items k ≡ Some x → x.before ≡ suc j → (j < k) × ((other : Link) × (slice_get new.items.items j ≡ Some other) × (other.place ≡ x.place))
  before_to k j x at is = elim (was k x at) [
    | inl old_k ↦ (let o = chained.before_to k j x old_k is in (o.0, (o.1.0, still j o.1.0 o.1.1, o.1.2)))
    | inr now ↦ (let o = chained.last_to place j (sym link_before ∙ (ap (λ y. y.before) now.1 ∙ is)) in let b = below j o.0 o.1 in
        (omega (arith, b, now.0), (o.0, still j o.0 o.1, o.2 ∙ (sym link_place ∙ ap (λ y. y.place) now.1))))
  ]

  pub link_more : AreChained new
  link_more = record { last_is = last_is; last_to = last_to; before_is = before_is; before_to = before_to }

-- the same is so of the lists alone
pub kept_more : (old new : List Link) (link : Link) → new ≡ old ++ link ∷ [] → LinksStay old new
kept_more old new link is k x at = ap (λ xs. slice_get xs k) is ∙ still_there old link k x at

pub lanes_more_linked : (threads : List ℕ) (old new : List Link) (link : Link) → new ≡ old ++ link ∷ [] → link.lane < length threads → HaveLanes threads old → HaveLanes threads new
lanes_more_linked threads old new link is inside all k x at = elim (was_or_last old link k x (sym (ap (λ xs. slice_get xs k) is) ∙ at)) [
  | inl before ↦ all k x before
  | inr now ↦ subst (λ y. y.lane < length threads) now.1 inside
]

pub linked_last : (threads : List ℕ) (old new : List Link) (link : Link) (thread place : ℕ) → new ≡ old ++ link ∷ [] → link.place ≡ place → slice_get threads link.lane ≡ Some thread → IsLinked new threads thread place
linked_last threads old new link thread place is to at = (length old, link, ap (λ xs. slice_get xs (length old)) is ∙ last_there old link, to, at)

pub linked_still : (threads : List ℕ) (old new : List Link) (thread place : ℕ) → LinksStay old new → IsLinked old threads thread place → IsLinked new threads thread place
linked_still threads old new thread place kept l = (l.0, l.1, kept l.0 l.1 l.2, l.3, l.4)

-- nothing is linked
pub none_chained : (links : Links) (count : ℕ) → links.items.items ≡ [] → ((q : ℕ) → slice_index_or links.last.items q 0 ≡ 0) → AreChained links
none_chained links count none zero_each = record {
  last_is = λ k x at. absurd (none-some x (sym (ap (λ xs. slice_get xs k) none) ∙ at));
  last_to = λ q k is. (let z = zero_each q in absurd (omega (arith, z, is)));
  before_is = λ k j x other at. absurd (none-some x (sym (ap (λ xs. slice_get xs k) none) ∙ at));
  before_to = λ k j x at. absurd (none-some x (sym (ap (λ xs. slice_get xs k) none) ∙ at));
}

-- one thread stands at one place among those that rise
pub one_place : (threads : List ℕ) (i j t : ℕ) → AreThreadsRising threads → slice_get threads i ≡ Some t → slice_get threads j ≡ Some t → i ≡ j
one_place threads i j t rising at also = elim (cases_lt i j) [
  | inl less ↦ (let l = rising i j t t less at also in absurd (omega (arith, l)))
  | inr past ↦ elim (cases_lt j i) [
    | inl less ↦ (let l = rising j i t t less also at in absurd (omega (arith, l)))
    | inr same ↦ omega (arith, past, same)
  ]
]

-- ---- one event more

pub index_default : (xs : List ℕ) (i d : ℕ) → i < length xs → slice_index_or xs i d ≡ slice_index_or xs i 0
index_default [] i d inside = absurd (omega arith)
index_default (x ∷ xs) zero d inside = refl
index_default (x ∷ xs) (suc i) d inside = index_default xs i d (omega arith)

pub item_is : {X : Type 0} (xs : List X) (i : ℕ) (x : X) → i < length xs → x ≡ slice_index_or xs i x → slice_get xs i ≡ Some x
item_is [] i x inside is = absurd (omega arith)
item_is (y ∷ xs) zero x inside is = ap Some (sym is)
item_is (y ∷ xs) (suc i) x inside is = item_is xs i x (omega arith) is

pub gap_lacks : (threads : List ℕ) (t at : ℕ) → Gap threads t at → Stands threads t → ⊥
gap_lacks threads t at gap s =
    let is = get_or_from_slice_get threads s.0 t 0 s.1 in
    elim (cases_lt s.0 at) [
      | inl below ↦ (let l = gap.1 s.0 below in omega (arith, l, is))
      | inr past ↦ (let l = gap.2 s.0 past (slice_get_within threads s.0 t s.1) in omega (arith, l, is))
    ]

pub of_thread : (es : List Event) (thread place : ℕ) → IsOf es thread place → thread_at es place ≡ thread
of_thread es thread place of = ap (λ o. option_map_or thread_of o 0) of.1 ∙ of.2

-- where the places of a part stand, and that they are before the event that waits for them
pub part_within : (es : List Event) (waits : Waits) (p at : ℕ) (part : Part) → HaveWaits es waits → slice_get waits.parts.items p ≡ Some part → at < part.to → at < length waits.places.items
part_within es waits p at part have is less = let x = have.each p part is in let w = x.1.within in omega (arith, w, less)

pub waited_before : (es : List Event) (waits : Waits) (p at w : ℕ) (part : Part) → HaveWaits es waits → slice_get waits.parts.items p ≡ Some part → part.from ≤ at → at < part.to
    → slice_get waits.places.items at ≡ Some w → w < p
waited_before es waits p at w part have is lo hi found =
    let x = have.each p part is in let c = x.1.count_is in
    let same : part.from + (at - part.from) ≡ at = omega (arith, lo) in
    let stands : slice_get x.0 (at - part.from) ≡ Some w = sym (x.1.each (at - part.from) (omega (arith, lo, hi, c))) ∙ (ap (slice_get waits.places.items) same ∙ found) in
    reaches_rises es w p (x.2.reach w (at - part.from, stands))

pub record IsLinking (es : List Event) (threads : List ℕ) (waits : Waits) (thread from at : ℕ) (old new : Links) : Type 0 where
  pub chained : AreChained new
  pub places_are : length new.last.items ≡ length old.last.items
  pub lanes_are : HaveLanes threads new.items.items
  pub kept : LinksStay old.items.items new.items.items
  pub heard : (i w : ℕ) → from ≤ i → i < at → slice_get waits.places.items i ≡ Some w → IsOwnOrLinked es new.items.items threads thread w

pub linking_starts : (es : List Event) (threads : List ℕ) (waits : Waits) (count thread from : ℕ) (links : Links) → HaveLinksBelow es threads waits count links
    → IsLinking es threads waits thread from from links links
linking_starts es threads waits count thread from links have = record {
  chained = have.chained;
  places_are = refl;
  lanes_are = have.lanes_are;
  kept = λ k x at. at;
  heard = λ i w lo hi. absurd (omega (arith, lo, hi));
}

heard_still : (es : List Event) (threads : List ℕ) (old new : List Link) (thread place : ℕ) → LinksStay old new → IsOwnOrLinked es old threads thread place → IsOwnOrLinked es new threads thread place
heard_still es threads old new thread place kept heard = elim heard [ inl own ↦ inl own | inr l ↦ inr (linked_still threads old new thread place kept l) ]

pub linking_more : (es : List Event) (threads : List ℕ) (waits : Waits) (thread from at place : ℕ) (first old new : Links) → IsLinking es threads waits thread from at first old
    → AreChained new → HaveLanes threads new.items.items → length new.last.items ≡ length old.last.items → LinksStay old.items.items new.items.items → slice_get waits.places.items at ≡ Some place
    → IsOwnOrLinked es new.items.items threads thread place → IsLinking es threads waits thread from (at + 1) first new
linking_more es threads waits thread from at place first old new was chained lanes places kept is heard = record {
  chained = chained;
  places_are = places ∙ was.places_are;
  lanes_are = lanes;
  kept = λ k x there. kept k x (was.kept k x there);
  heard = λ i w lo hi found. elim (cases_eq i at) [
    | inl e ↦ subst (IsOwnOrLinked es new.items.items threads thread) (same_Some place w (sym is ∙ (ap (slice_get waits.places.items) (sym e) ∙ found))) heard
    | inr ne ↦ heard_still es threads old.items.items new.items.items thread w kept (was.heard i w lo (omega (arith, hi, ne)) found)
  ];
}

pub linking_ends : (es : List Event) (threads : List ℕ) (waits : Waits) (p from at to : ℕ) (part : Part) (old new : Links) → HaveLinksBelow es threads waits p old → slice_get waits.parts.items p ≡ Some part
    → part.from ≡ from → part.to ≡ to → to ≤ at → IsLinking es threads waits (thread_at es p) from at old new → HaveLinksBelow es threads waits (p + 1) new
linking_ends es threads waits p from at to part old new have is begins ends past done = record {
  chained = done.chained;
  places_are = done.places_are ∙ have.places_are;
  lanes_are = done.lanes_are;
  each = λ q one i w below found lo hi there. elim (cases_eq q p) [
    | inl e ↦ (let same = same_Some part one (sym is ∙ (ap (slice_get waits.parts.items) (sym e) ∙ found)) in
        subst (λ r. IsOwnOrLinked es new.items.items threads (thread_at es r) w) (sym e)
        (done.heard i w (let f = ap (λ x. x.from) same in omega (arith, f, begins, lo)) (let t = ap (λ x. x.to) same in omega (arith, t, ends, past, hi)) there))
    | inr ne ↦ heard_still es threads old.items.items new.items.items (thread_at es q) w done.kept (have.each q one i w (omega (arith, below, ne)) found lo hi there)
  ];
}

pub none_linked : (es : List Event) (threads : List ℕ) (waits : Waits) (links : Links) → links.items.items ≡ [] → ((q : ℕ) → slice_index_or links.last.items q 0 ≡ 0) → length links.last.items ≡ length es
    → HaveLinksBelow es threads waits 0 links
none_linked es threads waits links none zero_each places = record {
  chained = none_chained links 0 none zero_each;
  places_are = places;
  lanes_are = λ k x at. absurd (none-some x (sym (ap (λ xs. slice_get xs k) none) ∙ at));
  each = λ p part at w below. absurd (omega (arith, below));
}

pub zeros : (n q : ℕ) → ◌≡◌ {A = ℕ} (slice_index_or (replicate n 0) q 0) 0
zeros zero q = refl
zeros (suc n) zero = refl
zeros (suc n) (suc q) = zeros n q
