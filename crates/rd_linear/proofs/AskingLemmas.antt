-- What each lane has is asked again where it may have changed.
use Rattle.std.proofs.Common.{◌≡◌, ◌≢◌, ◌⊎◌, ◌<◌, ◌≤◌, ◌+◌, ◌-◌, ◌%◌, ◌/◌, ◌&&◌, ℕ, zero, suc, Bool, true, false, List, [], ◌∷◌, Option, Some, None, length, slice_get, filter_map, map, arith, inl, inr, refl, sym, ◌∙◌, ap, subst}
use Rattle.std.specs.Prelude.{IfSome, slice_index_or, slice_set}
use Rattle.std.specs.List.{cons_option, list_all, range_with_len}
use Rattle.std.specs.Option.{option_map_or}
use Rattle.std.proofs.lemmas.Bool.{cases_eq}
use Rattle.std.proofs.lemmas.Option.{none-some, same_Some, slice_get_within}
use Rattle.rd_event.specs.declared.events.Event.{Event}
use Rattle.rd_linear.specs.declared.lanes.Lane.{Lane}
use Rattle.rd_linear.specs.declared.links.Link.{Link}
use Rattle.rd_linear.specs.declared.links.Links.{Links}
use Rattle.rd_linear.specs.declared.waits.Part.{Part}
use Rattle.rd_linear.specs.declared.waits.Waits.{Waits}
use Rattle.rd_linear.specs.Lanes.{AreLanes, AreThreadsRising, IsChoice, are_over, is_over, is_seen, part_over, ready_in, thread_at, threads_in}
use Rattle.rd_linear.specs.Links.{AreAskedBut, AreChained, HaveLinks, IsPicked}
use Rattle.rd_linear.specs.Turns.{keep_if}
use Rattle.rd_linear.proofs.LaneLemmas.{changed, in_lane, thread_at_lane}
use Rattle.rd_linear.proofs.LinkLemmas.{item_is, one_place, set_apart}

-- ---- lists of what lanes have

pub set_there : {X : Type 0} (xs : List X) (i : ℕ) (x : X) → i < length xs → slice_get (slice_set xs i x) i ≡ Some x
set_there [] i x inside = absurd (omega arith)
set_there (y ∷ xs) zero x inside = refl
set_there (y ∷ xs) (suc i) x inside = set_there xs i x (omega arith)

set_other : {X : Type 0} (xs : List X) (i j : ℕ) (x : X) → i ≢ j → slice_get (slice_set xs i x) j ≡ slice_get xs j
set_other [] i j x differ = refl
set_other (y ∷ xs) zero zero x differ = absurd (differ refl)
set_other (y ∷ xs) zero (suc j) x differ = refl
set_other (y ∷ xs) (suc i) zero x differ = refl
set_other (y ∷ xs) (suc i) (suc j) x differ = set_other xs i j x (λ e. differ (ap suc e))

set_length : {X : Type 0} (xs : List X) (i : ℕ) (x : X) → length (slice_set xs i x) ≡ length xs
set_length [] i x = refl
set_length (y ∷ xs) zero x = refl
set_length (y ∷ xs) (suc i) x = ap suc (set_length xs i x)

pub map_length : {X Y : Type 0} (f : X → Y) (xs : List X) → length (map f xs) ≡ length xs
map_length f [] = refl
map_length f (x ∷ xs) = ap suc (map_length f xs)

map_at : {X Y : Type 0} (f : X → Y) (xs : List X) (i : ℕ) (x : X) → slice_get xs i ≡ Some x → slice_get (map f xs) i ≡ Some (f x)
map_at f [] i x at = absurd (none-some x at)
map_at f (y ∷ xs) zero x at = ap (λ z. Some (f z)) (same_Some y x at)
map_at f (y ∷ xs) (suc i) x at = map_at f xs i x at

from_map : {X Y : Type 0} (f : X → Y) (xs : List X) (i : ℕ) (y : Y) → slice_get (map f xs) i ≡ Some y → (x : X) × (slice_get xs i ≡ Some x) × (f x ≡ y)
from_map f [] i y at = absurd (none-some y at)
from_map f (x ∷ xs) zero y at = (x, refl, same_Some (f x) y at)
from_map f (x ∷ xs) (suc i) y at = from_map f xs i y at

is_map : {X Y : Type 0} (f : X → Y) (xs : List X) (ys : List Y) → length ys ≡ length xs → ((i : ℕ) (x : X) → slice_get xs i ≡ Some x → slice_get ys i ≡ Some (f x)) → ys ≡ map f xs
is_map f [] [] same each = refl
is_map f [] (y ∷ ys) same each = absurd (omega (arith, same))
is_map f (x ∷ xs) [] same each = absurd (omega (arith, same))
is_map f (x ∷ xs) (y ∷ ys) same each = (λ i. same_Some y (f x) (each 0 x refl) i ∷ is_map f xs ys (omega (arith, same)) (λ j. each (suc j)) i)

found_map : {X : Type 0} (f : X → Option ℕ) (xs : List X) → filter_map (λ given. given) (map f xs) ≡ filter_map f xs
found_map f [] = refl
found_map f (x ∷ xs) = ap (cons_option (f x)) (found_map f xs)

-- ---- asked one after another

abbrev pub AreAskedBelow : Waits → List Bool → List Lane → List (Option ℕ) → ℕ → Type 0
AreAskedBelow waits seen lanes ranks count = (length ranks ≡ length lanes) × ((i : ℕ) (lane : Lane) → i < count → slice_get lanes i ≡ Some lane → slice_get ranks i ≡ Some (ready_in waits seen lane))

pub none_asked : (waits : Waits) (seen : List Bool) (lanes : List Lane) (ranks : List (Option ℕ)) → length ranks ≡ length lanes → AreAskedBelow waits seen lanes ranks 0
none_asked waits seen lanes ranks same = (same, λ i lane below. absurd (omega (arith, below)))

pub asked_more : (waits : Waits) (seen : List Bool) (lanes : List Lane) (old new : List (Option ℕ)) (at : ℕ) → at < length lanes → AreAskedBelow waits seen lanes old at
    → ((lane : Lane) → slice_get lanes at ≡ Some lane → new ≡ slice_set old at (ready_in waits seen lane)) → (lane : Lane) → slice_get lanes at ≡ Some lane → AreAskedBelow waits seen lanes new (at + 1)
asked_more waits seen lanes old new at inside asked set lane is =
    let same = set lane is in
    subst (λ ranks. AreAskedBelow waits seen lanes ranks (at + 1)) (sym same) (
      set_length old at (ready_in waits seen lane) ∙ asked.0,
      λ i other below found. elim (cases_eq at i) [
        | inl e ↦ (let one = same_Some lane other (sym is ∙ (ap (slice_get lanes) e ∙ found)) in
            subst (λ k. slice_get (slice_set old at (ready_in waits seen lane)) k ≡ Some (ready_in waits seen other)) e
            (set_there old at (ready_in waits seen lane) (let l = asked.0 in omega (arith, inside, l)) ∙ ap (λ l. Some (ready_in waits seen l)) one))
        | inr ne ↦ set_other old at i (ready_in waits seen lane) ne ∙ asked.1 i other (omega (arith, below, ne)) found
      ],
    )

pub all_asked : (waits : Waits) (seen : List Bool) (lanes : List Lane) (ranks : List (Option ℕ)) (at : ℕ) → length lanes ≤ at → AreAskedBelow waits seen lanes ranks at → ranks ≡ map (ready_in waits seen) lanes
all_asked waits seen lanes ranks at past asked =
    is_map (ready_in waits seen) lanes ranks asked.0 (λ i lane is. asked.1 i lane (let w = slice_get_within lanes i lane is in omega (arith, w, past)) is)

-- ---- asked along the links to a place

-- a number that isn't 0 is one more than that of a link to the place
abbrev pub HasNumber : List Link → ℕ → ℕ → Type 0
HasNumber items place number = (k : ℕ) → number ≡ suc k → (link : Link) × (slice_get items k ≡ Some link) × (link.place ≡ place)

pub has_one : {X : Type 0} (xs : List X) (i : ℕ) → i < length xs → (x : X) × (slice_get xs i ≡ Some x)
has_one [] i inside = absurd (omega arith)
has_one (x ∷ xs) zero inside = (x, refl)
has_one (x ∷ xs) (suc i) inside = has_one xs i (omega arith)

pub lane_count : (lanes : List Lane) → length (threads_in lanes) ≡ length lanes
lane_count lanes = map_length (λ lane. lane.thread) lanes

pub first_number : (links : Links) (place : ℕ) → AreChained links → HasNumber links.items.items place (slice_index_or links.last.items place 0)
first_number links place chained k is = chained.last_to place k is

pub next_number : (links : Links) (place number : ℕ) (link : Link) → AreChained links → slice_get links.items.items number ≡ Some link → link.place ≡ place → HasNumber links.items.items place link.before
next_number links place number link chained there to k is = let o = (chained.before_to number k link there is).1 in (o.0, o.1, o.2 ∙ to)

pub smaller_number : (links : Links) (number : ℕ) (link : Link) → AreChained links → slice_get links.items.items number ≡ Some link → link.before ≤ number
smaller_number links number link chained there = by link.before refl
  where
    by : (n : ℕ) → link.before ≡ n → n ≤ number
    by zero is = omega arith
    by (suc j) is = let o = chained.before_to number j link there is in let l = o.0 in omega (arith, l)

-- the link at a number that is more than 0
pub link_there : (items : List Link) (place number : ℕ) (link : Link) → HasNumber items place number → 0 < number → link ≡ slice_index_or items (number - 1) link → (slice_get items (number - 1) ≡ Some link) × (link.place ≡ place)
link_there items place number link has some is =
    let h = has (number - 1) (omega (arith, some)) in
    let there = item_is items (number - 1) link (slice_get_within items (number - 1) h.0 h.1) is in
    (there, ap (λ x. x.place) (same_Some link h.0 (sym there ∙ h.1)) ∙ h.2)

pub asked_from : (waits : Waits) (seen : List Bool) (lanes : List Lane) (ranks : List (Option ℕ)) (links : Links) (place : ℕ) → AreChained links
    → AreAskedBut waits seen lanes ranks links.items.items place (length links.items.items) → AreAskedBut waits seen lanes ranks links.items.items place (slice_index_or links.last.items place 0)
asked_from waits seen lanes ranks links place chained asked = (
  asked.0,
  λ i lane is. elim (asked.1 i lane is) [
    | inl right ↦ inl right
    | inr l ↦ inr (l.0, l.1, subst (λ q. l.0 < slice_index_or links.last.items q 0) l.4 (chained.last_is l.0 l.1 l.3), l.3, l.4, l.5)
  ],
)

pub asked_along : (waits : Waits) (seen : List Bool) (lanes : List Lane) (old new : List (Option ℕ)) (links : Links) (place number : ℕ) (link : Link) → AreChained links
    → slice_get links.items.items number ≡ Some link → link.place ≡ place → (lane : Lane) → slice_get lanes link.lane ≡ Some lane → new ≡ slice_set old link.lane (ready_in waits seen lane)
    → AreAskedBut waits seen lanes old links.items.items place (number + 1) → AreAskedBut waits seen lanes new links.items.items place link.before
asked_along waits seen lanes old new links place number link chained there to lane is set asked =
    subst (λ ranks. AreAskedBut waits seen lanes ranks links.items.items place link.before) (sym set) (
      set_length old link.lane (ready_in waits seen lane) ∙ asked.0,
      λ i other found. elim (cases_eq link.lane i) [
        | inl e ↦ (let one = same_Some lane other (sym is ∙ (ap (slice_get lanes) e ∙ found)) in
            inl (subst (λ k. slice_get (slice_set old link.lane (ready_in waits seen lane)) k ≡ Some (ready_in waits seen other)) e
            (set_there old link.lane (ready_in waits seen lane) (let l = asked.0 in let w = slice_get_within lanes link.lane lane is in omega (arith, w, l)) ∙ ap (λ l. Some (ready_in waits seen l)) one)))
        | inr ne ↦ elim (asked.1 i other found) [
          | inl right ↦ inl (set_other old link.lane i (ready_in waits seen lane) ne ∙ right)
          | inr l ↦ elim (cases_eq l.0 number) [
            | inl same ↦ (let one = same_Some link l.1 (sym there ∙ (ap (slice_get links.items.items) (sym same) ∙ l.3)) in absurd (ne (ap (λ x. x.lane) one ∙ l.5)))
            | inr apart ↦ inr (l.0, l.1, chained.before_is number l.0 link l.1 there l.3 (l.4 ∙ sym to) (let less = l.2 in omega (arith, less, apart)), l.3, l.4, l.5)
          ]
        ]
      ],
    )

pub asked_through : (waits : Waits) (seen : List Bool) (lanes : List Lane) (ranks : List (Option ℕ)) (items : List Link) (place number : ℕ) → number ≤ 0 → AreAskedBut waits seen lanes ranks items place number
    → ranks ≡ map (ready_in waits seen) lanes
asked_through waits seen lanes ranks items place number none asked = is_map (ready_in waits seen) lanes ranks asked.0 (λ i lane is. elim (asked.1 i lane is) [
  | inl right ↦ right
  | inr l ↦ (let less = l.2 in absurd (omega (arith, less, none)))
])

-- ---- what a mark changes

-- tests that differ do so somewhere
same_or : (f g : ℕ → Bool) (P : ℕ → Type 0) (a n : ℕ) → ((k : ℕ) → a ≤ k → k < a + n → (f k ≡ g k) ⊎ P k)
    → (list_all f (range_with_len a n) ≡ list_all g (range_with_len a n)) ⊎ ((k : ℕ) × (a ≤ k) × (k < a + n) × P k)
same_or f g P a zero each = inl refl
same_or f g P a (suc n) each = elim (each a (omega arith) (omega arith)) [
  | inr p ↦ inr (a, omega arith, omega arith, p)
  | inl e ↦ elim (same_or f g P (a + 1) n (λ k lo hi. each k (omega (arith, lo)) (omega (arith, hi)))) [
    | inl rest ↦ inl (λ i. e i && rest i)
    | inr x ↦ (let lo = x.1 in let hi = x.2 in inr (x.0, omega (arith, lo), omega (arith, hi), x.3))
  ]
]

module _ (waits : Waits) (seen : List Bool) (place : ℕ) where
  abbrev marked : List Bool
  marked = slice_set seen place true

  wait_changed : (k : ℕ) → (is_over waits marked k ≡ is_over waits seen k) ⊎ (slice_get waits.places.items k ≡ Some place)
  wait_changed k = go (slice_get waits.places.items k) refl
    where
      go : (o : Option ℕ) → slice_get waits.places.items k ≡ o → (option_map_or (is_seen marked) o false ≡ option_map_or (is_seen seen) o false) ⊎ (o ≡ Some place)
      go None e = inl refl
      go (Some w) e = elim (cases_eq place w) [ inl same ↦ inr (ap Some (sym same)) | inr apart ↦ inl (set_apart seen place w true false apart) ]

  abbrev Waited : ℕ → Type 0
  Waited p = (part : Part) × (k : ℕ) × (slice_get waits.parts.items p ≡ Some part) × (part.from ≤ k) × (k < part.to) × (slice_get waits.places.items k ≡ Some place)

  event_changed : (p : ℕ) → (are_over waits marked p ≡ are_over waits seen p) ⊎ Waited p
  event_changed p = go (slice_get waits.parts.items p) refl
    where
      go : (o : Option Part) → slice_get waits.parts.items p ≡ o → (option_map_or (part_over waits marked) o false ≡ option_map_or (part_over waits seen) o false) ⊎ Waited p
      go None e = inl refl
      go (Some part) e = elim (same_or (is_over waits marked) (is_over waits seen) (λ k. slice_get waits.places.items k ≡ Some place) part.from (part.to - part.from) (λ k lo hi. wait_changed k)) [
        | inl same ↦ inl same
        | inr x ↦ (let lo = x.1 in let hi = x.2 in inr (part, x.0, e, lo, omega (arith, lo, hi), x.3))
      ]

  pub lane_changed : (lane : Lane) → (ready_in waits marked lane ≡ ready_in waits seen lane) ⊎ ((p : ℕ) × (slice_get lane.places.items lane.given ≡ Some p) × Waited p)
  unfolding ready_in
  lane_changed lane = go (slice_get lane.places.items lane.given) refl
    where
      go : (o : Option ℕ) → slice_get lane.places.items lane.given ≡ o → (keep_if (are_over waits marked) o ≡ keep_if (are_over waits seen) o) ⊎ ((p : ℕ) × (slice_get lane.places.items lane.given ≡ Some p) × Waited p)
      go None e = inl refl
      go (Some p) e = elim (event_changed p) [ inl same ↦ inl (rw same refl) | inr w ↦ inr (p, e, w) ]

-- behind a turn each lane has its next place, where that is ready, but for those that are linked to the place that was given
pub turn_asked : (es : List Event) (placed : List ℕ) (waits : Waits) (links : Links) (lanes : List Lane) (seen : List Bool) (ranks new : List (Option ℕ)) (t place : ℕ) (lane next : Lane)
    → AreLanes es placed lanes → AreThreadsRising (threads_in lanes) → HaveLinks es (threads_in lanes) waits links → ranks ≡ map (ready_in waits seen) lanes
    → slice_get lanes t ≡ Some lane → slice_get lane.places.items lane.given ≡ Some place → new ≡ slice_set ranks t (ready_in waits (slice_set seen place true) next)
    → AreAskedBut waits (slice_set seen place true) (slice_set lanes t next) new links.items.items place (length links.items.items)
turn_asked es placed waits links lanes seen ranks new t place lane next are rising have right at given set =
    subst (λ r. AreAskedBut waits marks others r links.items.items place (length links.items.items)) (sym set) (counts, each)
  where
    marks : List Bool
    marks = slice_set seen place true

    others : List Lane
    others = slice_set lanes t next

    long : length ranks ≡ length lanes
    long = ap length right ∙ map_length (ready_in waits seen) lanes

    counts : length (slice_set ranks t (ready_in waits marks next)) ≡ length others
    counts = set_length ranks t (ready_in waits marks next) ∙ (long ∙ sym (set_length lanes t next))

    inside : t < length ranks
    inside = let w = slice_get_within lanes t lane at in omega (arith, w, long)

    own : thread_at es place ≡ lane.thread
    own = (in_lane es lane.thread lane.given place (sym (ap (λ xs. slice_get xs lane.given) (are t lane at).items_are) ∙ given)).1

    each : (u : ℕ) (other : Lane) → slice_get others u ≡ Some other → (slice_get (slice_set ranks t (ready_in waits marks next)) u ≡ Some (ready_in waits marks other))
        ⊎ ((k : ℕ) × (link : Link) × (k < length links.items.items) × (slice_get links.items.items k ≡ Some link) × (link.place ≡ place) × (link.lane ≡ u))
    each u other is = elim (changed lanes t next u other is) [
      | inl y ↦ inl (subst (λ k. slice_get (slice_set ranks t (ready_in waits marks next)) k ≡ Some (ready_in waits marks other)) (sym y.0)
          (set_there ranks t (ready_in waits marks next) inside ∙ ap (λ l. Some (ready_in waits marks l)) (sym y.1)))
      | inr n ↦ elim (lane_changed waits seen place other) [
        | inl same ↦ inl (set_other ranks t u (ready_in waits marks next) (λ e. n.0 (sym e))
            ∙ (ap (λ xs. slice_get xs u) right ∙ (map_at (ready_in waits seen) lanes u other n.1 ∙ ap Some (sym same))))
        | inr x ↦ (let p = x.0 in let w = x.2 in
            let mine = in_lane es other.thread other.given p (sym (ap (λ xs. slice_get xs other.given) (are u other n.1).items_are) ∙ x.1) in
            elim (have.each p w.0 w.1 place mine.0 w.2 w.3 w.4 w.5) [
              | inl here ↦ absurd (n.0 (one_place (threads_in lanes) u t lane.thread rising
                  (thread_at_lane lanes u other n.1 ∙ ap Some (sym mine.1 ∙ (sym here ∙ own))) (thread_at_lane lanes t lane at)))
              | inr l ↦ inr (
                l.0,
                l.1,
                slice_get_within links.items.items l.0 l.1 l.2,
                l.2,
                l.3,
                one_place (threads_in lanes) l.1.lane u (thread_at es p) rising l.4 (thread_at_lane lanes u other n.1 ∙ ap Some (sym mine.1)),
              )
            ])
      ]
    ]

-- ---- the picked one

pub picked_choice : (waits : Waits) (seen : List Bool) (lanes : List Lane) (ranks : List (Option ℕ)) (left : ℕ) (found : ℕ × ℕ × ℕ) → ranks ≡ map (ready_in waits seen) lanes → IsPicked ranks left found
    → IsChoice waits seen lanes left found
picked_choice waits seen lanes ranks left found right picked =
    let same : filter_map (λ given. given) ranks ≡ filter_map (ready_in waits seen) lanes = ap (filter_map (λ given. given)) right ∙ found_map (ready_in waits seen) lanes in
    let one = from_map (ready_in waits seen) lanes found.0 (Some found.1) (sym (ap (λ xs. slice_get xs found.0) right) ∙ picked.0) in (
      one.0,
      one.1,
      one.2,
      subst (λ xs. slice_get xs (left % length xs) ≡ Some found.1) same picked.1,
      picked.2 ∙ ap (λ xs. left / length xs) same,
    )

pub count_ranks : (waits : Waits) (seen : List Bool) (lanes : List Lane) (ranks : List (Option ℕ)) → ranks ≡ map (ready_in waits seen) lanes
    → length (filter_map (λ given. given) ranks) ≡ length (filter_map (ready_in waits seen) lanes)
count_ranks waits seen lanes ranks right = ap length (ap (filter_map (λ given. given)) right ∙ found_map (ready_in waits seen) lanes)

-- what the picked one is, of the lanes
pub choice_of : (waits : Waits) (seen : List Bool) (lanes : List Lane) (ranks : List (Option ℕ)) (left : ℕ) (o : Option (ℕ × ℕ × ℕ)) (found : ℕ × ℕ × ℕ) → ranks ≡ map (ready_in waits seen) lanes
    → IfSome o (IsPicked ranks left) → o ≡ Some found → IsChoice waits seen lanes left found
choice_of waits seen lanes ranks left o found right some is = picked_choice waits seen lanes ranks left found right (subst (λ q. IfSome q (IsPicked ranks left)) is some)
