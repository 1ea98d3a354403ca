-- Which lanes wait for each place, and what each lane has.
use Rattle.std.specs.Prelude.{◌≡◌, ◌⊎◌, ◌<◌, ◌≤◌, ◌/◌, ◌%◌, ℕ, suc, Bool, List, Option, Some, length, slice_get, slice_index_or, filter_map}
use Rattle.rd_event.specs.declared.events.Event.{Event}
use Rattle.rd_linear.specs.declared.lanes.Lane.{Lane}
use Rattle.rd_linear.specs.declared.links.Link.{Link}
use Rattle.rd_linear.specs.declared.links.Links.{Links}
use Rattle.rd_linear.specs.declared.waits.Part.{Part}
use Rattle.rd_linear.specs.declared.waits.Waits.{Waits}
use Rattle.rd_linear.specs.Lanes.{ready_in, thread_at}

-- ---- links

-- A number that is one more than that of a link, or 0: the last of those to a place, and before each of these the next one.
pub record AreChained (links : Links) : Type 0 where
  pub last_is : (k : ℕ) (link : Link) → slice_get links.items.items k ≡ Some link → k < slice_index_or links.last.items link.place 0
  pub last_to : (q k : ℕ) → slice_index_or links.last.items q 0 ≡ suc k → (link : Link) × (slice_get links.items.items k ≡ Some link) × (link.place ≡ q)
  pub before_is : (k j : ℕ) (link other : Link) → slice_get links.items.items k ≡ Some link → slice_get links.items.items j ≡ Some other → other.place ≡ link.place → j < k → j < link.before
  pub before_to : (k j : ℕ) (link : Link) → slice_get links.items.items k ≡ Some link → link.before ≡ suc j
      → (j < k) × ((other : Link) × (slice_get links.items.items j ≡ Some other) × (other.place ≡ link.place))

-- each link is from the lane of one of these threads
abbrev pub HaveLanes : List ℕ → List Link → Type 0
HaveLanes threads items = (k : ℕ) (link : Link) → slice_get items k ≡ Some link → link.lane < length threads

-- the links that there were stay
abbrev pub LinksStay : List Link → List Link → Type 0
LinksStay old new = (k : ℕ) (link : Link) → slice_get old k ≡ Some link → slice_get new k ≡ Some link

-- one of the links goes from the thread's lane to the place
abbrev pub IsLinked : List Link → List ℕ → ℕ → ℕ → Type 0
IsLinked items threads thread place = (k : ℕ) × (link : Link) × (slice_get items k ≡ Some link) × (link.place ≡ place) × (slice_get threads link.lane ≡ Some thread)

-- the place is the thread's own, or its lane is linked to it
abbrev pub IsOwnOrLinked : List Event → List Link → List ℕ → ℕ → ℕ → Type 0
IsOwnOrLinked es items threads thread place = (thread_at es place ≡ thread) ⊎ IsLinked items threads thread place

-- the lanes of the first events are linked to each place of another lane for which one of these waits
pub record HaveLinksBelow (es : List Event) (threads : List ℕ) (waits : Waits) (count : ℕ) (links : Links) : Type 0 where
  pub chained : AreChained links
  pub places_are : length links.last.items ≡ length es
  pub lanes_are : HaveLanes threads links.items.items
  pub each : (p : ℕ) (part : Part) (at w : ℕ) → p < count → slice_get waits.parts.items p ≡ Some part → part.from ≤ at → at < part.to → slice_get waits.places.items at ≡ Some w
      → IsOwnOrLinked es links.items.items threads (thread_at es p) w

-- those of all events are
abbrev pub HaveLinks : List Event → List ℕ → Waits → Links → Type 0
HaveLinks es threads waits links = HaveLinksBelow es threads waits (length es) links

-- ---- what lanes have

-- each lane has its next place, where that is ready, but for lanes that are linked to this place by one of the first links
abbrev pub AreAskedBut : Waits → List Bool → List Lane → List (Option ℕ) → List Link → ℕ → ℕ → Type 0
AreAskedBut waits seen lanes ranks items place count = (length ranks ≡ length lanes)
    × ((i : ℕ) (lane : Lane) → slice_get lanes i ≡ Some lane → (slice_get ranks i ≡ Some (ready_in waits seen lane))
    ⊎ ((k : ℕ) × (link : Link) × (k < count) × (slice_get items k ≡ Some link) × (link.place ≡ place) × (link.lane ≡ i)))

-- of those that have a place the one that a number picks, what it has, and the number for the next turn
abbrev pub IsPicked : List (Option ℕ) → ℕ → ℕ × ℕ × ℕ → Type 0
IsPicked ranks left found = (slice_get ranks found.0 ≡ Some (Some found.1))
    × (slice_get (filter_map (λ given. given) ranks) (left % length (filter_map (λ given. given) ranks)) ≡ Some found.1)
    × (found.2 ≡ left / length (filter_map (λ given. given) ranks))
