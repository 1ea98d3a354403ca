-- The events of accepted lines by numbers, and what lines and events say of one another: this project's profile.
use Rattle.std.specs.Prelude.{◌≡◌, ◌↔◌, ℕ, ◌<◌, ◌≤◌, ◌^◌, nat_lt, Bool, List, [], ◌∷◌, ◌++◌, length, Option, Some, None, IfSome, All, Contains, count_by, slice_get}
use Rattle.std.specs.List.{cons_option}
use Rattle.rd_base.specs.Limits.{AreUsable}
use Rattle.rd_base.specs.declared.limits.Limits.{Limits}
use Rattle.rd_event.specs.declared.items.Line.{Line}
use Rattle.rd_event.specs.declared.items.Line.TheVariants.{Event}
use Rattle.rd_event.specs.Events.{EventInRange}
use Rattle.rd_event.specs.declared.events.Event.{Event as Numbered}
use Rattle.rd_order.specs.EventLists.{IsCallOf, IsKnownThread, WellFormed, calls, givings, joins, takings}
use Rattle.rd_order.specs.Order.{call_in, exclusive, Hold, shared}
use Rattle.rd_ecl.specs.Kinds.{Kind}
use Rattle.rd_rules.specs.declared.causes.Accepted.{Accepted}
use Rattle.rd_rules.specs.declared.causes.Accepted.TheVariants as accepted
use Rattle.rd_rules.specs.MayFollow.{MayFollow, acquires, events, is_root, joined_of, locks_of, numbered_event, object_kinds, place, releases, shares, threads_of, unshares}

-- ---- roots and events

-- how many threads no event begins
abbrev pub root_count : List Line → ℕ
root_count lines = count_by is_root lines

-- whether no event begins the thread. The lines of such threads come before every event, so they have the first numbers
abbrev pub roots_of : List Line → ℕ → Bool
roots_of lines t = nat_lt t (root_count lines)

-- the event of a line behind others, by numbers
abbrev pub event_of : List Kind → List Line → Line → Option Numbered
event_of kinds before (Event event) = Some (numbered_event kinds before event)
event_of kinds before _ = None

-- the events of lines behind others, in their order
abbrev pub events_from : List Kind → List Line → List Line → List Numbered
events_from kinds before [] = []
events_from kinds before (line ∷ lines) = cons_option (event_of kinds before line) (events_from kinds (before ++ line ∷ []) lines)

-- the events of lines, in their order
abbrev pub events_of : List Kind → List Line → List Numbered
events_of kinds lines = events_from kinds [] lines

-- ---- accepted lines

-- what an accepted line is in numbers is within range: its threads, objects and kinds have 32 bits, and its event is in range
abbrev pub AcceptedInRange : Accepted → Type 0
AcceptedInRange accepted.Nothing = Unit {0}
AcceptedInRange (accepted.Root thread) = thread < 2 ^ 32
AcceptedInRange (accepted.Object object kind) = (object < 2 ^ 32) × (kind < 2 ^ 32)
AcceptedInRange (accepted.Event event) = EventInRange event

-- the line may follow those in front of it, within some usable limits of 32 bits
pub record IsAccepted (kinds : List Kind) (before : List Line) (line : Line) : Type 0 where
  pub limits : Limits
  pub usable : AreUsable limits
  pub range : limits.threads < 2 ^ 32
  pub follows : MayFollow kinds limits before line

-- behind other lines, each is accepted after those in front of it
abbrev pub AreAcceptedFrom : List Kind → List Line → List Line → Type 0
AreAcceptedFrom kinds before [] = Unit {0}
AreAcceptedFrom kinds before (line ∷ lines) = IsAccepted kinds before line × AreAcceptedFrom kinds (before ++ line ∷ []) lines

-- each line is accepted after those in front of it
abbrev pub AreAccepted : List Kind → List Line → Type 0
AreAccepted kinds lines = AreAcceptedFrom kinds [] lines

-- ---- what the two say of one another

-- the events are a well-formed list for these roots, and there are so many of them; the known threads are those with a
-- name, by its place; the joined ones are those whose name was joined; and the calls on an object are of its kind
pub record IsTold (roots : ℕ → Bool) (es : List Numbered) (count : ℕ) (threads joined : List (List ℕ)) (objects : List ℕ) : Type 0 where
  pub formed : WellFormed roots es
  pub counted : length es ≡ count
  pub known : (t : ℕ) → IsKnownThread roots es t ↔ (t < length threads)
  pub ended : (t : ℕ) → (0 < joins es t) ↔ ((name : List ℕ) × (slice_get threads t ≡ Some name) × Contains joined name)
  -- each joined thread has a name, each name has one place, and the places fit 32 bits, with one to spare
  pub begun : (name : List ℕ) → Contains joined name → Contains threads name
  pub places : (t : ℕ) (name : List ℕ) → slice_get threads t ≡ Some name → place threads name ≡ t
  pub few : length threads ≤ 4294967295
  -- the kind of a call's object is that of the call
  pub one_kind : (object kind : ℕ) → 0 < calls es object kind → slice_get objects object ≡ Some kind

-- the counts by numbers are those by names, at their places; and where a thread or lock has no name, or no number, they are 0
pub record Tally (count : ℕ → ℕ → ℕ) (threads locks : List (List ℕ)) (says : List ℕ → List ℕ → ℕ) : Type 0 where
  pub named : (t l : ℕ) (thread lock : List ℕ) → slice_get threads t ≡ Some thread → slice_get locks l ≡ Some lock → count t l ≡ says thread lock
  pub no_thread : (t l : ℕ) → length threads ≤ t → count t l ≡ 0
  pub no_lock : (t l : ℕ) → length locks ≤ l → count t l ≡ 0
  pub new_thread : (thread lock : List ℕ) → ¬ (Contains threads thread) → says thread lock ≡ 0
  pub new_lock : (thread lock : List ℕ) → ¬ (Contains locks lock) → says thread lock ≡ 0

-- each thread takes and gives back each hold of this sort as often as its lines say
pub record AreHeld (hold : ℕ → Hold) (es : List Numbered) (threads locks : List (List ℕ)) (took gave : List ℕ → List ℕ → ℕ) : Type 0 where
  pub taken : Tally (λ t l. takings es t (hold l)) threads locks took
  pub given : Tally (λ t l. givings es t (hold l)) threads locks gave

-- so it is with the locks that threads have for themselves and with their shares, and each lock's name has one place
pub record AreUsed (es : List Numbered) (threads locks : List (List ℕ)) (took gave sharing unsharing : List ℕ → List ℕ → ℕ) : Type 0 where
  pub alone : AreHeld exclusive es threads locks took gave
  pub shares : AreHeld shared es threads locks sharing unsharing
  pub places : (l : ℕ) (lock : List ℕ) → slice_get locks l ≡ Some lock → place locks lock ≡ l

-- so it is with the events of these lines; and the objects and the calls are of the kinds
pub record AreTold (kinds : List Kind) (lines : List Line) : Type 0 where
  pub told : IsTold (roots_of lines) (events_of kinds lines) (events lines) (threads_of lines) (joined_of lines) (object_kinds kinds lines)
  pub used : AreUsed (events_of kinds lines) (threads_of lines) (locks_of lines) (acquires lines) (releases lines) (shares lines) (unshares lines)
  pub declared : All (λ kind. kind < length kinds) (object_kinds kinds lines)
  pub fit : All (λ e. IfSome (call_in e) (IsCallOf kinds)) (events_of kinds lines)
