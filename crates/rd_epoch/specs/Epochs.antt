-- What is held of the accesses to variables (after FastTrack, Flanagan and Freund, PLDI 2009). That the latest earlier access is named, and the
-- first race of each variable alone, are this project's profile.
use Rattle.std.specs.Prelude.{◌≡◌, ◌≢◌, ◌⊎◌, ℕ, ◌<◌, ◌≤◌, Bool, true, false, AllPairs, List, [], ◌∷◌, ◌++◌, Contains, length, Option, Some, None, slice_get, slice_index_or}
use Rattle.rd_base.specs.declared.values.Value.{Value}
use Rattle.rd_clock.specs.declared.clock.Stamp.{Stamp}
use Rattle.rd_ecl.specs.Kinds.{kinds_of}
use Rattle.rd_event.specs.declared.events.Event.{Event}
use Rattle.rd_event.specs.declared.events.Event.TheVariants.{Call}
use Rattle.rd_hb.specs.EventClocks.{OwnNumber}
use Rattle.rd_hb.specs.Tracker.{IsStamp}
use Rattle.rd_order.specs.EventLists.{WellFormedWith}
use Rattle.rd_order.specs.Order.{IsOf, Reaches}
use Rattle.rd_races.specs.Commuting.{Commute}
use Rattle.rd_races.specs.Races.{IsLatest}
use Rattle.rd_epoch.specs.Accesses.{IsAccess, IsFirstRace, IsReported, call_of_access, variable_kinds}
use Rattle.rd_epoch.specs.declared.epochs.Access.{Access}
use Rattle.rd_epoch.specs.declared.epochs.First.{First}
use Rattle.rd_epoch.specs.declared.kept.Epoch.{Epoch}

-- ---- the state

-- what is held of a variable: its first race has come; or its last write, where it has one, and its open reads
pub record HeldAccesses : Type 0 where
  pub raced : Bool
  pub write : Option Epoch
  pub reads : List Epoch

-- the access that is kept, if there is one, as a list
abbrev pub reads_of_one : Option Epoch → List Epoch
reads_of_one None = []
reads_of_one (Some epoch) = epoch ∷ []

-- a variable without an access
abbrev pub no_access : HeldAccesses
no_access = record { raced = false; write = None; reads = [] }

abbrev pub held_at : List HeldAccesses → ℕ → HeldAccesses
held_at held variable = slice_index_or held variable no_access

-- ---- what it stands for

-- it is what is kept of the access at a place: its line, its thread and its own number there
pub record IsEpoch (lines : List ℕ) (es : List Event) (place : ℕ) (epoch : Epoch) : Type 0 where
  pub line : slice_get lines place ≡ Some epoch.line
  pub thread : IsOf es epoch.thread place
  pub number : OwnNumber es epoch.thread place epoch.number

-- a read that reaches no later access to its variable
pub record IsOpen (es : List Event) (variable place : ℕ) : Type 0 where
  pub read : IsAccess es variable false place
  pub none : (w : Bool) (k : ℕ) → IsAccess es variable w k → ¬ (Reaches es place k)

-- there is no write, or this is one that each other one reaches
abbrev pub IsLastWrite : List ℕ → List Event → ℕ → Option Epoch → Type 0
IsLastWrite lines es variable None = (k : ℕ) → ¬ (IsAccess es variable true k)
IsLastWrite lines es variable (Some epoch) =
    (place : ℕ) × IsAccess es variable true place × IsEpoch lines es place epoch
    × ((k : ℕ) → IsAccess es variable true k → k ≢ place → Reaches es k place)

-- the access at this place is kept among these
abbrev pub IsKeptRead : List ℕ → List Event → List Epoch → ℕ → Type 0
IsKeptRead lines es epochs place = (epoch : Epoch) × Contains epochs epoch × IsEpoch lines es place epoch

-- it reaches a later access to the variable
abbrev pub IsPassedRead : List Event → ℕ → ℕ → Type 0
IsPassedRead es variable place = (w : Bool) × (k : ℕ) × IsAccess es variable w k × Reaches es place k

-- these are the open reads, of each thread one at most; each other read is passed
pub record AreOpen (lines : List ℕ) (es : List Event) (variable : ℕ) (reads : List Epoch) : Type 0 where
  pub only : (epoch : Epoch) → Contains reads epoch → (place : ℕ) × IsOpen es variable place × IsEpoch lines es place epoch
  pub all : (place : ℕ) → IsAccess es variable false place → IsKeptRead lines es reads place ⊎ IsPassedRead es variable place
  pub one_each : AllPairs (λ a b. a.thread ≢ b.thread) reads

-- no access to it is reported, and these are its last write and its open reads
pub record IsQuiet (lines : List ℕ) (es : List Event) (variable : ℕ) (held : HeldAccesses) : Type 0 where
  pub quiet : (w : Bool) (k : ℕ) → IsAccess es variable w k → ¬ (IsReported es k)
  pub write : IsLastWrite lines es variable held.write
  pub reads : AreOpen lines es variable held.reads

-- an access to it is reported
abbrev pub HasRaced : List Event → ℕ → Type 0
HasRaced es variable = (w : Bool) × (k : ℕ) × IsAccess es variable w k × IsReported es k

abbrev pub HoldsOf : List ℕ → List Event → ℕ → HeldAccesses → Bool → Type 0
HoldsOf lines es variable held true = HasRaced es variable
HoldsOf lines es variable held false = IsQuiet lines es variable held

-- each number is below those behind it
abbrev pub LinesRise : List ℕ → Type 0
LinesRise lines = (i j a b : ℕ) → i < j → slice_get lines i ≡ Some a → slice_get lines j ≡ Some b → a < b

-- The events are a well-formed list of accesses and of what threads do besides, and each has the number of its line. The variables that were
-- accessed are those below a number, and of each is held what its accesses say.
pub record EpochsStandFor (held : List HeldAccesses) (roots : ℕ → Bool) (lines : List ℕ) (es : List Event) : Type 0 where
  pub formed : WellFormedWith (kinds_of variable_kinds) roots es
  pub lengths : length lines ≡ length es
  pub rising : LinesRise lines
  pub numbered : (variable : ℕ) (w : Bool) (k : ℕ) → IsAccess es variable w k → variable < length held
  pub each : (variable : ℕ) → variable < length held → HoldsOf lines es variable (held_at held variable) (held_at held variable).raced

-- ---- an access

-- the event that it is, with what is recorded of it
abbrev pub event_of_access : Access → Stamp → List Value → Event
event_of_access access stamp slots = Call (call_of_access stamp.thread access.variable access.write slots)

-- The access is the next event, at this place and with this stamp. Its line comes behind those before it, and a variable that is accessed for the first
-- time has the next number.
pub record IsNextAccess (held : List HeldAccesses) (roots : ℕ → Bool) (lines : List ℕ) (es : List Event) (access : Access) (stamp : Stamp) (slots : List Value) : Type 0 where
  pub stands : EpochsStandFor held roots lines es
  pub at_end : access.place ≡ length es
  pub formed : WellFormedWith (kinds_of variable_kinds) roots (es ++ event_of_access access stamp slots ∷ [])
  pub stamped : IsStamp (es ++ event_of_access access stamp slots ∷ []) (length es) stamp
  pub line : (k line : ℕ) → slice_get lines k ≡ Some line → line < access.line
  pub numbered : access.variable ≤ length held

-- the answer for the access at a place: nothing where it isn't the first race of its variable, else its line and that of the latest access that races with it
abbrev pub IsFirstTold : List ℕ → List Event → ℕ → ℕ → Option First → Type 0
IsFirstTold lines es j variable None = ¬ (IsFirstRace es variable j)
IsFirstTold lines es j variable (Some first) =
    IsFirstRace es variable j × (slice_get lines j ≡ Some first.later)
    × ((i : ℕ) × IsLatest (Commute variable_kinds) es j i × (slice_get lines i ≡ Some first.earlier))
