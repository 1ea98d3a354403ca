-- Lists of events for tests, whose calls are accesses. The event at a place stands on the line of that number and one.
use Rattle.std.specs.Prelude.{◌≡◌, ℕ, ◌≤◌, Bool, List, [], ◌∷◌, length, Some, IfSome, slice_get}
use Rattle.rd_event.specs.declared.events.Event.{Event}
use Rattle.rd_hb.specs.Tracker.{IsNextEvent, Tracking, TrackerStandsFor}
use Rattle.rd_order.specs.EventLists.{WellFormed}
use Rattle.rd_order.specs.Order.{call_in}
use Rattle.rd_order.specs.TestLists.{NextNumbers}
use Rattle.rd_base.specs.declared.values.Value.TheVariants.{Nil}
use Rattle.rd_epoch.specs.Accesses.{call_of_access}
use Rattle.rd_epoch.specs.Epochs.{EpochsStandFor, HeldAccesses}

-- it is no call, or an access
abbrev pub IsAccessOrOther : Event → Type 0
IsAccessOrOther e = IfSome (call_in e) (λ call. (write : Bool) × (call ≡ call_of_access call.thread call.object write (Nil ∷ [])))

-- each of them is
abbrev pub AreAccessesOrOthers : List Event → Type 0
AreAccessesOrOthers [] = Unit {0}
AreAccessesOrOthers (e ∷ es) = IsAccessOrOther e × AreAccessesOrOthers es

-- a tracker that has seen the roots alone may take all these events
pub record MayRun (tracking : Tracking) (roots : ℕ → Bool) (es : List Event) : Type 0 where
  pub stands : TrackerStandsFor tracking roots []
  pub formed : WellFormed roots es
  pub numbered : NextNumbers (length tracking.threads) es
  pub accesses : AreAccessesOrOthers es

-- the tracker stands for these events, and so does what is held of variables
pub record HasRun (tracking : Tracking) (held : List HeldAccesses) (roots : ℕ → Bool) (es : List Event) : Type 0 where
  pub tracked : TrackerStandsFor tracking roots es
  pub lines : List ℕ
  pub below : (k line : ℕ) → slice_get lines k ≡ Some line → line ≤ length es
  pub stands : EpochsStandFor held roots lines es

-- the event is the next one, at this place
pub record IsNextRow (tracking : Tracking) (held : List HeldAccesses) (roots : ℕ → Bool) (es : List Event) (place : ℕ) (e : Event) : Type 0 where
  pub run : HasRun tracking held roots es
  pub next : IsNextEvent tracking roots es e
  pub at_end : place ≡ length es
  pub access : IsAccessOrOther e
