-- Events by numbers, within range: this project's profile.
use Rattle.std.specs.Prelude.{◌<◌, ◌^◌}
use Rattle.rd_event.specs.declared.events.Call.{Call}
use Rattle.rd_event.specs.declared.events.Event.{Event}
use Rattle.rd_event.specs.declared.events.Event.TheVariants.{Fork, Join, Acquire, Release, Share, Unshare, Call as Calls}
use Rattle.rd_event.specs.Items.{AreSlots}

-- a call whose numbers of thread, object and kind have 32 bits, whose method has 8, and whose slots are slots
pub record CallInRange (call : Call) : Type 0 where
  pub thread : call.thread < 2 ^ 32
  pub object : call.object < 2 ^ 32
  pub kind : call.kind < 2 ^ 32
  pub method : call.method < 2 ^ 8
  pub slots : AreSlots call.slots

-- an event whose threads and lock have 32 bits, or such a call
abbrev pub EventInRange : Event → Type 0
EventInRange (Fork thread child) = (thread < 2 ^ 32) × (child < 2 ^ 32)
EventInRange (Join thread child) = (thread < 2 ^ 32) × (child < 2 ^ 32)
EventInRange (Acquire thread lock) = (thread < 2 ^ 32) × (lock < 2 ^ 32)
EventInRange (Release thread lock) = (thread < 2 ^ 32) × (lock < 2 ^ 32)
EventInRange (Share thread lock) = (thread < 2 ^ 32) × (lock < 2 ^ 32)
EventInRange (Unshare thread lock) = (thread < 2 ^ 32) × (lock < 2 ^ 32)
EventInRange (Calls call) = CallInRange call
