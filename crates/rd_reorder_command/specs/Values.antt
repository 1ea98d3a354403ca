-- Events without the values of calls, on which no order of events hangs.
use Rattle.std.specs.Prelude.{[]}
use Rattle.rd_event.specs.declared.events.Event.{Event}
use Rattle.rd_event.specs.declared.events.Event.TheVariants.{Fork, Join, Acquire, Release, Share, Unshare, Call}

abbrev pub without_values : Event → Event
without_values (Fork thread child) = Fork thread child
without_values (Join thread child) = Join thread child
without_values (Acquire thread lock) = Acquire thread lock
without_values (Release thread lock) = Release thread lock
without_values (Share thread lock) = Share thread lock
without_values (Unshare thread lock) = Unshare thread lock
without_values (Call call) = Call (record { thread = call.thread; object = call.object; kind = call.kind; method = call.method; slots = [] })
