use Rattle.std.proofs.Common.{◌<◌, [], ◌∷◌, ◌++◌, length, sym, subst, arith}
use Rattle.rd_event.specs.declared.events.Event.TheVariants as event
use Rattle.rd_hb.specs.Tracker.{IsStamp, last_stamp}
use Rattle.rd_hb.specs.TrackerParts.{IsCounted}
use Rattle.rd_hb.proofs.TrackerLemmas.{call_taken, next_below, next_inside, stamp_taken, stands_taken}
use Rattle.rd_hb.proofs.tracker.Tracker.pass_call.Goals as goal

pub tick-requires-clause-known : goal.tick-requires-clause-known
tick-requires-clause-known g c =
    let (roots, es, call, same, next) = c.requires.next in
    subst (λ t. t < length c.args.self.now.threads) same (next_inside c.args.self.now roots es (event.Call call) next)

pub tick-requires-clause-below : goal.tick-requires-clause-below
tick-requires-clause-below g c =
    let (roots, es, call, same, next) = c.requires.next in
    next_below c.args.self.now roots es (event.Call call) c.args.thread c.args.thread next

pub returns-clause-stamp : goal.returns-clause-stamp
returns-clause-stamp g c = λ roots es call same next.
    let old = c.args.self.now in
    let new = c.tick.new.self in
    subst (λ t. IsStamp (es ++ event.Call call ∷ []) (length es) (last_stamp new.threads t)) same
    (stamp_taken old new (event.Call call)
    (call_taken old new call (subst (λ t. IsCounted t old.threads new.threads (last_stamp new.threads t)) (sym same) c.tick.ensures.counted) c.tick.ensures.locks) roots es next)

pub returns-clause-stands : goal.returns-clause-stands
returns-clause-stands g c = λ roots es call same next.
    let old = c.args.self.now in
    let new = c.tick.new.self in
    stands_taken old new (event.Call call)
    (call_taken old new call (subst (λ t. IsCounted t old.threads new.threads (last_stamp new.threads t)) (sym same) c.tick.ensures.counted) c.tick.ensures.locks) roots es next

pub returns-clause-cost : goal.returns-clause-cost
returns-clause-cost g c =
    let (roots, es, call, same, next) = c.requires.next in
    let inside = next_inside c.args.self.now roots es (event.Call call) next in
    omega (arith, c.tick.ensures.cost, inside)
