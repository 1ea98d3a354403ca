use Rattle.std.proofs.Common.{◌≢◌, ◌<◌, ◌≤◌, ◌+◌, ℕ, Bool, List, [], ◌∷◌, ◌++◌, length, OnOk, sym, ap, subst, arith}
use Rattle.std.proofs.lemmas.Grind.{common_steps}
use Rattle.rd_event.specs.declared.events.Event.{Event as EventOf}
use Rattle.rd_event.specs.declared.events.Event.TheVariants as event
use Rattle.rd_order.specs.Order.{exclusive, thread_of, forked_thread, joined_thread}
use Rattle.rd_order.specs.EventLists.{threads_after}
use Rattle.rd_hb.specs.Tracker.{IsNextEvent, IsStamp, TrackerStandsFor, event_bound, last_stamp}
use Rattle.rd_hb.proofs.TrackerLemmas.{both_most, call_taken, child_most, child_no_news, lock_most, lock_news, lock_no_news, next_apart, next_below, next_child, next_inside, next_joined, next_two, ok_acquire, ok_fork, ok_join, ok_release, ok_share, ok_unshare, ok_stamp, ok_stands, stamp_taken, stands_taken}
use Rattle.rd_hb.proofs.tracker.Tracker.pass.Goals as goal

pub fork-requires-clause-known : goal.fork-requires-clause-known
fork-requires-clause-known g c =
    subst (λ e. thread_of e < length c.args.self.now.threads) c.in-Fork.is (next_inside c.args.self.now c.requires.next.0 c.requires.next.1 c.args.event.now c.requires.next.2)

pub fork-requires-clause-below : goal.fork-requires-clause-below
fork-requires-clause-below g c =
    next_below c.args.self.now c.requires.next.0 c.requires.next.1 c.args.event.now c.in-Fork.thread c.in-Fork.thread c.requires.next.2

pub fork-requires-clause-range : goal.fork-requires-clause-range
fork-requires-clause-range g c =
    next_child c.args.self.now c.requires.next.0 c.requires.next.1 c.args.event.now c.in-Fork.child c.requires.next.2 (ap forked_thread c.in-Fork.is)

pub join-requires-clause-known : goal.join-requires-clause-known
join-requires-clause-known g c =
    subst (λ e. thread_of e < length c.args.self.now.threads) c.in-Join.is (next_inside c.args.self.now c.requires.next.0 c.requires.next.1 c.args.event.now c.requires.next.2)

pub join-requires-clause-below : goal.join-requires-clause-below
join-requires-clause-below g c =
    next_below c.args.self.now c.requires.next.0 c.requires.next.1 c.args.event.now c.in-Join.thread c.in-Join.thread c.requires.next.2

pub join-requires-clause-awaited : goal.join-requires-clause-awaited
join-requires-clause-awaited g c =
    next_joined c.args.self.now c.requires.next.0 c.requires.next.1 c.args.event.now c.in-Join.child c.requires.next.2 (ap joined_thread c.in-Join.is)

pub join-requires-clause-apart : goal.join-requires-clause-apart
join-requires-clause-apart g c =
    subst (λ e. c.in-Join.child ≢ thread_of e) c.in-Join.is
    (next_apart c.args.self.now c.requires.next.0 c.requires.next.1 c.args.event.now c.in-Join.child c.requires.next.2 (ap joined_thread c.in-Join.is))

pub join-requires-clause-own : goal.join-requires-clause-own
join-requires-clause-own g c =
    child_most c.args.self.now c.requires.next.0 c.requires.next.1 c.in-Join.child c.in-Join.thread c.requires.next.2.stands

pub join-requires-clause-heard : goal.join-requires-clause-heard
join-requires-clause-heard g c =
    child_no_news c.args.self.now c.requires.next.0 c.requires.next.1 c.args.event.now c.in-Join.thread c.in-Join.child c.requires.next.2

pub acquire-requires-clause-known : goal.acquire-requires-clause-known
acquire-requires-clause-known g c =
    subst (λ e. thread_of e < length c.args.self.now.threads) c.in-Acquire.is (next_inside c.args.self.now c.requires.next.0 c.requires.next.1 c.args.event.now c.requires.next.2)

pub acquire-requires-clause-below : goal.acquire-requires-clause-below
acquire-requires-clause-below g c =
    next_below c.args.self.now c.requires.next.0 c.requires.next.1 c.args.event.now c.in-Acquire.thread c.in-Acquire.thread c.requires.next.2

pub acquire-requires-clause-own : goal.acquire-requires-clause-own
acquire-requires-clause-own g c =
    both_most c.args.self.now c.requires.next.0 c.requires.next.1 c.in-Acquire.lock c.in-Acquire.thread c.requires.next.2.stands

pub acquire-requires-clause-heard : goal.acquire-requires-clause-heard
acquire-requires-clause-heard g c =
    lock_no_news c.args.self.now c.requires.next.0 c.requires.next.1 c.args.event.now c.in-Acquire.thread c.in-Acquire.lock c.requires.next.2

pub acquire-requires-clause-news : goal.acquire-requires-clause-news
acquire-requires-clause-news g c =
    lock_news c.args.self.now c.requires.next.0 c.requires.next.1 c.args.event.now c.in-Acquire.thread c.in-Acquire.lock c.requires.next.2
    (subst (λ e. thread_of e < length c.args.self.now.threads) c.in-Acquire.is (next_inside c.args.self.now c.requires.next.0 c.requires.next.1 c.args.event.now c.requires.next.2))

pub release-requires-clause-known : goal.release-requires-clause-known
release-requires-clause-known g c =
    subst (λ e. thread_of e < length c.args.self.now.threads) c.in-Release.is (next_inside c.args.self.now c.requires.next.0 c.requires.next.1 c.args.event.now c.requires.next.2)

pub release-requires-clause-below : goal.release-requires-clause-below
release-requires-clause-below g c =
    next_below c.args.self.now c.requires.next.0 c.requires.next.1 c.args.event.now c.in-Release.thread c.in-Release.thread c.requires.next.2

pub tick-requires-clause-known : goal.tick-requires-clause-known
tick-requires-clause-known g c =
    subst (λ e. thread_of e < length c.args.self.now.threads) c.in-Call.is (next_inside c.args.self.now c.requires.next.0 c.requires.next.1 c.args.event.now c.requires.next.2)

pub tick-requires-clause-below : goal.tick-requires-clause-below
tick-requires-clause-below g c =
    next_below c.args.self.now c.requires.next.0 c.requires.next.1 c.args.event.now c.in-Call.call.thread c.in-Call.call.thread c.requires.next.2

pub returns-in-Fork-clause-stamp : goal.returns-in-Fork-clause-stamp
returns-in-Fork-clause-stamp g c =
    subst (λ e. OnOk c.fork.result ((roots : ℕ → Bool) (es : List EventOf) → IsNextEvent c.args.self.now roots es e → IsStamp (es ++ e ∷ []) (length es) (last_stamp c.fork.new.self.threads (thread_of e))))
    (sym c.in-Fork.is)
    (ok_stamp c.args.self.now c.fork.new.self (event.Fork c.in-Fork.thread c.in-Fork.child) c.fork.result
    (ok_fork c.args.self.now c.fork.new.self c.in-Fork.thread c.in-Fork.child c.fork.result c.fork.ensures.ok c.fork.ensures.locks))

pub returns-in-Fork-clause-stands : goal.returns-in-Fork-clause-stands
returns-in-Fork-clause-stands g c =
    subst (λ e. OnOk c.fork.result ((roots : ℕ → Bool) (es : List EventOf) → IsNextEvent c.args.self.now roots es e → TrackerStandsFor c.fork.new.self roots (es ++ e ∷ [])))
    (sym c.in-Fork.is)
    (ok_stands c.args.self.now c.fork.new.self (event.Fork c.in-Fork.thread c.in-Fork.child) c.fork.result
    (ok_fork c.args.self.now c.fork.new.self c.in-Fork.thread c.in-Fork.child c.fork.result c.fork.ensures.ok c.fork.ensures.locks))

pub returns-in-Join-clause-stamp : goal.returns-in-Join-clause-stamp
returns-in-Join-clause-stamp g c =
    subst (λ e. OnOk c.join.result ((roots : ℕ → Bool) (es : List EventOf) → IsNextEvent c.args.self.now roots es e → IsStamp (es ++ e ∷ []) (length es) (last_stamp c.join.new.self.threads (thread_of e))))
    (sym c.in-Join.is)
    (ok_stamp c.args.self.now c.join.new.self (event.Join c.in-Join.thread c.in-Join.child) c.join.result
    (ok_join c.args.self.now c.join.new.self c.in-Join.thread c.in-Join.child c.join.result c.join.ensures.ok c.join.ensures.locks))

pub returns-in-Join-clause-stands : goal.returns-in-Join-clause-stands
returns-in-Join-clause-stands g c =
    subst (λ e. OnOk c.join.result ((roots : ℕ → Bool) (es : List EventOf) → IsNextEvent c.args.self.now roots es e → TrackerStandsFor c.join.new.self roots (es ++ e ∷ [])))
    (sym c.in-Join.is)
    (ok_stands c.args.self.now c.join.new.self (event.Join c.in-Join.thread c.in-Join.child) c.join.result
    (ok_join c.args.self.now c.join.new.self c.in-Join.thread c.in-Join.child c.join.result c.join.ensures.ok c.join.ensures.locks))

pub returns-in-Acquire-clause-stamp : goal.returns-in-Acquire-clause-stamp
returns-in-Acquire-clause-stamp g c =
    subst (λ e. OnOk c.acquire.result ((roots : ℕ → Bool) (es : List EventOf) → IsNextEvent c.args.self.now roots es e → IsStamp (es ++ e ∷ []) (length es) (last_stamp c.acquire.new.self.threads (thread_of e))))
    (sym c.in-Acquire.is)
    (ok_stamp c.args.self.now c.acquire.new.self (event.Acquire c.in-Acquire.thread c.in-Acquire.lock) c.acquire.result
    (ok_acquire c.args.self.now c.acquire.new.self c.in-Acquire.thread c.in-Acquire.lock c.acquire.result c.acquire.ensures.ok c.acquire.ensures.locks))

pub returns-in-Acquire-clause-stands : goal.returns-in-Acquire-clause-stands
returns-in-Acquire-clause-stands g c =
    subst (λ e. OnOk c.acquire.result ((roots : ℕ → Bool) (es : List EventOf) → IsNextEvent c.args.self.now roots es e → TrackerStandsFor c.acquire.new.self roots (es ++ e ∷ [])))
    (sym c.in-Acquire.is)
    (ok_stands c.args.self.now c.acquire.new.self (event.Acquire c.in-Acquire.thread c.in-Acquire.lock) c.acquire.result
    (ok_acquire c.args.self.now c.acquire.new.self c.in-Acquire.thread c.in-Acquire.lock c.acquire.result c.acquire.ensures.ok c.acquire.ensures.locks))

pub returns-in-Release-clause-stamp : goal.returns-in-Release-clause-stamp
returns-in-Release-clause-stamp g c =
    subst (λ e. OnOk c.release.result ((roots : ℕ → Bool) (es : List EventOf) → IsNextEvent c.args.self.now roots es e → IsStamp (es ++ e ∷ []) (length es) (last_stamp c.release.new.self.threads (thread_of e))))
    (sym c.in-Release.is)
    (ok_stamp c.args.self.now c.release.new.self (event.Release c.in-Release.thread c.in-Release.lock) c.release.result
    (ok_release c.args.self.now c.release.new.self c.in-Release.thread c.in-Release.lock c.release.result c.release.ensures.ok c.release.ensures.given c.release.ensures.unshares))

pub returns-in-Release-clause-stands : goal.returns-in-Release-clause-stands
returns-in-Release-clause-stands g c =
    subst (λ e. OnOk c.release.result ((roots : ℕ → Bool) (es : List EventOf) → IsNextEvent c.args.self.now roots es e → TrackerStandsFor c.release.new.self roots (es ++ e ∷ [])))
    (sym c.in-Release.is)
    (ok_stands c.args.self.now c.release.new.self (event.Release c.in-Release.thread c.in-Release.lock) c.release.result
    (ok_release c.args.self.now c.release.new.self c.in-Release.thread c.in-Release.lock c.release.result c.release.ensures.ok c.release.ensures.given c.release.ensures.unshares))

pub returns-in-Call-clause-stamp : goal.returns-in-Call-clause-stamp
returns-in-Call-clause-stamp g c =
    subst (λ e. (roots : ℕ → Bool) (es : List EventOf) → IsNextEvent c.args.self.now roots es e → IsStamp (es ++ e ∷ []) (length es) (last_stamp c.tick.new.self.threads (thread_of e)))
    (sym c.in-Call.is)
    (stamp_taken c.args.self.now c.tick.new.self (event.Call c.in-Call.call)
    (call_taken c.args.self.now c.tick.new.self c.in-Call.call c.tick.ensures.counted c.tick.ensures.locks))

pub returns-in-Call-clause-stands : goal.returns-in-Call-clause-stands
returns-in-Call-clause-stands g c =
    subst (λ e. (roots : ℕ → Bool) (es : List EventOf) → IsNextEvent c.args.self.now roots es e → TrackerStandsFor c.tick.new.self roots (es ++ e ∷ []))
    (sym c.in-Call.is)
    (stands_taken c.args.self.now c.tick.new.self (event.Call c.in-Call.call)
    (call_taken c.args.self.now c.tick.new.self c.in-Call.call c.tick.ensures.counted c.tick.ensures.locks))

pub returns-in-Join-clause-cost : goal.returns-in-Join-clause-cost
returns-in-Join-clause-cost g c =
    let two = next_two c.args.self.now c.requires.next.0 c.requires.next.1 c.args.event.now c.in-Join.child c.requires.next.2 (ap joined_thread c.in-Join.is) in
    subst (λ e. c.join.new.steps ≤ c.args.steps.now + event_bound e (threads_after e (length c.args.self.now.threads))) (sym c.in-Join.is)
    (omega (arith, c.join.ensures.cost, two))

pub returns-in-Release-clause-cost : goal.returns-in-Release-clause-cost
returns-in-Release-clause-cost g c =
    let inside = next_inside c.args.self.now c.requires.next.0 c.requires.next.1 c.args.event.now c.requires.next.2 in
    subst (λ e. c.release.new.steps ≤ c.args.steps.now + event_bound e (threads_after e (length c.args.self.now.threads))) (sym c.in-Release.is)
    (omega (arith, c.release.ensures.cost, inside))

pub returns-in-Call-clause-cost : goal.returns-in-Call-clause-cost
returns-in-Call-clause-cost g c =
    let inside = next_inside c.args.self.now c.requires.next.0 c.requires.next.1 c.args.event.now c.requires.next.2 in
    subst (λ e. c.tick.new.steps ≤ c.args.steps.now + event_bound e (threads_after e (length c.args.self.now.threads))) (sym c.in-Call.is)
    (omega (arith, c.tick.ensures.cost, inside))

pub share_lock-requires-clause-known : goal.share_lock-requires-clause-known
share_lock-requires-clause-known g c =
    subst (λ e. thread_of e < length c.args.self.now.threads) c.in-Share.is (next_inside c.args.self.now c.requires.next.0 c.requires.next.1 c.args.event.now c.requires.next.2)

pub share_lock-requires-clause-below : goal.share_lock-requires-clause-below
share_lock-requires-clause-below g c =
    next_below c.args.self.now c.requires.next.0 c.requires.next.1 c.args.event.now c.in-Share.thread c.in-Share.thread c.requires.next.2

pub share_lock-requires-clause-own : goal.share_lock-requires-clause-own
share_lock-requires-clause-own g c =
    lock_most c.args.self.now c.requires.next.0 c.requires.next.1 (exclusive c.in-Share.lock) c.in-Share.thread c.requires.next.2.stands

pub share_lock-requires-clause-heard : goal.share_lock-requires-clause-heard
share_lock-requires-clause-heard g c =
    lock_no_news c.args.self.now c.requires.next.0 c.requires.next.1 c.args.event.now c.in-Share.thread c.in-Share.lock c.requires.next.2

pub share_lock-requires-clause-news : goal.share_lock-requires-clause-news
share_lock-requires-clause-news g c =
    lock_news c.args.self.now c.requires.next.0 c.requires.next.1 c.args.event.now c.in-Share.thread c.in-Share.lock c.requires.next.2
    (subst (λ e. thread_of e < length c.args.self.now.threads) c.in-Share.is (next_inside c.args.self.now c.requires.next.0 c.requires.next.1 c.args.event.now c.requires.next.2))

pub returns-in-Share-clause-stamp : goal.returns-in-Share-clause-stamp
returns-in-Share-clause-stamp g c =
    subst (λ e. OnOk c.share_lock.result ((roots : ℕ → Bool) (es : List EventOf) → IsNextEvent c.args.self.now roots es e → IsStamp (es ++ e ∷ []) (length es) (last_stamp c.share_lock.new.self.threads (thread_of e))))
    (sym c.in-Share.is)
    (ok_stamp c.args.self.now c.share_lock.new.self (event.Share c.in-Share.thread c.in-Share.lock) c.share_lock.result
    (ok_share c.args.self.now c.share_lock.new.self c.in-Share.thread c.in-Share.lock c.share_lock.result c.share_lock.ensures.ok c.share_lock.ensures.locks))

pub returns-in-Share-clause-stands : goal.returns-in-Share-clause-stands
returns-in-Share-clause-stands g c =
    subst (λ e. OnOk c.share_lock.result ((roots : ℕ → Bool) (es : List EventOf) → IsNextEvent c.args.self.now roots es e → TrackerStandsFor c.share_lock.new.self roots (es ++ e ∷ [])))
    (sym c.in-Share.is)
    (ok_stands c.args.self.now c.share_lock.new.self (event.Share c.in-Share.thread c.in-Share.lock) c.share_lock.result
    (ok_share c.args.self.now c.share_lock.new.self c.in-Share.thread c.in-Share.lock c.share_lock.result c.share_lock.ensures.ok c.share_lock.ensures.locks))

pub unshare-requires-clause-known : goal.unshare-requires-clause-known
unshare-requires-clause-known g c =
    subst (λ e. thread_of e < length c.args.self.now.threads) c.in-Unshare.is (next_inside c.args.self.now c.requires.next.0 c.requires.next.1 c.args.event.now c.requires.next.2)

pub unshare-requires-clause-below : goal.unshare-requires-clause-below
unshare-requires-clause-below g c =
    next_below c.args.self.now c.requires.next.0 c.requires.next.1 c.args.event.now c.in-Unshare.thread c.in-Unshare.thread c.requires.next.2

pub returns-in-Unshare-clause-stamp : goal.returns-in-Unshare-clause-stamp
returns-in-Unshare-clause-stamp g c =
    subst (λ e. OnOk c.unshare.result ((roots : ℕ → Bool) (es : List EventOf) → IsNextEvent c.args.self.now roots es e → IsStamp (es ++ e ∷ []) (length es) (last_stamp c.unshare.new.self.threads (thread_of e))))
    (sym c.in-Unshare.is)
    (ok_stamp c.args.self.now c.unshare.new.self (event.Unshare c.in-Unshare.thread c.in-Unshare.lock) c.unshare.result
    (ok_unshare c.args.self.now c.unshare.new.self c.in-Unshare.thread c.in-Unshare.lock c.unshare.result c.unshare.ensures.ok c.unshare.ensures.given c.unshare.ensures.releases))

pub returns-in-Unshare-clause-stands : goal.returns-in-Unshare-clause-stands
returns-in-Unshare-clause-stands g c =
    subst (λ e. OnOk c.unshare.result ((roots : ℕ → Bool) (es : List EventOf) → IsNextEvent c.args.self.now roots es e → TrackerStandsFor c.unshare.new.self roots (es ++ e ∷ [])))
    (sym c.in-Unshare.is)
    (ok_stands c.args.self.now c.unshare.new.self (event.Unshare c.in-Unshare.thread c.in-Unshare.lock) c.unshare.result
    (ok_unshare c.args.self.now c.unshare.new.self c.in-Unshare.thread c.in-Unshare.lock c.unshare.result c.unshare.ensures.ok c.unshare.ensures.given c.unshare.ensures.releases))

pub returns-in-Unshare-clause-cost : goal.returns-in-Unshare-clause-cost
returns-in-Unshare-clause-cost g c =
    let inside = next_inside c.args.self.now c.requires.next.0 c.requires.next.1 c.args.event.now c.requires.next.2 in
    subst (λ e. c.unshare.new.steps ≤ c.args.steps.now + event_bound e (threads_after e (length c.args.self.now.threads))) (sym c.in-Unshare.is)
    (omega (arith, c.unshare.ensures.cost, inside))

pub fork-requires-clause-numbered : goal.fork-requires-clause-numbered
fork-requires-clause-numbered g c = grind (arith, common_steps)
