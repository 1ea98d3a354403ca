use Rattle.std.proofs.Common.{◌≡◌, ◌<◌, [], ◌∷◌, ◌++◌, length, ap, subst, sym, ◌∙◌, arith}
use Rattle.rd_order.specs.Order.{thread_of}
use Rattle.rd_clock.specs.declared.clock.Stamp.{Stamp}
use Rattle.rd_hb.specs.Tracker.{IsStamp, last_stamp, tracked_thread}
use Rattle.rd_hb.proofs.KeptLemmas.{read_at}
use Rattle.rd_hb.proofs.TrackerLemmas.{next_inside, read_stamp, threads_stay}
use Rattle.rd_hb.proofs.tracker.Tracker.event.Goals as goal

pub index-own-requires : goal.index-own-requires
index-own-requires g c =
    let known : thread_of c.args.event.now < length c.args.self.now.threads = next_inside c.args.self.now c.requires.next.0 c.requires.next.1 c.args.event.now c.requires.next.2 in
    omega (arith, known, c.thread_of-thread.ensures, c.in_ok-pass.ensures.count, ap (λ v. length v.threads) c.self-2.view_is, threads_stay c.args.event.now (length c.args.self.now.threads))

pub copy_in-requires-clause-room : goal.copy_in-requires-clause-room
copy_in-requires-clause-room g c =
    let known : thread_of c.args.event.now < length c.args.self.now.threads = next_inside c.args.self.now c.requires.next.0 c.requires.next.1 c.args.event.now c.requires.next.2 in
    let stay = threads_stay c.args.event.now (length c.args.self.now.threads) in
    let inside : c.thread_of-thread.result < length c.self-2.inside.threads.items =
    omega (arith, known, c.thread_of-thread.ensures, c.in_ok-pass.ensures.count, ap (λ v. length v.threads) c.self-2.view_is, stay) in
    let own : c.index-own.result.now ≡ tracked_thread c.pass.new.self.threads (thread_of c.args.event.now) =
    read_at c.self-2.inside.threads.items c.thread_of-thread.result c.index-own.result.now inside c.index-own.ensures
    ∙ ap (λ v. tracked_thread v.threads c.thread_of-thread.result) c.self-2.view_is ∙ ap (tracked_thread c.pass.new.self.threads) c.thread_of-thread.ensures in
    omega (arith, ap (λ x. length x.clock) own, c.in_ok-pass.ensures.room, ap (λ v. length v.threads) c.self.view_is, c.in_ok-memory.ensures.capacity)

pub returns-clause-stamp : goal.returns-clause-stamp
returns-clause-stamp g c =
    let known : thread_of c.args.event.now < length c.args.self.now.threads = next_inside c.args.self.now c.requires.next.0 c.requires.next.1 c.args.event.now c.requires.next.2 in
    let stay = threads_stay c.args.event.now (length c.args.self.now.threads) in
    let inside : c.thread_of-thread.result < length c.self-2.inside.threads.items =
    omega (arith, known, c.thread_of-thread.ensures, c.in_ok-pass.ensures.count, ap (λ v. length v.threads) c.self-2.view_is, stay) in
    let own : c.index-own.result.now ≡ tracked_thread c.pass.new.self.threads (thread_of c.args.event.now) =
    read_at c.self-2.inside.threads.items c.thread_of-thread.result c.index-own.result.now inside c.index-own.ensures
    ∙ ap (λ v. tracked_thread v.threads c.thread_of-thread.result) c.self-2.view_is ∙ ap (tracked_thread c.pass.new.self.threads) c.thread_of-thread.ensures in
    let stamp : Stamp = record { thread = c.thread_of-thread.result; number = c.index-own.result.now.events; clock = c.copy_in.result } in
    let is : stamp ≡ last_stamp c.pass.new.self.threads (thread_of c.args.event.now) =
    read_stamp c.pass.new.self.threads c.thread_of-thread.result (thread_of c.args.event.now) c.index-own.result.now c.copy_in.result own c.thread_of-thread.ensures c.copy_in.ensures in
    λ roots es next. subst (IsStamp (es ++ c.args.event.now ∷ []) (length es)) (sym is) (c.in_ok-pass.ensures.stamp roots es next)
