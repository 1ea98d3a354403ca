use Rattle.std.proofs.Common.{◌≡◌, ◌≤◌, ◌<◌, List, None, length, slice_set, refl, ap, subst, sym, ◌∙◌, arith}
use Rattle.rd_clock.specs.Clock.{component}
use Rattle.rd_hb.specs.Tracker.{clock_of, known_to, last_release, tracked_thread, unshared}
use Rattle.rd_hb.specs.TrackerParts.{AreKept, IsLearnt, heard_from}
use Rattle.rd_hb.specs.declared.tracker.Tracked.{Tracked}
use Rattle.rd_hb.proofs.KeptLemmas.{kept_learn, read_at}
use Rattle.rd_hb.proofs.LearntLemmas.{learnt_set, on_err, set_back}
use Rattle.rd_hb.proofs.tracker.Tracker.hear_shares.Goals as goal

pub invariant_of-self-2 : goal.invariant_of-self-2
invariant_of-self-2 g c =
    let threads = c.self.inside.threads.items in
    let releases = c.self.inside.locks.items in
    let unshares = c.self.inside.unshares.items in
    let thread = c.args.thread in
    let inside : thread < length threads = subst (λ v. thread < length v.threads) (sym c.self.view_is) c.requires.known in
    let is = read_at threads thread c.index_mut.result.now inside c.index_mut.ensures.value in
    let less : heard_from (record { releases = releases; unshares = unshares }) c.args.lock thread ≤ known_to threads thread thread =
    subst (λ v. heard_from v.locks c.args.lock thread ≤ known_to v.threads thread thread) (sym c.self.view_is) c.requires.own in
    let released : component (clock_of (last_release c.as_slice.result.now c.args.lock)) thread ≡ component (clock_of (last_release releases c.args.lock)) thread =
    ap (λ l. component (clock_of (last_release l c.args.lock)) thread) c.as_slice.ensures.value in
    let given : component (unshared c.as_slice-2.result.now c.args.lock) thread ≡ component (unshared unshares c.args.lock) thread =
    ap (λ l. component (unshared l c.args.lock) thread) c.as_slice-2.ensures.value in
    kept_learn threads c.self.inside.shared.items c.forget.new.list.items releases unshares thread c.index_mut.result.now _ c.self.invariant inside is
    (omega (
      arith,
      c.join_unshares.ensures.room,
      c.join_release.ensures.room,
      c.in_ok-reserve.ensures.room,
      ap (λ x. length x.clock) is,
      (c.self.invariant.tracked.each thread inside).room,
    ))
    (c.join_unshares.ensures.joined thread ∙ omega (
      arith,
      c.join_release.ensures.joined thread,
      c.reserve.ensures.kept thread,
      ap (λ x. component x.clock thread) is,
      released,
      given,
      less,
    ))
    refl c.forget.ensures.others c.forget.ensures.gone

pub invariant_of-self : goal.invariant_of-self
invariant_of-self g c =
    subst (λ ts. AreKept ts c.self.inside.shared.items c.self.inside.locks.items c.self.inside.unshares.items)
    (sym {A = List Tracked} (set_back c.self.inside.threads.items c.args.thread c.index_mut.result.now c.reserve.new.self c.index_mut.ensures.value c.in_err-reserve.ensures.err)) c.self.invariant

pub returns-in_err-reserve-clause-err : goal.returns-in_err-reserve-clause-err
returns-in_err-reserve-clause-err g c =
    on_err c.from_residual.result _
    (ap (λ ts. record { threads = ts; locks = record { releases = c.self.inside.locks.items; unshares = c.self.inside.unshares.items } })
    (set_back c.self.inside.threads.items c.args.thread c.index_mut.result.now c.reserve.new.self c.index_mut.ensures.value c.in_err-reserve.ensures.err) ∙ c.self.view_is)

pub returns-in_err-reserve-clause-memory : goal.returns-in_err-reserve-clause-memory
returns-in_err-reserve-clause-memory g c =
    let threads = c.self.inside.threads.items in
    let thread = c.args.thread in
    let inside : thread < length threads = subst (λ v. thread < length v.threads) (sym c.self.view_is) c.requires.known in
    let is = read_at threads thread c.index_mut.result.now inside c.index_mut.ensures.value in
    on_err c.from_residual.result _
    (subst (λ v. length (tracked_thread v.threads thread).clock < length v.threads) c.self.view_is (omega (arith, c.in_err-reserve.ensures.memory, ap (λ x. length x.clock) is)))

pub returns-clause-learnt : goal.returns-clause-learnt
returns-clause-learnt g c =
    let threads = c.self.inside.threads.items in
    let thread = c.args.thread in
    let inside : thread < length threads = subst (λ v. thread < length v.threads) (sym c.self.view_is) c.requires.known in
    let is = read_at threads thread c.index_mut.result.now inside c.index_mut.ensures.value in
    let learnt : Tracked = record { clock = c.join_unshares.new.clock; events = c.index_mut.result.now.events; joined = c.index_mut.result.now.joined } in
    subst (λ v. IsLearnt thread (heard_from v.locks c.args.lock) None v.threads (slice_set threads thread learnt)) c.self.view_is
    (learnt_set threads thread (heard_from (record { releases = c.self.inside.locks.items; unshares = c.self.inside.unshares.items }) c.args.lock) learnt inside
    (λ u. c.join_unshares.ensures.joined u ∙ omega (
      arith,
      c.join_release.ensures.joined u,
      c.reserve.ensures.kept u,
      ap (λ x. component x.clock u) is,
      ap (λ l. component (clock_of (last_release l c.args.lock)) u) c.as_slice.ensures.value,
      ap (λ l. component (unshared l c.args.lock) u) c.as_slice-2.ensures.value,
    ))
    (ap (λ x. x.joined) is))

pub returns-clause-cost : goal.returns-clause-cost
returns-clause-cost g c =
    let threads = c.self.inside.threads.items in
    let thread = c.args.thread in
    let inside : thread < length threads = subst (λ v. thread < length v.threads) (sym c.self.view_is) c.requires.known in
    let is = read_at threads thread c.index_mut.result.now inside c.index_mut.ensures.value in
    omega (
      arith,
      c.join_release.ensures.cost,
      c.join_unshares.ensures.cost,
      c.join_release.ensures.room,
      c.in_ok-reserve.ensures.room,
      ap (λ x. length x.clock) is,
      (c.self.invariant.tracked.each thread inside).room,
      ap (λ v. length v.threads) c.self.view_is,
    )
