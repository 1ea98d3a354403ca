use Rattle.std.proofs.Common.{◌≡◌, ◌<◌, max, List, None, length, ap, subst, sym, ◌∙◌, arith, slice_set}
use Rattle.std.proofs.lemmas.List.{length-set, set-set}
use Rattle.rd_clock.specs.Clock.{component}
use Rattle.rd_hb.specs.Tracker.{known_to, tracked_thread}
use Rattle.rd_hb.specs.TrackerParts.{AreKept, IsLearnt}
use Rattle.rd_hb.specs.declared.tracker.Tracked.{Tracked}
use Rattle.rd_hb.proofs.KeptLemmas.{kept_learn, read_again, read_at, read_besides, set_other}
use Rattle.rd_hb.proofs.LearntLemmas.{learnt_set, on_err, set_back}
use Rattle.rd_hb.proofs.tracker.Tracker.learn.Goals as goal

pub invariant_of-self-2 : goal.invariant_of-self-2
invariant_of-self-2 g c =
    let threads = c.self.inside.threads.items in
    let thread = c.args.thread in
    let inside : thread < length threads = subst (λ v. thread < length v.threads) (sym c.self.view_is) c.requires.known in
    let awaited : c.args.child < length threads = subst (λ v. c.args.child < length v.threads) (sym c.self.view_is) c.requires.awaited in
    let roomy : Tracked = record { clock = c.reserve.new.self; events = c.index_mut.result.now.events; joined = c.index_mut.result.now.joined } in
    let empty : Tracked = record { clock = c.replace-own.new.dest; events = c.index_mut-2.result.now.events; joined = c.index_mut-2.result.now.joined } in
    let learnt : Tracked = record { clock = c.join_reserved.new.self; events = c.index_mut-3.result.now.events; joined = c.index_mut-3.result.now.joined } in
    let total : length (slice_set threads thread roomy) ≡ length threads = length-set threads thread roomy in
    let is : c.index_mut.result.now ≡ tracked_thread threads thread = read_at threads thread c.index_mut.result.now inside c.index_mut.ensures.value in
    let second : c.index_mut-2.result.now ≡ roomy = read_again threads thread roomy c.index_mut-2.result.now inside c.index_mut-2.ensures.value in
    let third : c.index_mut-3.result.now ≡ empty =
    read_again (slice_set threads thread roomy) thread empty c.index_mut-3.result.now (omega (arith, inside, total)) c.index_mut-3.ensures.value in
    let other : c.index.result.now ≡ tracked_thread threads c.args.child =
    read_besides (slice_set threads thread roomy) thread c.args.child empty c.index.result.now (omega (arith, awaited, total)) c.requires.apart c.index.ensures ∙ set_other threads thread c.args.child roomy c.requires.apart in
    subst (λ ts. AreKept ts c.forget.new.list.items c.self.inside.locks.items c.self.inside.unshares.items)
    (sym {A = List Tracked} (set-set (slice_set threads thread roomy) thread empty learnt ∙ set-set threads thread roomy learnt))
    (kept_learn threads c.self.inside.shared.items c.forget.new.list.items c.self.inside.locks.items c.self.inside.unshares.items thread c.index_mut.result.now learnt c.self.invariant inside is
    (omega (
      arith,
      c.join_reserved.ensures.room,
      c.in_ok-reserve.ensures.room,
      ap length c.replace-own.ensures.value,
      ap (λ x. length x.clock) second,
      ap (λ x. length x.clock) is,
      (c.self.invariant.tracked.each thread inside).room,
    ))
    (c.join_reserved.ensures.joined thread ∙ omega (
      arith,
      c.reserve.ensures.kept thread,
      ap (λ clock. component clock thread) c.replace-own.ensures.value,
      ap (λ x. component x.clock thread) second,
      ap (λ x. component x.clock thread) is,
      ap (λ x. component x.clock thread) other,
      ap (λ v. known_to v.threads c.args.child thread) c.self.view_is,
      ap (λ v. known_to v.threads thread thread) c.self.view_is,
      c.requires.own,
    ))
    (ap (λ x. x.events) third ∙ ap (λ x. x.events) second) c.forget.ensures.others c.forget.ensures.gone)

pub invariant_of-self : goal.invariant_of-self
invariant_of-self g c =
    subst (λ ts. AreKept ts c.self.inside.shared.items c.self.inside.locks.items c.self.inside.unshares.items)
    (sym {A = List Tracked} (set_back c.self.inside.threads.items c.args.thread c.index_mut.result.now c.reserve.new.self c.index_mut.ensures.value c.in_err-reserve.ensures.err)) c.self.invariant

pub returns-in_err-reserve-clause-err : goal.returns-in_err-reserve-clause-err
returns-in_err-reserve-clause-err g c =
    on_err c.from_residual.result _
    (ap (λ ts. record { threads = ts; locks = record { releases = c.self.inside.locks.items; unshares = c.self.inside.unshares.items } })
    (set_back c.self.inside.threads.items c.args.thread c.index_mut.result.now c.reserve.new.self c.index_mut.ensures.value c.in_err-reserve.ensures.err) ∙ c.self.view_is)

pub returns-in_err-reserve-clause-memory : goal.returns-in_err-reserve-clause-memory
returns-in_err-reserve-clause-memory g c =
    let threads = c.self.inside.threads.items in
    let thread = c.args.thread in
    let inside : thread < length threads = subst (λ v. thread < length v.threads) (sym c.self.view_is) c.requires.known in
    let is = read_at threads thread c.index_mut.result.now inside c.index_mut.ensures.value in
    on_err c.from_residual.result _
    (subst (λ v. length (tracked_thread v.threads thread).clock < length v.threads) c.self.view_is (omega (arith, c.in_err-reserve.ensures.memory, ap (λ x. length x.clock) is)))

pub join_reserved-requires : goal.join_reserved-requires
join_reserved-requires g c =
    let threads = c.self.inside.threads.items in
    let thread = c.args.thread in
    let inside : thread < length threads = subst (λ v. thread < length v.threads) (sym c.self.view_is) c.requires.known in
    let awaited : c.args.child < length threads = subst (λ v. c.args.child < length v.threads) (sym c.self.view_is) c.requires.awaited in
    let roomy : Tracked = record { clock = c.reserve.new.self; events = c.index_mut.result.now.events; joined = c.index_mut.result.now.joined } in
    let empty : Tracked = record { clock = c.replace-own.new.dest; events = c.index_mut-2.result.now.events; joined = c.index_mut-2.result.now.joined } in
    let total : length (slice_set threads thread roomy) ≡ length threads = length-set threads thread roomy in
    let is : c.index_mut.result.now ≡ tracked_thread threads thread = read_at threads thread c.index_mut.result.now inside c.index_mut.ensures.value in
    let second : c.index_mut-2.result.now ≡ roomy = read_again threads thread roomy c.index_mut-2.result.now inside c.index_mut-2.ensures.value in
    let other : c.index.result.now ≡ tracked_thread threads c.args.child =
    read_besides (slice_set threads thread roomy) thread c.args.child empty c.index.result.now (omega (arith, awaited, total)) c.requires.apart c.index.ensures ∙ set_other threads thread c.args.child roomy c.requires.apart in
    omega (
      arith,
      c.in_ok-reserve.ensures.room,
      ap length c.replace-own.ensures.value,
      ap (λ x. length x.clock) second,
      ap (λ x. length x.clock) other,
      (c.self.invariant.tracked.each c.args.child awaited).room,
    )

pub returns-clause-learnt : goal.returns-clause-learnt
returns-clause-learnt g c =
    let threads = c.self.inside.threads.items in
    let thread = c.args.thread in
    let inside : thread < length threads = subst (λ v. thread < length v.threads) (sym c.self.view_is) c.requires.known in
    let awaited : c.args.child < length threads = subst (λ v. c.args.child < length v.threads) (sym c.self.view_is) c.requires.awaited in
    let roomy : Tracked = record { clock = c.reserve.new.self; events = c.index_mut.result.now.events; joined = c.index_mut.result.now.joined } in
    let empty : Tracked = record { clock = c.replace-own.new.dest; events = c.index_mut-2.result.now.events; joined = c.index_mut-2.result.now.joined } in
    let total : length (slice_set threads thread roomy) ≡ length threads = length-set threads thread roomy in
    let is : c.index_mut.result.now ≡ tracked_thread threads thread = read_at threads thread c.index_mut.result.now inside c.index_mut.ensures.value in
    let second : c.index_mut-2.result.now ≡ roomy = read_again threads thread roomy c.index_mut-2.result.now inside c.index_mut-2.ensures.value in
    let other : c.index.result.now ≡ tracked_thread threads c.args.child =
    read_besides (slice_set threads thread roomy) thread c.args.child empty c.index.result.now (omega (arith, awaited, total)) c.requires.apart c.index.ensures ∙ set_other threads thread c.args.child roomy c.requires.apart in
    let third : c.index_mut-3.result.now ≡ empty =
    read_again (slice_set threads thread roomy) thread empty c.index_mut-3.result.now (omega (arith, inside, total)) c.index_mut-3.ensures.value in
    let learnt : Tracked = record { clock = c.join_reserved.new.self; events = c.index_mut-3.result.now.events; joined = c.index_mut-3.result.now.joined } in
    subst (IsLearnt thread (known_to c.args.self.now.threads c.args.child) None c.args.self.now.threads)
    (sym {A = List Tracked} (set-set (slice_set threads thread roomy) thread empty learnt ∙ set-set threads thread roomy learnt))
    (subst (λ v. IsLearnt thread (known_to v.threads c.args.child) None v.threads (slice_set threads thread learnt)) c.self.view_is
    (learnt_set threads thread (known_to threads c.args.child) learnt inside
    (λ u. c.join_reserved.ensures.joined u
    ∙ ap (λ n. max n (component c.index.result.now.clock u))
    (ap (λ clock. component clock u) c.replace-own.ensures.value ∙ ap (λ x. component x.clock u) second ∙ c.reserve.ensures.kept u ∙ ap (λ x. component x.clock u) is)
    ∙ ap (λ x. max (known_to threads thread u) (component x.clock u)) other)
    (ap (λ x. x.joined) third ∙ ap (λ x. x.joined) second ∙ ap (λ x. x.joined) is)))

pub returns-clause-cost : goal.returns-clause-cost
returns-clause-cost g c =
    let threads = c.self.inside.threads.items in
    let thread = c.args.thread in
    let inside : thread < length threads = subst (λ v. thread < length v.threads) (sym c.self.view_is) c.requires.known in
    let awaited : c.args.child < length threads = subst (λ v. c.args.child < length v.threads) (sym c.self.view_is) c.requires.awaited in
    let roomy : Tracked = record { clock = c.reserve.new.self; events = c.index_mut.result.now.events; joined = c.index_mut.result.now.joined } in
    let empty : Tracked = record { clock = c.replace-own.new.dest; events = c.index_mut-2.result.now.events; joined = c.index_mut-2.result.now.joined } in
    let total : length (slice_set threads thread roomy) ≡ length threads = length-set threads thread roomy in
    let other : c.index.result.now ≡ tracked_thread threads c.args.child =
    read_besides (slice_set threads thread roomy) thread c.args.child empty c.index.result.now (omega (arith, awaited, total)) c.requires.apart c.index.ensures ∙ set_other threads thread c.args.child roomy c.requires.apart in
    omega (
      arith,
      c.join_reserved.ensures.cost,
      ap (λ x. length x.clock) other,
      (c.self.invariant.tracked.each c.args.child awaited).room,
      ap (λ v. length v.threads) c.self.view_is,
    )
