use Rattle.std.proofs.Common.{◌≡◌, ◌≤◌, ◌<◌, max, inl, inr, List, length, Some, None, refl, ap, subst, sym, ◌∙◌, arith, true≢false}
use Rattle.std.specs.Prelude.{slice_index_or, slice_set}
use Rattle.rd_clock.specs.Clock.{component}
use Rattle.rd_order.specs.Order.{exclusive}
use Rattle.rd_hb.specs.Tracker.{clock_of, handed_by, known_to, last_release, tracked_thread}
use Rattle.rd_hb.specs.TrackerParts.{AreKept, IsHeard, IsLearnt}
use Rattle.rd_hb.specs.declared.tracker.Tracked.{Tracked}
use Rattle.rd_hb.proofs.KeptLemmas.{kept_learn, read_at}
use Rattle.rd_hb.proofs.LearntLemmas.{learnt_nothing, learnt_set, on_err, set_back}
use Rattle.rd_hb.proofs.tracker.Tracker.hear_lock.Goals as goal

pub invariant_of-self-2 : goal.invariant_of-self-2
invariant_of-self-2 g c =
    let threads = c.self.inside.threads.items in
    let thread = c.args.thread in
    let inside : thread < length threads = subst (λ v. thread < length v.threads) (sym c.self.view_is) c.requires.known in
    let is = read_at threads thread c.index_mut.result.now inside c.index_mut.ensures.value in
    let at : last_release c.self.inside.locks.items c.args.lock ≡ Some c.in-Some-Some.last =
    ap (λ l. slice_index_or l c.args.lock None) (sym c.deref.ensures.value) ∙ sym (c.in-Some-Some.ensures.lookup.4 (omega arith) None) ∙ c.in-Some-Some.field-0-is in
    let less : component c.in-Some-Some.last.clock thread ≤ known_to threads thread thread =
    subst (λ v. component c.in-Some-Some.last.clock thread ≤ known_to v.threads thread thread) (sym c.self.view_is)
    (subst (λ o. component (clock_of o) thread ≤ known_to c.args.self.now.threads thread thread) (ap (λ v. last_release v.locks.releases c.args.lock) (sym c.self.view_is) ∙ at) c.requires.own) in
    kept_learn threads c.self.inside.shared.items c.forget.new.list.items c.self.inside.locks.items c.self.inside.unshares.items thread c.index_mut.result.now _ c.self.invariant inside is
    (omega (arith, c.join_into.ensures.room, c.in_ok-reserve.ensures.room, ap (λ x. length x.clock) is, (c.self.invariant.tracked.each thread inside).room))
    (c.join_into.ensures.joined thread ∙ omega (arith, c.reserve.ensures.kept thread, ap (λ x. component x.clock thread) is, less))
    refl c.forget.ensures.others c.forget.ensures.gone

pub invariant_of-self : goal.invariant_of-self
invariant_of-self g c =
    subst (λ ts. AreKept ts c.self.inside.shared.items c.self.inside.locks.items c.self.inside.unshares.items)
    (sym {A = List Tracked} (set_back c.self.inside.threads.items c.args.thread c.index_mut.result.now c.index_mut.result.now.clock c.index_mut.ensures.value refl)) c.self.invariant

pub returns-then-is_covered-clause-learnt : goal.returns-then-is_covered-clause-learnt
returns-then-is_covered-clause-learnt g c =
    let threads = c.self.inside.threads.items in
    let thread = c.args.thread in
    let inside : thread < length threads = subst (λ v. thread < length v.threads) (sym c.self.view_is) c.requires.known in
    let is = read_at threads thread c.index_mut.result.now inside c.index_mut.ensures.value in
    let at : last_release c.self.inside.locks.items c.args.lock ≡ Some c.in-Some-Some.last =
    ap (λ l. slice_index_or l c.args.lock None) (sym c.deref.ensures.value) ∙ sym (c.in-Some-Some.ensures.lookup.4 (omega arith) None) ∙ c.in-Some-Some.field-0-is in
    let own : c.index_mut.result.now.clock ≡ (tracked_thread c.args.self.now.threads thread).clock =
    ap (λ x. x.clock) is ∙ ap (λ v. (tracked_thread v.threads thread).clock) c.self.view_is in
    let heard : IsHeard (last_release c.args.self.now.locks.releases c.args.lock) (tracked_thread c.args.self.now.threads thread).clock =
    subst (λ clock. IsHeard (last_release c.args.self.now.locks.releases c.args.lock) clock) own
    (subst (λ o. IsHeard o c.index_mut.result.now.clock) (sym at ∙ ap (λ v. last_release v.locks.releases c.args.lock) c.self.view_is) (c.if-is_covered.ensures.value.0 refl)) in
    subst (IsLearnt thread (handed_by c.args.self.now.locks (exclusive c.args.lock)) None c.args.self.now.threads)
    (sym (set_back threads thread c.index_mut.result.now c.index_mut.result.now.clock c.index_mut.ensures.value refl ∙ ap (λ v. v.threads) c.self.view_is))
    (learnt_nothing c.args.self.now.threads thread (handed_by c.args.self.now.locks (exclusive c.args.lock)) (c.requires.heard heard))

pub invariant_of-self-in_err-reserve : goal.invariant_of-self-in_err-reserve
invariant_of-self-in_err-reserve g c =
    subst (λ ts. AreKept ts c.self.inside.shared.items c.self.inside.locks.items c.self.inside.unshares.items)
    (sym {A = List Tracked} (set_back c.self.inside.threads.items c.args.thread c.index_mut.result.now c.reserve.new.self c.index_mut.ensures.value c.in_err-reserve.ensures.err)) c.self.invariant

pub returns-in_err-reserve-clause-err : goal.returns-in_err-reserve-clause-err
returns-in_err-reserve-clause-err g c =
    on_err c.from_residual.result _
    (ap (λ ts. record { threads = ts; locks = record { releases = c.self.inside.locks.items; unshares = c.self.inside.unshares.items } })
    (set_back c.self.inside.threads.items c.args.thread c.index_mut.result.now c.reserve.new.self c.index_mut.ensures.value c.in_err-reserve.ensures.err) ∙ c.self.view_is)

pub returns-in_err-reserve-clause-memory : goal.returns-in_err-reserve-clause-memory
returns-in_err-reserve-clause-memory g c =
    let threads = c.self.inside.threads.items in
    let thread = c.args.thread in
    let inside : thread < length threads = subst (λ v. thread < length v.threads) (sym c.self.view_is) c.requires.known in
    let is = read_at threads thread c.index_mut.result.now inside c.index_mut.ensures.value in
    on_err c.from_residual.result _
    (subst (λ v. length (tracked_thread v.threads thread).clock < length v.threads) c.self.view_is (omega (arith, c.in_err-reserve.ensures.memory, ap (λ x. length x.clock) is)))

pub returns-clause-learnt : goal.returns-clause-learnt
returns-clause-learnt g c =
    let threads = c.self.inside.threads.items in
    let thread = c.args.thread in
    let inside : thread < length threads = subst (λ v. thread < length v.threads) (sym c.self.view_is) c.requires.known in
    let is = read_at threads thread c.index_mut.result.now inside c.index_mut.ensures.value in
    let at : last_release c.self.inside.locks.items c.args.lock ≡ Some c.in-Some-Some.last =
    ap (λ l. slice_index_or l c.args.lock None) (sym c.deref.ensures.value) ∙ sym (c.in-Some-Some.ensures.lookup.4 (omega arith) None) ∙ c.in-Some-Some.field-0-is in
    let learnt : Tracked = record { clock = c.join_into.new.clock; events = c.index_mut.result.now.events; joined = c.index_mut.result.now.joined } in
    subst (λ v. IsLearnt thread (handed_by v.locks (exclusive c.args.lock)) None v.threads (slice_set threads thread learnt)) c.self.view_is
    (learnt_set threads thread (λ u. component (clock_of (last_release c.self.inside.locks.items c.args.lock)) u) learnt inside
    (λ u. c.join_into.ensures.joined u
    ∙ ap (λ n. max n (component c.in-Some-Some.last.clock u)) (c.reserve.ensures.kept u ∙ ap (λ x. component x.clock u) is)
    ∙ ap (λ o. max (known_to threads thread u) (component (clock_of o) u)) (sym at))
    (ap (λ x. x.joined) is))

pub returns-clause-cost : goal.returns-clause-cost
returns-clause-cost g c =
    let threads = c.self.inside.threads.items in
    let thread = c.args.thread in
    let inside : thread < length threads = subst (λ v. thread < length v.threads) (sym c.self.view_is) c.requires.known in
    let is = read_at threads thread c.index_mut.result.now inside c.index_mut.ensures.value in
    let at : last_release c.self.inside.locks.items c.args.lock ≡ Some c.in-Some-Some.last =
    ap (λ l. slice_index_or l c.args.lock None) (sym c.deref.ensures.value) ∙ sym (c.in-Some-Some.ensures.lookup.4 (omega arith) None) ∙ c.in-Some-Some.field-0-is in
    let own : c.index_mut.result.now.clock ≡ (tracked_thread c.args.self.now.threads thread).clock =
    ap (λ x. x.clock) is ∙ ap (λ v. (tracked_thread v.threads thread).clock) c.self.view_is in
    elim c.requires.news [
      | inl heard ↦ absurd (true≢false (sym (c.if-is_covered.ensures.value.1 (subst (λ o. IsHeard o c.index_mut.result.now.clock) (sym (ap (λ v. last_release v.locks.releases c.args.lock) c.self.view_is) ∙ at)
          (subst (λ clock. IsHeard (last_release c.args.self.now.locks.releases c.args.lock) clock) (sym own) heard)))))
      | inr two ↦ omega (
        arith,
        two,
        c.is_covered.ensures.cost,
        c.join_into.ensures.cost,
        c.in_ok-reserve.ensures.room,
        ap (λ x. length x.clock) is,
        (c.self.invariant.tracked.each thread inside).room,
        ap (λ v. length v.threads) c.self.view_is,
      )
    ]
