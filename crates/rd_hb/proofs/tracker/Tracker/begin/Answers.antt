use Rattle.std.proofs.Common.{◌≡◌, ◌<◌, ◌+◌, List, [], ◌∷◌, ◌++◌, length, false, arith, ap, subst, sym, ◌∙◌}
use Rattle.rd_hb.specs.Tracker.{no_thread, tracked_thread}
use Rattle.rd_hb.specs.TrackerParts.{AreKept, IsForked}
use Rattle.rd_hb.specs.declared.tracker.Tracked.{Tracked}
use Rattle.rd_hb.proofs.KeptLemmas.{kept_push}
use Rattle.rd_hb.proofs.TrackerLemmas.{begins_push}
use Rattle.std.proofs.lemmas.List.{get_or_append_left, get_or_past}
use Rattle.rd_clock.specs.Clock.{IsTick}
use Rattle.rd_hb.proofs.tracker.Tracker.begin.Goals as goal

pub invariant_of-self-2 : goal.invariant_of-self-2
invariant_of-self-2 g c =
    let threads = c.self.inside.threads.items in
    let thread = c.args.thread in
    let inside : thread < length threads = subst (λ v. thread < length v.threads) (sym c.self.view_is) c.requires.known in
    let numbered : c.args.child ≡ length threads = c.requires.numbered ∙ ap (λ v. length v.threads) (sym c.self.view_is) in
    let kept : AreKept threads c.self.inside.shared.items c.self.inside.locks.items c.self.inside.unshares.items = c.self.invariant in
    let child : Tracked = record { clock = c.in_ok-clock.clock; events = 0; joined = false } in
    let total : length c.in_ok-clock.clock ≡ length threads + 1 =
    omega (arith, c.in_ok-clock.ensures.room, ap (λ v. length (tracked_thread v.threads thread).clock) c.self.view_is, numbered, (kept.tracked.each thread inside).room) in
    let ticks : IsTick (tracked_thread threads thread).clock c.in_ok-clock.clock thread =
    subst (λ v. IsTick (tracked_thread v.threads thread).clock c.in_ok-clock.clock thread) (sym c.self.view_is) c.in_ok-clock.ensures.ticked in
    subst (λ ts. AreKept ts c.self.inside.shared.items c.self.inside.locks.items c.self.inside.unshares.items) (sym {A = List Tracked} c.in_ok-push.ensures.items)
    (kept_push threads c.self.inside.shared.items c.self.inside.locks.items c.self.inside.unshares.items child kept
    (omega (arith, numbered, c.requires.range)) (omega (arith, total)) (omega (arith, total))
    (sym (ticks.others (length threads) (λ last. absurd (omega (arith, last, inside))) ∙ get_or_past (tracked_thread threads thread).clock (length threads) 0 (kept.tracked.each thread inside).room)))

pub returns-clause-ok : goal.returns-clause-ok
returns-clause-ok g c =
    let child : Tracked = record { clock = c.in_ok-clock.clock; events = 0; joined = false } in
    let ticks : IsTick (tracked_thread c.args.self.now.threads c.args.thread).clock c.in_ok-clock.clock c.args.thread = c.in_ok-clock.ensures.ticked in
    let pushed : c.push.new.self.items ≡ c.args.self.now.threads ++ child ∷ [] =
    subst (λ v. c.push.new.self.items ≡ v.threads ++ child ∷ []) c.self.view_is c.in_ok-push.ensures.items in
    subst (IsForked c.args.thread c.args.child c.args.self.now.threads) (sym pushed)
    (begins_push c.args.self.now.threads c.args.thread c.args.child c.in_ok-clock.clock c.requires.numbered ticks)

pub returns-clause-room : goal.returns-clause-room
returns-clause-room g c =
    let threads = c.self.inside.threads.items in
    let thread = c.args.thread in
    let inside : thread < length threads = subst (λ v. thread < length v.threads) (sym c.self.view_is) c.requires.known in
    let child : Tracked = record { clock = c.in_ok-clock.clock; events = 0; joined = false } in
    let same : tracked_thread c.push.new.self.items thread ≡ tracked_thread threads thread =
    ap (λ ts. tracked_thread ts thread) c.in_ok-push.ensures.items ∙ get_or_append_left threads (child ∷ []) no_thread thread inside in
    omega (arith, ap (λ x. length x.clock) same, (c.self.invariant.tracked.each thread inside).room, ap (λ v. length v.threads) c.self.view_is)
