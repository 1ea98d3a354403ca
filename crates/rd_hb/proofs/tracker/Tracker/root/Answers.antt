use Rattle.std.proofs.Common.{◌≡◌, ◌+◌, [], ◌∷◌, ◌++◌, length, false, refl, arith, ap, subst, sym, ◌∙◌}
use Rattle.rd_clock.specs.Clock.{component}
use Rattle.rd_hb.specs.TrackerParts.{AreKept}
use Rattle.rd_hb.specs.declared.tracker.Tracked.{Tracked}
use Rattle.rd_hb.proofs.KeptLemmas.{kept_push}
use Rattle.rd_hb.proofs.TrackerLemmas.{root_stands}
use Rattle.rd_hb.proofs.tracker.Tracker.root.Goals as goal

pub invariant_of-self-2 : goal.invariant_of-self-2
invariant_of-self-2 c =
    let threads = c.self.inside.threads.items in
    let numbered : c.args.thread ≡ length threads = c.requires.numbered ∙ ap (λ v. length v.threads) (sym c.self.view_is) in
    let root : Tracked = record { clock = c.reserve.new.self; events = 0; joined = false } in
    let total : length c.reserve.new.self ≡ length threads + 1 = omega (arith, c.in_ok-reserve.ensures.room, ap length c.new-clock.ensures, numbered) in
    subst (λ ts. AreKept ts c.self.inside.shared.items c.self.inside.locks.items c.self.inside.unshares.items) (sym c.in_ok-push.ensures.items)
    (kept_push threads c.self.inside.shared.items c.self.inside.locks.items c.self.inside.unshares.items root c.self.invariant
    (omega (arith, numbered, c.requires.below)) (omega (arith, total)) (omega (arith, total))
    (sym (c.reserve.ensures.kept (length threads) ∙ ap (λ clock. component clock (length threads)) c.new-clock.ensures)))

pub returns-clause-ok : goal.returns-clause-ok
returns-clause-ok c = λ roots stands.
    root_stands c.args.self.now (record { threads = c.push.new.self.items; locks = record { releases = c.self.inside.locks.items; unshares = c.self.inside.unshares.items } }) roots c.args.thread (record { clock = c.reserve.new.self; events = 0; joined = false })
    c.requires.numbered (c.in_ok-push.ensures.items ∙ ap (λ v. v.threads ++ record { clock = c.reserve.new.self; events = 0; joined = false } ∷ []) c.self.view_is)
    (ap (λ v. v.locks) c.self.view_is) (λ u. c.reserve.ensures.kept u ∙ ap (λ clock. component clock u) c.new-clock.ensures) refl stands
