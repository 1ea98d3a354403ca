use Rattle.std.proofs.Common.{◌<◌, length, ap, subst, sym, ◌∙◌, arith}
use Rattle.std.proofs.lemmas.Grind.{elements}
use Rattle.rd_hb.proofs.KeptLemmas.{kept_share, read_at, shared_copy}
use Rattle.rd_hb.proofs.tracker.Tracker.share_anew.Goals as goal

pub invariant_of-self-2 : goal.invariant_of-self-2
invariant_of-self-2 c =
    let threads = c.self.inside.threads.items in
    let inside : c.args.thread < length threads = subst (λ v. c.args.thread < length v.threads) (sym c.self.view_is) c.requires in
    kept_share threads c.self.inside.shared.items c.grow.new.list.items c.self.inside.locks.items c.self.inside.unshares.items c.args.thread c.in_ok-shared.shared c.self.invariant
    (omega (arith, c.in_ok-grow.ensures.room)) c.grow.ensures.kept
    (shared_copy threads c.args.thread c.in_ok-shared.shared (c.self.invariant.tracked.each c.args.thread inside)
    (c.in_ok-shared.ensures ∙ ap (λ x. x.clock) (read_at threads c.args.thread c.index.result.now inside c.index.ensures)))

pub returns-clause-ok : goal.returns-clause-ok
returns-clause-ok c = grind (arith, elements)

pub returns-clause-room : goal.returns-clause-room
returns-clause-room c = grind (arith, elements)
