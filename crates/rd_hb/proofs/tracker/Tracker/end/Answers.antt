use Rattle.std.proofs.Common.{◌<◌, length, refl, subst, sym, rules, tests}
use Rattle.rd_hb.proofs.KeptLemmas.{kept_end, read_at}
use Rattle.rd_hb.proofs.tracker.Tracker.end.Goals as goal

pub invariant_of-self : goal.invariant_of-self
invariant_of-self c =
    let inside = subst (λ v. c.args.child < length v.threads) (sym c.self.view_is) c.requires in
    kept_end c.self.inside.threads.items c.self.inside.shared.items c.self.inside.locks.items c.self.inside.unshares.items c.args.child c.index_mut.result.now _ c.self.invariant
    inside (read_at c.self.inside.threads.items c.args.child c.index_mut.result.now inside c.index_mut.ensures.value) refl refl

pub returns-clause-joined : goal.returns-clause-joined
returns-clause-joined c = search (tests, rules)
