use Rattle.std.proofs.Common.{◌<◌, length, refl, subst, sym, arith}
use Rattle.std.proofs.lemmas.Grind.{common_steps}
use Rattle.rd_hb.proofs.KeptLemmas.{kept_count, read_at}
use Rattle.rd_hb.proofs.tracker.Tracker.tick.Goals as goal

pub invariant_of-self : goal.invariant_of-self
invariant_of-self g c =
    let inside = subst (λ v. c.args.thread < length v.threads) (sym c.self.view_is) c.requires.known in
    kept_count c.self.inside.threads.items c.self.inside.shared.items c.self.inside.locks.items c.self.inside.unshares.items c.args.thread c.index_mut-own.result.now _ c.self.invariant
    inside (read_at c.self.inside.threads.items c.args.thread c.index_mut-own.result.now inside c.index_mut-own.ensures.value)
    c.tick.ensures.ticked c.tick.ensures.room refl

pub tick-requires-clause-room : goal.tick-requires-clause-room
tick-requires-clause-room g c = grind (arith, common_steps)

pub tick-requires-clause-below : goal.tick-requires-clause-below
tick-requires-clause-below g c = grind (arith, common_steps)

pub overflow_add-own : goal.overflow_add-own
overflow_add-own g c = grind (arith, common_steps)

pub returns-clause-counted : goal.returns-clause-counted
returns-clause-counted g c = grind (arith, common_steps)

pub returns-clause-room : goal.returns-clause-room
returns-clause-room g c = grind (arith, common_steps)

pub returns-clause-same_room : goal.returns-clause-same_room
returns-clause-same_room g c = grind (arith, common_steps)
