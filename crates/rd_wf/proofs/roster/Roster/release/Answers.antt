use Rattle.std.proofs.Common.{◌≡◌, ℕ, ◌<◌, Bool, true, false, refl, arith}
use Rattle.indexmap.proofs.CallerLemmas.{index_map_len-with_value_at}
use Rattle.rd_wf.proofs.HeldLemmas.{released_known}
use Rattle.rd_wf.proofs.roster.Roster.release.Goals as goal

-- a lock that a thread has is known
known : (unknown : Bool) (held depth : ℕ) {P : Type 0} → (unknown ≡ true → P × (held ≡ 0)) → depth ≡ held → 0 < depth → unknown ≡ false
known true held depth free is some = let none = (free refl).1 in absurd (omega arith)
known false held depth free is some = refl

pub invariant_of-self : goal.invariant_of-self
invariant_of-self g c = record {
  few_kinds = c.args.self.now.few_kinds;
  few_threads = c.args.self.now.few_threads;
  few_locks = rw index_map_len-with_value_at c.args.self.now.few_locks;
  few_objects = c.args.self.now.few_objects;
}

pub returns : goal.returns
returns g c = (
  (c.in-Some.ensures.named refl, c.in-Some-lock.ensures.named refl),
  λ kinds lines stands.
      let told = c.in-Ok.ensures.ok c.args.thread.now c.args.lock.now c.in-Some.ensures.found c.in-Some-lock.ensures.found kinds lines stands in (
        told.0,
        told.1,
        released_known kinds c.args.limits.now c.args.self.now _ lines stands refl refl refl refl refl refl c.args.thread.now c.args.lock.now c.in-Some.actor.number
            c.in-Some-lock.found c.in-Some-lock.ensures.found (c.in-Some-lock.ensures.within (known _ _ _ c.in-Some-lock.ensures.new c.in-Ok.ensures.depth c.in-Ok.ensures.held)) c.in-Ok.depth c.in-Ok.ensures.depth c.in-Ok.ensures.own told refl c.in-Ok.ensures.held,
      ),
)
