use Rattle.std.proofs.Common.{◌≡◌, true, refl, ap}
use Rattle.indexmap.specs.Layout.{set_value_at}
use Rattle.indexmap.proofs.CallerLemmas.{index_map_len-with_value_at}
use Rattle.rd_rules.specs.MayFollow.{place, threads_of, accepted_of}
use Rattle.rd_rules.proofs.FollowLemmas.{known_child}
use Rattle.rd_wf.proofs.NextLemmas.{after_join}
use Rattle.rd_wf.proofs.roster.Roster.join.Goals as goal

pub invariant_of-self : goal.invariant_of-self
invariant_of-self g c = record {
  few_kinds = c.args.self.now.few_kinds;
  few_threads = rw index_map_len-with_value_at c.args.self.now.few_threads;
  few_locks = c.args.self.now.few_locks;
  few_objects = c.args.self.now.few_objects;
}

pub returns : goal.returns
unfolding accepted_of
returns g c = (
  (c.in-Some.ensures.named refl, c.in-Some-thread.ensures.named refl),
  λ kinds lines stands.
      let permitted = c.in_default-judge_join.ensures.ok c.args.thread.now c.args.child.now c.in-Some.ensures.found c.in-Some-thread.ensures.found kinds lines stands in
      let known = known_child kinds c.args.limits.now lines c.args.thread.now c.args.child.now permitted.0 in
      let number : c.in-Some-thread.awaited.number ≡ place (threads_of lines) c.args.child.now = cc permitted.1 in (
        permitted.0,
        permitted.1,
        after_join kinds c.args.self.now _ lines stands refl refl refl c.args.thread.now c.args.child.now known refl refl
            (ap (λ i. set_value_at c.args.self.now.threads.entries i true) number) refl,
      ),
)
