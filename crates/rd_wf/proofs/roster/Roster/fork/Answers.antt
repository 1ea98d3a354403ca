use Rattle.rd_base.specs.Names.{IsName}
use Rattle.std.proofs.Common.{subst, sym, false, refl, ◌∙◌}
use Rattle.rd_rules.proofs.FollowLemmas.{fresh_child}
use Rattle.rd_wf.proofs.RosterLemmas.{inserted_thread}
use Rattle.rd_wf.proofs.NextLemmas.{after_fork}
use Rattle.rd_wf.proofs.roster.Roster.fork.Goals as goal

pub returns : goal.returns
returns c = rw (sym c.in-Ok.ensures.value) (
  (c.in-Some.ensures.named refl, subst IsName (sym c.in-Ok.ensures.value) (c.in-Ok.ensures.variant.0 refl)),
  λ kinds lines stands.
      let permitted = c.in-Ok-judge_fork.ensures.ok c.args.thread.now c.in-Some.ensures.found kinds lines stands in
      let fresh = fresh_child kinds c.args.limits.now lines c.args.thread.now c.in-Ok.child permitted.0 in (
        permitted.0,
        permitted.1,
        after_fork kinds c.args.self.now _ lines stands refl refl refl c.args.thread.now c.in-Ok.child fresh refl refl
            (c.in_ok-insert.ensures.entries ∙ inserted_thread kinds c.args.self.now lines stands c.in-Ok.child false fresh) refl,
      ),
)
