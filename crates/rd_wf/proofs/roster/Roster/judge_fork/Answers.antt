use Rattle.std.proofs.Common.{sym, ◌∙◌}
use Rattle.rd_event.specs.declared.events.Event.TheVariants as numbered
use Rattle.rd_rules.specs.declared.causes.Accepted.TheVariants as accepted
use Rattle.rd_rules.specs.MayFollow.{accepted_of}
use Rattle.rd_wf.proofs.RosterLemmas.{fork_judged}
use Rattle.rd_wf.proofs.roster.Roster.judge_fork.Goals as goal

pub returns-in-Some-clause-err : goal.returns-in-Some-clause-err
returns-in-Some-clause-err c = λ thread acts kinds lines stands.
    fork_judged kinds c.args.self.now lines stands _ c.is_none.ensures c.args.limits.now thread c.args.child.now _ _ _ (acts kinds lines stands) c.contains_key.ensures c.len-new.ensures.len ∙ sym (c.in-Some.ensures.first lines tt)

pub returns-clause-ok : goal.returns-clause-ok
unfolding accepted_of
returns-clause-ok c = λ thread acts kinds lines stands. (
  fork_judged kinds c.args.self.now lines stands _ c.is_none.ensures c.args.limits.now thread c.args.child.now _ _ _ (acts kinds lines stands) c.contains_key.ensures c.len-new.ensures.len ∙ sym (c.in_default.ensures.first lines tt),
  λ i. accepted.Event (numbered.Fork (acts kinds lines stands i).number ((c.len-new.ensures.len ∙ stands.thread_total) i)),
)
