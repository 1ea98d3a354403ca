use Rattle.std.proofs.Common.{sym, ap, ◌∙◌}
use Rattle.rd_rules.specs.declared.causes.Accepted.TheVariants as accepted
use Rattle.rd_rules.specs.MayFollow.{accepted_of}
use Rattle.rd_wf.proofs.RosterLemmas.{root_judged}
use Rattle.rd_wf.proofs.roster.Roster.judge_root.Goals as goal

pub returns-in-Some-clause-err : goal.returns-in-Some-clause-err
returns-in-Some-clause-err c = λ kinds lines stands.
    root_judged kinds c.args.self.now lines stands _ c.is_none.ensures c.args.limits.now c.args.name.now _ _ c.contains_key.ensures c.len-thread.ensures.len ∙ sym (c.in-Some.ensures.first lines tt)

pub returns-clause-ok : goal.returns-clause-ok
unfolding accepted_of
returns-clause-ok c = λ kinds lines stands. (
  root_judged kinds c.args.self.now lines stands _ c.is_none.ensures c.args.limits.now c.args.name.now _ _ c.contains_key.ensures c.len-thread.ensures.len ∙ sym (c.in_default.ensures.first lines tt),
  ap accepted.Root (c.len-thread.ensures.len ∙ stands.thread_total),
)
