use Rattle.std.proofs.Common.{sym, ◌∙◌}
use Rattle.std.proofs.lemmas.Bool.{or_parts}
use Rattle.rd_event.specs.declared.events.Event.TheVariants as numbered
use Rattle.rd_rules.specs.declared.causes.Accepted.TheVariants as accepted
use Rattle.rd_rules.specs.MayFollow.{accepted_of}
use Rattle.rd_wf.proofs.RosterLemmas.{join_judged}
use Rattle.rd_wf.proofs.roster.Roster.judge_join.Goals as goal

pub returns-in-Some-clause-err : goal.returns-in-Some-clause-err
returns-in-Some-clause-err c = λ thread child acts waits kinds lines stands.
    join_judged kinds c.args.self.now lines stands _ c.is_none.ensures c.args.limits.now thread child _ _ (acts kinds lines stands) (waits kinds lines stands)
    ∙ sym (c.in-Some.ensures.first lines tt)

pub returns-clause-ok : goal.returns-clause-ok
unfolding accepted_of
returns-clause-ok c = λ thread child acts waits kinds lines stands. (
  join_judged kinds c.args.self.now lines stands _ c.is_none.ensures c.args.limits.now thread child _ _ (acts kinds lines stands) (waits kinds lines stands)
      ∙ sym (c.in_default.ensures.first lines tt),
  λ i. accepted.Event (numbered.Join (acts kinds lines stands i).number (waits kinds lines stands i).number),
)

pub returns-clause-known : goal.returns-clause-known
returns-clause-known c = (or_parts _ _ c.in_default.ensures.known).1
