use Rattle.std.proofs.Common.{sym, ◌∙◌}
use Rattle.rd_event.specs.declared.events.Event.TheVariants as numbered
use Rattle.rd_rules.specs.declared.causes.Accepted.TheVariants as accepted
use Rattle.rd_rules.specs.MayFollow.{accepted_of}
use Rattle.rd_wf.proofs.RosterLemmas.{acquire_judged, against_within}
use Rattle.rd_wf.proofs.roster.Roster.judge_acquire.Goals as goal

pub returns-in-Some-clause-err : goal.returns-in-Some-clause-err
returns-in-Some-clause-err c = λ thread lock acts is kinds lines stands.
    acquire_judged kinds c.args.self.now lines stands _ c.is_none.ensures c.args.limits.now thread lock c.args.actor c.args.found _ _ (acts kinds lines stands)
    (is.numbers kinds lines stands) is.lock c.least_other.ensures.least c.depth_of-depth.ensures
    ∙ sym (c.in-Some.ensures.first lines (against_within kinds c.args.self.now lines stands lock c.args.found _ _ is.lock c.least_other.ensures.least))

pub returns-clause-ok : goal.returns-clause-ok
unfolding accepted_of
returns-clause-ok c = λ thread lock acts is kinds lines stands. (
  acquire_judged kinds c.args.self.now lines stands _ c.is_none.ensures c.args.limits.now thread lock c.args.actor c.args.found _ _ (acts kinds lines stands)
      (is.numbers kinds lines stands) is.lock c.least_other.ensures.least c.depth_of-depth.ensures
      ∙ sym (c.in_default.ensures.first lines (against_within kinds c.args.self.now lines stands lock c.args.found _ _ is.lock c.least_other.ensures.least)),
  λ i. accepted.Event (numbered.Acquire (acts kinds lines stands i).number ((is.numbers kinds lines stands).0 i)),
)
