use Rattle.std.proofs.Common.{sym, ◌∙◌}
use Rattle.rd_event.specs.declared.events.Event.TheVariants as numbered
use Rattle.rd_rules.specs.declared.causes.Accepted.TheVariants as accepted
use Rattle.rd_rules.specs.MayFollow.{accepted_of}
use Rattle.rd_wf.proofs.RosterLemmas.{share_judged, holder_within}
use Rattle.rd_wf.proofs.roster.Roster.judge_share.Goals as goal

pub returns-in-Some-clause-err : goal.returns-in-Some-clause-err
returns-in-Some-clause-err c = λ thread lock acts is kinds lines stands.
    share_judged kinds c.args.self.now lines stands _ c.is_none.ensures c.args.limits.now thread lock c.args.actor c.args.found _ _ (acts kinds lines stands)
    (is.numbers kinds lines stands) is.lock c.held_by_other.ensures c.depth_of-shared.ensures
    ∙ sym (c.in-Some.ensures.first lines (holder_within kinds c.args.self.now lines stands lock _ _ _ is.lock c.held_by_other.ensures))

pub returns-clause-ok : goal.returns-clause-ok
unfolding accepted_of
returns-clause-ok c = λ thread lock acts is kinds lines stands. (
  share_judged kinds c.args.self.now lines stands _ c.is_none.ensures c.args.limits.now thread lock c.args.actor c.args.found _ _ (acts kinds lines stands)
      (is.numbers kinds lines stands) is.lock c.held_by_other.ensures c.depth_of-shared.ensures
      ∙ sym (c.in_default.ensures.first lines (holder_within kinds c.args.self.now lines stands lock _ _ _ is.lock c.held_by_other.ensures)),
  λ i. accepted.Event (numbered.Share (acts kinds lines stands i).number ((is.numbers kinds lines stands).0 i)),
)
