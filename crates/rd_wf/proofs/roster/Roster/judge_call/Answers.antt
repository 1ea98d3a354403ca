use Rattle.std.proofs.Common.{sym, ◌∙◌}
use Rattle.rd_event.specs.declared.events.Call.{Call as CallOf}
use Rattle.rd_event.specs.declared.events.Event.TheVariants as numbered
use Rattle.rd_rules.specs.declared.causes.Accepted.TheVariants as accepted
use Rattle.rd_rules.specs.MayFollow.{accepted_of}
use Rattle.rd_wf.proofs.RosterLemmas.{call_judged, called_method}
use Rattle.rd_wf.proofs.roster.Roster.judge_call.Goals as goal

pub returns-in-Some-clause-err : goal.returns-in-Some-clause-err
returns-in-Some-clause-err c = λ thread called named slots acts declared finds counts kinds lines stands.
    call_judged kinds c.args.self.now lines stands _ c.is_none.ensures c.args.limits.now thread called named slots _ _ _ c.args.count _ (acts kinds lines stands)
    (declared kinds lines stands) (finds kinds lines stands) counts c.from.ensures
    ∙ sym (c.in-Some.ensures.first lines tt)

pub returns-clause-ok : goal.returns-clause-ok
unfolding accepted_of
returns-clause-ok c = λ thread called named slots acts declared finds counts kinds lines stands.
    let actor = acts kinds lines stands in
    let object = declared kinds lines stands in
    let method = called_method kinds c.args.self.now lines stands called named _ _ object (finds kinds lines stands) in (
      call_judged kinds c.args.self.now lines stands _ c.is_none.ensures c.args.limits.now thread called named slots _ _ _ c.args.count _ actor
          object (finds kinds lines stands) counts c.from.ensures
          ∙ sym (c.in_default.ensures.first lines tt),
      λ i. accepted.Event (numbered.Call (let n : CallOf = record { thread = (actor i).number; object = (object i).number; kind = (object i).kind; method = (method i).number; slots = slots } in n)),
    )
