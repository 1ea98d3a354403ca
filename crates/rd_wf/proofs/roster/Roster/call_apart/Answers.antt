use Rattle.std.proofs.Common.{◌++◌, ◌∷◌, [], length, refl, sym, ap, subst, ◌∙◌}
use Rattle.rd_event.specs.declared.events.Call.{Call as CallOf}
use Rattle.rd_event.specs.declared.events.Event.TheVariants as numbered
use Rattle.rd_event.specs.declared.items.Line.TheVariants.{Event}
use Rattle.rd_event.specs.declared.items.LineEvent.TheVariants.{Call}
use Rattle.rd_rules.specs.declared.causes.Accepted.TheVariants as accepted
use Rattle.rd_wf.specs.Roster.{RosterStandsFor}
use Rattle.rd_wf.proofs.roster.Roster.call_apart.Goals as goal

pub returns-in_default : goal.returns-in_default
returns-in_default g c = (c.in_default.ensures.none, refl)

pub returns-in-Err : goal.returns-in-Err
returns-in-Err g c =
    let found = c.in-Some.ensures in (
      found.named refl,
      (c.in-Err.ensures.err c.args.thread.now c.args.object.now c.args.method.now c.args.slots.now found.thread found.object found.method (ap length (sym c.items-count.ensures)), refl),
    )

pub returns : goal.returns
returns g c =
    let found = c.in-Some.ensures in (
      found.named refl,
      λ kinds lines stands.
          let told = c.in_default-judge_call.ensures.ok c.args.thread.now c.args.object.now c.args.method.now c.args.slots.now found.thread found.object found.method
          (ap length (sym c.items-count.ensures)) kinds lines stands in (
            told.0,
            c.count_call.ensures.numbers
                ∙ (λ i. accepted.Event (numbered.Call (let n : CallOf = record {
                  thread = c.in-Some.called.actor.number;
                  object = c.in-Some.called.object.number;
                  kind = c.in-Some.called.object.kind;
                  method = c.in-Some.called.method.number;
                  slots = c.in_ok-slots.ensures.value i;
                } in n)))
                ∙ told.1,
            subst (λ slots. RosterStandsFor kinds c.count_call.new.self (lines ++ Event (Call c.args.thread.now c.args.object.now c.args.method.now slots) ∷ [])) c.in_ok-slots.ensures.value
                (c.count_call.ensures.stands kinds lines c.args.thread.now c.args.object.now c.args.method.now stands),
          ),
    )
