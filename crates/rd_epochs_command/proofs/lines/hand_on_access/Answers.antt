use Rattle.std.proofs.Common.{[], ◌∷◌, ◌++◌, inr, refl, subst, sym, arith}
use Rattle.rd_base.specs.declared.values.Value.TheVariants.{Nil}
use Rattle.rd_epochs_command.proofs.ItemLemmas.{judged_next}
use Rattle.rd_epochs_command.proofs.QuietLemmas.{counted, ready}
use Rattle.rd_epochs_command.specs.Watching.{WatchLeads}
use Rattle.rd_event.specs.declared.events.Event.TheVariants as numbered
use Rattle.rd_rules.specs.declared.causes.Accepted.TheVariants as accepted
use Rattle.rd_walk.specs.Walk.{items}
use Rattle.rd_wf.specs.Roster.{call_with}
use Rattle.rd_epochs_command.proofs.lines.hand_on_access.Goals as goal

pub overflow_sub-place : goal.overflow_sub-place
overflow_sub-place g c =
    let (old, item, was, kinds, start, before, stands, leads, behind) = c.requires.next in
    let call = numbered.Call (call_with c.args.call (Nil ∷ [])) in
    let next = judged_next old c.args.walker.now item (accepted.Event call) was c.requires.usable kinds c.args.number before stands behind in
    omega (
      arith,
      counted kinds start c.args.walker.now.analysis before c.args.number item c.args.walker.now.roster (accepted.Event call) call refl (subst (WatchLeads kinds start before) (sym was.analysis) leads) next
          c.events-place.result (c.events-place.ensures kinds (items before ++ item ∷ []) next.stands),
    )

pub call-requires : goal.call-requires
call-requires g c =
    let (old, item, was, kinds, start, before, stands, leads, behind) = c.requires.next in
    let call = numbered.Call (call_with c.args.call (Nil ∷ [])) in
    let next = judged_next old c.args.walker.now item (accepted.Event call) was c.requires.usable kinds c.args.number before stands behind in (
      before,
      item,
      Nil ∷ [],
      ready kinds start c.args.walker.now.analysis before c.args.number item c.args.walker.now.roster (accepted.Event call) call refl (subst (WatchLeads kinds start before) (sym was.analysis) leads) next
          c.events-place.result (c.events-place.ensures kinds (items before ++ item ∷ []) next.stands),
    )

pub returns-in-Ok-clause-item : goal.returns-in-Ok-clause-item
returns-in-Ok-clause-item g c = λ old item was. record {
  taken = λ _ kinds start before stands leads behind.
      let call = numbered.Call (call_with c.args.call (Nil ∷ [])) in
      let next = judged_next old c.args.walker.now item (accepted.Event call) was c.requires.usable kinds c.args.number before stands behind in
      let led = subst (WatchLeads kinds start before) (sym was.analysis) leads in
      let at = ready kinds start c.args.walker.now.analysis before c.args.number item c.args.walker.now.roster (accepted.Event call) call refl led next
      c.events-place.result (c.events-place.ensures kinds (items before ++ item ∷ []) next.stands) in (
        (was.judged.1 kinds (items before) stands).0,
        record {
          stands = next.stands;
          leads = record { kinds_are = led.kinds_are; starts = led.starts; watches = c.in-Ok.ensures.watches before item (Nil ∷ []) at };
          written = c.in-Ok.ensures.written before item (Nil ∷ []) at;
          cost = c.in-Ok.ensures.cost before item (Nil ∷ []) at;
        },
      );
  cause = λ is. cc;
  refused = λ is. cc;
  silent = λ is. cc;
  halted = tt;
}

pub returns-in-Err-clause-item : goal.returns-in-Err-clause-item
returns-in-Err-clause-item g c = λ old item was. record {
  taken = λ is. cc;
  cause = λ is. cc;
  refused = λ is. cc;
  silent = λ is. cc;
  halted = λ kinds start before stands leads behind.
      let call = numbered.Call (call_with c.args.call (Nil ∷ [])) in
      let next = judged_next old c.args.walker.now item (accepted.Event call) was c.requires.usable kinds c.args.number before stands behind in
      let led = subst (WatchLeads kinds start before) (sym was.analysis) leads in
      let at = ready kinds start c.args.walker.now.analysis before c.args.number item c.args.walker.now.roster (accepted.Event call) call refl led next
      c.events-place.result (c.events-place.ensures kinds (items before ++ item ∷ []) next.stands) in
      inr (
        (was.judged.1 kinds (items before) stands).0,
        record {
          written = c.in-Err.ensures.halted before item (Nil ∷ []) at;
          cost = c.in-Err.ensures.cost before item (Nil ∷ []) at;
        },
      );
}
