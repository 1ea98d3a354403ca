use Rattle.std.proofs.Common.{[], ◌∷◌, Err, inl, refl, subst, sym, ◌∙◌}
use Rattle.std.proofs.lemmas.Option.{same_Some}
use Rattle.rd_base.specs.declared.values.Value.TheVariants.{Nil}
use Rattle.rd_epochs_command.specs.Lines.{WasJudged}
use Rattle.rd_rules.specs.declared.causes.TraceCause.TheVariants.{Wf}
use Rattle.rd_walk.specs.Walk.{items}
use Rattle.rd_wf.specs.Roster.{RosterStandsFor, with_values}
use Rattle.rd_epochs_command.proofs.lines.finish_access.Goals as goal

pub hand_on_access-requires-clause-next : goal.hand_on_access-requires-clause-next
hand_on_access-requires-clause-next g c =
    let (old, item, was, kinds, start, before, stands, leads, behind) = c.requires.next in
    (old, item, subst (λ j. WasJudged old c.args.walker.now item (with_values (Nil ∷ []) j)) c.in-Ok.is was, kinds, start, before, stands, leads, behind)

pub returns-in-Ok-clause-item : goal.returns-in-Ok-clause-item
returns-in-Ok-clause-item g c = λ old item was. c.hand_on_access.ensures.item old item (subst (λ j. WasJudged old c.args.walker.now item (with_values (Nil ∷ []) j)) c.in-Ok.is was)

pub returns-in-Cause-clause-item : goal.returns-in-Cause-clause-item
returns-in-Cause-clause-item g c = λ old item given.
    let was = subst (λ e. WasJudged old c.args.walker.now item (Err e)) c.in-Cause.is (subst (λ j. WasJudged old c.args.walker.now item (with_values (Nil ∷ []) j)) c.in-Err.is given) in
    let same = c.refuse.ensures.same in record {
      taken = λ is. (let other = sym c.refuse.ensures.refused ∙ is in cc);
      cause = λ _. rw c.refuse.ensures.cause refl;
      refused = λ _ cause told kinds before stands. (
        c.in-Cause.cause,
        same_Some cause (Wf c.in-Cause.cause) (sym told ∙ c.refuse.ensures.cause),
        was.judged.1.0 kinds (items before) stands,
        subst (λ roster. RosterStandsFor kinds roster (items before)) (sym (same.0 ∙ was.judged.1.1)) stands,
      );
      silent = λ _. (refl, same.1 ∙ was.analysis, refl);
      halted = rw c.refuse.ensures.refused tt;
    }

pub returns-in-NoMemory-clause-item : goal.returns-in-NoMemory-clause-item
returns-in-NoMemory-clause-item g c = λ old item was. record {
  taken = λ is. cc;
  cause = λ is. cc;
  refused = λ is. cc;
  silent = λ is. cc;
  halted = λ kinds start before stands leads behind. inl (refl, refl);
}
