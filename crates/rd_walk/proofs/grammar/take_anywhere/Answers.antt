use Rattle.std.proofs.Common.{inl, inr, refl, ap, subst, ◌∙◌, Err}
use Rattle.std.specs.Prelude.{⊤}
use Rattle.std.proofs.lemmas.Option.{same_Some}
use Rattle.rd_event.proofs.ReadingLemmas.{found_said}
use Rattle.rd_walk.specs.Walk.{items}
use Rattle.rd_walk.proofs.TakingLemmas.{still}
use Rattle.rd_walk.proofs.WalkLemmas.{judged_as, judged_bad, judged_broken, next_as}
use Rattle.rd_wf.specs.Roster.{TakesBytes}
use Rattle.rd_walk.proofs.grammar.take_anywhere.Goals as goal

pub accept-requires : goal.accept-requires
accept-requires g c =
    let (kinds, start, before, stands, leads, behind) = c.requires.stands in
    let (item, is) = c.in-Ok.ensures kinds (items before) stands in
    (kinds, start, before, item, leads, next_as kinds c.args.walker.now.limits before c.args.number c.args.bytes.now item c.in-Ok.accepted c.accept_bytes.new.self c.requires.usable behind is)

pub returns-in_default-clause-line : goal.returns-in_default-clause-line
returns-in_default-clause-line g c = record {
  taken = λ _ kinds start before stands leads behind.
      let limits = c.args.walker.now.limits in
      let (item, is) = c.in-Ok.ensures kinds (items before) stands in
      let next = next_as kinds limits before c.args.number c.args.bytes.now item c.in-Ok.accepted c.accept_bytes.new.self c.requires.usable behind is in (
        item,
        judged_as kinds limits (items before) c.args.bytes.now item c.in-Ok.accepted c.accept_bytes.new.self is,
        record {
          stands = is.stands;
          leads = c.in_default.ensures.leads kinds start before item leads next (g.met.A.Analysis.said _ c.args.bytes.now item (found_said _ c.args.bytes.now item is.says).1);
          written = c.in_default.ensures.written kinds start before item leads next;
          cost = c.in_default.ensures.cost kinds start before item leads next;
        },
      );
  cause = λ is. cc;
  refused = λ is. cc;
  silent = λ is. cc;
  memory = λ is. cc;
  halted = tt;
}

pub returns-in-Err-clause-line : goal.returns-in-Err-clause-line
returns-in-Err-clause-line g c = record {
  taken = λ is. cc;
  cause = λ is. cc;
  refused = λ is. cc;
  silent = λ is. cc;
  memory = λ _ kinds before stands. let (item, is) = c.in-Ok.ensures kinds before stands in (item, is.says, inr is.follows);
  halted = λ kinds start before stands leads behind.
      let limits = c.args.walker.now.limits in
      let (item, is) = c.in-Ok.ensures kinds (items before) stands in
      let next = next_as kinds limits before c.args.number c.args.bytes.now item c.in-Ok.accepted c.accept_bytes.new.self c.requires.usable behind is in
      inr (
        item,
        judged_as kinds limits (items before) c.args.bytes.now item c.in-Ok.accepted c.accept_bytes.new.self is,
        record {
          written = c.in-Err.ensures.halted kinds start before item leads next;
          cost = c.in-Err.ensures.cost kinds start before item leads next;
        },
      );
}

pub returns-in-Err-BadLine-clause-line : goal.returns-in-Err-BadLine-clause-line
returns-in-Err-BadLine-clause-line g c = record {
  taken = λ is. cc;
  cause = λ _. refl;
  refused = λ _ cause told kinds before stands.
      let limits = c.args.walker.now.limits in
      let taken = subst (λ e. TakesBytes ⊤ kinds limits (items before) c.args.bytes.now c.args.walker.now.roster c.accept_bytes.new.self (Err e)) c.in-Err-BadLine.field-0-is
      (c.in-Err-BadLine.ensures kinds (items before) stands) in (
        judged_bad kinds limits (items before) c.args.bytes.now (taken.0 tt) ∙ ap Err (same_Some _ _ told),
        still ⊤ kinds limits (items before) c.args.bytes.now c.args.walker.now.roster c.accept_bytes.new.self c.in-Err-BadLine.field-0 (c.in-Err-BadLine.ensures kinds (items before) stands) stands,
      );
  silent = λ _. (refl, refl);
  memory = λ is. cc;
  halted = tt;
}

pub returns-in-Err-Cause-clause-line : goal.returns-in-Err-Cause-clause-line
returns-in-Err-Cause-clause-line g c = record {
  taken = λ is. cc;
  cause = λ _. refl;
  refused = λ _ cause told kinds before stands.
      let limits = c.args.walker.now.limits in
      let (item, says, broken, same) = subst (λ e. TakesBytes ⊤ kinds limits (items before) c.args.bytes.now c.args.walker.now.roster c.accept_bytes.new.self (Err e)) c.in-Err-Cause.field-0-is
      (c.in-Err-Cause.ensures kinds (items before) stands) in (
        judged_broken kinds limits (items before) c.args.bytes.now item c.in-Err-Cause.cause says broken ∙ ap Err (same_Some _ _ told),
        still ⊤ kinds limits (items before) c.args.bytes.now c.args.walker.now.roster c.accept_bytes.new.self c.in-Err-Cause.field-0 (c.in-Err-Cause.ensures kinds (items before) stands) stands,
      );
  silent = λ _. (refl, refl);
  memory = λ is. cc;
  halted = tt;
}

pub returns-in-Err-NoMemory-clause-line : goal.returns-in-Err-NoMemory-clause-line
returns-in-Err-NoMemory-clause-line g c = record {
  taken = λ is. cc;
  cause = λ is. cc;
  refused = λ is. cc;
  silent = λ is. cc;
  memory = λ _ kinds before stands.
      let limits = c.args.walker.now.limits in
      let (item, says, either, stays) = subst (λ e. TakesBytes ⊤ kinds limits before c.args.bytes.now c.args.walker.now.roster c.accept_bytes.new.self (Err e)) c.in-Err-NoMemory.field-0-is
      (c.in-Err-NoMemory.ensures kinds before stands) in (item, says, either);
  halted = λ kinds start before stands leads behind. inl (refl, refl);
}
