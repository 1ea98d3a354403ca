use Rattle.std.proofs.Common.{inr, refl}
use Rattle.rd_event.proofs.ReadingLemmas.{found_said}
use Rattle.rd_walk.specs.Walk.{items}
use Rattle.rd_walk.proofs.TakingLemmas.{still, taken_later}
use Rattle.rd_walk.proofs.WalkLemmas.{judged_as, next_as}
use Rattle.rd_walk.proofs.grammar.take_keyword.Goals as goal

pub accept-requires : goal.accept-requires
accept-requires g c =
    let (kinds, start, before, stands, leads, behind) = c.requires.stands in
    let (item, is) = c.in-Ok.ensures kinds (items before) stands in
    (kinds, start, before, item, leads, next_as kinds c.args.walker.now.limits before c.args.number c.args.bytes.now item c.in-Ok.accepted c.accept_bytes.new.roster c.requires.usable behind is)

pub take_anywhere-requires-clause-stands : goal.take_anywhere-requires-clause-stands
take_anywhere-requires-clause-stands g c =
    let (kinds, start, before, stands, leads, behind) = c.requires.stands in (
      kinds,
      start,
      before,
      still _ kinds c.args.walker.now.limits (items before) c.args.bytes.now c.args.walker.now.roster c.accept_bytes.new.roster c.in_default.field-0
          (c.in_default.ensures kinds (items before) stands) stands,
      leads,
      behind,
    )

pub returns-in_default-clause-line : goal.returns-in_default-clause-line
returns-in_default-clause-line g c =
    taken_later _ _ _ _ _ c.args.walker.now _ c.take_anywhere.new.walker _ _ _ _ c.take_anywhere.result
    (λ kinds lines stands. still _ kinds c.args.walker.now.limits lines c.args.bytes.now c.args.walker.now.roster c.accept_bytes.new.roster c.in_default.field-0
    (c.in_default.ensures kinds lines stands) stands) refl refl c.take_anywhere.ensures.line

pub returns-in-Ok-accept-clause-line : goal.returns-in-Ok-accept-clause-line
returns-in-Ok-accept-clause-line g c = record {
  taken = λ _ kinds start before stands leads behind.
      let limits = c.args.walker.now.limits in
      let (item, is) = c.in-Ok.ensures kinds (items before) stands in
      let next = next_as kinds limits before c.args.number c.args.bytes.now item c.in-Ok.accepted c.accept_bytes.new.roster c.requires.usable behind is in (
        item,
        judged_as kinds limits (items before) c.args.bytes.now item c.in-Ok.accepted c.accept_bytes.new.roster is,
        record {
          stands = is.stands;
          leads = c.in-Ok-accept.ensures.leads kinds start before item leads next (g.met.A.Analysis.said _ c.args.bytes.now item (found_said _ c.args.bytes.now item is.says).1);
          written = c.in-Ok-accept.ensures.written kinds start before item leads next;
          cost = c.in-Ok-accept.ensures.cost kinds start before item leads next;
        },
      );
  cause = λ is. cc;
  refused = λ is. cc;
  silent = λ is. cc;
  memory = λ is. cc;
  halted = tt;
}

pub returns-clause-line : goal.returns-clause-line
returns-clause-line g c = record {
  taken = λ is. cc;
  cause = λ is. cc;
  refused = λ is. cc;
  silent = λ is. cc;
  memory = λ _ kinds before stands. let (item, is) = c.in-Ok.ensures kinds before stands in (item, is.says, inr is.follows);
  halted = λ kinds start before stands leads behind.
      let limits = c.args.walker.now.limits in
      let (item, is) = c.in-Ok.ensures kinds (items before) stands in
      let next = next_as kinds limits before c.args.number c.args.bytes.now item c.in-Ok.accepted c.accept_bytes.new.roster c.requires.usable behind is in
      inr (
        item,
        judged_as kinds limits (items before) c.args.bytes.now item c.in-Ok.accepted c.accept_bytes.new.roster is,
        record {
          written = c.in-Err.ensures.halted kinds start before item leads next;
          cost = c.in-Err.ensures.cost kinds start before item leads next;
        },
      );
}
