use Rattle.std.proofs.Common.{inr, subst, sym}
use Rattle.rd_epochs_command.proofs.ItemLemmas.{judged_next}
use Rattle.rd_walk.specs.Walk.{items}
use Rattle.rd_epochs_command.proofs.lines.hand_on.Goals as goal

pub accept-requires : goal.accept-requires
accept-requires g c =
    let (old, item, was, kinds, start, before, stands, leads, behind) = c.requires.next in (
      kinds,
      start,
      before,
      item,
      subst (g.A.Analysis.leads kinds start before) (sym was.analysis) leads,
      judged_next old c.args.walker.now item c.args.accepted.now was c.requires.usable kinds c.args.number before stands behind,
    )

pub returns-in-Ok-clause-item : goal.returns-in-Ok-clause-item
returns-in-Ok-clause-item g c = λ old item was. record {
  taken = λ _ kinds start before stands leads behind.
      let next = judged_next old c.args.walker.now item c.args.accepted.now was c.requires.usable kinds c.args.number before stands behind in
      let led = subst (g.A.Analysis.leads kinds start before) (sym was.analysis) leads in (
        (was.judged.1 kinds (items before) stands).0,
        record {
          stands = next.stands;
          leads = c.in-Ok.ensures.leads kinds start before item led next (c.requires.asks item);
          written = c.in-Ok.ensures.written kinds start before item led next;
          cost = c.in-Ok.ensures.cost kinds start before item led next;
        },
      );
  cause = λ is. cc;
  refused = λ is. cc;
  silent = λ is. cc;
  halted = tt;
}

pub returns-in-Err-clause-item : goal.returns-in-Err-clause-item
returns-in-Err-clause-item g c = λ old item was. record {
  taken = λ is. cc;
  cause = λ is. cc;
  refused = λ is. cc;
  silent = λ is. cc;
  halted = λ kinds start before stands leads behind.
      let next = judged_next old c.args.walker.now item c.args.accepted.now was c.requires.usable kinds c.args.number before stands behind in
      let led = subst (g.A.Analysis.leads kinds start before) (sym was.analysis) leads in
      inr (
        (was.judged.1 kinds (items before) stands).0,
        record {
          written = c.in-Err.ensures.halted kinds start before item led next;
          cost = c.in-Err.ensures.cost kinds start before item led next;
        },
      );
}
