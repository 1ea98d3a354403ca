use Rattle.std.proofs.Common.{[], ◌∷◌, ap, arith, length}
use Rattle.rd_base.specs.declared.values.Value.TheVariants.{Nil}
use Rattle.rd_hb.specs.Tracker.{last_stamp}
use Rattle.rd_epoch.proofs.TestLemmas.{access_row, if_ok, known_row, on_ok, quiet_row, stamp_row, taken_row}
use Rattle.rd_epoch.proofs.epochs.tests.told.Goals as goal

pub returns-in_default : goal.returns-in_default
returns-in_default g c = record {
  run = λ roots es row. quiet_row c.args.tracker.now c.args.epochs.now roots es c.args.place c.args.event.now row c.pass.new.self c.in_default.not-Call
      (on_ok c.pass.result c.expect.result c.expect.ensures c.pass.ensures.stands roots es row.next);
  count = on_ok c.pass.result c.expect.result c.expect.ensures c.pass.ensures.count;
}

pub follow-requires : goal.follow-requires
follow-requires g c =
    let roots = c.requires.0 in
    let es = c.requires.1 in
    let row = c.requires.2 in
    let next = access_row c.args.tracker.now c.args.epochs.now roots es c.args.place c.args.event.now row c.in-Call.call c.in-Call.is
    (last_stamp c.pass-then-lent.new.self.threads c.in-Call.call.thread)
    (stamp_row c.args.tracker.now c.args.epochs.now roots es c.args.place c.args.event.now row c.in-Call.call c.in-Call.is c.pass-then-lent.new.self
    (on_ok c.pass-then-lent.result c.expect-then-lent.result c.expect-then-lent.ensures c.pass-then-lent.ensures.stamp roots es row.next))
    (omega (arith, c.len.ensures, ap length c.epochs.view_is)) in
    record {
      known = known_row c.args.tracker.now c.args.epochs.now roots es c.args.place c.args.event.now row c.in-Call.call c.in-Call.is c.pass-then-lent.new.self
          (on_ok c.pass-then-lent.result c.expect-then-lent.result c.expect-then-lent.ensures c.pass-then-lent.ensures.count);
      next = (roots, row.run.lines, es, Nil ∷ [], next, λ k e line at taught is. let below = next.line k line is in omega arith);
    }

pub returns-then-lent-clause-run : goal.returns-then-lent-clause-run
returns-then-lent-clause-run g c = λ roots es row.
    let stamped = stamp_row c.args.tracker.now c.args.epochs.now roots es c.args.place c.args.event.now row c.in-Call.call c.in-Call.is c.pass-then-lent.new.self
    (on_ok c.pass-then-lent.result c.expect-then-lent.result c.expect-then-lent.ensures c.pass-then-lent.ensures.stamp roots es row.next) in
    taken_row c.args.tracker.now c.args.epochs.now roots es c.args.place c.args.event.now row c.in-Call.call c.in-Call.is
    (last_stamp c.pass-then-lent.new.self.threads c.in-Call.call.thread) stamped c.pass-then-lent.new.self c.follow.new.self
    (on_ok c.pass-then-lent.result c.expect-then-lent.result c.expect-then-lent.ensures c.pass-then-lent.ensures.stands roots es row.next)
    (on_ok c.follow.result c.expect-then-lent-2.result c.expect-then-lent-2.ensures c.follow.ensures.stands roots row.run.lines es (Nil ∷ [])
    (access_row c.args.tracker.now c.args.epochs.now roots es c.args.place c.args.event.now row c.in-Call.call c.in-Call.is
    (last_stamp c.pass-then-lent.new.self.threads c.in-Call.call.thread) stamped (omega (arith, c.len.ensures, ap length c.epochs.view_is))))

pub access-requires : goal.access-requires
access-requires g c =
    let roots = c.requires.0 in
    let es = c.requires.1 in
    let row = c.requires.2 in
    record {
      next = (
        roots,
        row.run.lines,
        es,
        Nil ∷ [],
        access_row c.args.tracker.now c.args.epochs.now roots es c.args.place c.args.event.now row c.in-Call.call c.in-Call.is c.expect-stamp.result
            (if_ok _ c.event.result c.expect-stamp.result c.expect-stamp.ensures c.event.ensures.stamp roots es row.next) (omega (arith, c.len.ensures, ap length c.epochs.view_is)),
      );
    }

pub returns-clause-run : goal.returns-clause-run
returns-clause-run g c = λ roots es row.
    let stamped = if_ok _ c.event.result c.expect-stamp.result c.expect-stamp.ensures c.event.ensures.stamp roots es row.next in
    taken_row c.args.tracker.now c.args.epochs.now roots es c.args.place c.args.event.now row c.in-Call.call c.in-Call.is c.expect-stamp.result stamped
    c.event.new.self c.access.new.self (on_ok c.event.result c.expect-stamp.result c.expect-stamp.ensures c.event.ensures.stands roots es row.next)
    (on_ok c.access.result c.expect-2.result c.expect-2.ensures c.access.ensures.stands roots row.run.lines es (Nil ∷ [])
    (access_row c.args.tracker.now c.args.epochs.now roots es c.args.place c.args.event.now row c.in-Call.call c.in-Call.is c.expect-stamp.result stamped (omega (arith, c.len.ensures, ap length c.epochs.view_is))))
