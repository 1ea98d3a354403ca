use Rattle.std.proofs.Common.{subst, sym, take}
use Rattle.rd_epoch.proofs.TestLemmas.{IsRunning, begins, next_row, row_taken}
use Rattle.rd_epoch.proofs.epochs.tests.are_told.Goals as goal

pub loop-i-init : goal.loop-i-init
loop-i-init g c = λ roots may.
    subst (λ held. IsRunning c.args.tracker.now held roots 0 c.args.events.now) (sym c.new-epochs.ensures.empty) (begins c.args.tracker.now roots c.args.events.now may)

pub told-requires : goal.told-requires
told-requires g c = (
  c.requires.0,
  take c.loop-i.i c.args.events.now,
  next_row c.loop-i.tracker c.loop-i.epochs c.requires.0 c.args.events.now c.loop-i.i c.index-events-i.result c.loop-i-test.true c.index-events-i.is
      (c.loop-i.invariant c.requires.0 c.requires.1) c.requires.1.formed,
)

pub loop-i-preserved : goal.loop-i-preserved
loop-i-preserved g c = λ roots may.
    let running = c.loop-i.invariant roots may in
    row_taken c.loop-i.tracker c.loop-i.epochs roots c.args.events.now c.loop-i.i c.index-events-i.result c.loop-i-test.true c.index-events-i.is
    running c.told.new.tracker c.told.new.epochs
    (c.told.ensures.run roots (take c.loop-i.i c.args.events.now)
    (next_row c.loop-i.tracker c.loop-i.epochs roots c.args.events.now c.loop-i.i c.index-events-i.result c.loop-i-test.true c.index-events-i.is running may.formed))
    c.told.ensures.count
