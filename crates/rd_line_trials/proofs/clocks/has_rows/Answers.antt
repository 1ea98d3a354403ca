use Rattle.std.proofs.Common.{◌<◌, length, arith, take}
use Rattle.rd_line_trials.proofs.TrackerLemmas.{took_more, took_next}
use Rattle.rd_line_trials.proofs.clocks.has_rows.Goals as goal

pub loop-i-preserved : goal.loop-i-preserved
loop-i-preserved g c = λ roots may.
    let took = c.loop-i.invariant roots may in
    let inside : c.loop-i.i < length c.args.events.now = omega arith in
    took_more c.loop-i.tracker c.event.new.self roots c.args.events.now c.loop-i.i c.index-events-i.result inside c.index-events-i.is took
    (c.in_ok-stamp.ensures.stands roots (take c.loop-i.i c.args.events.now)
    (took_next c.loop-i.tracker roots c.args.events.now c.loop-i.i c.index-events-i.result may.formed inside c.index-events-i.is took))
    c.in_ok-stamp.ensures.count

pub event-requires : goal.event-requires
event-requires g c =
    let inside : c.loop-i.i < length c.args.events.now = omega arith in
    record {
      next = (
        c.requires.0,
        take c.loop-i.i c.args.events.now,
        took_next c.loop-i.tracker c.requires.0 c.args.events.now c.loop-i.i c.index-events-i.result c.requires.1.formed inside c.index-events-i.is
            (c.loop-i.invariant c.requires.0 c.requires.1),
      );
    }
