use Rattle.std.proofs.Common.{◌∷◌, [], ◌++◌, subst, sym}
use Rattle.rd_detect.specs.Detect.{DetectorStandsFor}
use Rattle.rd_detect_trials.proofs.CourseLemmas.{if_ok, next_call, next_event, on_ok}
use Rattle.rd_detect_trials.proofs.course.happen.Goals as goal

pub returns-in_default : goal.returns-in_default
returns-in_default g c = record {
  tracked = λ kinds roots numbers es next. on_ok c.pass.result c.expect.result c.expect.ensures c.pass.ensures.stands roots es
      (next_event kinds c.args.tracker.now c.args.detector.now roots numbers es c.args.place c.args.event.now next);
  detects = λ kinds roots numbers es next. c.law_of_detectors.ensures.events kinds c.args.detector.now roots numbers es c.args.line c.args.event.now c.in_default.not-Call
      next.formed next.detects;
  count = on_ok c.pass.result c.expect.result c.expect.ensures c.pass.ensures.count;
}

pub returns-clause-detects : goal.returns-clause-detects
returns-clause-detects g c = λ kinds roots numbers es next.
    let first = next_event kinds c.args.tracker.now c.args.detector.now roots numbers es c.args.place c.args.event.now next in
    let tracked = on_ok c.event.result c.expect-stamp.result c.expect-stamp.ensures c.event.ensures.stands roots es first in
    let stamped = if_ok _ c.event.result c.expect-stamp.result c.expect-stamp.ensures c.event.ensures.stamp roots es first in
    subst (λ x. DetectorStandsFor kinds c.call.new.self roots (numbers ++ c.args.line ∷ []) (es ++ x ∷ [])) (sym c.in-Call.is)
    (on_ok c.call.result c.expect-race.result c.expect-race.ensures c.call.ensures.stands kinds roots numbers es
    (next_call kinds c.args.tracker.now c.args.detector.now roots numbers es c.args.place c.args.event.now next c.in-Call.call c.in-Call.is c.event.new.self tracked
    c.expect-stamp.result stamped))
