use Rattle.rd_ecl.specs.Kinds.{kinds_of}
use Rattle.rd_rules.specs.Events.{events_of, roots_of}
use Rattle.rd_detect_trials.proofs.CourseLemmas.{on_ok}
use Rattle.rd_detect_trials.proofs.LineLemmas.{event_next, event_stands, quiet_stands, root_below, root_numbered, root_stands}
use Rattle.rd_detect_trials.proofs.course.follow.Goals as goal

pub root-requires-clause-numbered : goal.root-requires-clause-numbered
root-requires-clause-numbered g c =
    let (kinds, before, item, next) = c.requires in
    root_numbered kinds c.args.tracker.now c.args.detector.now before item c.args.accepted.now c.args.place next c.in-Root.thread c.in-Root.is

pub root-requires-clause-below : goal.root-requires-clause-below
root-requires-clause-below g c =
    let (kinds, before, item, next) = c.requires in
    root_below kinds c.args.tracker.now c.args.detector.now before item c.args.accepted.now c.args.place next c.in-Root.thread c.in-Root.is

pub happen-requires : goal.happen-requires
happen-requires g c =
    let (kinds, before, item, next) = c.requires in (
      kinds,
      roots_of before,
      next.stands.numbers,
      events_of (kinds_of kinds) before,
      event_next kinds c.args.tracker.now c.args.detector.now before item c.args.accepted.now c.args.place next c.in-Event.event c.in-Event.is,
    )

pub returns-in-Root : goal.returns-in-Root
returns-in-Root g c = λ kinds before item next.
    root_stands kinds c.args.tracker.now c.args.detector.now before item c.args.accepted.now c.args.place next c.in-Root.thread c.in-Root.is c.root.new.self
    (on_ok c.root.result c.expect.result c.expect.ensures c.root.ensures.ok) (on_ok c.root.result c.expect.result c.expect.ensures c.root.ensures.count)
    (c.law_of_detectors.ensures.roots kinds c.args.detector.now)

pub returns-in-Event : goal.returns-in-Event
returns-in-Event g c = λ kinds before item next.
    let happens = event_next kinds c.args.tracker.now c.args.detector.now before item c.args.accepted.now c.args.place next c.in-Event.event c.in-Event.is in
    event_stands kinds c.args.tracker.now c.args.detector.now before item c.args.accepted.now c.args.place next c.in-Event.event c.in-Event.is
    c.happen.new.tracker c.happen.new.detector c.args.line
    (c.happen.ensures.tracked kinds (roots_of before) next.stands.numbers (events_of (kinds_of kinds) before) happens)
    (c.happen.ensures.detects kinds (roots_of before) next.stands.numbers (events_of (kinds_of kinds) before) happens) c.happen.ensures.count

pub returns-in-Nothing : goal.returns-in-Nothing
returns-in-Nothing g c = λ kinds before item next.
    quiet_stands kinds c.args.tracker.now c.args.detector.now before item c.args.accepted.now c.args.place next c.in-Nothing.is
