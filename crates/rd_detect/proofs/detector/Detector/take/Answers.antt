use Rattle.std.proofs.Common.{◌∷◌, [], ◌++◌, List, length, subst}
use Rattle.std.specs.Prelude.{OnOk}
use Rattle.rd_clock.specs.declared.clock.Stamp.{Stamp}
use Rattle.rd_event.specs.declared.events.Event.{Event}
use Rattle.rd_event.specs.declared.events.Event.TheVariants as event
use Rattle.rd_hb.specs.Tracker.{IsStamp, last_stamp}
use Rattle.rd_detect.specs.Covers.{CoversStandFor}
use Rattle.rd_detect.specs.Taking.{JudgesCall}
use Rattle.rd_detect.proofs.CallLemmas.{own_below}
use Rattle.rd_detect.proofs.detector.Detector.take.Goals as goal

pub last_stamp-requires : goal.last_stamp-requires
last_stamp-requires g c = own_below c.requires.next.0 c.args.self.now c.args.tracker.now c.requires.next.1 c.requires.next.2 c.requires.next.3 c.args.place c.args.call.now
    (last_stamp c.args.tracker.now.threads c.args.call.now.thread) c.requires.next.4

pub returns-else-is_err-clause-judged : goal.returns-else-is_err-clause-judged
returns-else-is_err-clause-judged g c = subst
    (λ stamp. JudgesCall c.args.self.now c.judge-answer.new.self c.args.tracker.now c.args.line c.args.place c.args.call.now stamp c.judge-answer.result c.args.steps.now
    c.judge-answer.new.steps)
    c.last_stamp.ensures c.judge-answer.ensures.judged

pub returns-else-is_err-clause-covers : goal.returns-else-is_err-clause-covers
returns-else-is_err-clause-covers g c = subst
    (λ (stamp : Stamp). OnOk c.judge-answer.result ((es : List Event) → IsStamp (es ++ event.Call c.args.call.now ∷ []) (length es) stamp → CoversStandFor es c.args.self.now.store c.args.covers.now
    → CoversStandFor (es ++ event.Call c.args.call.now ∷ []) c.judge-answer.new.self.store c.judge-answer.new.covers))
    c.last_stamp.ensures c.judge-answer.ensures.covers
