use Rattle.std.proofs.Common.{sym, ◌∙◌, arith, refl}
use Rattle.rd_reading.proofs.RepeatLemmas.{last_once, last_twice, none_different, seen_once, seen_twice}
use Rattle.rd_reading.proofs.judging.repeated.first_repeated.Goals as goal

pub loop-number-init : goal.loop-number-init
loop-number-init c = record { so_far = λ name. rw c.new-seen.ensures.empty refl; different = none_different }

pub loop-number-preserved : goal.loop-number-preserved
loop-number-preserved c =
    seen_once c.args.names.now c.loop-number.seen.keys c.loop-number.number c.index-names-number.result c.loop-number-test.true c.index-names-number.is
    c.loop-number.invariant c.in_ok-is_new.is_new c.in_ok-is_new.ensures.added c.insert.new.self.keys c.in_ok-is_new.ensures.updates.0 c.if-not-is_new.false

pub returns-then-not-is_new-clause-some : goal.returns-then-not-is_new-clause-some
returns-then-not-is_new-clause-some c =
    seen_twice c.args.names.now c.loop-number.seen.keys c.loop-number.number c.index-names-number.result c.loop-number-test.true c.index-names-number.is
    c.loop-number.invariant c.in_ok-is_new.is_new c.in_ok-is_new.ensures.added c.args.last.now c.if-not-is_new.true

pub returns-then-contains-clause-some : goal.returns-then-contains-clause-some
returns-then-contains-clause-some c =
    last_twice c.args.names.now c.loop-number.seen.keys c.loop-number.number (omega arith) c.loop-number.invariant c.args.last.now
    (sym c.contains.ensures ∙ c.if-contains.true)

pub returns-clause-none : goal.returns-clause-none
returns-clause-none c =
    last_once c.args.names.now c.loop-number.seen.keys c.loop-number.number (omega arith) c.loop-number.invariant c.args.last.now
    (sym c.contains.ensures ∙ c.if-contains.false)
