use Rattle.std.proofs.Common.{◌≤◌, length, sym, ◌∙◌, arith}
use Rattle.rd_reading.specs.Known.{kinds_so_far}
use Rattle.rd_reading.proofs.KindLemmas.{known_kind, many_kinds, missing_kind, right_kind, taken_kind}
use Rattle.rd_reading.proofs.judging.kinds.judge_kind.Goals as goal
use Rattle.rd_base.specs.declared.limits.TheConstants.{MOST_KINDS}

pub returns-then-is_known-clause-judged : goal.returns-then-is_known-clause-judged
returns-then-is_known-clause-judged c =
    known_kind c.args.taken.now c.args.known.now c.args.line.now c.args.tokens.now c.args.name.now c.place_at-place.result c.place_at-place.ensures
    (sym c.is_known.ensures ∙ c.if-is_known.true)

pub returns-in-Some-clause-judged : goal.returns-in-Some-clause-judged
returns-in-Some-clause-judged c =
    missing_kind c.args.taken.now c.args.known.now c.args.line.now c.args.tokens.now c.args.name.now (sym c.is_known.ensures ∙ c.if-is_known.false)
    c.in-Some.cause c.in-Some.ensures.some

pub returns-then-is_taken-clause-judged : goal.returns-then-is_taken-clause-judged
returns-then-is_taken-clause-judged c =
    taken_kind c.args.taken.now c.args.known.now c.args.line.now c.args.tokens.now c.args.name.now (sym c.is_known.ensures ∙ c.if-is_known.false)
    c.in_default.ensures.none c.place_at-place.result c.place_at-place.ensures (sym c.is_taken.ensures ∙ c.if-is_taken.true)

pub returns-then-kind_count-ge-MOST_KINDS-clause-judged : goal.returns-then-kind_count-ge-MOST_KINDS-clause-judged
returns-then-kind_count-ge-MOST_KINDS-clause-judged c =
    let many : MOST_KINDS ≤ length (kinds_so_far c.args.known.now) = omega arith in
    many_kinds c.args.taken.now c.args.known.now c.args.line.now c.args.tokens.now c.args.name.now (sym c.is_known.ensures ∙ c.if-is_known.false)
    c.in_default.ensures.none (sym c.is_taken.ensures ∙ c.if-is_taken.false) c.place_at-place.result c.place_at-place.ensures many

pub returns-clause-judged : goal.returns-clause-judged
returns-clause-judged c =
    right_kind c.args.taken.now c.args.known.now c.args.line.now c.args.tokens.now c.args.name.now (sym c.is_known.ensures ∙ c.if-is_known.false)
    c.in_default.ensures.none (sym c.is_taken.ensures ∙ c.if-is_taken.false) (omega arith)
