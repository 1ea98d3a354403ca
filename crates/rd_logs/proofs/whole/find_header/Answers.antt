use Rattle.std.proofs.Common.{◌≡◌, length, [], arith, ap, sym, ◌∙◌}
use Rattle.std.proofs.lemmas.List.{nil_from_length}
use Rattle.rd_io.specs.Lines.{parts_of}
use Rattle.rd_logs.proofs.WholeLemmas.{begins, no_header, skips}
use Rattle.rd_logs.proofs.whole.find_header.Goals as goal

pub returns-in_default-clause-err : goal.returns-in_default-clause-err
returns-in_default-clause-err c = c.loop-rest.invariant.same ∙ no_header c.loop-rest.number _ c.loop-rest.rest.now c.in_default.ensures.none

pub returns-in_default-read_log_header-clause-err : goal.returns-in_default-read_log_header-clause-err
returns-in_default-read_log_header-clause-err c =
    c.loop-rest.invariant.same
    ∙ begins c.loop-rest.number _ _ c.in-Some.line.now _ c.in-Some.ensures.some (sym c.is_skipped.ensures ∙ c.if-not-is_skipped.true) c.in_default-read_log_header.ensures.read

pub returns-then-not-is_skipped-clause-ok : goal.returns-then-not-is_skipped-clause-ok
returns-then-not-is_skipped-clause-ok c =
    c.loop-rest.invariant.same
    ∙ begins c.loop-rest.number _ _ c.in-Some.line.now _ c.in-Some.ensures.some (sym c.is_skipped.ensures ∙ c.if-not-is_skipped.true) c.in-Some-read_log_header.ensures.read

pub loop-rest-preserved : goal.loop-rest-preserved
loop-rest-preserved c = record {
  same = c.loop-rest.invariant.same ∙ skips c.loop-rest.number _ _ c.in-Some.line.now c.in-Some.ensures.some (sym c.is_skipped.ensures ∙ c.if-not-is_skipped.false);
  few = omega (arith, c.in-Some.ensures.less);
}

pub returns-clause-err : goal.returns-clause-err
returns-clause-err c =
    let none : length c.loop-rest.rest.now ≡ 0 = grind arith in
    c.loop-rest.invariant.same ∙ no_header c.loop-rest.number _ [] (ap parts_of (nil_from_length c.loop-rest.rest.now none))
