use Rattle.std.proofs.Common.{◌≡◌, ◌≢◌, ◌+◌, Err, length, [], arith, ap, sym, ◌∙◌}
use Rattle.std.proofs.lemmas.List.{nil_from_length}
use Rattle.rd_io.specs.Lines.{parts_of}
use Rattle.rd_logs.specs.WholeLogs.{in_front, log_lines_from, said_in}
use Rattle.rd_logs.proofs.WholeLemmas.{all_read, bad_line, left_over, reads}
use Rattle.rd_logs.proofs.whole.read_lines.Goals as goal

pub returns-in_default-clause-bad : goal.returns-in_default-clause-bad
returns-in_default-clause-bad c = λ number is.
    let same : c.loop-rest.number ≡ number = cc in
    let some : c.loop-rest.rest.now ≢ [] = λ none. absurd (let l = ap length none in grind arith) in
    c.loop-rest.invariant.same ∙ left_over c.args.thread.now c.loop-rest.number (said_in c.loop-rest.said) c.loop-rest.rest.now some c.in_default.ensures.none ∙ ap Err same

pub returns-in-Err-BadLine-clause-bad : goal.returns-in-Err-BadLine-clause-bad
returns-in-Err-BadLine-clause-bad c = λ number is.
    let same : c.loop-rest.number ≡ number = cc in
    c.loop-rest.invariant.same
    ∙ bad_line c.args.thread.now c.loop-rest.number (said_in c.loop-rest.said) _ _ c.in-Some.line.now c.in-Some.ensures.some (c.in-Err-BadLine.ensures.none c.in-Err-BadLine.field-0-is) ∙ ap Err same

pub loop-rest-preserved : goal.loop-rest-preserved
loop-rest-preserved c = record {
  same =
      c.loop-rest.invariant.same
      ∙ reads c.args.thread.now c.loop-rest.number (said_in c.loop-rest.said) _ _ c.in-Some.line.now c.in-Ok.line c.in-Some.ensures.some c.in-Ok.ensures.line
      ∙ ap (λ said. in_front said (log_lines_from c.args.thread.now (c.loop-rest.number + 1) (parts_of c.in-Some.behind.now))) (sym c.in_ok-keep.ensures);
  few = omega (arith, c.in-Some.ensures.less);
}

pub returns-clause-ok : goal.returns-clause-ok
returns-clause-ok c =
    let none : length c.loop-rest.rest.now ≡ 0 = grind arith in
    c.loop-rest.invariant.same ∙ all_read c.args.thread.now c.loop-rest.number (said_in c.loop-rest.said) c.loop-rest.rest.now (nil_from_length c.loop-rest.rest.now none)
