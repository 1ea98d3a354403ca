use Rattle.std.proofs.Common.{◌++◌, ap, ◌∙◌}
use Rattle.rd_event.specs.Items.{line_text, lines_text}
use Rattle.rd_gen_command.proofs.TextLemmas.{front_behind, part_more}
use Rattle.rd_io.proofs.SinkLemmas.{appends_on}
use Rattle.rd_walk.proofs.OutputLemmas.{always_err}
use Rattle.rd_gen_command.proofs.texts.write_rest.Goals as goal

pub returns-in_err-write_spelled-clause-front : goal.returns-in_err-write_spelled-clause-front
returns-in_err-write_spelled-clause-front g c =
    let (part, so, whole, calm) = c.loop-line.invariant in
    let line = c.next_into.new.line in
    let rest = c.next_into.new.self.lines in
    let more = ap lines_text (c.in_ok-next_into.ensures.next c.if-branch.true) in
    always_err _ c.from_residual-in_err-write_spelled.result
    (front_behind _ _ _ part (line_text line) (lines_text rest) _ (whole ∙ ap (λ t. part ++ t) more) so c.in_err-write_spelled.ensures.front)

pub loop-line-preserved : goal.loop-line-preserved
loop-line-preserved g c =
    let (part, so, whole, calm) = c.loop-line.invariant in
    let line = c.next_into.new.line in
    let rest = c.next_into.new.self.lines in
    let more = ap lines_text (c.in_ok-next_into.ensures.next c.if-branch.true) in (
      part ++ line_text line,
      appends_on _ _ _ part (line_text line) so c.in_ok-write_spelled.ensures.ok,
      part_more _ part (line_text line) (lines_text c.loop-line.generator.lines) (lines_text rest) whole more,
      c.in_ok-write_spelled.ensures.fault ∙ calm,
    )
