use Rattle.std.proofs.Common.{◌+◌, ◌++◌, drop, sym, ap, ◌∙◌}
use Rattle.std.proofs.lemmas.List.{append_assoc}
use Rattle.rd_event.specs.Items.{line_text, lines_text}
use Rattle.rd_io.proofs.SinkLemmas.{appends_on}
use Rattle.rd_walk.proofs.OutputLemmas.{always_err}
use Rattle.rd_weave_command.proofs.WritingLemmas.{text_next}
use Rattle.rd_weave_command.proofs.writing.write_trace.Goals as goal

pub returns-in_err-write_one-clause-front : goal.returns-in_err-write_one-clause-front
returns-in_err-write_one-clause-front g c =
    let (front, is, before, calm) = c.loop-line.invariant in
    let (part, rest, line, writes) = c.in_err-write_one.ensures.front in
    let behind = lines_text (drop (c.loop-line.line-index + 1) c.args.lines.now) in
    let next = text_next c.args.lines.now c.loop-line.line-index c.line-item.result c.loop-line-test.true c.line-item.is in
    always_err _ c.from_residual.result (
      front ++ part,
      rest ++ behind,
      is ∙ ap (λ t. front ++ t) (next ∙ ap (λ t. t ++ behind) line ∙ append_assoc part rest behind) ∙ sym (append_assoc front part (rest ++ behind)),
      appends_on _ _ _ front part before writes,
    )

pub loop-line-preserved : goal.loop-line-preserved
loop-line-preserved g c =
    let (front, is, before, calm) = c.loop-line.invariant in
    let line = line_text c.line-item.result in
    let behind = lines_text (drop (c.loop-line.line-index + 1) c.args.lines.now) in
    let next = text_next c.args.lines.now c.loop-line.line-index c.line-item.result c.loop-line-test.true c.line-item.is in (
      front ++ line,
      is ∙ ap (λ t. front ++ t) next ∙ sym (append_assoc front line behind),
      appends_on _ _ _ front line before c.in_ok-write_one.ensures.ok,
      c.in_ok-write_one.ensures.fault ∙ calm,
    )
