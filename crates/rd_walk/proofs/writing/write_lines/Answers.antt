use Rattle.std.proofs.Common.{◌++◌, sym, ap, ◌∙◌}
use Rattle.std.proofs.lemmas.List.{append_assoc}
use Rattle.rd_io.proofs.SinkLemmas.{appends_on}
use Rattle.rd_walk.proofs.OutputLemmas.{always_err}
use Rattle.rd_walk.proofs.writing.write_lines.Goals as goal

pub returns-in_err-write_line-clause-front : goal.returns-in_err-write_line-clause-front
returns-in_err-write_line-clause-front g c =
    let (front, is, before, calm) = c.loop-rest.invariant in
    let (part, rest, line, writes) = c.in_err-write_line.ensures.front in
    let behind = c.cut_line.result.1.now in
    always_err _ c.from_residual.result (
      front ++ part,
      rest ++ behind,
      is ∙ ap (λ xs. front ++ xs) (c.cut_line.ensures.parts ∙ ap (λ xs. xs ++ behind) line ∙ append_assoc part rest behind)
          ∙ sym (append_assoc front part (rest ++ behind)),
      appends_on _ _ _ front part before writes,
    )

pub loop-rest-preserved : goal.loop-rest-preserved
loop-rest-preserved g c =
    let (front, is, before, calm) = c.loop-rest.invariant in
    let line = c.cut_line.result.0.now in (
      front ++ line,
      is ∙ ap (λ xs. front ++ xs) c.cut_line.ensures.parts ∙ sym (append_assoc front line c.cut_line.result.1.now),
      appends_on _ _ _ front line before c.in_ok-write_line.ensures.ok,
      c.in_ok-write_line.ensures.fault ∙ calm,
    )
