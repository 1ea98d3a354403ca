use Rattle.std.proofs.Common.{◌++◌, sym, ap, ◌∙◌}
use Rattle.std.proofs.lemmas.List.{append_assoc}
use Rattle.std.proofs.lemmas.Result.{on_ok_weaker, on_err_weaker}
use Rattle.rd_io.proofs.SinkLemmas.{appends_on}
use Rattle.rd_walk.proofs.OutputLemmas.{always_err}
use Rattle.rd_check_command.proofs.checking.write_race.Goals as goal

pub returns-in_err-write_line-clause-front : goal.returns-in_err-write_line-clause-front
returns-in_err-write_line-clause-front g c =
    let one = c.args.later.now in
    let two = c.args.earlier.now in
    let three = c.args.formula.now in
    let (part, rest, line, writes) = c.in_err-write_line.ensures.front in
    always_err _ c.from_residual.result
    (part, rest ++ (two ++ three), append_assoc one two three ∙ ap (λ xs. xs ++ (two ++ three)) line ∙ append_assoc part rest (two ++ three), writes)

pub returns-in_err-write_line-2-clause-front : goal.returns-in_err-write_line-2-clause-front
returns-in_err-write_line-2-clause-front g c =
    let one = c.args.later.now in
    let two = c.args.earlier.now in
    let three = c.args.formula.now in
    let (part, rest, line, writes) = c.in_err-write_line-2.ensures.front in
    always_err _ c.from_residual-in_err-write_line-2.result (
      one ++ part,
      rest ++ three,
      append_assoc one two three ∙ ap (λ xs. one ++ xs) (ap (λ xs. xs ++ three) line ∙ append_assoc part rest three) ∙ sym (append_assoc one part (rest ++ three)),
      appends_on _ _ _ one part c.in_ok-write_line.ensures.ok writes,
    )

pub returns-clause-ok : goal.returns-clause-ok
returns-clause-ok g c =
    let one = c.args.later.now in
    let two = c.args.earlier.now in
    let three = c.args.formula.now in
    on_ok_weaker c.write_line-3.result
    (λ writes. appends_on _ _ _ (one ++ two) three (appends_on _ _ _ one two c.in_ok-write_line.ensures.ok c.in_ok-write_line-2.ensures.ok) writes)
    c.write_line-3.ensures.ok

pub returns-clause-front : goal.returns-clause-front
returns-clause-front g c =
    let one = c.args.later.now in
    let two = c.args.earlier.now in
    let before = appends_on _ _ _ one two c.in_ok-write_line.ensures.ok c.in_ok-write_line-2.ensures.ok in
    on_err_weaker c.write_line-3.result
    (λ front. let (part, rest, line, writes) = front in (
      (one ++ two) ++ part,
      rest,
      ap (λ xs. (one ++ two) ++ xs) line ∙ sym (append_assoc (one ++ two) part rest),
      appends_on _ _ _ (one ++ two) part before writes,
    )) c.write_line-3.ensures.front
