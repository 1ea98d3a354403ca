use Rattle.std.proofs.Common.{[], sym, ap, ◌∙◌}
use Rattle.std.proofs.lemmas.Option.{unwrap_or-slice_get}
use Rattle.std.proofs.lemmas.Result.{on_err_weaker}
use Rattle.std.specs.Prelude.{unwrap_or}
use Rattle.rd_epochs_command.specs.Firsts.{first_line}
use Rattle.rd_walk.specs.Analysis.{WritesFront}
use Rattle.rd_wf.specs.Roster.{object_names_in}
use Rattle.rd_epochs_command.proofs.watching.FirstRaces.report.Goals as goal

pub returns-clause-front : goal.returns-clause-front
returns-clause-front g c =
    let names = object_names_in c.args.names.now in
    let name = sym (ap (λ o. unwrap_or o []) c.object_name.ensures.name) ∙ unwrap_or-slice_get names c.args.variable [] in
    let text = c.items-2.ensures ∙ c.in_ok-text.ensures ∙ ap (λ n. first_line n c.args.first.later c.args.first.earlier) (c.items.ensures.value ∙ name) in
    on_err_weaker c.write_line.result
    (λ (front : WritesFront (g.S.Sink.written c.args.out.now) (g.S.Sink.written c.write_line.new.out) [] c.items-2.result.now).
    let (part, rest, is, writes) = front in (part, rest, sym text ∙ is, writes))
    c.write_line.ensures.front
