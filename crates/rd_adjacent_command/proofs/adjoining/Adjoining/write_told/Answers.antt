use Rattle.std.proofs.Common.{◌≢◌, sym, ap, ◌∙◌, arith}
use Rattle.rd_adjacent_command.proofs.CallLemmas.{end_two, places_apart}
use Rattle.rd_adjacent_command.proofs.KeptLemmas.{kept_few, lines_same}
use Rattle.rd_adjacent_command.specs.Outcomes.{two_text}
use Rattle.rd_walk.proofs.OutputLemmas.{report_cut}
use Rattle.rd_walk.specs.Walk.{items}
use Rattle.rd_adjacent_command.proofs.adjoining.Adjoining.write_told.Goals as goal

pub call_on-requires-clause-few : goal.call_on-requires-clause-few
call_on-requires-clause-few g c =
    let (kinds, entries, kept, lines, order) = c.requires in kept_few kinds (items entries) c.args.self.now c.args.names.now kept

pub call_on-requires-clause-same : goal.call_on-requires-clause-same
call_on-requires-clause-same g c =
    let (kinds, entries, kept, lines, order) = c.requires in lines_same kinds entries c.args.self.now c.args.names.now kept lines

pub call_on-requires-2-clause-few : goal.call_on-requires-2-clause-few
call_on-requires-2-clause-few g c =
    let (kinds, entries, kept, lines, order) = c.requires in kept_few kinds (items entries) c.args.self.now c.args.names.now kept

pub call_on-requires-2-clause-same : goal.call_on-requires-2-clause-same
call_on-requires-2-clause-same g c =
    let (kinds, entries, kept, lines, order) = c.requires in lines_same kinds entries c.args.self.now c.args.names.now kept lines

pub write_two-requires-clause-same : goal.write_two-requires-clause-same
write_two-requires-clause-same g c =
    let (kinds, entries, kept, lines, order) = c.requires in lines_same kinds entries c.args.self.now c.args.names.now kept lines

pub write_two-requires-clause-order : goal.write_two-requires-clause-order
write_two-requires-clause-order g c =
    let (kinds, entries, kept, lines, order) = c.requires in
    let es = c.args.self.now.events.items in
    let apart : c.in-Some.i ≢ c.in-Some-call_on.j = places_apart es c.args.self.now.lines.items c.args.self.now.first c.args.self.now.second c.in-Some.i c.in-Some-call_on.j order
    (sym c.call_on.ensures ∙ c.in-Some.is) (sym c.call_on-2.ensures ∙ c.in-Some-call_on.is) in
    omega (arith, apart, c.min.ensures, c.max.ensures)

pub returns-in_err-write_two-clause-output : goal.returns-in_err-write_two-clause-output
returns-in_err-write_two-clause-output g c = λ kinds entries kept lines.
    let es = c.args.self.now.events.items in
    let (part, rest, is, writes) = c.in_err-write_two.ensures.front kinds (items entries) kept in
    let told = end_two kinds entries es c.args.self.now.lines.items c.args.self.now.first c.args.self.now.second c.in-Some.i c.in-Some-call_on.j kept.events lines
    (sym c.call_on.ensures ∙ c.in-Some.is) (sym c.call_on-2.ensures ∙ c.in-Some-call_on.is) in (
      part,
      writes,
      report_cut c.from_residual.result _ c.from_residual.ensures part rest _ (ap (λ outcome. outcome.text) told ∙ ((λ k. two_text es (items entries) c.args.self.now.lines.items (sym c.min.ensures k) (sym c.max.ensures k)) ∙ is)),
    )
