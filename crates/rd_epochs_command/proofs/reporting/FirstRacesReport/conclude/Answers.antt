use Rattle.std.proofs.Common.{[], ◌++◌, Ok, refl, sym, subst, ap, ◌∙◌}
use Rattle.rd_epochs_command.proofs.OutcomeLemmas.{epochs_concluded, epochs_front}
use Rattle.rd_epochs_command.specs.Firsts.{epochs_outcome, first_texts, last_line}
use Rattle.rd_io.proofs.SinkLemmas.{appends_none}
use Rattle.rd_io.specs.Sinks.{Appends}
use Rattle.rd_object.specs.declared.shapes.ReplayEnd.TheVariants.{NotShipped}
use Rattle.rd_report.specs.Endings.{check_status, ending_of_report}
use Rattle.rd_report.specs.Texts.{races_line}
use Rattle.rd_walk.proofs.OutputLemmas.{report_cut, report_without, whole}
use Rattle.rd_walk.specs.Output.{IsOutput, Outcome, ended_status}
use Rattle.rd_walk.specs.Walk.{after, ends, items}
use Rattle.rd_wf.proofs.RosterLemmas.{thread_keys}
use Rattle.rd_wf.specs.Roster.{names_in}
use Rattle.rd_epochs_command.proofs.reporting.FirstRacesReport.conclude.Goals as goal

pub returns-in_err-text-clause-output : goal.returns-in_err-text-clause-output
returns-in_err-text-clause-output g c = λ kinds start entries leads stands.
    let wrote = g.S.Sink.written c.args.out.now in (
      [],
      appends_none wrote wrote refl,
      subst (λ status. IsOutput status (first_texts entries ++ []) (epochs_outcome (after entries (ends c.args.ending)))) (sym (report_without c.from_residual.result c.from_residual.ensures))
          (epochs_front entries c.args.ending),
    )

pub returns-in_err-write_lines-clause-output : goal.returns-in_err-write_lines-clause-output
returns-in_err-write_lines-clause-output g c = λ kinds start entries leads stands.
    let names = names_in c.args.names.now in
    let firsts = c.args.self.now.firsts in
    let end = c.args.ending in
    let outcome : Outcome = record { text = races_line firsts ++ last_line names end; status = check_status firsts (ending_of_report firsts NotShipped end) } in
    let (part, rest, is, writes) = c.in_err-write_lines.ensures.front in (
      part,
      writes,
      epochs_concluded (ended_status c.from_residual-in_err-write_lines.result) part entries end names firsts (thread_keys kinds c.args.names.now (items entries) stands) leads.watches.firsts
          (report_cut c.from_residual-in_err-write_lines.result _ c.from_residual-in_err-write_lines.ensures part rest outcome (sym (c.items.ensures ∙ c.in_ok-text.ensures) ∙ is)),
    )

pub returns-clause-output : goal.returns-clause-output
returns-clause-output g c = λ kinds start entries leads stands.
    let names = names_in c.args.names.now in
    let firsts = c.args.self.now.firsts in
    let end = c.args.ending in
    let text = races_line firsts ++ last_line names end in
    let status = check_status firsts (ending_of_report firsts NotShipped end) in
    let outcome : Outcome = record { text = text; status = status } in
    let told = c.check_status.ensures.status ∙ ap (check_status firsts) c.ending_of.ensures in (
      text,
      subst (Appends (g.S.Sink.written c.args.out.now) (g.S.Sink.written c.write_lines.new.out)) (c.items.ensures ∙ c.in_ok-text.ensures) c.in_ok-write_lines.ensures.ok,
      epochs_concluded (ended_status (Ok c.check_status.result)) text entries end names firsts (thread_keys kinds c.args.names.now (items entries) stands) leads.watches.firsts
          (subst (λ s. IsOutput s text outcome) (sym told) (whole status text)),
    )
