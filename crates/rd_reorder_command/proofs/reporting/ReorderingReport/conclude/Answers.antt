use Rattle.std.proofs.Common.{refl, sym, ◌∙◌, subst}
use Rattle.rd_reorder_command.proofs.OutcomeLemmas.{reorder_concluded}
use Rattle.rd_reorder_command.specs.Outcomes.{picked_text, written_whole}
use Rattle.rd_reorder_command.specs.Reordering.{ReordersNamed}
use Rattle.rd_rewriting.specs.Ended.{ended_as}
use Rattle.rd_walk.proofs.OutputLemmas.{report_cut}
use Rattle.rd_walk.specs.Output.{IsOutput, fault_outcome, ended_status}
use Rattle.rd_walk.specs.Walk.{items}
use Rattle.rd_walk.specs.declared.status.Status.TheVariants.{Clean, InputFault}
use Rattle.rd_wf.proofs.RosterLemmas.{thread_keys}
use Rattle.rd_wf.specs.Roster.{names_in}
use Rattle.rd_reorder_command.proofs.reporting.ReorderingReport.conclude.Goals as goal

pub write_picked-requires : goal.write_picked-requires
write_picked-requires g c =
    let (kinds, start, entries, leads, stands) = c.requires in
    (kinds, items entries, record { named = record { keeps = leads.keeps; stands = stands }; events = leads.events })

pub returns-in_ok-write_picked-in-End-clause-output : goal.returns-in_ok-write_picked-in-End-clause-output
returns-in_ok-write_picked-in-End-clause-output g c = λ kinds start entries leads stands.
    let kept : ReordersNamed kinds c.args.self.now c.args.names.now (items entries) = record { named = record { keeps = leads.keeps; stands = stands }; events = leads.events } in
    let names = names_in c.args.names.now in
    let number = c.args.self.now.number in
    let text = picked_text kinds (items entries) number in (
      text,
      c.in_ok-write_picked-in-End.ensures.ok kinds (items entries) kept,
      reorder_concluded Clean text start.number kinds entries c.args.ending names number (thread_keys kinds c.args.names.now (items entries) stands) leads.number
          (subst (λ e. IsOutput Clean text (ended_as names (written_whole text) e)) (sym c.in-End.is) (refl, refl)),
    )

pub returns-in_err-write_picked-in-End-clause-output : goal.returns-in_err-write_picked-in-End-clause-output
returns-in_err-write_picked-in-End-clause-output g c = λ kinds start entries leads stands.
    let kept : ReordersNamed kinds c.args.self.now c.args.names.now (items entries) = record { named = record { keeps = leads.keeps; stands = stands }; events = leads.events } in
    let names = names_in c.args.names.now in
    let number = c.args.self.now.number in
    let text = picked_text kinds (items entries) number in
    let status = ended_status c.from_residual.result in
    let (part, rest, is, writes) = c.in_err-write_picked-in-End.ensures.front kinds (items entries) kept in (
      part,
      writes,
      reorder_concluded status part start.number kinds entries c.args.ending names number (thread_keys kinds c.args.names.now (items entries) stands) leads.number
          (subst (λ e. IsOutput status part (ended_as names (written_whole text) e)) (sym c.in-End.is)
          (report_cut c.from_residual.result _ c.from_residual.ensures part rest (written_whole text) is)),
    )

pub returns-in-Refused-clause-output : goal.returns-in-Refused-clause-output
returns-in-Refused-clause-output g c = λ kinds start entries leads stands.
    let names = names_in c.args.names.now in
    let number = c.args.self.now.number in
    let text = picked_text kinds (items entries) number in
    let status = ended_status c.write_refused.result in
    let (part, writes, output) = c.write_refused.ensures.output (written_whole text) in (
      part,
      writes,
      reorder_concluded status part start.number kinds entries c.args.ending names number (thread_keys kinds c.args.names.now (items entries) stands) leads.number
          (subst (λ e. IsOutput status part (ended_as names (written_whole text) e)) (sym c.in-Refused.is) output),
    )

pub returns-in_ok-write_line-in-Fault-clause-output : goal.returns-in_ok-write_line-in-Fault-clause-output
returns-in_ok-write_line-in-Fault-clause-output g c = λ kinds start entries leads stands.
    let names = names_in c.args.names.now in
    let number = c.args.self.now.number in
    let text = picked_text kinds (items entries) number in
    let part = c.unopened_text.result.now in (
      part,
      c.in_ok-write_line-in-Fault.ensures.ok,
      reorder_concluded InputFault part start.number kinds entries c.args.ending names number (thread_keys kinds c.args.names.now (items entries) stands) leads.number
          (subst (λ e. IsOutput InputFault part (ended_as names (written_whole text) e)) (sym c.in-Fault.is) (c.unopened_text.ensures, refl)),
    )

pub returns-in_err-write_line-in-Fault-clause-output : goal.returns-in_err-write_line-in-Fault-clause-output
returns-in_err-write_line-in-Fault-clause-output g c = λ kinds start entries leads stands.
    let names = names_in c.args.names.now in
    let number = c.args.self.now.number in
    let text = picked_text kinds (items entries) number in
    let status = ended_status c.from_residual-in_err-write_line-in-Fault.result in
    let (part, rest, is, writes) = c.in_err-write_line-in-Fault.ensures.front in (
      part,
      writes,
      reorder_concluded status part start.number kinds entries c.args.ending names number (thread_keys kinds c.args.names.now (items entries) stands) leads.number
          (subst (λ e. IsOutput status part (ended_as names (written_whole text) e)) (sym c.in-Fault.is)
          (report_cut c.from_residual-in_err-write_line-in-Fault.result _ c.from_residual-in_err-write_line-in-Fault.ensures part rest fault_outcome (sym c.unopened_text.ensures ∙ is))),
    )
