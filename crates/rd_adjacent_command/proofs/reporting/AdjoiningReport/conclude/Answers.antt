use Rattle.std.proofs.Common.{refl, sym, subst, ◌∙◌}
use Rattle.rd_adjacent_command.proofs.EndLemmas.{adjacent_concluded}
use Rattle.rd_adjacent_command.specs.Adjoining.{AdjoinsNamed}
use Rattle.rd_adjacent_command.specs.Outcomes.{adjacent_end}
use Rattle.rd_rewriting.specs.Ended.{ended_as}
use Rattle.rd_walk.proofs.OutputLemmas.{report_cut}
use Rattle.rd_walk.specs.Output.{IsOutput, ended_status, fault_outcome}
use Rattle.rd_walk.specs.Walk.{items}
use Rattle.rd_walk.specs.declared.status.Status.TheVariants.{InputFault}
use Rattle.rd_wf.proofs.RosterLemmas.{thread_keys}
use Rattle.rd_wf.specs.Roster.{names_in}
use Rattle.rd_adjacent_command.proofs.reporting.AdjoiningReport.conclude.Goals as goal

pub write_told-requires : goal.write_told-requires
write_told-requires g c =
    let (kinds, start, entries, leads, stands) = c.requires in
    (kinds, entries, record { named = record { keeps = leads.keeps; stands = stands }; events = leads.events }, leads.lines, leads.order)

pub returns-in-End-clause-output : goal.returns-in-End-clause-output
returns-in-End-clause-output g c = λ kinds start entries leads stands.
    let kept : AdjoinsNamed kinds c.args.self.now c.args.names.now (items entries) = record { named = record { keeps = leads.keeps; stands = stands }; events = leads.events } in
    let names = names_in c.args.names.now in
    let first = c.args.self.now.first in
    let second = c.args.self.now.second in
    let status = ended_status c.write_told.result in
    let (part, writes, output) = c.write_told.ensures.output kinds entries kept leads.lines in (
      part,
      writes,
      adjacent_concluded status part start.first start.second kinds entries c.args.ending names first second (thread_keys kinds c.args.names.now (items entries) stands) leads.first leads.second
          (subst (λ e. IsOutput status part (ended_as names (adjacent_end kinds entries first second) e)) (sym c.in-End.is) output),
    )

pub returns-in-Refused-clause-output : goal.returns-in-Refused-clause-output
returns-in-Refused-clause-output g c = λ kinds start entries leads stands.
    let names = names_in c.args.names.now in
    let first = c.args.self.now.first in
    let second = c.args.self.now.second in
    let whole = adjacent_end kinds entries first second in
    let status = ended_status c.write_refused.result in
    let (part, writes, output) = c.write_refused.ensures.output whole in (
      part,
      writes,
      adjacent_concluded status part start.first start.second kinds entries c.args.ending names first second (thread_keys kinds c.args.names.now (items entries) stands) leads.first leads.second
          (subst (λ e. IsOutput status part (ended_as names whole e)) (sym c.in-Refused.is) output),
    )

pub returns-in_ok-write_line-in-Fault-clause-output : goal.returns-in_ok-write_line-in-Fault-clause-output
returns-in_ok-write_line-in-Fault-clause-output g c = λ kinds start entries leads stands.
    let names = names_in c.args.names.now in
    let first = c.args.self.now.first in
    let second = c.args.self.now.second in
    let part = c.unopened_text.result.now in (
      part,
      c.in_ok-write_line-in-Fault.ensures.ok,
      adjacent_concluded InputFault part start.first start.second kinds entries c.args.ending names first second (thread_keys kinds c.args.names.now (items entries) stands) leads.first leads.second
          (subst (λ e. IsOutput InputFault part (ended_as names (adjacent_end kinds entries first second) e)) (sym c.in-Fault.is) (c.unopened_text.ensures, refl)),
    )

pub returns-in_err-write_line-in-Fault-clause-output : goal.returns-in_err-write_line-in-Fault-clause-output
returns-in_err-write_line-in-Fault-clause-output g c = λ kinds start entries leads stands.
    let names = names_in c.args.names.now in
    let first = c.args.self.now.first in
    let second = c.args.self.now.second in
    let status = ended_status c.from_residual.result in
    let (part, rest, is, writes) = c.in_err-write_line-in-Fault.ensures.front in (
      part,
      writes,
      adjacent_concluded status part start.first start.second kinds entries c.args.ending names first second (thread_keys kinds c.args.names.now (items entries) stands) leads.first leads.second
          (subst (λ e. IsOutput status part (ended_as names (adjacent_end kinds entries first second) e)) (sym c.in-Fault.is)
          (report_cut c.from_residual.result _ c.from_residual.ensures part rest fault_outcome (sym c.unopened_text.ensures ∙ is))),
    )
