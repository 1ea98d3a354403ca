use Rattle.std.proofs.Common.{◌≢◌, ◌∙◌, subst, sym, ap}
use Rattle.std.specs.Prelude.{AllPairs}
use Rattle.rd_ecl.specs.Kinds.{kind_names, kinds_of}
use Rattle.rd_kinds.proofs.NameLemmas.{listed_differ}
use Rattle.rd_walk.proofs.RanLemmas.{ran_report_without}
use Rattle.rd_walk.specs.Meanings.{Ran, report_meaning, seen}
use Rattle.rd_walk.specs.Output.{ended_status}
use Rattle.rd_wf.specs.Roster.{kinds_in}
use Rattle.rd_reorder_command.specs.Reordering.{ReorderingBegins}
use Rattle.rd_reorder_command.specs.Outcomes.{reorder_texts}
use Rattle.rd_replay_command.specs.States.{built_in_kinds}
use Rattle.rd_reorder_command.proofs.commands.reorder.Goals as goal

pub new-requires-clause-different : goal.new-requires-clause-different
new-requires-clause-different g c = subst (λ kinds. AllPairs (λ x y. x ≢ y) (kind_names (kinds_of kinds))) (sym c.in_ok-spec.ensures) listed_differ

pub returns-in_err-spec : goal.returns-in_err-spec
returns-in_err-spec g c =
    ran_report_without (reorder_texts c.args.number built_in_kinds) built_in_kinds c.args.trace.now c.args.limits.now
    (seen g.I.Inputs.told g.I.Inputs.faults c.args.inputs.now g.S.Sink.written g.S.Sink.faults g.S.Sink.at_fault c.args.out.now c.args.steps.now)
    c.from_residual.result c.from_residual.ensures

pub returns-in_err-walker : goal.returns-in_err-walker
returns-in_err-walker g c =
    ran_report_without (reorder_texts c.args.number built_in_kinds) built_in_kinds c.args.trace.now c.args.limits.now
    (seen g.I.Inputs.told g.I.Inputs.faults c.args.inputs.now g.S.Sink.written g.S.Sink.faults g.S.Sink.at_fault c.args.out.now c.args.steps.now)
    c.from_residual-in_err-walker.result c.from_residual-in_err-walker.ensures

pub report_trace-ended-requires-clause-begins : goal.report_trace-ended-requires-clause-begins
report_trace-ended-requires-clause-begins g c =
    subst (ReorderingBegins (kinds_in c.in_ok-walker.walker.roster)) (sym c.in_ok-walker.ensures.analysis)
    (c.new-reordering.ensures.begins (kinds_in c.in_ok-walker.walker.roster))

pub returns : goal.returns
returns g c =
    let before = seen g.I.Inputs.told g.I.Inputs.faults c.args.inputs.now g.S.Sink.written g.S.Sink.faults g.S.Sink.at_fault c.args.out.now c.args.steps.now in
    let after = seen g.I.Inputs.told g.I.Inputs.faults c.report_trace-ended.new.inputs g.S.Sink.written g.S.Sink.faults g.S.Sink.at_fault c.report_trace-ended.new.out c.report_trace-ended.new.steps in
    let status = ended_status c.report_trace-ended.result in
    let kinds = c.in_ok-walker.ensures.kinds ∙ ap kinds_of c.in_ok-spec.ensures in
    let number = ap (λ reordering. reordering.number) c.in_ok-walker.ensures.analysis ∙ c.new-reordering.ensures.number in
    subst (λ (T : Type 0). T) (λ i. Ran (report_meaning (reorder_texts (number i) (kinds i)) (kinds i) c.args.trace.now) (c.in_ok-walker.ensures.limits i) before after status)
    c.report_trace-ended.ensures
