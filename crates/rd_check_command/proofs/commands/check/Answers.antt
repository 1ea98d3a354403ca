use Rattle.std.proofs.Common.{sym, subst}
use Rattle.std.specs.Prelude.{option_map}
use Rattle.rd_check_command.specs.Meanings.{check_meaning}
use Rattle.rd_walk.specs.Meanings.{Ran, seen}
use Rattle.rd_walk.specs.Output.{ended_status}
use Rattle.rd_check_command.proofs.commands.check.Goals as goal

pub returns-in-None : goal.returns-in-None
returns-in-None g c =
    let before = seen g.I.Inputs.told g.I.Inputs.faults c.args.inputs.now g.S.Sink.written g.S.Sink.faults g.S.Sink.at_fault c.args.out.now c.args.steps.now in
    let after = seen g.I.Inputs.told g.I.Inputs.faults c.check_shipped.new.inputs g.S.Sink.written g.S.Sink.faults g.S.Sink.at_fault c.check_shipped.new.out c.check_shipped.new.steps in
    subst (λ file. Ran (check_meaning c.args.asked.now.form c.args.asked.now.trace.now (option_map (λ f. f.now) file)) c.args.limits.now before after (ended_status c.check_shipped.result))
    (sym c.in-None.is) c.check_shipped.ensures

pub returns-in-Some : goal.returns-in-Some
returns-in-Some g c =
    let before = seen g.I.Inputs.told g.I.Inputs.faults c.args.inputs.now g.S.Sink.written g.S.Sink.faults g.S.Sink.at_fault c.args.out.now c.args.steps.now in
    let after = seen g.I.Inputs.told g.I.Inputs.faults c.check_with.new.inputs g.S.Sink.written g.S.Sink.faults g.S.Sink.at_fault c.check_with.new.out c.check_with.new.steps in
    subst (λ file. Ran (check_meaning c.args.asked.now.form c.args.asked.now.trace.now (option_map (λ f. f.now) file)) c.args.limits.now before after (ended_status c.check_with.result))
    (sym c.in-Some.is) c.check_with.ensures
