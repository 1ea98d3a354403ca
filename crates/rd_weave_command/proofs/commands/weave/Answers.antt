use Rattle.std.proofs.Common.{refl}
use Rattle.rd_walk.specs.Meanings.{seen}
use Rattle.rd_weave_command.proofs.RunLemmas.{ran_weave}
use Rattle.rd_weave_command.proofs.commands.weave.Goals as goal

pub returns : goal.returns
returns g c = λ steps.
    ran_weave c.args.files.now c.requires.some c.args.limits.now
    (seen g.I.Inputs.told g.I.Inputs.faults c.args.inputs.now g.S.Sink.written g.S.Sink.faults g.S.Sink.at_fault c.args.out.now steps)
    (seen g.I.Inputs.told g.I.Inputs.faults c.report_logs.new.inputs g.S.Sink.written g.S.Sink.faults g.S.Sink.at_fault c.report_logs.new.out steps)
    c.report_logs.result refl (c.report_logs.ensures.runs steps) c.report_logs.ensures.faults c.report_logs.ensures.ends
