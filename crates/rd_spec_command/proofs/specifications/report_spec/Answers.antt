use Rattle.std.proofs.Common.{[], refl}
use Rattle.rd_spec_command.proofs.WholeLemmas.{whole_said}
use Rattle.rd_spec_command.specs.Meanings.{said_meaning}
use Rattle.rd_walk.proofs.RanLemmas.{ran_over}
use Rattle.rd_walk.proofs.StatusLemmas.{status_ends}
use Rattle.rd_walk.specs.Meanings.{seen}
use Rattle.rd_walk.specs.Output.{IsSpecEnd, ended_status}
use Rattle.rd_spec_command.proofs.specifications.report_spec.Goals as goal

pub returns : goal.returns
returns g c = λ limits steps.
    let text = g.R.SpecReport.text c.args.report.now in
    ran_over (said_meaning text c.args.file.now) c.args.file.now [] limits
    (seen g.I.Inputs.told g.I.Inputs.faults c.args.inputs.now g.S.Sink.written g.S.Sink.faults g.S.Sink.at_fault c.args.out.now steps)
    (seen g.I.Inputs.told g.I.Inputs.faults c.report_file.new.inputs g.S.Sink.written g.S.Sink.faults g.S.Sink.at_fault c.report_file.new.out steps)
    c.report_file.result refl (c.report_file.ensures.runs limits steps)
    (λ old new part has other. whole_said text c.args.file.now limits old new part (ended_status c.report_file.result) has other)
    c.report_file.ensures.faults (λ none. refl) (status_ends IsSpecEnd c.report_file.result c.report_file.ensures.ends)
