use Rattle.std.proofs.Common.{refl}
use Rattle.rd_spec_command.specs.Meanings.{kind_outcome}
use Rattle.rd_walk.proofs.RanLemmas.{ran_text}
use Rattle.rd_walk.proofs.StatusLemmas.{clean_ends, clean_no_fault}
use Rattle.rd_walk.specs.Meanings.{seen_alone}
use Rattle.rd_walk.specs.Output.{IsTextStatus}
use Rattle.rd_spec_command.proofs.kinds.kind.Goals as goal

pub returns : goal.returns
returns g c = λ built_in is limits told faults steps.
    let (part, writes, output) = c.write_kind.ensures.output built_in is in
    ran_text IsTextStatus (kind_outcome built_in) limits
    (seen_alone told faults g.S.Sink.written g.S.Sink.faults g.S.Sink.at_fault c.args.out.now steps)
    (seen_alone told faults g.S.Sink.written g.S.Sink.faults g.S.Sink.at_fault c.write_kind.new.out steps)
    c.write_kind.result part refl refl refl writes output c.write_kind.ensures.fault (clean_no_fault c.write_kind.result c.write_kind.ensures.clean)
    (clean_ends c.write_kind.result c.write_kind.ensures.clean)
