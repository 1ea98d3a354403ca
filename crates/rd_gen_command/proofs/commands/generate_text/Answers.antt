use Rattle.std.proofs.Common.{refl}
use Rattle.rd_gen_command.specs.GeneratedTexts.{gen_text_outcome}
use Rattle.rd_walk.proofs.RanLemmas.{ran_text}
use Rattle.rd_walk.proofs.StatusLemmas.{clean_ends, clean_no_fault}
use Rattle.rd_walk.specs.Meanings.{seen_alone}
use Rattle.rd_walk.specs.Output.{IsTextStatus}
use Rattle.rd_gen_command.proofs.commands.generate_text.Goals as goal

pub returns : goal.returns
returns g c = λ limits told faults steps.
    let (part, writes, output) = c.write_text.ensures.output in
    ran_text IsTextStatus (gen_text_outcome c.args.number c.args.count) limits
    (seen_alone told faults g.S.Sink.written g.S.Sink.faults g.S.Sink.at_fault c.args.out.now steps)
    (seen_alone told faults g.S.Sink.written g.S.Sink.faults g.S.Sink.at_fault c.write_text.new.out steps)
    c.write_text.result part refl refl refl writes output c.write_text.ensures.fault (clean_no_fault c.write_text.result c.write_text.ensures.clean)
    (clean_ends c.write_text.result c.write_text.ensures.clean)
