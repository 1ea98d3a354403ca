use Rattle.std.proofs.Common.{◌≡◌, refl}
use Rattle.rd_run.proofs.RunLemmas.{usage_ends, usage_no_fault}
use Rattle.rd_run.specs.Commands.{usage_outcome}
use Rattle.rd_walk.proofs.RanLemmas.{ran_text}
use Rattle.rd_walk.specs.Meanings.{seen_alone}
use Rattle.rd_walk.specs.declared.status.Status.TheVariants.{Usage}
use Rattle.rd_run.proofs.top.refuse_usage.Goals as goal

pub returns : goal.returns
returns g c = λ limits told faults steps.
    let (part, writes, output) = c.write_usage.ensures.output in
    ran_text (λ status. status ≡ Usage) usage_outcome limits
    (seen_alone told faults g.S.Sink.written g.S.Sink.faults g.S.Sink.at_fault c.args.out.now steps)
    (seen_alone told faults g.S.Sink.written g.S.Sink.faults g.S.Sink.at_fault c.write_usage.new.out steps)
    c.write_usage.result part refl refl refl writes output c.write_usage.ensures.fault (usage_no_fault c.write_usage.result c.write_usage.ensures.usage)
    (usage_ends c.write_usage.result c.write_usage.ensures.usage c.write_usage.ensures.only)
