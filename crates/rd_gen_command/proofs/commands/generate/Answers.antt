use Rattle.std.proofs.Common.{refl}
use Rattle.rd_check_command.specs.Checked.{check_texts}
use Rattle.rd_gen_command.proofs.WholeLemmas.{ran_gen}
use Rattle.rd_json.specs.declared.forms.Form.TheVariants.{EndingOnly}
use Rattle.rd_kinds.specs.Shipped.{shipped_kinds}
use Rattle.rd_replay_command.specs.States.{built_in_kinds}
use Rattle.rd_walk.specs.Meanings.{seen_alone}
use Rattle.rd_gen_command.proofs.commands.generate.Goals as goal

pub returns : goal.returns
returns g c = λ told faults.
    let (part, writes, output, counts) = c.check_generated.ensures.output in
    ran_gen (check_texts EndingOnly shipped_kinds) built_in_kinds c.args.number c.args.count c.args.limits.now
    (seen_alone told faults g.S.Sink.written g.S.Sink.faults g.S.Sink.at_fault c.args.out.now c.args.steps.now)
    (seen_alone told faults g.S.Sink.written g.S.Sink.faults g.S.Sink.at_fault c.check_generated.new.out c.check_generated.new.steps)
    c.check_generated.result part refl refl writes output counts c.check_generated.ensures.read c.check_generated.ensures.fault
    c.check_generated.ensures.input c.check_generated.ensures.ends
