use Rattle.std.proofs.Common.{subst}
use Rattle.rd_run.specs.Commands.{command_of, meaning_of}
use Rattle.rd_walk.specs.Meanings.{Ran, seen}
use Rattle.rd_program.proofs.program.run_words.Goals as goal

pub returns : goal.returns
returns g c =
    let before = seen g.I.Inputs.told g.I.Inputs.faults c.args.inputs.now g.S.Sink.written g.S.Sink.faults g.S.Sink.at_fault c.args.out.now in
    let after = seen g.I.Inputs.told g.I.Inputs.faults c.run.new.inputs g.S.Sink.written g.S.Sink.faults g.S.Sink.at_fault c.run.new.out c.run.new.steps in
    let ran = subst (λ (T : Type 0). T)
    (λ k. Ran (meaning_of c.args.words.now (command_of c.args.words.now)) (c.standard-limits.ensures.value k) (before (c.new-steps.ensures k)) after c.run.result)
    c.run.ensures.ran in
    record { ran = (c.run.result, c.run.new.steps, c.exit_code.ensures, ran) }
