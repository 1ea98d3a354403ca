use Rattle.std.proofs.Common.{sym, subst}
use Rattle.rd_check_command.proofs.RunLemmas.{headline_of}
use Rattle.rd_run.proofs.RunLemmas.{means_check}
use Rattle.rd_run.specs.Commands.{command_of, meaning_of}
use Rattle.rd_walk.specs.Meanings.{Ran, seen}
use Rattle.rd_run.proofs.top.run.Goals as goal

pub returns-clause-ran : goal.returns-clause-ran
returns-clause-ran g c =
    subst (Ran (meaning_of c.args.words.now (command_of c.args.words.now)) c.args.limits.now
    (seen g.I.Inputs.told g.I.Inputs.faults c.args.inputs.now g.S.Sink.written g.S.Sink.faults g.S.Sink.at_fault c.args.out.now c.args.steps.now)
    (seen g.I.Inputs.told g.I.Inputs.faults c.obey.new.inputs g.S.Sink.written g.S.Sink.faults g.S.Sink.at_fault c.obey.new.out c.obey.new.steps))
    (sym c.ended_status.ensures) c.obey.ensures

pub returns-clause-headline : goal.returns-clause-headline
returns-clause-headline g c = λ form trace file asks.
    let before = seen g.I.Inputs.told g.I.Inputs.faults c.args.inputs.now g.S.Sink.written g.S.Sink.faults g.S.Sink.at_fault c.args.out.now c.args.steps.now in
    let after = seen g.I.Inputs.told g.I.Inputs.faults c.obey.new.inputs g.S.Sink.written g.S.Sink.faults g.S.Sink.at_fault c.obey.new.out c.obey.new.steps in
    headline_of form trace file c.args.limits.now before after c.ended_status.result
    (means_check c.args.words.now form trace file asks c.args.limits.now before after c.ended_status.result (subst (Ran (meaning_of c.args.words.now (command_of c.args.words.now)) c.args.limits.now before after) (sym c.ended_status.ensures) c.obey.ensures))
