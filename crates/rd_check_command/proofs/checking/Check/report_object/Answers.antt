use Rattle.std.proofs.Common.{[], subst, ◌∙◌}
use Rattle.std.proofs.lemmas.Result.{on_ok_weaker, on_err_weaker}
use Rattle.rd_io.specs.Sinks.{Appends}
use Rattle.rd_json.proofs.FailedLemmas.{failed_object}
use Rattle.rd_report.specs.Texts.{naming_in}
use Rattle.rd_walk.specs.Analysis.{WritesFront}
use Rattle.rd_check_command.proofs.checking.Check.report_object.Goals as goal

pub returns-clause-ok : goal.returns-clause-ok
returns-clause-ok g c =
    on_ok_weaker c.write_line.result
    (subst (Appends (g.S.Sink.written c.args.out.now) (g.S.Sink.written c.write_line.new.out))
    (c.items.ensures ∙ (c.in_ok-tell_object.ensures.text ∙ failed_object c.args.self.now.spec.now (naming_in c.args.names.now) c.args.race.now c.requires.failed)))
    c.write_line.ensures.ok

pub returns-clause-front : goal.returns-clause-front
returns-clause-front g c =
    on_err_weaker c.write_line.result
    (subst (WritesFront (g.S.Sink.written c.args.out.now) (g.S.Sink.written c.write_line.new.out) [])
    (c.items.ensures ∙ (c.in_ok-tell_object.ensures.text ∙ failed_object c.args.self.now.spec.now (naming_in c.args.names.now) c.args.race.now c.requires.failed)))
    c.write_line.ensures.front
