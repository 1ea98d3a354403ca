use Rattle.std.proofs.Common.{sym, subst}
use Rattle.std.proofs.lemmas.Result.{on_ok_weaker}
use Rattle.rd_io.specs.Sinks.{Appends}
use Rattle.rd_json.specs.Forms.{race_in}
use Rattle.rd_report.specs.Races.{told_by}
use Rattle.rd_report.specs.Texts.{naming_in}
use Rattle.rd_check_command.proofs.checking.Check.report.Goals as goal

pub returns-in-Text-clause-ok : goal.returns-in-Text-clause-ok
returns-in-Text-clause-ok g c =
    on_ok_weaker c.report_lines.result
    (subst (λ form. Appends (g.S.Sink.written c.args.out.now) (g.S.Sink.written c.report_lines.new.out)
    (race_in form c.args.self.now.spec.now (naming_in c.args.names.now) (told_by c.args.race.now.later.value) (told_by c.args.race.now.earlier.value))) (sym c.in-Text.is))
    c.report_lines.ensures.ok

pub returns-in-Json-clause-ok : goal.returns-in-Json-clause-ok
returns-in-Json-clause-ok g c =
    on_ok_weaker c.report_object.result
    (subst (λ form. Appends (g.S.Sink.written c.args.out.now) (g.S.Sink.written c.report_object.new.out)
    (race_in form c.args.self.now.spec.now (naming_in c.args.names.now) (told_by c.args.race.now.later.value) (told_by c.args.race.now.earlier.value))) (sym c.in-Json.is))
    c.report_object.ensures.ok
