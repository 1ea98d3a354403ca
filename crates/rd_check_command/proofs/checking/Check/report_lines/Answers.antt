use Rattle.std.proofs.Common.{[], refl, subst, ◌∙◌}
use Rattle.std.proofs.lemmas.Result.{on_ok_weaker, on_err_weaker}
use Rattle.rd_io.proofs.SinkLemmas.{appends_none}
use Rattle.rd_io.specs.Sinks.{Appends}
use Rattle.rd_report.specs.Races.{race_text, told_by}
use Rattle.rd_report.specs.Texts.{naming_in}
use Rattle.rd_walk.proofs.OutputLemmas.{always_err}
use Rattle.rd_walk.specs.Analysis.{WritesFront}
use Rattle.rd_check_command.proofs.TellingLemmas.{lines_told}
use Rattle.rd_check_command.proofs.checking.Check.report_lines.Goals as goal

pub returns-in_err-tell_lines-clause-front : goal.returns-in_err-tell_lines-clause-front
returns-in_err-tell_lines-clause-front g c =
    let wrote = g.S.Sink.written c.args.out.now in
    let race = c.args.race.now in
    let text = race_text c.args.self.now.spec.now (naming_in c.args.names.now) (told_by race.later.value) (told_by race.earlier.value) in
    always_err _ c.from_residual.result ([], text, refl, appends_none wrote wrote refl)

pub returns-in-Some-clause-ok : goal.returns-in-Some-clause-ok
returns-in-Some-clause-ok g c =
    let race = c.args.race.now in
    let told = c.tell_lines.new.self in
    let kept = c.tell_lines.ensures.same.5 ∙ c.requires.formulas in
    on_ok_weaker c.write_race.result
    (subst (Appends (g.S.Sink.written c.args.out.now) (g.S.Sink.written c.write_race.new.out))
    (lines_told c.args.self.now.spec.now (naming_in c.args.names.now) race c.requires.failed told.formulas kept c.items.result.now c.items-in-Some.result.now c.in-Some.line.now
    (c.items.ensures ∙ c.in_ok-tell_lines.ensures.later) (c.items-in-Some.ensures ∙ c.in_ok-tell_lines.ensures.earlier) c.in-Some.ensures))
    c.write_race.ensures.ok

pub returns-in-Some-clause-front : goal.returns-in-Some-clause-front
returns-in-Some-clause-front g c =
    let race = c.args.race.now in
    let told = c.tell_lines.new.self in
    let kept = c.tell_lines.ensures.same.5 ∙ c.requires.formulas in
    on_err_weaker c.write_race.result
    (subst (WritesFront (g.S.Sink.written c.args.out.now) (g.S.Sink.written c.write_race.new.out) [])
    (lines_told c.args.self.now.spec.now (naming_in c.args.names.now) race c.requires.failed told.formulas kept c.items.result.now c.items-in-Some.result.now c.in-Some.line.now
    (c.items.ensures ∙ c.in_ok-tell_lines.ensures.later) (c.items-in-Some.ensures ∙ c.in_ok-tell_lines.ensures.earlier) c.in-Some.ensures))
    c.write_race.ensures.front

pub returns-clause-ok : goal.returns-clause-ok
returns-clause-ok g c =
    let race = c.args.race.now in
    let told = c.tell_lines.new.self in
    let kept = c.tell_lines.ensures.same.5 ∙ c.requires.formulas in
    on_ok_weaker c.write_race-2.result
    (subst (Appends (g.S.Sink.written c.args.out.now) (g.S.Sink.written c.write_race-2.new.out))
    (lines_told c.args.self.now.spec.now (naming_in c.args.names.now) race c.requires.failed told.formulas kept c.items-2.result.now c.items-3.result.now c.items-4.result.now
    (c.items-2.ensures ∙ c.in_ok-tell_lines.ensures.later) (c.items-3.ensures ∙ c.in_ok-tell_lines.ensures.earlier)
    (c.items-4.ensures ∙ c.in_ok-line.ensures.text)))
    c.write_race-2.ensures.ok

pub returns-clause-front : goal.returns-clause-front
returns-clause-front g c =
    let race = c.args.race.now in
    let told = c.tell_lines.new.self in
    let kept = c.tell_lines.ensures.same.5 ∙ c.requires.formulas in
    on_err_weaker c.write_race-2.result
    (subst (WritesFront (g.S.Sink.written c.args.out.now) (g.S.Sink.written c.write_race-2.new.out) [])
    (lines_told c.args.self.now.spec.now (naming_in c.args.names.now) race c.requires.failed told.formulas kept c.items-2.result.now c.items-3.result.now c.items-4.result.now
    (c.items-2.ensures ∙ c.in_ok-tell_lines.ensures.later) (c.items-3.ensures ∙ c.in_ok-tell_lines.ensures.earlier)
    (c.items-4.ensures ∙ c.in_ok-line.ensures.text)))
    c.write_race-2.ensures.front
