use Rattle.std.proofs.Common.{None, Some, ap, refl, subst, sym, ◌∙◌}
use Rattle.std.proofs.lemmas.Option.{slice_get-get_or}
use Rattle.std.specs.Prelude.{option_map}
use Rattle.rd_adjacent_command.specs.Meanings.{adjacent_meaning}
use Rattle.rd_check_command.specs.Meanings.{check_meaning}
use Rattle.rd_ecl.specs.Specified.{kind_at, no_kind}
use Rattle.rd_epochs_command.specs.Meanings.{epochs_meaning}
use Rattle.rd_gen_command.specs.GeneratedTexts.{gen_text_meaning}
use Rattle.rd_gen_command.specs.Meanings.{gen_check_meaning}
use Rattle.rd_kinds.specs.Shipped.{shipped_kinds}
use Rattle.rd_points_command.specs.PointTexts.{points_text}
use Rattle.rd_print.specs.Printed.{spec_text}
use Rattle.rd_reorder_command.specs.Meanings.{reorder_meaning}
use Rattle.rd_replay_command.specs.Meanings.{replay_meaning}
use Rattle.rd_spec_command.specs.Meanings.{kind_meaning, said_meaning}
use Rattle.rd_run.proofs.RunLemmas.{asked_for}
use Rattle.rd_run.specs.Commands.{IsWithinBounds, nth_word, usage_meaning}
use Rattle.rd_run.specs.declared.commands.Command.TheVariants.{Adjacent, Check, Epochs, Replay, Reorder, Spec, Points, Weave, Kind, Gen, GenText}
use Rattle.rd_walk.proofs.RanLemmas.{ran_beside}
use Rattle.rd_walk.specs.Meanings.{Ran, seen}
use Rattle.rd_walk.specs.Output.{ended_status}
use Rattle.rd_weave_command.specs.Meanings.{weave_meaning}
use Rattle.rd_run.proofs.top.obey.Goals as goal

pub returns-in_default : goal.returns-in_default
returns-in_default g c =
    let before = seen g.I.Inputs.told g.I.Inputs.faults c.args.inputs.now g.S.Sink.written g.S.Sink.faults g.S.Sink.at_fault c.args.out.now c.args.steps.now in
    let after = seen g.I.Inputs.told g.I.Inputs.faults c.args.inputs.now g.S.Sink.written g.S.Sink.faults g.S.Sink.at_fault c.refuse_usage.new.out c.args.steps.now in
    let status = ended_status c.refuse_usage.result in
    asked_for c.args.words.now None (sym c.in_default.is ∙ c.command_of.ensures.asked) c.args.limits.now before after status
    (ran_beside usage_meaning c.args.limits.now before after status refl
    (c.refuse_usage.ensures c.args.limits.now before.told before.input_faults before.steps))

pub returns-in-Check : goal.returns-in-Check
returns-in-Check g c =
    let before = seen g.I.Inputs.told g.I.Inputs.faults c.args.inputs.now g.S.Sink.written g.S.Sink.faults g.S.Sink.at_fault c.args.out.now c.args.steps.now in
    let after = seen g.I.Inputs.told g.I.Inputs.faults c.check.new.inputs g.S.Sink.written g.S.Sink.faults g.S.Sink.at_fault c.check.new.out c.check.new.steps in
    let status = ended_status c.check.result in
    asked_for c.args.words.now (Some (Check c.in-Check.form)) (ap Some (sym c.in-Check.is) ∙ c.in-Some.ensures.asked) c.args.limits.now before after status
    (subst (λ file. Ran (check_meaning c.in-Check.form (nth_word c.args.words.now 1) file) c.args.limits.now before after status) c.third_word.ensures
    (subst (λ name. Ran (check_meaning c.in-Check.form name (option_map (λ f. f.now) c.third_word.result)) c.args.limits.now before after status) c.nth_word-file.ensures c.check.ensures))

pub returns-in-Replay : goal.returns-in-Replay
returns-in-Replay g c =
    let before = seen g.I.Inputs.told g.I.Inputs.faults c.args.inputs.now g.S.Sink.written g.S.Sink.faults g.S.Sink.at_fault c.args.out.now c.args.steps.now in
    let after = seen g.I.Inputs.told g.I.Inputs.faults c.replay.new.inputs g.S.Sink.written g.S.Sink.faults g.S.Sink.at_fault c.replay.new.out c.replay.new.steps in
    let status = ended_status c.replay.result in
    asked_for c.args.words.now (Some Replay) (ap Some (sym c.in-Replay.is) ∙ c.in-Some.ensures.asked) c.args.limits.now before after status
    (subst (λ name. Ran (replay_meaning name) c.args.limits.now before after status) c.nth_word-file.ensures c.replay.ensures)

pub returns-in-Epochs : goal.returns-in-Epochs
returns-in-Epochs g c =
    let before = seen g.I.Inputs.told g.I.Inputs.faults c.args.inputs.now g.S.Sink.written g.S.Sink.faults g.S.Sink.at_fault c.args.out.now c.args.steps.now in
    let after = seen g.I.Inputs.told g.I.Inputs.faults c.epochs.new.inputs g.S.Sink.written g.S.Sink.faults g.S.Sink.at_fault c.epochs.new.out c.epochs.new.steps in
    let status = ended_status c.epochs.result in
    asked_for c.args.words.now (Some Epochs) (ap Some (sym c.in-Epochs.is) ∙ c.in-Some.ensures.asked) c.args.limits.now before after status
    (subst (λ name. Ran (epochs_meaning name) c.args.limits.now before after status) c.nth_word-file.ensures c.epochs.ensures)

pub returns-in-Reorder : goal.returns-in-Reorder
returns-in-Reorder g c =
    let before = seen g.I.Inputs.told g.I.Inputs.faults c.args.inputs.now g.S.Sink.written g.S.Sink.faults g.S.Sink.at_fault c.args.out.now c.args.steps.now in
    let after = seen g.I.Inputs.told g.I.Inputs.faults c.reorder.new.inputs g.S.Sink.written g.S.Sink.faults g.S.Sink.at_fault c.reorder.new.out c.reorder.new.steps in
    let status = ended_status c.reorder.result in
    asked_for c.args.words.now (Some (Reorder c.in-Reorder.number)) (ap Some (sym c.in-Reorder.is) ∙ c.in-Some.ensures.asked) c.args.limits.now before after status
    (subst (λ name. Ran (reorder_meaning name c.in-Reorder.number) c.args.limits.now before after status) c.nth_word-file.ensures c.reorder.ensures)

pub adjacent-requires-clause-order : goal.adjacent-requires-clause-order
adjacent-requires-clause-order g c = subst IsWithinBounds c.in-Adjacent.is c.in-Some.ensures.within

pub returns-in-Adjacent : goal.returns-in-Adjacent
returns-in-Adjacent g c =
    let before = seen g.I.Inputs.told g.I.Inputs.faults c.args.inputs.now g.S.Sink.written g.S.Sink.faults g.S.Sink.at_fault c.args.out.now c.args.steps.now in
    let after = seen g.I.Inputs.told g.I.Inputs.faults c.adjacent.new.inputs g.S.Sink.written g.S.Sink.faults g.S.Sink.at_fault c.adjacent.new.out c.adjacent.new.steps in
    let status = ended_status c.adjacent.result in
    asked_for c.args.words.now (Some (Adjacent c.in-Adjacent.first c.in-Adjacent.second)) (ap Some (sym c.in-Adjacent.is) ∙ c.in-Some.ensures.asked) c.args.limits.now before after status
    (subst (λ name. Ran (adjacent_meaning name c.in-Adjacent.first c.in-Adjacent.second) c.args.limits.now before after status) c.nth_word-file.ensures c.adjacent.ensures)

pub returns-in-Spec : goal.returns-in-Spec
returns-in-Spec g c =
    let before = seen g.I.Inputs.told g.I.Inputs.faults c.args.inputs.now g.S.Sink.written g.S.Sink.faults g.S.Sink.at_fault c.args.out.now c.args.steps.now in
    let after = seen g.I.Inputs.told g.I.Inputs.faults c.spec.new.inputs g.S.Sink.written g.S.Sink.faults g.S.Sink.at_fault c.spec.new.out c.args.steps.now in
    let status = ended_status c.spec.result in
    asked_for c.args.words.now (Some Spec) (ap Some (sym c.in-Spec.is) ∙ c.in-Some.ensures.asked) c.args.limits.now before after status
    (subst (λ name. Ran (said_meaning spec_text name) c.args.limits.now before after status) c.nth_word-file.ensures
    (c.spec.ensures c.args.limits.now before.steps))

pub returns-in-Points : goal.returns-in-Points
returns-in-Points g c =
    let before = seen g.I.Inputs.told g.I.Inputs.faults c.args.inputs.now g.S.Sink.written g.S.Sink.faults g.S.Sink.at_fault c.args.out.now c.args.steps.now in
    let after = seen g.I.Inputs.told g.I.Inputs.faults c.points.new.inputs g.S.Sink.written g.S.Sink.faults g.S.Sink.at_fault c.points.new.out c.args.steps.now in
    let status = ended_status c.points.result in
    asked_for c.args.words.now (Some Points) (ap Some (sym c.in-Points.is) ∙ c.in-Some.ensures.asked) c.args.limits.now before after status
    (subst (λ name. Ran (said_meaning points_text name) c.args.limits.now before after status) c.nth_word-file.ensures
    (c.points.ensures c.args.limits.now before.steps))

pub returns-in-Weave : goal.returns-in-Weave
returns-in-Weave g c =
    let before = seen g.I.Inputs.told g.I.Inputs.faults c.args.inputs.now g.S.Sink.written g.S.Sink.faults g.S.Sink.at_fault c.args.out.now c.args.steps.now in
    let after = seen g.I.Inputs.told g.I.Inputs.faults c.weave.new.inputs g.S.Sink.written g.S.Sink.faults g.S.Sink.at_fault c.weave.new.out c.args.steps.now in
    let status = ended_status c.weave.result in
    asked_for c.args.words.now (Some Weave) (ap Some (sym c.in-Weave.is) ∙ c.in-Some.ensures.asked) c.args.limits.now before after status
    (subst (λ names. Ran (weave_meaning names) c.args.limits.now before after status) c.file_words.ensures.files (c.weave.ensures before.steps))

pub returns-in-Kind : goal.returns-in-Kind
returns-in-Kind g c =
    let before = seen g.I.Inputs.told g.I.Inputs.faults c.args.inputs.now g.S.Sink.written g.S.Sink.faults g.S.Sink.at_fault c.args.out.now c.args.steps.now in
    let after = seen g.I.Inputs.told g.I.Inputs.faults c.args.inputs.now g.S.Sink.written g.S.Sink.faults g.S.Sink.at_fault c.kind.new.out c.args.steps.now in
    let status = ended_status c.kind.result in
    let built_in = kind_at shipped_kinds c.in-Kind.number in
    let known = slice_get-get_or shipped_kinds c.in-Kind.number no_kind (subst IsWithinBounds c.in-Kind.is c.in-Some.ensures.within) in
    asked_for c.args.words.now (Some (Kind c.in-Kind.number)) (ap Some (sym c.in-Kind.is) ∙ c.in-Some.ensures.asked) c.args.limits.now before after status
    (ran_beside (kind_meaning built_in) c.args.limits.now before after status refl
    (c.kind.ensures built_in known c.args.limits.now before.told before.input_faults before.steps))

pub returns-in-Gen : goal.returns-in-Gen
returns-in-Gen g c =
    let before = seen g.I.Inputs.told g.I.Inputs.faults c.args.inputs.now g.S.Sink.written g.S.Sink.faults g.S.Sink.at_fault c.args.out.now c.args.steps.now in
    let after = seen g.I.Inputs.told g.I.Inputs.faults c.args.inputs.now g.S.Sink.written g.S.Sink.faults g.S.Sink.at_fault c.generate.new.out c.generate.new.steps in
    let status = ended_status c.generate.result in
    asked_for c.args.words.now (Some (Gen c.in-Gen.number c.in-Gen.count)) (ap Some (sym c.in-Gen.is) ∙ c.in-Some.ensures.asked) c.args.limits.now before after status
    (ran_beside (gen_check_meaning c.in-Gen.number c.in-Gen.count) c.args.limits.now before after status refl
    (c.generate.ensures before.told before.input_faults))

pub returns-in-GenText : goal.returns-in-GenText
returns-in-GenText g c =
    let before = seen g.I.Inputs.told g.I.Inputs.faults c.args.inputs.now g.S.Sink.written g.S.Sink.faults g.S.Sink.at_fault c.args.out.now c.args.steps.now in
    let after = seen g.I.Inputs.told g.I.Inputs.faults c.args.inputs.now g.S.Sink.written g.S.Sink.faults g.S.Sink.at_fault c.generate_text.new.out c.args.steps.now in
    let status = ended_status c.generate_text.result in
    asked_for c.args.words.now (Some (GenText c.in-GenText.number c.in-GenText.count)) (ap Some (sym c.in-GenText.is) ∙ c.in-Some.ensures.asked) c.args.limits.now before after status
    (ran_beside (gen_text_meaning c.in-GenText.number c.in-GenText.count) c.args.limits.now before after status refl
    (c.generate_text.ensures c.args.limits.now before.told before.input_faults before.steps))
