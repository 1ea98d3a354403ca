use Rattle.std.proofs.Common.{◌≡◌, ◌+◌, ◌-◌, ◌<◌, ◌++◌, length, refl, sym, ap, ◌∙◌, subst, arith}
use Rattle.std.proofs.lemmas.List.{append_assoc, length-map}
use Rattle.std.proofs.lemmas.Grind.{common_steps}
use Rattle.rd_io.proofs.SinkLemmas.{appends_none, appends_on}
use Rattle.rd_io.specs.Sinks.{Appends}
use Rattle.rd_replay.specs.Replays.{held_shape}
use Rattle.rd_report.specs.Texts.{name_of}
use Rattle.rd_replay_command.specs.States.{held_text, states_before}
use Rattle.rd_wf.specs.Roster.{object_count, object_names_in}
use Rattle.rd_replay_command.proofs.StateLemmas.{states_more, states_rest}
use Rattle.rd_walk.proofs.OutputLemmas.{always_err}
use Rattle.rd_replay_command.proofs.states.write_states.Goals as goal

pub loop-object-init : goal.loop-object-init
unfolding states_before
loop-object-init g c =
    let written = g.S.Sink.written c.args.out.now in
    record { within = omega arith; written = λ kinds calls stands same. appends_none written written refl; calm = refl }

pub loop-object-preserved : goal.loop-object-preserved
loop-object-preserved g c =
    let names = object_names_in c.args.names.now in
    let object = c.loop-object.object in
    let was = g.S.Sink.written c.args.out.now in
    let now = g.S.Sink.written c.write_state.new.out in
    let below : object < object_count c.args.names.now = omega (arith, c.loop-object-test.true, c.objects-object-end.ensures.count) in
    let counted : length names ≡ object_count c.args.names.now = length-map c.args.names.now.objects.entries (λ entry. entry.0) in
    record {
      within = omega (arith, below);
      written = λ kinds calls stands same.
          let inside : object < length kinds = omega (arith, below, same, counted) in
          let text = held_text (name_of names object) (held_shape kinds calls object) in
          subst (Appends was now) (sym (states_more names kinds calls object) ∙ ap (states_before names kinds calls) (omega arith))
          (appends_on _ _ _ (states_before names kinds calls object) text (c.loop-object.invariant.written kinds calls stands same) (c.in_ok-write_state.ensures.ok kinds calls stands inside));
      calm = c.in_ok-write_state.ensures.fault ∙ c.loop-object.invariant.calm;
    }

pub returns-in_err-write_state-clause-front : goal.returns-in_err-write_state-clause-front
returns-in_err-write_state-clause-front g c = always_err _ c.from_residual.result (λ kinds calls stands same.
    let names = object_names_in c.args.names.now in
    let object = c.loop-object.object in
    let below : object < object_count c.args.names.now = omega (arith, c.loop-object-test.true, c.objects-object-end.ensures.count) in
    let counted : length names ≡ object_count c.args.names.now = length-map c.args.names.now.objects.entries (λ entry. entry.0) in
    let inside : object < length kinds = omega (arith, below, same, counted) in
    let (part, rest, is, writes) = c.in_err-write_state.ensures.front kinds calls stands inside in
    let before = states_before names kinds calls object in
    let (behind, whole) = states_rest names kinds calls (object + 1) (length names - (object + 1)) in (
      before ++ part,
      rest ++ behind,
      ap (states_before names kinds calls) (omega (arith, below, counted))
          ∙ whole
          ∙ ap (λ t. t ++ behind) (ap (states_before names kinds calls) (omega arith) ∙ states_more names kinds calls object ∙ ap (λ t. before ++ t) is ∙ sym (append_assoc before part rest))
          ∙ append_assoc (before ++ part) rest behind,
      appends_on _ _ _ before part (c.loop-object.invariant.written kinds calls stands same) writes,
    ))

pub write_state-requires-clause-known : goal.write_state-requires-clause-known
write_state-requires-clause-known g c = grind (arith, common_steps)

pub write_state-requires-clause-stands : goal.write_state-requires-clause-stands
write_state-requires-clause-stands g c = grind (arith, common_steps)

pub returns-clause-ok : goal.returns-clause-ok
returns-clause-ok g c = grind (arith, common_steps)
