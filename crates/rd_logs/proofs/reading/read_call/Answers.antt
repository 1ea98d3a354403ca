use Rattle.std.proofs.Common.{Some, ap, sym, ◌∙◌}
use Rattle.rd_event.specs.declared.items.LineEvent.TheVariants.{Call}
use Rattle.rd_logs.proofs.LogLemmas.{call_is, no_method, no_object, no_values, no_words, nothing_after}
use Rattle.rd_logs.specs.declared.lines.LogLine.TheVariants.{Event}
use Rattle.rd_logs.proofs.reading.read_call.Goals as goal

pub returns-in_default-clause-none : goal.returns-in_default-clause-none
returns-in_default-clause-none c = λ bad. no_words c.args.thread.now c.args.rest.now c.items-name.ensures.name c.in_default.ensures.none

pub returns-in_default-cut_at_space-clause-none : goal.returns-in_default-cut_at_space-clause-none
returns-in_default-cut_at_space-clause-none c = λ bad.
    nothing_after c.args.thread.now c.args.rest.now c.items-name.ensures.name c.in-Some.words.now c.in-Some.ensures.after c.in_default-cut_at_space.ensures.none

pub returns-in_default-read_name-clause-none : goal.returns-in_default-read_name-clause-none
returns-in_default-read_name-clause-none c = λ bad.
    no_object c.args.thread.now c.args.rest.now c.items-name.ensures.name c.in-Some.object.now c.in-Some.ensures.before c.in_default-read_name.ensures.none

pub returns-in_default-read_name-2-clause-none : goal.returns-in_default-read_name-2-clause-none
returns-in_default-read_name-2-clause-none c = λ bad.
    no_method c.args.thread.now c.args.rest.now c.items-name.ensures.name c.in-Some.words.now c.in-Some-cut_at_space.method.now c.in-Some.ensures.after c.in-Some-cut_at_space.ensures.before
    c.in_default-read_name-2.ensures.none

pub returns-in-Ok-read_slots-clause-line : goal.returns-in-Ok-read_slots-clause-line
returns-in-Ok-read_slots-clause-line c =
    call_is c.args.thread.now c.args.rest.now c.items-name.ensures.name c.in-Some.object.now c.in-Some.words.now c.in-Some-cut_at_space.method.now c.in-Some-cut_at_space.values.now
    c.in-Ok.object c.in-Ok-read_name.method c.in-Ok-read_slots.slots c.in-Some.ensures.before c.in-Some.ensures.after c.in-Some-cut_at_space.ensures.before c.in-Some-cut_at_space.ensures.after
    c.in-Ok.ensures.name c.in-Ok-read_name.ensures.name c.in-Ok-read_slots.ensures.slots
    ∙ ap (λ thread. Some (Event (Call thread c.in-Ok.object c.in-Ok-read_name.method c.in-Ok-read_slots.slots))) (sym c.copy.ensures)

pub returns-in-Err-clause-none : goal.returns-in-Err-clause-none
returns-in-Err-clause-none c = λ bad.
    no_values c.args.thread.now c.args.rest.now c.items-name.ensures.name c.in-Some.words.now c.in-Some-cut_at_space.values.now c.in-Some.ensures.after c.in-Some-cut_at_space.ensures.after
    (c.in-Err.ensures.none bad)

pub returns-in-Err-clause-memory : goal.returns-in-Err-clause-memory
returns-in-Err-clause-memory c = λ lost.
    let (slots, are) = c.in-Err.ensures.memory lost in (
      Event (Call c.args.thread.now c.in-Ok.object c.in-Ok-read_name.method slots),
      call_is c.args.thread.now c.args.rest.now c.items-name.ensures.name c.in-Some.object.now c.in-Some.words.now c.in-Some-cut_at_space.method.now c.in-Some-cut_at_space.values.now
          c.in-Ok.object c.in-Ok-read_name.method slots c.in-Some.ensures.before c.in-Some.ensures.after c.in-Some-cut_at_space.ensures.before c.in-Some-cut_at_space.ensures.after
          c.in-Ok.ensures.name c.in-Ok-read_name.ensures.name are,
    )
