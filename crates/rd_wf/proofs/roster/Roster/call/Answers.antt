use Rattle.std.proofs.Common.{[], length, option_map, refl, sym, ap, ◌∙◌}
use Rattle.std.specs.List.{before_first, after_first}
use Rattle.rd_base.specs.Bytes.{is_space}
use Rattle.rd_event.specs.declared.items.LineEvent.TheVariants.{Call}
use Rattle.rd_wf.proofs.BytesLemmas.{call_says, call_unnamed, call_worthless, no_more_words, no_values, no_words}
use Rattle.rd_wf.proofs.roster.Roster.call.Goals as goal

pub returns-in_default : goal.returns-in_default
returns-in_default g c = (
  (λ _. no_words c.args.words.now (before_first is_space c.args.words.now) (after_first is_space c.args.words.now) [] [] [] [] refl refl c.in_default.ensures.none),
  refl,
)

pub returns-in_default-cut_at_space : goal.returns-in_default-cut_at_space
returns-in_default-cut_at_space g c = (
  (λ _. no_more_words c.args.words.now c.in-Some.thread.now c.in-Some.names.now [] [] [] [] c.in-Some.ensures.before c.in-Some.ensures.after c.in_default-cut_at_space.ensures.none),
  refl,
)

pub returns-in_default-cut_at_space-2 : goal.returns-in_default-cut_at_space-2
returns-in_default-cut_at_space-2 g c = (
  (λ _. no_values c.args.words.now c.in-Some.thread.now c.in-Some.names.now c.in-Some-cut_at_space.object.now c.in-Some-cut_at_space.rest.now [] []
      c.in-Some.ensures.before c.in-Some.ensures.after c.in-Some-cut_at_space.ensures.before c.in-Some-cut_at_space.ensures.after c.in_default-cut_at_space-2.ensures.none),
  refl,
)

pub returns-in_default-find_called : goal.returns-in_default-find_called
returns-in_default-find_called g c = (
  (λ complete. call_unnamed c.args.words.now c.in-Some.thread.now c.in-Some.names.now c.in-Some-cut_at_space.object.now c.in-Some-cut_at_space.rest.now
      c.in-Some-cut_at_space-2.method.now c.in-Some-cut_at_space-2.values.now
      c.in-Some.ensures.before c.in-Some.ensures.after c.in-Some-cut_at_space.ensures.before c.in-Some-cut_at_space.ensures.after
      c.in-Some-cut_at_space-2.ensures.before c.in-Some-cut_at_space-2.ensures.after (c.in_default-find_called.ensures.none complete)),
  refl,
)

pub returns-in-Err-BadLine : goal.returns-in-Err-BadLine
returns-in-Err-BadLine g c = (
  (λ _. call_worthless c.args.words.now c.in-Some.thread.now c.in-Some.names.now c.in-Some-cut_at_space.object.now c.in-Some-cut_at_space.rest.now
      c.in-Some-cut_at_space-2.method.now c.in-Some-cut_at_space-2.values.now
      c.in-Some.ensures.before c.in-Some.ensures.after c.in-Some-cut_at_space.ensures.before c.in-Some-cut_at_space.ensures.after
      c.in-Some-cut_at_space-2.ensures.before c.in-Some-cut_at_space-2.ensures.after (c.in-Err-BadLine.ensures.none c.in-Err-BadLine.field-0-is)),
  refl,
)

pub returns-in-Err-NoMemory : goal.returns-in-Err-NoMemory
returns-in-Err-NoMemory g c =
    let says = call_says c.args.words.now c.in-Some.thread.now c.in-Some.names.now c.in-Some-cut_at_space.object.now c.in-Some-cut_at_space.rest.now
    c.in-Some-cut_at_space-2.method.now c.in-Some-cut_at_space-2.values.now
    c.in-Some.ensures.before c.in-Some.ensures.after c.in-Some-cut_at_space.ensures.before c.in-Some-cut_at_space.ensures.after
    c.in-Some-cut_at_space-2.ensures.before c.in-Some-cut_at_space-2.ensures.after (c.in-Some-find_called.ensures.named refl) in
    let (slots, read) = c.in-Err-NoMemory.ensures.memory c.in-Err-NoMemory.field-0-is in
    (Call c.in-Some.thread.now c.in-Some-cut_at_space.object.now c.in-Some-cut_at_space-2.method.now slots, says ∙ ap (option_map _) read, refl)

pub returns-in-Err : goal.returns-in-Err
returns-in-Err g c =
    let says = call_says c.args.words.now c.in-Some.thread.now c.in-Some.names.now c.in-Some-cut_at_space.object.now c.in-Some-cut_at_space.rest.now
    c.in-Some-cut_at_space-2.method.now c.in-Some-cut_at_space-2.values.now
    c.in-Some.ensures.before c.in-Some.ensures.after c.in-Some-cut_at_space.ensures.before c.in-Some-cut_at_space.ensures.after
    c.in-Some-cut_at_space-2.ensures.before c.in-Some-cut_at_space-2.ensures.after (c.in-Some-find_called.ensures.named refl) in
    let found = c.in-Some-find_called.ensures in (
      Call c.in-Some.thread.now c.in-Some-cut_at_space.object.now c.in-Some-cut_at_space-2.method.now c.in-Ok.slots,
      says ∙ ap (option_map _) c.in-Ok.ensures.slots,
      (
        c.in-Err.ensures.err c.in-Some.thread.now c.in-Some-cut_at_space.object.now c.in-Some-cut_at_space-2.method.now c.in-Ok.slots found.thread found.object found.method (ap length (sym c.items-count.ensures)),
        refl,
      ),
    )

pub returns : goal.returns
returns g c =
    let says = call_says c.args.words.now c.in-Some.thread.now c.in-Some.names.now c.in-Some-cut_at_space.object.now c.in-Some-cut_at_space.rest.now
    c.in-Some-cut_at_space-2.method.now c.in-Some-cut_at_space-2.values.now
    c.in-Some.ensures.before c.in-Some.ensures.after c.in-Some-cut_at_space.ensures.before c.in-Some-cut_at_space.ensures.after
    c.in-Some-cut_at_space-2.ensures.before c.in-Some-cut_at_space-2.ensures.after (c.in-Some-find_called.ensures.named refl) in
    let found = c.in-Some-find_called.ensures in (
      Call c.in-Some.thread.now c.in-Some-cut_at_space.object.now c.in-Some-cut_at_space-2.method.now c.in-Ok.slots,
      says ∙ ap (option_map _) c.in-Ok.ensures.slots,
      λ kinds lines stands.
          let told = c.in_default-judge_call.ensures.ok c.in-Some.thread.now c.in-Some-cut_at_space.object.now c.in-Some-cut_at_space-2.method.now c.in-Ok.slots found.thread found.object found.method
          (ap length (sym c.items-count.ensures)) kinds lines stands in (
            told.0,
            c.count_call.ensures.numbers ∙ told.1,
            c.count_call.ensures.stands kinds lines c.in-Some.thread.now c.in-Some-cut_at_space.object.now c.in-Some-cut_at_space-2.method.now stands,
          ),
    )
