use Rattle.std.proofs.Common.{true, ap, inl, inr, refl, subst, sym, ◌∙◌}
use Rattle.std.specs.Prelude.{option_map}
use Rattle.rd_epochs_command.proofs.ItemLemmas.{line_bad, line_of_one, lines_later}
use Rattle.rd_epochs_command.proofs.JudgeLemmas.{as_before, judged_again, still_refused, surely}
use Rattle.rd_epochs_command.proofs.SayingLemmas.{declared_then, says_call, so, words_say}
use Rattle.rd_epochs_command.specs.declared.lines.Words.{Words}
use Rattle.rd_epochs_command.specs.Firsts.{epochs_bound, first_texts}
use Rattle.rd_epochs_command.specs.Watching.{WatchLeads}
use Rattle.rd_memory.specs.MemoryLines.{access_of}
use Rattle.rd_memory.specs.MemoryTraces.{access_call, items_said, memory_says}
use Rattle.rd_walk.specs.Taking.{TakesGrammarLine}
use Rattle.rd_wf.proofs.BytesLemmas.{no_second}
use Rattle.rd_wf.specs.Roster.{RosterStandsFor}
use Rattle.rd_epochs_command.proofs.lines.take_access.Goals as goal

pub returns-in_default-clause-line : goal.returns-in_default-clause-line
returns-in_default-clause-line g c = λ bytes is.
    let same = c.refuse.ensures.same in
    let wrote = g.S.Sink.written c.args.out.now in
    subst (TakesGrammarLine memory_says WatchLeads (λ _ _. first_texts) (λ _ _. epochs_bound) c.args.number bytes c.args.walker.now c.refuse.new.walker wrote wrote c.args.steps.now c.args.steps.now)
    (sym c.refuse.ensures.refused)
    (line_bad memory_says WatchLeads (λ _ _. first_texts) (λ _ _. epochs_bound) c.args.number bytes c.args.walker.now c.refuse.new.walker wrote c.args.steps.now
    (λ before. ap (option_map (items_said before)) (is ∙ ap (option_map (access_of c.args.write)) (no_second c.args.names.now c.in_default.ensures.none)))
    c.refuse.ensures.cause (λ kinds before stands. subst (λ roster. RosterStandsFor kinds roster before) (sym same.0) stands) same.1)

pub judge_known-requires-clause-kinds : goal.judge_known-requires-clause-kinds
judge_known-requires-clause-kinds g c = let (kinds, start, before, stands, leads, behind) = c.requires.stands in stands.kind_entries ∙ leads.kinds_are

-- ---- its variable was not declared

pub returns-in_default-known_object-clause-line : goal.returns-in_default-known_object-clause-line
returns-in_default-known_object-clause-line g c = λ bytes is.
    let words : Words = record { thread = c.in-Some.thread; variable = c.in-Some.variable; write = c.args.write } in
    c.take_new.ensures.line bytes (words_say bytes c.args.names.now words is c.in-Some.ensures.before c.in-Some.ensures.after)

-- ---- it may follow

pub hand_on_access-requires-clause-next : goal.hand_on_access-requires-clause-next
hand_on_access-requires-clause-next g c =
    let (kinds, start, before, stands, leads, behind) = c.requires.stands in (
      c.args.walker.now,
      access_call c.in-Some.thread.now c.in-Some.variable.now c.args.write,
      record { judged = surely true _ _ _ _ _ _ c.in-Ok.ensures.takes; limits = refl; analysis = refl },
      kinds,
      start,
      before,
      stands,
      leads,
      behind,
    )

pub returns-in-Ok-clause-line : goal.returns-in-Ok-clause-line
returns-in-Ok-clause-line g c = λ bytes is.
    let words : Words = record { thread = c.in-Some.thread; variable = c.in-Some.variable; write = c.args.write } in
    let say = words_say bytes c.args.names.now words is c.in-Some.ensures.before c.in-Some.ensures.after in
    let named = c.in-Ok.ensures.takes.0 in
    let item = access_call words.thread.now words.variable.now words.write in
    line_of_one memory_says _ _ _ c.args.number bytes item c.args.walker.now c.hand_on_access.new.walker _ _ _ _ c.hand_on_access.result
    (λ kinds before stands either. elim either [
      | inl unbroken ↦ says_call bytes words say named before (declared_then bytes words say kinds c.args.walker.now.limits before unbroken)
      | inr refused ↦ absurd (c.hand_on_access.ensures.accepted refused)
    ])
    (c.hand_on_access.ensures.item c.args.walker.now item (record { judged = surely true _ _ _ _ _ _ c.in-Ok.ensures.takes; limits = refl; analysis = refl }))

-- ---- it may not

pub refuse_access-requires-clause-judged : goal.refuse_access-requires-clause-judged
refuse_access-requires-clause-judged g c = judged_again _ _ _ _ _ c.in-Err.refused c.in-Err.ensures.memory c.in-Err.ensures.takes

pub refuse_access-requires-clause-declared : goal.refuse_access-requires-clause-declared
refuse_access-requires-clause-declared g c = λ kinds lines stands.
    let same = as_before _ _ _ _ _ c.in-Err.refused c.in-Err.ensures.memory c.in-Err.ensures.takes in
    so _ _ (ap (λ found. found.unknown) (c.in-Some-known_object.ensures.found kinds lines (subst (λ roster. RosterStandsFor kinds roster lines) same stands))) c.in-Some-known_object.ensures.known

pub returns-in-Err-clause-line : goal.returns-in-Err-clause-line
returns-in-Err-clause-line g c = λ bytes is.
    let words : Words = record { thread = c.in-Some.thread; variable = c.in-Some.variable; write = c.args.write } in
    lines_later memory_says _ _ _ c.args.number bytes c.args.walker.now _ c.refuse_access.new.walker _ _ _ _ c.refuse_access.result
    (still_refused true _ _ _ _ _ c.in-Err.refused c.in-Err.ensures.takes) refl refl
    (c.refuse_access.ensures.line bytes _ _ _ (words_say bytes c.args.names.now words is c.in-Some.ensures.before c.in-Some.ensures.after))
