use Rattle.std.proofs.Common.{length, ◌+◌, [], ◌∷◌, ◌++◌, Ok, None, Some, ap, refl, subst, sym, ◌∙◌, arith}
use Rattle.std.proofs.lemmas.List.{append-nil}
use Rattle.rd_io.proofs.SinkLemmas.{appends_none}
use Rattle.rd_walk.proofs.OutputLemmas.{always_ok}
use Rattle.std.proofs.lemmas.Result.{on_err_weaker, on_ok_weaker}
use Rattle.rd_check_command.proofs.CheckLemmas.{event_next, event_tracks}
use Rattle.rd_check_command.specs.Checked.{event_numbers}
use Rattle.rd_check_command.specs.Checking.{Tracks}
use Rattle.rd_epoch.proofs.LessonLemmas.{lessons_kept, no_lesson_of_call}
use Rattle.rd_epoch.specs.Epochs.{EpochsStandFor}
use Rattle.rd_epoch.specs.Lessons.{AreLessons}
use Rattle.rd_hb.specs.Tracker.{Tracking}
use Rattle.rd_event.specs.declared.events.Event.TheVariants as numbered
use Rattle.rd_epochs_command.proofs.AccessedLemmas.{access_answer, access_cost, access_held, may_access, thread_known}
use Rattle.rd_epochs_command.proofs.TextLemmas.{texts_grow}
use Rattle.rd_epochs_command.proofs.WatchLemmas.{all_rise, answer_told, counted_first, counted_none, events_few, variable_counted, watches_event, written_first, written_none}
use Rattle.rd_epochs_command.specs.Firsts.{accesses, first_line, first_texts}
use Rattle.rd_epochs_command.specs.Watching.{memory_kinds}
use Rattle.rd_io.specs.Sinks.{Appends}
use Rattle.rd_report.specs.Texts.{name_of}
use Rattle.rd_rules.specs.Events.{roots_of}
use Rattle.rd_rules.specs.declared.causes.Accepted.TheVariants as accepted
use Rattle.rd_walk.specs.Analysis.{WritesFront}
use Rattle.rd_walk.specs.Walk.{Entry, items}
use Rattle.rd_wf.specs.Roster.{call_with, object_names_in}
use Rattle.rd_epochs_command.proofs.watching.FirstRaces.call.Goals as goal

pub pass_call-requires : goal.pass_call-requires
pass_call-requires g c =
    let (before, item, slots, ready) = c.requires in
    record { next = (_, _, call_with c.args.call slots, refl, event_next memory_kinds c.args.self.now.tracker (items before) item (numbered.Call (call_with c.args.call slots)) ready.line.next) }

-- ---- no race

pub access-requires-clause-known : goal.access-requires-clause-known
access-requires-clause-known g c =
    let (before, item, slots, ready) = c.requires in
    thread_known before c.args.self.now c.args.number item (numbered.Call (call_with c.args.call slots)) _ c.args.place ready (call_with c.args.call slots) refl c.pass_call.new.self c.pass_call.ensures.count

pub access-requires-clause-each : goal.access-requires-clause-each
access-requires-clause-each g c =
    let (before, item, slots, ready) = c.requires in
    ready.line.watches.each ∙ sym c.pass_call.ensures.count

pub access-requires-clause-next : goal.access-requires-clause-next
access-requires-clause-next g c =
    let (before, item, slots, ready) = c.requires in
    may_access before c.args.self.now c.args.number item (numbered.Call (call_with c.args.call slots)) _ c.args.place ready (call_with c.args.call slots) refl c.pass_call.new.self c.pass_call.ensures.count (λ roots es next. c.pass_call.ensures.stamp roots es (call_with c.args.call slots) refl next)

pub returns-in-Ok-None-clause-watches : goal.returns-in-Ok-None-clause-watches
returns-in-Ok-None-clause-watches g c = λ before item slots ready.
    let entry : Entry = record { number = c.args.number; item = item } in
    let numbers = accepted.Event (numbered.Call (call_with c.args.call slots)) in
    let now = c.args.self.now in
    let e = (numbered.Call (call_with c.args.call slots)) in
    let said = c.in-Ok-None.ensures in
    let is = ap Ok c.in-Ok-None.field-0-is in
    let tracked = event_tracks memory_kinds now.tracker (items before) item e ready.line.next c.pass_call.new.self (λ roots es next. c.pass_call.ensures.stands roots es (call_with c.args.call slots) refl next) c.pass_call.ensures.count in
    let answer = access_answer before now c.args.number item e _ c.args.place ready (call_with c.args.call slots) refl c.pass_call.new.self c.pass_call.ensures.count (λ roots es next. c.pass_call.ensures.stamp roots es (call_with c.args.call slots) refl next)
    c.access.new.self.epochs (Ok c.in-Ok-None.field-0) c.pass_call.new.steps c.access.new.steps said.taken None is in
    let held = access_held before now c.args.number item e _ c.args.place ready (call_with c.args.call slots) refl c.pass_call.new.self c.pass_call.ensures.count (λ roots es next. c.pass_call.ensures.stamp roots es (call_with c.args.call slots) refl next)
    c.access.new.self.epochs (Ok c.in-Ok-None.field-0) c.pass_call.new.steps c.access.new.steps said.taken None is in
    watches_event before now entry numbers ready.line e refl c.access.new.self
    (subst (λ tracker. Tracks memory_kinds tracker (items before ++ item ∷ [])) (sym said.same.0) tracked) held (omega (arith, said.taken.count))
    (counted_none before now entry numbers ready.line e refl (answer_told before now entry numbers ready.line e refl (call_with c.args.call slots) refl None answer) c.access.new.self.firsts said.same.1)
    (subst (λ lessons. AreLessons lessons (event_numbers before ++ c.args.number ∷ []) (accesses before ++ e ∷ [])) (sym said.same.2)
    (lessons_kept (event_numbers before) (accesses before) c.args.number e ready.line.watches.holds.lengths (all_rise before now entry numbers ready.line e refl) now.lessons ready.line.watches.lessons
    (λ t inside. no_lesson_of_call (call_with c.args.call slots) t)))
    (ap length said.same.2 ∙ ready.line.watches.each ∙ sym c.pass_call.ensures.count ∙ ap (λ (t : Tracking). length t.threads) (sym said.same.0))

pub returns-in-Ok-None-clause-written : goal.returns-in-Ok-None-clause-written
returns-in-Ok-None-clause-written g c = λ before item slots ready.
    let entry : Entry = record { number = c.args.number; item = item } in
    let numbers = accepted.Event (numbered.Call (call_with c.args.call slots)) in
    let now = c.args.self.now in
    let e = (numbered.Call (call_with c.args.call slots)) in
    let answer = access_answer before now c.args.number item e _ c.args.place ready (call_with c.args.call slots) refl c.pass_call.new.self c.pass_call.ensures.count (λ roots es next. c.pass_call.ensures.stamp roots es (call_with c.args.call slots) refl next)
    c.access.new.self.epochs (Ok c.in-Ok-None.field-0) c.pass_call.new.steps c.access.new.steps c.in-Ok-None.ensures.taken None (ap Ok c.in-Ok-None.field-0-is) in
    let same = written_none before now entry numbers ready.line e refl (answer_told before now entry numbers ready.line e refl (call_with c.args.call slots) refl None answer) in
    ([], same ∙ sym (append-nil (first_texts before)), appends_none (g.S.Sink.written c.args.out.now) (g.S.Sink.written c.args.out.now) refl)

pub returns-in-Ok-None-clause-cost : goal.returns-in-Ok-None-clause-cost
returns-in-Ok-None-clause-cost g c = λ before item slots ready.
    access_cost before c.args.self.now c.args.number item (numbered.Call (call_with c.args.call slots)) _ c.args.place ready (call_with c.args.call slots) refl c.pass_call.new.self c.pass_call.ensures.count (λ roots es next. c.pass_call.ensures.stamp roots es (call_with c.args.call slots) refl next)
    c.access.new.self.epochs (Ok c.in-Ok-None.field-0) c.pass_call.new.steps c.access.new.steps c.in-Ok-None.ensures.taken c.args.steps.now c.pass_call.ensures.cost

-- ---- a first race

pub report-requires-clause-named : goal.report-requires-clause-named
report-requires-clause-named g c =
    let (before, item, slots, ready) = c.requires in
    let entry : Entry = record { number = c.args.number; item = item } in
    variable_counted before c.args.self.now entry (accepted.Event (numbered.Call (call_with c.args.call slots))) ready.line (numbered.Call (call_with c.args.call slots)) refl (call_with c.args.call slots) refl c.args.names.now ready.named

pub report-requires-clause-few : goal.report-requires-clause-few
report-requires-clause-few g c =
    let (before, item, slots, ready) = c.requires in
    omega (arith, c.in-Ok-Some.ensures.same.1, events_few before c.args.self.now ready.line.watches)

pub returns-in-Ok-Some-clause-watches : goal.returns-in-Ok-Some-clause-watches
returns-in-Ok-Some-clause-watches g c = always_ok _ c.report.result (λ before item slots ready.
    let entry : Entry = record { number = c.args.number; item = item } in
    let numbers = accepted.Event (numbered.Call (call_with c.args.call slots)) in
    let now = c.args.self.now in
    let e = (numbered.Call (call_with c.args.call slots)) in
    let said = c.in-Ok-Some.ensures in
    let same = c.report.ensures.same in
    let is = ap Ok c.in-Ok-Some.field-0-is in
    let tracked = event_tracks memory_kinds now.tracker (items before) item e ready.line.next c.pass_call.new.self (λ roots es next. c.pass_call.ensures.stands roots es (call_with c.args.call slots) refl next) c.pass_call.ensures.count in
    let answer = access_answer before now c.args.number item e _ c.args.place ready (call_with c.args.call slots) refl c.pass_call.new.self c.pass_call.ensures.count (λ roots es next. c.pass_call.ensures.stamp roots es (call_with c.args.call slots) refl next)
    c.access.new.self.epochs (Ok c.in-Ok-Some.field-0) c.pass_call.new.steps c.access.new.steps said.taken (Some c.in-Ok-Some.first) is in
    let held = access_held before now c.args.number item e _ c.args.place ready (call_with c.args.call slots) refl c.pass_call.new.self c.pass_call.ensures.count (λ roots es next. c.pass_call.ensures.stamp roots es (call_with c.args.call slots) refl next)
    c.access.new.self.epochs (Ok c.in-Ok-Some.field-0) c.pass_call.new.steps c.access.new.steps said.taken (Some c.in-Ok-Some.first) is in
    watches_event before now entry numbers ready.line e refl c.report.new.self
    (subst (λ tracker. Tracks memory_kinds tracker (items before ++ item ∷ [])) (sym (same.0 ∙ said.same.0)) tracked)
    (subst (λ h. EpochsStandFor h (roots_of (items before)) (event_numbers before ++ c.args.number ∷ []) (accesses before ++ e ∷ [])) (sym same.1) held) (omega (arith, ap length same.1, said.taken.count))
    (counted_first before now entry numbers ready.line e refl (call_with c.args.call slots) refl c.in-Ok-Some.first (answer_told before now entry numbers ready.line e refl (call_with c.args.call slots) refl (Some c.in-Ok-Some.first) answer)
    c.report.new.self.firsts (same.2 ∙ ap (λ n. n + 1) said.same.1))
    (subst (λ lessons. AreLessons lessons (event_numbers before ++ c.args.number ∷ []) (accesses before ++ e ∷ [])) (sym (same.3 ∙ said.same.2))
    (lessons_kept (event_numbers before) (accesses before) c.args.number e ready.line.watches.holds.lengths (all_rise before now entry numbers ready.line e refl) now.lessons ready.line.watches.lessons
    (λ t inside. no_lesson_of_call (call_with c.args.call slots) t)))
    (ap length (same.3 ∙ said.same.2) ∙ ready.line.watches.each ∙ sym c.pass_call.ensures.count ∙ ap (λ (t : Tracking). length t.threads) (sym (same.0 ∙ said.same.0))))

pub returns-in-Ok-Some-clause-written : goal.returns-in-Ok-Some-clause-written
returns-in-Ok-Some-clause-written g c = on_ok_weaker c.report.result
    (λ (wrote : Appends (g.S.Sink.written c.args.out.now) (g.S.Sink.written c.report.new.out)
    (first_line (name_of (object_names_in c.args.names.now) c.args.call.object) c.in-Ok-Some.first.later c.in-Ok-Some.first.earlier)) before item slots ready.
    let entry : Entry = record { number = c.args.number; item = item } in
    let numbers = accepted.Event (numbered.Call (call_with c.args.call slots)) in
    let now = c.args.self.now in
    let e = (numbered.Call (call_with c.args.call slots)) in
    let answer = access_answer before now c.args.number item e _ c.args.place ready (call_with c.args.call slots) refl c.pass_call.new.self c.pass_call.ensures.count (λ roots es next. c.pass_call.ensures.stamp roots es (call_with c.args.call slots) refl next)
    c.access.new.self.epochs (Ok c.in-Ok-Some.field-0) c.pass_call.new.steps c.access.new.steps c.in-Ok-Some.ensures.taken (Some c.in-Ok-Some.first) (ap Ok c.in-Ok-Some.field-0-is) in
    let text = written_first before now entry numbers ready.line e refl (call_with c.args.call slots) refl c.in-Ok-Some.first
    (answer_told before now entry numbers ready.line e refl (call_with c.args.call slots) refl (Some c.in-Ok-Some.first) answer) in
    (_, text ∙ ap (λ names. first_texts before ++ first_line (name_of names c.args.call.object) c.in-Ok-Some.first.later c.in-Ok-Some.first.earlier) (sym ready.named), wrote))
    c.report.ensures.ok

pub returns-in-Ok-Some-clause-halted : goal.returns-in-Ok-Some-clause-halted
returns-in-Ok-Some-clause-halted g c = on_err_weaker c.report.result
    (λ (front : WritesFront (g.S.Sink.written c.args.out.now) (g.S.Sink.written c.report.new.out) []
    (first_line (name_of (object_names_in c.args.names.now) c.args.call.object) c.in-Ok-Some.first.later c.in-Ok-Some.first.earlier)) before item slots ready.
    let entry : Entry = record { number = c.args.number; item = item } in
    let numbers = accepted.Event (numbered.Call (call_with c.args.call slots)) in
    let now = c.args.self.now in
    let e = (numbered.Call (call_with c.args.call slots)) in
    let answer = access_answer before now c.args.number item e _ c.args.place ready (call_with c.args.call slots) refl c.pass_call.new.self c.pass_call.ensures.count (λ roots es next. c.pass_call.ensures.stamp roots es (call_with c.args.call slots) refl next)
    c.access.new.self.epochs (Ok c.in-Ok-Some.field-0) c.pass_call.new.steps c.access.new.steps c.in-Ok-Some.ensures.taken (Some c.in-Ok-Some.first) (ap Ok c.in-Ok-Some.field-0-is) in
    let text = written_first before now entry numbers ready.line e refl (call_with c.args.call slots) refl c.in-Ok-Some.first
    (answer_told before now entry numbers ready.line e refl (call_with c.args.call slots) refl (Some c.in-Ok-Some.first) answer) in
    let (part, rest, is, writes) = front in (
      part,
      rest,
      text ∙ ap (λ names. first_texts before ++ first_line (name_of names c.args.call.object) c.in-Ok-Some.first.later c.in-Ok-Some.first.earlier) (sym ready.named)
          ∙ ap (λ t. first_texts before ++ t) is,
      writes,
    ))
    c.report.ensures.front

pub returns-in-Ok-Some-clause-cost : goal.returns-in-Ok-Some-clause-cost
returns-in-Ok-Some-clause-cost g c = λ before item slots ready.
    access_cost before c.args.self.now c.args.number item (numbered.Call (call_with c.args.call slots)) _ c.args.place ready (call_with c.args.call slots) refl c.pass_call.new.self c.pass_call.ensures.count (λ roots es next. c.pass_call.ensures.stamp roots es (call_with c.args.call slots) refl next)
    c.access.new.self.epochs (Ok c.in-Ok-Some.field-0) c.pass_call.new.steps c.access.new.steps c.in-Ok-Some.ensures.taken c.args.steps.now c.pass_call.ensures.cost

-- ---- memory ran out at the access

pub returns-in-Err-clause-halted : goal.returns-in-Err-clause-halted
returns-in-Err-clause-halted g c = λ before item slots ready.
    let entry : Entry = record { number = c.args.number; item = item } in
    let (rest, is) = texts_grow before entry ready.line.watches.tracks.told in
    ([], rest, is, appends_none (g.S.Sink.written c.args.out.now) (g.S.Sink.written c.args.out.now) refl)

pub returns-in-Err-clause-cost : goal.returns-in-Err-clause-cost
returns-in-Err-clause-cost g c = λ before item slots ready.
    access_cost before c.args.self.now c.args.number item (numbered.Call (call_with c.args.call slots)) _ c.args.place ready (call_with c.args.call slots) refl c.pass_call.new.self c.pass_call.ensures.count (λ roots es next. c.pass_call.ensures.stamp roots es (call_with c.args.call slots) refl next)
    c.access.new.self.epochs c.access.result c.pass_call.new.steps c.access.new.steps c.access.ensures.taken c.args.steps.now c.pass_call.ensures.cost
