use Rattle.std.proofs.Common.{◌≡◌, ℕ, List, [], ◌∷◌, ◌++◌, Option, Some, ap, refl, subst, sym, ◌∙◌, arith}
use Rattle.std.proofs.lemmas.List.{append-nil}
use Rattle.std.proofs.lemmas.Result.{on_ok_weaker, on_err_weaker}
use Rattle.rd_io.proofs.SinkLemmas.{appends_none}
use Rattle.rd_io.specs.Sinks.{Appends}
use Rattle.rd_detect.specs.Covers.{CoversStandFor}
use Rattle.rd_detect.specs.Detect.{DetectorStandsFor, IsAnswer}
use Rattle.rd_ecl.specs.Kinds.{kinds_of}
use Rattle.rd_ecl.specs.Specified.{SpecifiedKind}
use Rattle.rd_event.specs.declared.events.Event.{Event as Numbered}
use Rattle.rd_event.specs.declared.events.Event.TheVariants as event
use Rattle.rd_json.specs.Forms.{race_in}
use Rattle.rd_report.specs.Races.{told_by}
use Rattle.rd_report.specs.Texts.{naming_in}
use Rattle.rd_rules.specs.declared.causes.Accepted.TheVariants as accepted
use Rattle.rd_store.specs.declared.Race.{Race}
use Rattle.rd_walk.specs.Analysis.{WritesFront}
use Rattle.rd_check_command.specs.Checking.{IsKnownOf, IsToldAmong, IsToldOf, Tracks}
use Rattle.rd_check_command.specs.Checked.{entry_events, event_numbers, race_texts}
use Rattle.rd_rules.specs.Events.{roots_of}
use Rattle.rd_walk.specs.Walk.{Entry, items}
use Rattle.rd_check_command.proofs.CheckLemmas.{call_cost, call_next, call_races, checks_call, checks_quiet, event_cost, event_next, event_tracks, failed_race, known_call, races_call, text_call, texts_quiet, told_call, told_later}
use Rattle.rd_check_command.proofs.ReportLemmas.{answer_text, texts_grow}
use Rattle.rd_check_command.proofs.checking.Check.event.Goals as goal

-- the answer with a race
answered : (kinds : List SpecifiedKind) (numbers : List ℕ) (es : List Numbered) (place : ℕ) (answer : Option Race) (race : Race) → IsAnswer kinds numbers es place answer
    → answer ≡ Some race → IsAnswer kinds numbers es place (Some race)
answered kinds numbers es place answer race said is = subst (IsAnswer kinds numbers es place) is said

pub pass-requires : goal.pass-requires
pass-requires g c =
    let (start, before, item, ready) = c.requires in
    let now = event_next (kinds_of start.spec.now) c.args.self.now.tracker (items before) item c.args.event.now ready.next in
    record { next = (_, _, now) }

pub returns-in_default-event-clause-checks : goal.returns-in_default-event-clause-checks
returns-in_default-event-clause-checks g c = λ start before item ready.
    let entry : Entry = record { number = c.args.number; item = item } in
    checks_quiet start c.args.self.now c.pass.new.self before entry ready.checks
    (event_tracks (kinds_of start.spec.now) c.args.self.now.tracker (items before) item c.args.event.now ready.next c.pass.new.self c.in-Ok.ensures.stands c.in-Ok.ensures.count)
    (accepted.Event c.args.event.now) ready.next (λ call e. c.in_default-event.not-Call call cc)

pub returns-in_default-event-clause-written : goal.returns-in_default-event-clause-written
returns-in_default-event-clause-written g c = λ start before item ready.
    let entry : Entry = record { number = c.args.number; item = item } in
    let same = texts_quiet start.form start.spec.now c.args.self.now.tracker before entry (accepted.Event c.args.event.now) ready.next (λ call e. c.in_default-event.not-Call call cc) in
    ([], same ∙ sym (append-nil (race_texts start.form start.spec.now before)), appends_none (g.S.Sink.written c.args.out.now) (g.S.Sink.written c.args.out.now) refl)

pub returns-in_default-event-clause-cost : goal.returns-in_default-event-clause-cost
returns-in_default-event-clause-cost g c = λ start before item ready.
    omega (arith, c.pass.ensures.cost, event_cost (kinds_of start.spec.now) c.args.self.now.tracker (items before) item c.args.event.now ready.next)

pub returns-in_default-clause-halted : goal.returns-in_default-clause-halted
returns-in_default-clause-halted g c = λ start before item ready.
    let entry : Entry = record { number = c.args.number; item = item } in
    let (rest, is) = texts_grow start.spec.now start.form before entry ready.next.tracks.told in
    ([], rest, is, appends_none (g.S.Sink.written c.args.out.now) (g.S.Sink.written c.args.out.now) refl)

pub returns-in_default-clause-cost : goal.returns-in_default-clause-cost
returns-in_default-clause-cost g c = λ start before item ready.
    omega (arith, c.pass.ensures.cost, event_cost (kinds_of start.spec.now) c.args.self.now.tracker (items before) item c.args.event.now ready.next)

pub detect-requires-clause-next : goal.detect-requires-clause-next
detect-requires-clause-next g c =
    let (start, before, item, ready) = c.requires in
    let entry : Entry = record { number = c.args.number; item = item } in (
      start.spec.now,
      roots_of (items before),
      event_numbers before,
      entry_events start.spec.now before,
      call_next start c.args.self.now before entry c.args.event.now c.in-Call.call c.in-Call.is (naming_in c.args.names.now) c.args.place ready
          c.pass.new.self c.in-Ok.ensures.stamp c.in-Ok.ensures.stands,
    )

pub detect-requires-clause-known : goal.detect-requires-clause-known
detect-requires-clause-known g c =
    let (start, before, item, ready) = c.requires in
    let entry : Entry = record { number = c.args.number; item = item } in
    let next = call_next start c.args.self.now before entry c.args.event.now c.in-Call.call c.in-Call.is (naming_in c.args.names.now) c.args.place ready
    c.pass.new.self c.in-Ok.ensures.stamp c.in-Ok.ensures.stands in
    (entry_events start.spec.now before, next.stamped, ready.checks.covers)

pub detect-requires-clause-few : goal.detect-requires-clause-few
detect-requires-clause-few g c =
    let (start, before, item, ready) = c.requires in
    let entry : Entry = record { number = c.args.number; item = item } in
    omega (arith, call_races start c.args.self.now before entry c.args.event.now c.in-Call.call c.in-Call.is (naming_in c.args.names.now) c.args.place ready)

-- ---- a call that was detected

pub returns-in-Ok-None-clause-checks : goal.returns-in-Ok-None-clause-checks
returns-in-Ok-None-clause-checks g c = λ start before item ready.
    let entry : Entry = record { number = c.args.number; item = item } in
    let names = naming_in c.args.names.now in
    let numbers = event_numbers before in
    let es = entry_events start.spec.now before in
    let next = call_next start c.args.self.now before entry c.args.event.now c.in-Call.call c.in-Call.is names c.args.place ready c.pass.new.self c.in-Ok.ensures.stamp c.in-Ok.ensures.stands in
    let said = c.in-Ok-None.ensures in
    let tracked = event_tracks (kinds_of start.spec.now) c.args.self.now.tracker (items before) item c.args.event.now ready.next c.pass.new.self c.in-Ok.ensures.stands c.in-Ok.ensures.count in
    checks_call start c.args.self.now before entry c.args.event.now c.in-Call.call c.in-Call.is names c.args.place ready c.detect.new.self said.same.0 said.same.1 said.same.3
    (subst (λ tracker. Tracks (kinds_of start.spec.now) tracker (items before ++ item ∷ [])) (sym said.same.2) tracked)
    (said.stands start.spec.now (roots_of (items before)) numbers es next)
    (said.covers es next.stamped ready.checks.covers)
    (races_call start c.args.self.now before entry c.args.event.now c.in-Call.call c.in-Call.is names c.args.place ready c.in-Ok-None.field-0
    (said.answer start.spec.now (roots_of (items before)) numbers es next) c.detect.new.self.races said.races)
    (subst (λ (T : Type 0). T) (λ i. IsToldAmong start.form start.spec.now names (numbers ++ c.args.number ∷ []) (es ++ event.Call c.in-Call.call ∷ []) (sym said.told.0 i) (sym said.told.1 i))
    (told_call start c.args.self.now before entry c.args.event.now c.in-Call.call c.in-Call.is names c.args.place ready))

pub returns-in-Ok-None-clause-written : goal.returns-in-Ok-None-clause-written
returns-in-Ok-None-clause-written g c = λ start before item ready.
    let entry : Entry = record { number = c.args.number; item = item } in
    let names = naming_in c.args.names.now in
    let numbers = event_numbers before in
    let es = entry_events start.spec.now before in
    let next = call_next start c.args.self.now before entry c.args.event.now c.in-Call.call c.in-Call.is names c.args.place ready c.pass.new.self c.in-Ok.ensures.stamp c.in-Ok.ensures.stands in
    let text = text_call start c.args.self.now before entry c.args.event.now c.in-Call.call c.in-Call.is names c.args.place ready c.in-Ok-None.field-0
    (c.in-Ok-None.ensures.answer start.spec.now (roots_of (items before)) numbers es next) in (
      [],
      text ∙ ap (λ answer. race_texts start.form start.spec.now before ++ answer_text start.spec.now start.form names answer) c.in-Ok-None.field-0-is,
      appends_none (g.S.Sink.written c.args.out.now) (g.S.Sink.written c.args.out.now) refl,
    )

pub returns-in-Ok-None-clause-cost : goal.returns-in-Ok-None-clause-cost
returns-in-Ok-None-clause-cost g c = λ start before item ready.
    let entry : Entry = record { number = c.args.number; item = item } in
    call_cost start c.args.self.now before entry c.args.event.now c.in-Call.call c.in-Call.is (naming_in c.args.names.now) c.args.place ready c.pass.new.self c.in-Ok.ensures.count c.args.steps.now
    c.pass.new.steps c.detect.new.steps c.pass.ensures.cost c.in-Ok-None.ensures.cost

pub report-requires-clause-failed : goal.report-requires-clause-failed
report-requires-clause-failed g c =
    let (start, before, item, ready) = c.requires in
    let entry : Entry = record { number = c.args.number; item = item } in
    let names = naming_in c.args.names.now in
    let numbers = event_numbers before in
    let es = entry_events start.spec.now before in
    let next = call_next start c.args.self.now before entry c.args.event.now c.in-Call.call c.in-Call.is names c.args.place ready c.pass.new.self c.in-Ok.ensures.stamp c.in-Ok.ensures.stands in
    let said = c.in-Ok-Some.ensures in
    failed_race start c.args.self.now before entry c.args.event.now c.in-Call.call c.in-Call.is names c.args.place ready c.in-Ok-Some.field-0 c.in-Ok-Some.race
    (said.answer start.spec.now (roots_of (items before)) numbers es next) c.in-Ok-Some.field-0-is c.detect.new.self.spec.now said.same.1

-- what the last race told may be known to tell of the earlier call
pub report-requires-clause-told : goal.report-requires-clause-told
report-requires-clause-told g c =
    let (start, before, item, ready) = c.requires in
    let entry : Entry = record { number = c.args.number; item = item } in
    let names = naming_in c.args.names.now in
    let numbers = event_numbers before in
    let es = entry_events start.spec.now before in
    let next = call_next start c.args.self.now before entry c.args.event.now c.in-Call.call c.in-Call.is names c.args.place ready c.pass.new.self c.in-Ok.ensures.stamp c.in-Ok.ensures.stands in
    let said = c.in-Ok-Some.ensures in
    subst (λ (T : Type 0). T)
    (λ i. IsKnownOf (sym (said.same.0 ∙ ready.checks.form) i) (sym (said.same.1 ∙ ready.checks.spec) i) names c.in-Ok-Some.race.earlier.value (sym said.told.0 i) (sym said.told.1 i))
    (known_call start c.args.self.now before entry c.args.event.now c.in-Call.call c.in-Call.is names c.args.place ready c.in-Ok-Some.race
    (answered start.spec.now (numbers ++ c.args.number ∷ []) (es ++ event.Call c.in-Call.call ∷ []) c.args.place c.in-Ok-Some.field-0 c.in-Ok-Some.race
    (said.answer start.spec.now (roots_of (items before)) numbers es next) c.in-Ok-Some.field-0-is))

pub returns-in-Ok-Some-clause-checks : goal.returns-in-Ok-Some-clause-checks
returns-in-Ok-Some-clause-checks g c = on_ok_weaker c.report.result
    (λ (told : IsToldOf c.detect.new.self.form c.detect.new.self.spec.now (naming_in c.args.names.now) c.in-Ok-Some.race.later.value c.report.new.self.told c.report.new.self.told_place) start before item ready.
    let entry : Entry = record { number = c.args.number; item = item } in
    let names = naming_in c.args.names.now in
    let numbers = event_numbers before in
    let es = entry_events start.spec.now before in
    let next = call_next start c.args.self.now before entry c.args.event.now c.in-Call.call c.in-Call.is names c.args.place ready c.pass.new.self c.in-Ok.ensures.stamp c.in-Ok.ensures.stands in
    let said = c.in-Ok-Some.ensures in
    let same = c.report.ensures.same in
    let tracked = event_tracks (kinds_of start.spec.now) c.args.self.now.tracker (items before) item c.args.event.now ready.next c.pass.new.self c.in-Ok.ensures.stands c.in-Ok.ensures.count in
    checks_call start c.args.self.now before entry c.args.event.now c.in-Call.call c.in-Call.is names c.args.place ready c.report.new.self (same.0 ∙ said.same.0) (same.1 ∙ said.same.1) (same.5 ∙ said.same.3)
    (subst (λ tracker. Tracks (kinds_of start.spec.now) tracker (items before ++ item ∷ [])) (sym (same.2 ∙ said.same.2)) tracked)
    (subst (λ d. DetectorStandsFor start.spec.now d (roots_of (items before)) (numbers ++ c.args.number ∷ []) (es ++ event.Call c.in-Call.call ∷ [])) (sym same.3) (said.stands start.spec.now (roots_of (items before)) numbers es next))
    (subst (λ (T : Type 0). T) (λ i. CoversStandFor (es ++ event.Call c.in-Call.call ∷ []) (sym same.3 i).store (sym same.6 i)) (said.covers es next.stamped ready.checks.covers))
    (races_call start c.args.self.now before entry c.args.event.now c.in-Call.call c.in-Call.is names c.args.place ready c.in-Ok-Some.field-0
    (said.answer start.spec.now (roots_of (items before)) numbers es next) c.report.new.self.races (same.4 ∙ said.races))
    (told_later start c.args.self.now before entry c.args.event.now c.in-Call.call c.in-Call.is names c.args.place ready c.in-Ok-Some.race
    (answered start.spec.now (numbers ++ c.args.number ∷ []) (es ++ event.Call c.in-Call.call ∷ []) c.args.place c.in-Ok-Some.field-0 c.in-Ok-Some.race
    (said.answer start.spec.now (roots_of (items before)) numbers es next) c.in-Ok-Some.field-0-is)
    c.report.new.self.told c.report.new.self.told_place
    (subst (λ (T : Type 0). T)
    (λ i. IsToldOf ((said.same.0 ∙ ready.checks.form) i) ((said.same.1 ∙ ready.checks.spec) i) names c.in-Ok-Some.race.later.value c.report.new.self.told c.report.new.self.told_place) told)))
    c.report.ensures.told

pub returns-in-Ok-Some-clause-written : goal.returns-in-Ok-Some-clause-written
returns-in-Ok-Some-clause-written g c = on_ok_weaker c.report.result
    (λ (wrote : Appends (g.S.Sink.written c.args.out.now) (g.S.Sink.written c.report.new.out)
    (race_in c.detect.new.self.form c.detect.new.self.spec.now (naming_in c.args.names.now) (told_by c.in-Ok-Some.race.later.value) (told_by c.in-Ok-Some.race.earlier.value))) start before item ready.
    let entry : Entry = record { number = c.args.number; item = item } in
    let names = naming_in c.args.names.now in
    let numbers = event_numbers before in
    let es = entry_events start.spec.now before in
    let next = call_next start c.args.self.now before entry c.args.event.now c.in-Call.call c.in-Call.is names c.args.place ready c.pass.new.self c.in-Ok.ensures.stamp c.in-Ok.ensures.stands in
    let text = text_call start c.args.self.now before entry c.args.event.now c.in-Call.call c.in-Call.is names c.args.place ready c.in-Ok-Some.field-0
    (c.in-Ok-Some.ensures.answer start.spec.now (roots_of (items before)) numbers es next) in (
      answer_text start.spec.now start.form names (Some c.in-Ok-Some.race),
      text ∙ ap (λ answer. race_texts start.form start.spec.now before ++ answer_text start.spec.now start.form names answer) c.in-Ok-Some.field-0-is,
      subst (λ (T : Type 0). T) (λ i. Appends (g.S.Sink.written c.args.out.now) (g.S.Sink.written c.report.new.out)
          (race_in ((c.in-Ok-Some.ensures.same.0 ∙ ready.checks.form) i) ((c.in-Ok-Some.ensures.same.1 ∙ ready.checks.spec) i) names (told_by c.in-Ok-Some.race.later.value)
          (told_by c.in-Ok-Some.race.earlier.value))) wrote,
    ))
    c.report.ensures.ok

pub returns-in-Ok-Some-clause-halted : goal.returns-in-Ok-Some-clause-halted
returns-in-Ok-Some-clause-halted g c = on_err_weaker c.report.result
    (λ (wrote : WritesFront (g.S.Sink.written c.args.out.now) (g.S.Sink.written c.report.new.out) []
    (race_in c.detect.new.self.form c.detect.new.self.spec.now (naming_in c.args.names.now) (told_by c.in-Ok-Some.race.later.value) (told_by c.in-Ok-Some.race.earlier.value))) start before item ready.
    let entry : Entry = record { number = c.args.number; item = item } in
    let names = naming_in c.args.names.now in
    let numbers = event_numbers before in
    let es = entry_events start.spec.now before in
    let next = call_next start c.args.self.now before entry c.args.event.now c.in-Call.call c.in-Call.is names c.args.place ready c.pass.new.self c.in-Ok.ensures.stamp c.in-Ok.ensures.stands in
    let text = text_call start c.args.self.now before entry c.args.event.now c.in-Call.call c.in-Call.is names c.args.place ready c.in-Ok-Some.field-0
    (c.in-Ok-Some.ensures.answer start.spec.now (roots_of (items before)) numbers es next) in
    let (part, rest, is, writes) = subst (λ (T : Type 0). T) (λ i. WritesFront (g.S.Sink.written c.args.out.now) (g.S.Sink.written c.report.new.out) []
    (race_in ((c.in-Ok-Some.ensures.same.0 ∙ ready.checks.form) i) ((c.in-Ok-Some.ensures.same.1 ∙ ready.checks.spec) i) names (told_by c.in-Ok-Some.race.later.value)
    (told_by c.in-Ok-Some.race.earlier.value))) wrote in (
      part,
      rest,
      text ∙ ap (λ answer. race_texts start.form start.spec.now before ++ answer_text start.spec.now start.form names answer) c.in-Ok-Some.field-0-is
          ∙ ap (λ t. race_texts start.form start.spec.now before ++ t) is,
      writes,
    ))
    c.report.ensures.front

pub returns-in-Ok-Some-clause-cost : goal.returns-in-Ok-Some-clause-cost
returns-in-Ok-Some-clause-cost g c = λ start before item ready.
    let entry : Entry = record { number = c.args.number; item = item } in
    call_cost start c.args.self.now before entry c.args.event.now c.in-Call.call c.in-Call.is (naming_in c.args.names.now) c.args.place ready c.pass.new.self c.in-Ok.ensures.count c.args.steps.now
    c.pass.new.steps c.detect.new.steps c.pass.ensures.cost c.in-Ok-Some.ensures.cost

pub returns-in-Err-clause-halted : goal.returns-in-Err-clause-halted
returns-in-Err-clause-halted g c = λ start before item ready.
    let entry : Entry = record { number = c.args.number; item = item } in
    let (rest, is) = texts_grow start.spec.now start.form before entry ready.next.tracks.told in
    ([], rest, is, appends_none (g.S.Sink.written c.args.out.now) (g.S.Sink.written c.args.out.now) refl)

pub returns-in-Err-clause-cost : goal.returns-in-Err-clause-cost
returns-in-Err-clause-cost g c = λ start before item ready.
    let entry : Entry = record { number = c.args.number; item = item } in
    call_cost start c.args.self.now before entry c.args.event.now c.in-Call.call c.in-Call.is (naming_in c.args.names.now) c.args.place ready c.pass.new.self c.in-Ok.ensures.count c.args.steps.now
    c.pass.new.steps c.detect.new.steps c.pass.ensures.cost c.in-Err.ensures.cost

pub report-requires-clause-formulas : goal.report-requires-clause-formulas
report-requires-clause-formulas g c =
    let (start, before, item, ready) = c.requires in
    let same = c.in-Ok-Some.ensures.same in
    same.3 ∙ ready.checks.formulas ∙ (λ i. record { form = sym (same.0 ∙ ready.checks.form) i; kinds = sym (same.1 ∙ ready.checks.spec) i })
