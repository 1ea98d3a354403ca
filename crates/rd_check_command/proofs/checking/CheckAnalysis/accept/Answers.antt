use Rattle.std.proofs.Common.{◌≡◌, ℕ, ◌+◌, ◌-◌, List, [], ◌∷◌, ◌++◌, length, refl, subst, sym, ◌∙◌, arith}
use Rattle.std.proofs.lemmas.List.{append-nil}
use Rattle.std.proofs.lemmas.Result.{on_ok_weaker, on_err_weaker}
use Rattle.rd_io.proofs.SinkLemmas.{appends_none}
use Rattle.rd_event.specs.declared.events.Event.{Event as Numbered}
use Rattle.rd_event.specs.declared.items.Line.{Line}
use Rattle.rd_ecl.specs.Kinds.{Kind, kinds_of}
use Rattle.rd_report.specs.Texts.{naming_in}
use Rattle.rd_rules.specs.MayFollow.{events}
use Rattle.rd_wf.specs.declared.roster.Roster.{Roster}
use Rattle.rd_rules.specs.declared.causes.Accepted.{Accepted}
use Rattle.rd_rules.specs.declared.causes.Accepted.TheVariants as accepted
use Rattle.rd_wf.proofs.RosterLemmas.{object_keys, thread_keys}
use Rattle.rd_walk.specs.Analysis.{IsNextEntry, WritesBetween, WritesFront}
use Rattle.rd_check_command.specs.Checking.{Checks, IsNextEventLine, IsNextLine, CheckLeads}
use Rattle.rd_check_command.specs.Checked.{entry_events, race_texts}
use Rattle.rd_walk.specs.Walk.{Entry, items}
use Rattle.rd_check_command.specs.declared.checking.Check.{Check}
use Rattle.rd_walk.proofs.OutputLemmas.{always_err}
use Rattle.rd_check_command.proofs.CheckLemmas.{event_place, next_line, texts_quiet}
use Rattle.rd_check_command.proofs.QuietLemmas.{quiet_leads, quiet_text}
use Rattle.rd_check_command.proofs.ReportLemmas.{texts_grow}
use Rattle.rd_check_command.proofs.checking.CheckAnalysis.accept.Goals as goal

-- the event is the next one, at its place
module _ (kinds : List Kind) (start now : Check) (before : List Entry) (number : ℕ) (item : Line) (roster : Roster) (numbers : Accepted) (e : Numbered) (is : numbers ≡ accepted.Event e)
    (leads : CheckLeads kinds start before now) (next : IsNextEntry kinds roster before number item numbers) where
  event_line : IsNextLine (kinds_of start.spec.now) now.tracker (items before) item (accepted.Event e)
  event_line = subst (IsNextLine (kinds_of start.spec.now) now.tracker (items before) item) is (next_line kinds start now before roster item numbers leads next)

  counted : (count : ℕ) → count ≡ events (items before ++ item ∷ []) → count ≡ length (entry_events start.spec.now before) + 1
  counted count is_count = event_place start now before item e leads.checks event_line count is_count

  ready : (count : ℕ) → count ≡ events (items before ++ item ∷ []) → IsNextEventLine start now before item e (naming_in roster) (count - 1)
  ready count is_count = record {
    checks = leads.checks;
    next = event_line;
    naming_is = λ i. record {
      threads = thread_keys kinds roster (items before ++ item ∷ []) next.stands i;
      objects = object_keys kinds roster (items before ++ item ∷ []) next.stands i;
    };
    at_end = omega (arith, counted count is_count);
  }

pub overflow_sub-events : goal.overflow_sub-events
overflow_sub-events g c =
    let (kinds, start, before, item, leads, next) = c.requires in
    omega (
      arith,
      counted kinds start c.args.self.now before c.args.number item c.args.roster.now c.args.accepted.now c.in-Event.event c.in-Event.is leads next c.events.result
          (c.events.ensures kinds (items before ++ item ∷ []) next.stands),
    )

pub event-requires : goal.event-requires
event-requires g c =
    let (kinds, start, before, item, leads, next) = c.requires in (
      start,
      before,
      item,
      ready kinds start c.args.self.now before c.args.number item c.args.roster.now c.args.accepted.now c.in-Event.event c.in-Event.is leads next c.events.result
          (c.events.ensures kinds (items before ++ item ∷ []) next.stands),
    )

pub root-requires : goal.root-requires
root-requires g c =
    let (kinds, start, before, item, leads, next) = c.requires in (
      start,
      before,
      item,
      leads.checks,
      subst (IsNextLine (kinds_of start.spec.now) c.args.self.now.tracker (items before) item) c.in-Root.is
          (next_line kinds start c.args.self.now before c.args.roster.now item c.args.accepted.now leads next),
    )

pub returns-in-Root-clause-leads : goal.returns-in-Root-clause-leads
returns-in-Root-clause-leads g c = on_ok_weaker c.root.result
    (λ (all : (start : Check) (before : List Entry) (entry : Entry) → Checks start before c.args.self.now
    → IsNextLine (kinds_of start.spec.now) c.args.self.now.tracker (items before) entry.item (accepted.Root c.in-Root.thread) → Checks start (before ++ entry ∷ []) c.root.new.self)
    kinds start before item leads next asked. record {
      kinds_are = leads.kinds_are;
      checks = all start before (record { number = c.args.number; item = item }) leads.checks
          (subst (IsNextLine (kinds_of start.spec.now) c.args.self.now.tracker (items before) item) c.in-Root.is
          (next_line kinds start c.args.self.now before c.args.roster.now item c.args.accepted.now leads next));
    })
    c.root.ensures.checks

pub returns-in-Root-clause-written : goal.returns-in-Root-clause-written
returns-in-Root-clause-written g c = on_ok_weaker c.root.result
    (λ (all : (start : Check) (before : List Entry) (entry : Entry) → Checks start before c.args.self.now
    → IsNextLine (kinds_of start.spec.now) c.args.self.now.tracker (items before) entry.item (accepted.Root c.in-Root.thread) → Checks start (before ++ entry ∷ []) c.root.new.self)
    kinds start before item leads next.
    let entry : Entry = record { number = c.args.number; item = item } in
    let wrote = g.S.Sink.written c.args.out.now in
    let same = texts_quiet start.form start.spec.now c.args.self.now.tracker before entry c.args.accepted.now
    (next_line kinds start c.args.self.now before c.args.roster.now item c.args.accepted.now leads next) (λ call e. let is = c.in-Root.is in cc) in
    ([], same ∙ sym (append-nil (race_texts start.form start.spec.now before)), appends_none wrote wrote refl))
    c.root.ensures.checks

pub returns-in-Root-clause-halted : goal.returns-in-Root-clause-halted
returns-in-Root-clause-halted g c = always_err _ c.root.result (λ kinds start before item leads next.
    let entry : Entry = record { number = c.args.number; item = item } in
    let wrote = g.S.Sink.written c.args.out.now in
    let (rest, is) = texts_grow start.spec.now start.form before entry leads.checks.tracks.told in
    ([], rest, is, appends_none wrote wrote refl))

pub returns-in-Event-clause-leads : goal.returns-in-Event-clause-leads
returns-in-Event-clause-leads g c = on_ok_weaker c.event.result
    (λ (all : (start : Check) (before : List Entry) (item : Line)
    → IsNextEventLine start c.args.self.now before item c.in-Event.event (naming_in c.args.roster.now) (c.events.result - 1)
    → Checks start (before ++ record { number = c.args.number; item = item } ∷ []) c.event.new.self) kinds start before item leads next asked. record {
      kinds_are = leads.kinds_are;
      checks = all start before item
          (ready kinds start c.args.self.now before c.args.number item c.args.roster.now c.args.accepted.now c.in-Event.event c.in-Event.is leads next c.events.result
          (c.events.ensures kinds (items before ++ item ∷ []) next.stands));
    })
    c.event.ensures.checks

pub returns-in-Event-clause-written : goal.returns-in-Event-clause-written
returns-in-Event-clause-written g c = on_ok_weaker c.event.result
    (λ (wrote : (start : Check) (before : List Entry) (item : Line)
    → IsNextEventLine start c.args.self.now before item c.in-Event.event (naming_in c.args.roster.now) (c.events.result - 1)
    → WritesBetween (g.S.Sink.written c.args.out.now) (g.S.Sink.written c.event.new.out) (race_texts start.form start.spec.now before)
    (race_texts start.form start.spec.now (before ++ record { number = c.args.number; item = item } ∷ []))) kinds start before item leads next.
    wrote start before item
    (ready kinds start c.args.self.now before c.args.number item c.args.roster.now c.args.accepted.now c.in-Event.event c.in-Event.is leads next c.events.result
    (c.events.ensures kinds (items before ++ item ∷ []) next.stands)))
    c.event.ensures.written

pub returns-in-Event-clause-halted : goal.returns-in-Event-clause-halted
returns-in-Event-clause-halted g c = on_err_weaker c.event.result
    (λ (wrote : (start : Check) (before : List Entry) (item : Line)
    → IsNextEventLine start c.args.self.now before item c.in-Event.event (naming_in c.args.roster.now) (c.events.result - 1)
    → WritesFront (g.S.Sink.written c.args.out.now) (g.S.Sink.written c.event.new.out) (race_texts start.form start.spec.now before)
    (race_texts start.form start.spec.now (before ++ record { number = c.args.number; item = item } ∷ []))) kinds start before item leads next.
    wrote start before item
    (ready kinds start c.args.self.now before c.args.number item c.args.roster.now c.args.accepted.now c.in-Event.event c.in-Event.is leads next c.events.result
    (c.events.ensures kinds (items before ++ item ∷ []) next.stands)))
    c.event.ensures.halted

pub returns-in-Event-clause-cost : goal.returns-in-Event-clause-cost
returns-in-Event-clause-cost g c = λ kinds start before item leads next.
    c.event.ensures.cost start before item
    (ready kinds start c.args.self.now before c.args.number item c.args.roster.now c.args.accepted.now c.in-Event.event c.in-Event.is leads next c.events.result
    (c.events.ensures kinds (items before ++ item ∷ []) next.stands))

pub returns-in-Nothing-clause-leads : goal.returns-in-Nothing-clause-leads
returns-in-Nothing-clause-leads g c = λ kinds start before item leads next asked.
    quiet_leads kinds start c.args.self.now before (record { number = c.args.number; item = item }) c.args.roster.now c.args.accepted.now c.in-Nothing.is leads next

pub returns-in-Nothing-clause-written : goal.returns-in-Nothing-clause-written
returns-in-Nothing-clause-written g c = λ kinds start before item leads next.
    let wrote = g.S.Sink.written c.args.out.now in (
      [],
      quiet_text kinds start c.args.self.now before (record { number = c.args.number; item = item }) c.args.roster.now c.args.accepted.now c.in-Nothing.is leads next,
      appends_none wrote wrote refl,
    )

pub returns-in-Nothing-2-clause-leads : goal.returns-in-Nothing-2-clause-leads
returns-in-Nothing-2-clause-leads g c = λ kinds start before item leads next asked.
    quiet_leads kinds start c.args.self.now before (record { number = c.args.number; item = item }) c.args.roster.now c.args.accepted.now c.in-Nothing.is leads next

pub returns-in-Nothing-2-clause-written : goal.returns-in-Nothing-2-clause-written
returns-in-Nothing-2-clause-written g c = λ kinds start before item leads next.
    let wrote = g.S.Sink.written c.args.out.now in (
      [],
      quiet_text kinds start c.args.self.now before (record { number = c.args.number; item = item }) c.args.roster.now c.args.accepted.now c.in-Nothing.is leads next,
      appends_none wrote wrote refl,
    )
