use Rattle.std.proofs.Common.{◌-◌, ℕ, List, [], ◌∷◌, ◌++◌, refl, subst, sym, ◌∙◌, arith}
use Rattle.std.proofs.lemmas.List.{append-nil}
use Rattle.std.proofs.lemmas.Result.{on_err_weaker, on_ok_weaker}
use Rattle.rd_epochs_command.proofs.QuietLemmas.{counted, next_line, quiet_leads, quiet_text, ready}
use Rattle.rd_epochs_command.proofs.TextLemmas.{texts_grow}
use Rattle.rd_epochs_command.proofs.WatchLemmas.{object_item, root_item, written_quiet}
use Rattle.rd_epochs_command.specs.Firsts.{first_texts}
use Rattle.rd_epochs_command.specs.Watching.{IsNextWatchedEvent, IsNextWatched, Watches}
use Rattle.rd_event.specs.declared.items.Line.{Line}
use Rattle.rd_io.proofs.SinkLemmas.{appends_none}
use Rattle.rd_rules.specs.declared.causes.Accepted.TheVariants as accepted
use Rattle.rd_walk.proofs.OutputLemmas.{always_err}
use Rattle.rd_walk.specs.Analysis.{IsNextEntry, WritesBetween, WritesFront}
use Rattle.rd_walk.specs.Walk.{Entry, items}
use Rattle.rd_wf.specs.Roster.{object_names_in}
use Rattle.rd_epochs_command.proofs.watching.FirstRacesAnalysis.accept.Goals as goal

-- ---- an event

pub overflow_sub-events : goal.overflow_sub-events
overflow_sub-events g c =
    let (kinds, start, before, item, leads, next) = c.requires in
    omega (
      arith,
      counted kinds start c.args.self.now before c.args.number item c.args.roster.now c.args.accepted.now c.in-Event.event c.in-Event.is leads next c.events.result
          (c.events.ensures kinds (items before ++ item ∷ []) next.stands),
    )

pub event-requires : goal.event-requires
event-requires g c =
    let (kinds, start, before, item, leads, next) = c.requires in (
      before,
      item,
      ready kinds start c.args.self.now before c.args.number item c.args.roster.now c.args.accepted.now c.in-Event.event c.in-Event.is leads next c.events.result
          (c.events.ensures kinds (items before ++ item ∷ []) next.stands),
    )

pub returns-in-Event-clause-leads : goal.returns-in-Event-clause-leads
returns-in-Event-clause-leads g c = on_ok_weaker c.event.result
    (λ (all : (before : List Entry) (item : Line) → IsNextWatchedEvent before c.args.self.now c.args.number item c.in-Event.event (object_names_in c.args.roster.now) (c.events.result - 1)
    → Watches (before ++ record { number = c.args.number; item = item } ∷ []) c.event.new.self) kinds start before item leads next asked. record {
      kinds_are = leads.kinds_are;
      starts = leads.starts;
      watches = all before item
          (ready kinds start c.args.self.now before c.args.number item c.args.roster.now c.args.accepted.now c.in-Event.event c.in-Event.is leads next c.events.result
          (c.events.ensures kinds (items before ++ item ∷ []) next.stands));
    })
    c.event.ensures.watches

pub returns-in-Event-clause-written : goal.returns-in-Event-clause-written
returns-in-Event-clause-written g c = on_ok_weaker c.event.result
    (λ (wrote : (before : List Entry) (item : Line) → IsNextWatchedEvent before c.args.self.now c.args.number item c.in-Event.event (object_names_in c.args.roster.now) (c.events.result - 1)
    → WritesBetween (g.S.Sink.written c.args.out.now) (g.S.Sink.written c.event.new.out) (first_texts before) (first_texts (before ++ record { number = c.args.number; item = item } ∷ [])))
    kinds start before item leads next.
    wrote before item
    (ready kinds start c.args.self.now before c.args.number item c.args.roster.now c.args.accepted.now c.in-Event.event c.in-Event.is leads next c.events.result
    (c.events.ensures kinds (items before ++ item ∷ []) next.stands)))
    c.event.ensures.written

pub returns-in-Event-clause-halted : goal.returns-in-Event-clause-halted
returns-in-Event-clause-halted g c = on_err_weaker c.event.result
    (λ (wrote : (before : List Entry) (item : Line) → IsNextWatchedEvent before c.args.self.now c.args.number item c.in-Event.event (object_names_in c.args.roster.now) (c.events.result - 1)
    → WritesFront (g.S.Sink.written c.args.out.now) (g.S.Sink.written c.event.new.out) (first_texts before) (first_texts (before ++ record { number = c.args.number; item = item } ∷ [])))
    kinds start before item leads next.
    wrote before item
    (ready kinds start c.args.self.now before c.args.number item c.args.roster.now c.args.accepted.now c.in-Event.event c.in-Event.is leads next c.events.result
    (c.events.ensures kinds (items before ++ item ∷ []) next.stands)))
    c.event.ensures.halted

pub returns-in-Event-clause-cost : goal.returns-in-Event-clause-cost
returns-in-Event-clause-cost g c = λ kinds start before item leads next.
    c.event.ensures.cost before item
    (ready kinds start c.args.self.now before c.args.number item c.args.roster.now c.args.accepted.now c.in-Event.event c.in-Event.is leads next c.events.result
    (c.events.ensures kinds (items before ++ item ∷ []) next.stands))

-- ---- a root

pub root-requires : goal.root-requires
root-requires g c =
    let (kinds, start, before, item, leads, next) = c.requires in (
      before,
      item,
      subst (IsNextWatched before c.args.self.now c.args.number item) c.in-Root.is (next_line kinds start c.args.self.now before c.args.roster.now item c.args.accepted.now leads next),
    )

pub returns-in-Root-clause-leads : goal.returns-in-Root-clause-leads
returns-in-Root-clause-leads g c = on_ok_weaker c.root.result
    (λ (all : (before : List Entry) (item : Line) → IsNextWatched before c.args.self.now c.args.number item (accepted.Root c.in-Root.thread) → Watches (before ++ record { number = c.args.number; item = item } ∷ []) c.root.new.self)
    kinds start before item leads next asked. record {
      kinds_are = leads.kinds_are;
      starts = leads.starts;
      watches = all before item
          (subst (IsNextWatched before c.args.self.now c.args.number item) c.in-Root.is (next_line kinds start c.args.self.now before c.args.roster.now item c.args.accepted.now leads next));
    })
    c.root.ensures.watches

pub returns-in-Root-clause-written : goal.returns-in-Root-clause-written
returns-in-Root-clause-written g c = on_ok_weaker c.root.result
    (λ (all : (before : List Entry) (item : Line) → IsNextWatched before c.args.self.now c.args.number item (accepted.Root c.in-Root.thread) → Watches (before ++ record { number = c.args.number; item = item } ∷ []) c.root.new.self)
    kinds start before item leads next.
    let entry : Entry = record { number = c.args.number; item = item } in
    let wrote = g.S.Sink.written c.args.out.now in
    let line = subst (IsNextWatched before c.args.self.now c.args.number item) c.in-Root.is (next_line kinds start c.args.self.now before c.args.roster.now item c.args.accepted.now leads next) in
    let same = written_quiet before c.args.self.now entry (accepted.Root c.in-Root.thread) line (root_item before c.args.self.now entry c.in-Root.thread line).0 in
    ([], same ∙ sym (append-nil (first_texts before)), appends_none wrote wrote refl))
    c.root.ensures.watches

pub returns-in-Root-clause-halted : goal.returns-in-Root-clause-halted
returns-in-Root-clause-halted g c = always_err _ c.root.result (λ kinds start before item leads next.
    let entry : Entry = record { number = c.args.number; item = item } in
    let wrote = g.S.Sink.written c.args.out.now in
    let (rest, is) = texts_grow before entry leads.watches.tracks.told in
    ([], rest, is, appends_none wrote wrote refl))

-- ---- a variable

pub returns-in-Object-clause-leads : goal.returns-in-Object-clause-leads
returns-in-Object-clause-leads g c = on_ok_weaker c.declare.result
    (λ (all : (before : List Entry) (entry : Entry) (object kind : ℕ) → IsNextWatched before c.args.self.now entry.number entry.item (accepted.Object object kind) → Watches (before ++ entry ∷ []) c.declare.new.self)
    kinds start before item leads next asked. record {
      kinds_are = leads.kinds_are;
      starts = leads.starts;
      watches = all before (record { number = c.args.number; item = item }) _ _
          (subst (IsNextWatched before c.args.self.now c.args.number item) c.in-Object.is (next_line kinds start c.args.self.now before c.args.roster.now item c.args.accepted.now leads next));
    })
    c.declare.ensures.watches

pub returns-in-Object-clause-written : goal.returns-in-Object-clause-written
returns-in-Object-clause-written g c = on_ok_weaker c.declare.result
    (λ (all : (before : List Entry) (entry : Entry) (object kind : ℕ) → IsNextWatched before c.args.self.now entry.number entry.item (accepted.Object object kind) → Watches (before ++ entry ∷ []) c.declare.new.self)
    kinds start before item leads next.
    let entry : Entry = record { number = c.args.number; item = item } in
    let wrote = g.S.Sink.written c.args.out.now in
    let line = subst (IsNextWatched before c.args.self.now c.args.number item) c.in-Object.is (next_line kinds start c.args.self.now before c.args.roster.now item c.args.accepted.now leads next) in
    let same = written_quiet before c.args.self.now entry _ line (object_item before c.args.self.now entry _ _ line).0 in
    ([], same ∙ sym (append-nil (first_texts before)), appends_none wrote wrote refl))
    c.declare.ensures.watches

pub returns-in-Object-clause-halted : goal.returns-in-Object-clause-halted
returns-in-Object-clause-halted g c = always_err _ c.declare.result (λ kinds start before item leads next.
    let entry : Entry = record { number = c.args.number; item = item } in
    let wrote = g.S.Sink.written c.args.out.now in
    let (rest, is) = texts_grow before entry leads.watches.tracks.told in
    ([], rest, is, appends_none wrote wrote refl))

-- ---- a line that says nothing

pub returns-in-Nothing-clause-leads : goal.returns-in-Nothing-clause-leads
returns-in-Nothing-clause-leads g c = λ kinds start before item leads next asked.
    quiet_leads kinds start c.args.self.now before (record { number = c.args.number; item = item }) c.args.roster.now leads
    (subst (IsNextEntry kinds c.args.roster.now before c.args.number item) c.in-Nothing.is next)

pub returns-in-Nothing-clause-written : goal.returns-in-Nothing-clause-written
returns-in-Nothing-clause-written g c = λ kinds start before item leads next.
    let entry : Entry = record { number = c.args.number; item = item } in
    let wrote = g.S.Sink.written c.args.out.now in
    let same = quiet_text kinds start c.args.self.now before entry c.args.roster.now leads (subst (IsNextEntry kinds c.args.roster.now before c.args.number item) c.in-Nothing.is next) in
    ([], same ∙ sym (append-nil (first_texts before)), appends_none wrote wrote refl)
