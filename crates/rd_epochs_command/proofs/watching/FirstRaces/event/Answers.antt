use Rattle.std.proofs.Common.{◌≢◌, List, [], ◌∷◌, ◌++◌, ap, refl, subst, sym, ◌∙◌, arith}
use Rattle.std.proofs.lemmas.List.{append-nil}
use Rattle.rd_io.proofs.SinkLemmas.{appends_none}
use Rattle.std.proofs.lemmas.Result.{on_err_weaker, on_ok_weaker}
use Rattle.rd_check_command.proofs.CheckLemmas.{event_cost, event_next, event_tracks}
use Rattle.rd_check_command.specs.Checked.{event_numbers}
use Rattle.rd_event.specs.declared.events.Call.{Call as CallOf}
use Rattle.rd_base.specs.declared.values.Value.{Value}
use Rattle.rd_event.specs.declared.events.Event.TheVariants.{Call}
use Rattle.rd_event.specs.declared.items.Line.{Line}
use Rattle.rd_epochs_command.proofs.TextLemmas.{texts_grow}
use Rattle.rd_epochs_command.proofs.WatchLemmas.{all_rise, counted_none, first_none, holds_other, watches_event, written_none}
use Rattle.rd_epochs_command.specs.Firsts.{accesses, first_texts}
use Rattle.rd_epochs_command.specs.Watching.{IsNextWatchedEvent, Watches, memory_kinds}
use Rattle.rd_hb.proofs.TrackerLemmas.{next_inside}
use Rattle.rd_order.specs.EventLists.{threads_after}
use Rattle.rd_rules.specs.declared.causes.Accepted.TheVariants as accepted
use Rattle.rd_walk.specs.Analysis.{WritesBetween, WritesFront}
use Rattle.rd_walk.specs.Walk.{Entry, items}
use Rattle.rd_wf.specs.Roster.{call_with, object_names_in}
use Rattle.rd_wf.specs.declared.roster.lines.CallNumbers.{CallNumbers}
use Rattle.rd_epochs_command.proofs.watching.FirstRaces.event.Goals as goal

abbrev numbers_of : CallOf → CallNumbers
numbers_of call = record { thread = call.thread; object = call.object; kind = call.kind; method = call.method }

pub pass-requires : goal.pass-requires
pass-requires g c =
    let (before, item, ready) = c.requires in
    record { next = (_, _, event_next memory_kinds c.args.self.now.tracker (items before) item c.args.event.now ready.line.next) }

-- ---- memory ran out at the tracker

pub returns-in_default-pass-clause-halted : goal.returns-in_default-pass-clause-halted
returns-in_default-pass-clause-halted g c = λ before item ready.
    let entry : Entry = record { number = c.args.number; item = item } in
    let (rest, is) = texts_grow before entry ready.line.watches.tracks.told in
    ([], rest, is, appends_none (g.S.Sink.written c.args.out.now) (g.S.Sink.written c.args.out.now) refl)

pub returns-in_default-pass-clause-cost : goal.returns-in_default-pass-clause-cost
returns-in_default-pass-clause-cost g c = λ before item ready.
    omega (arith, c.pass.ensures.cost, event_cost memory_kinds c.args.self.now.tracker (items before) item c.args.event.now ready.line.next)

-- ---- an event that is no access

pub learn-requires-clause-known : goal.learn-requires-clause-known
learn-requires-clause-known g c =
    let (before, item, ready) = c.requires in
    let inside = next_inside c.args.self.now.tracker _ _ c.args.event.now (event_next memory_kinds c.args.self.now.tracker (items before) item c.args.event.now ready.line.next) in
    omega (arith, inside, ready.line.watches.each)

pub learn-requires-clause-next : goal.learn-requires-clause-next
learn-requires-clause-next g c = λ u forked.
    let (before, item, ready) = c.requires in
    let next = event_next memory_kinds c.args.self.now.tracker (items before) item c.args.event.now ready.line.next in
    next.numbered u forked ∙ sym ready.line.watches.each

pub returns-in-Ok-learn-clause-watches : goal.returns-in-Ok-learn-clause-watches
returns-in-Ok-learn-clause-watches g c = λ before item ready.
    let entry : Entry = record { number = c.args.number; item = item } in
    let now = c.args.self.now in
    let e = c.args.event.now in
    let numbers = accepted.Event e in
    let other : (call : CallOf) → e ≢ Call call = λ call same. c.in_default.not-Call call same in
    let tracked = event_tracks memory_kinds now.tracker (items before) item e ready.line.next c.pass.new.self c.in-Ok.ensures.stands c.in-Ok.ensures.count in
    watches_event before now entry numbers ready.line e refl
    (record { alloc = now.alloc; tracker = c.pass.new.self; lessons = c.learn.new.self; epochs = now.epochs; firsts = now.firsts }) tracked
    (holds_other before now entry numbers ready.line e refl other) (omega arith)
    (counted_none before now entry numbers ready.line e refl (first_none before now entry numbers ready.line e refl other) now.firsts refl)
    (c.in-Ok-learn.ensures.learnt (event_numbers before) (accesses before) ready.line.watches.holds.lengths (all_rise before now entry numbers ready.line e refl) ready.line.watches.lessons)
    (c.in-Ok-learn.ensures.count ∙ ap (threads_after e) ready.line.watches.each ∙ sym c.in-Ok.ensures.count)

pub returns-in-Ok-learn-clause-written : goal.returns-in-Ok-learn-clause-written
returns-in-Ok-learn-clause-written g c = λ before item ready.
    let entry : Entry = record { number = c.args.number; item = item } in
    let numbers = accepted.Event c.args.event.now in
    let other : (call : CallOf) → c.args.event.now ≢ Call call = λ call same. c.in_default.not-Call call same in
    let same = written_none before c.args.self.now entry numbers ready.line c.args.event.now refl (first_none before c.args.self.now entry numbers ready.line c.args.event.now refl other) in
    ([], same ∙ sym (append-nil (first_texts before)), appends_none (g.S.Sink.written c.args.out.now) (g.S.Sink.written c.args.out.now) refl)

pub returns-in-Ok-learn-clause-cost : goal.returns-in-Ok-learn-clause-cost
returns-in-Ok-learn-clause-cost g c = λ before item ready.
    omega (arith, c.pass.ensures.cost, event_cost memory_kinds c.args.self.now.tracker (items before) item c.args.event.now ready.line.next)

-- ---- memory ran out at a lesson

pub returns-in-Err-clause-halted : goal.returns-in-Err-clause-halted
returns-in-Err-clause-halted g c = λ before item ready.
    let entry : Entry = record { number = c.args.number; item = item } in
    let (rest, is) = texts_grow before entry ready.line.watches.tracks.told in
    ([], rest, is, appends_none (g.S.Sink.written c.args.out.now) (g.S.Sink.written c.args.out.now) refl)

pub returns-in-Err-clause-cost : goal.returns-in-Err-clause-cost
returns-in-Err-clause-cost g c = λ before item ready.
    omega (arith, c.pass.ensures.cost, event_cost memory_kinds c.args.self.now.tracker (items before) item c.args.event.now ready.line.next)

-- ---- an access

pub call-requires : goal.call-requires
call-requires g c =
    let (before, item, ready) = c.requires in
    (before, item, c.in-Call.call.slots, subst (λ e. IsNextWatchedEvent before c.args.self.now c.args.number item e (object_names_in c.args.names.now) c.args.place) c.in-Call.is ready)

pub returns-in-Call-clause-watches : goal.returns-in-Call-clause-watches
returns-in-Call-clause-watches g c = on_ok_weaker c.call.result
    (λ (all : (before : List Entry) (item : Line) (slots : List Value) → IsNextWatchedEvent before c.args.self.now c.args.number item (Call (call_with (numbers_of c.in-Call.call) slots)) (object_names_in c.args.names.now) c.args.place
    → Watches (before ++ record { number = c.args.number; item = item } ∷ []) c.call.new.self) before item ready.
    all before item c.in-Call.call.slots (subst (λ e. IsNextWatchedEvent before c.args.self.now c.args.number item e (object_names_in c.args.names.now) c.args.place) c.in-Call.is ready))
    c.call.ensures.watches

pub returns-in-Call-clause-written : goal.returns-in-Call-clause-written
returns-in-Call-clause-written g c = on_ok_weaker c.call.result
    (λ (all : (before : List Entry) (item : Line) (slots : List Value) → IsNextWatchedEvent before c.args.self.now c.args.number item (Call (call_with (numbers_of c.in-Call.call) slots)) (object_names_in c.args.names.now) c.args.place
    → WritesBetween (g.S.Sink.written c.args.out.now) (g.S.Sink.written c.call.new.out) (first_texts before) (first_texts (before ++ record { number = c.args.number; item = item } ∷ []))) before item ready.
    all before item c.in-Call.call.slots (subst (λ e. IsNextWatchedEvent before c.args.self.now c.args.number item e (object_names_in c.args.names.now) c.args.place) c.in-Call.is ready))
    c.call.ensures.written

pub returns-in-Call-clause-halted : goal.returns-in-Call-clause-halted
returns-in-Call-clause-halted g c = on_err_weaker c.call.result
    (λ (all : (before : List Entry) (item : Line) (slots : List Value) → IsNextWatchedEvent before c.args.self.now c.args.number item (Call (call_with (numbers_of c.in-Call.call) slots)) (object_names_in c.args.names.now) c.args.place
    → WritesFront (g.S.Sink.written c.args.out.now) (g.S.Sink.written c.call.new.out) (first_texts before) (first_texts (before ++ record { number = c.args.number; item = item } ∷ []))) before item ready.
    all before item c.in-Call.call.slots (subst (λ e. IsNextWatchedEvent before c.args.self.now c.args.number item e (object_names_in c.args.names.now) c.args.place) c.in-Call.is ready))
    c.call.ensures.halted

pub returns-in-Call-clause-cost : goal.returns-in-Call-clause-cost
returns-in-Call-clause-cost g c = λ before item ready.
    c.call.ensures.cost before item c.in-Call.call.slots (subst (λ e. IsNextWatchedEvent before c.args.self.now c.args.number item e (object_names_in c.args.names.now) c.args.place) c.in-Call.is ready)
