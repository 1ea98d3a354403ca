use Rattle.std.proofs.Common.{◌<◌, ◌∙◌, List, [], length, sym, ap, subst}
use Rattle.std.specs.Prelude.{All}
use Rattle.std.proofs.lemmas.Result.{on_err_weaker, on_ok_weaker}
use Rattle.rd_event.specs.Items.{lines_text}
use Rattle.rd_ecl.specs.Kinds.{Kind}
use Rattle.rd_event.specs.declared.items.Line.{Line}
use Rattle.rd_io.specs.Sinks.{Appends}
use Rattle.rd_order.specs.EventLists.{WellFormed}
use Rattle.rd_linear.proofs.LinearLemmas.{linear_inside, linear_length}
use Rattle.rd_reorder_command.proofs.OrderLemmas.{picked_places}
use Rattle.rd_reorder_command.proofs.ValueLemmas.{formed_same}
use Rattle.rd_reorder_command.proofs.KeptLemmas.{as_many}
use Rattle.rd_rewriting.proofs.KeepingLemmas.{follow_told}
use Rattle.rd_rewriting.specs.Keeping.{ArePlaces, KeepsNamed}
use Rattle.rd_rewriting.specs.Reordered.{reordered}
use Rattle.rd_walk.specs.Analysis.{WritesFront}
use Rattle.rd_rules.specs.Events.{events_of, roots_of}
use Rattle.rd_reorder_command.proofs.reordering.Reordering.write_picked.Goals as goal

pub reorder-requires : goal.reorder-requires
reorder-requires g c =
    let (kinds, lines, kept) = c.requires in
    record {
      formed = (
        roots_of lines,
        subst (WellFormed (roots_of lines)) (sym (c.as_slice.ensures.value ∙ kept.events))
            (formed_same (roots_of lines) (events_of kinds lines) (follow_told kinds lines kept.named.keeps.follow).told.formed),
      );
    }

pub write_lines-requires-clause-kept : goal.write_lines-requires-clause-kept
write_lines-requires-clause-kept g c = let (kinds, lines, kept) = c.requires in (kinds, lines, kept.named)

pub write_lines-requires-clause-places : goal.write_lines-requires-clause-places
write_lines-requires-clause-places g c =
    let (kinds, lines, kept) = c.requires in
    let places = c.in_ok-places.places in
    let many = ap length c.as_slice.ensures.value ∙ as_many kinds c.args.self.now lines kept.named.keeps kept.events in
    subst (ArePlaces c.args.self.now.kept) (sym c.items.ensures)
    (subst (λ n. All (λ p. p < n) places) many (linear_inside c.as_slice.result.now places c.in_ok-places.ensures.linear))

pub write_lines-requires-clause-all : goal.write_lines-requires-clause-all
write_lines-requires-clause-all g c =
    let (kinds, lines, kept) = c.requires in
    ap length c.items.ensures
    ∙ (linear_length c.as_slice.result.now c.in_ok-places.places c.in_ok-places.ensures.linear
    ∙ (ap length c.as_slice.ensures.value ∙ as_many kinds c.args.self.now lines kept.named.keeps kept.events))

pub returns-clause-ok : goal.returns-clause-ok
returns-clause-ok g c =
    let was = g.S.Sink.written c.args.out.now in
    let now = g.S.Sink.written c.write_lines.new.out in
    on_ok_weaker c.write_lines.result
    (λ (all : (kinds : List Kind) (lines : List Line) → KeepsNamed kinds c.args.self.now.kept c.args.names.now lines
    → Appends was now (lines_text (reordered lines c.items.result.now))) kinds lines kept.
    subst (λ places. Appends was now (lines_text (reordered lines places)))
    (picked_places kinds lines kept.named.keeps.follow c.as_slice.result.now c.in_ok-places.places c.items.result.now c.args.self.now.number (c.as_slice.ensures.value ∙ kept.events)
    c.items.ensures c.in_ok-places.ensures.order)
    (all kinds lines kept.named))
    c.write_lines.ensures.ok

pub returns-clause-front : goal.returns-clause-front
returns-clause-front g c =
    let was = g.S.Sink.written c.args.out.now in
    let now = g.S.Sink.written c.write_lines.new.out in
    on_err_weaker c.write_lines.result
    (λ (all : (kinds : List Kind) (lines : List Line) → KeepsNamed kinds c.args.self.now.kept c.args.names.now lines
    → WritesFront was now [] (lines_text (reordered lines c.items.result.now))) kinds lines kept.
    subst (λ places. WritesFront was now [] (lines_text (reordered lines places)))
    (picked_places kinds lines kept.named.keeps.follow c.as_slice.result.now c.in_ok-places.places c.items.result.now c.args.self.now.number (c.as_slice.ensures.value ∙ kept.events)
    c.items.ensures c.in_ok-places.ensures.order)
    (all kinds lines kept.named))
    c.write_lines.ensures.front
