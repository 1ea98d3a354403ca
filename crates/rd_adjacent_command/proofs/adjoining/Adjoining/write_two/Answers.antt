use Rattle.std.proofs.Common.{◌<◌, List, [], length, sym, ap, subst, ◌∙◌, arith, inl, inr}
use Rattle.std.specs.Prelude.{All}
use Rattle.std.proofs.lemmas.Result.{on_err_weaker, on_ok_weaker}
use Rattle.rd_adjacent.specs.Adjacent.{IsCallAt, IsNotAdjacent}
use Rattle.rd_adjacent.specs.Beside.{beside}
use Rattle.rd_adjacent_command.proofs.CallLemmas.{call_there}
use Rattle.rd_adjacent_command.proofs.EndLemmas.{two_beside, two_ordered}
use Rattle.rd_adjacent_command.proofs.KeptLemmas.{as_many, kept_few}
use Rattle.rd_adjacent_command.proofs.PathLemmas.{path_computed, path_reaches}
use Rattle.rd_adjacent_command.specs.Adjoining.{AdjoinsNamed}
use Rattle.rd_adjacent_command.specs.Outcomes.{path_line}
use Rattle.rd_ecl.specs.Kinds.{Kind}
use Rattle.rd_event.specs.Items.{lines_text}
use Rattle.rd_event.specs.declared.items.Line.{Line}
use Rattle.rd_io.specs.Sinks.{Appends}
use Rattle.rd_order.specs.Order.{Reaches}
use Rattle.rd_order.specs.Paths.{IsFarthestPath, farthest_path}
use Rattle.rd_linear.proofs.LinearLemmas.{linear_inside, linear_length}
use Rattle.rd_rewriting.specs.Keeping.{ArePlaces, KeepsNamed}
use Rattle.rd_rewriting.specs.Reordered.{reordered}
use Rattle.rd_walk.specs.Analysis.{WritesFront}
use Rattle.rd_adjacent_command.proofs.adjoining.Adjoining.write_two.Goals as goal

pub adjacent-requires-clause-few : goal.adjacent-requires-clause-few
adjacent-requires-clause-few g c =
    let (kinds, lines, kept) = c.requires.kept in
    omega (arith, kept_few kinds lines c.args.self.now c.args.names.now kept, ap length c.as_slice.ensures.value)

pub write_lines-requires-clause-kept : goal.write_lines-requires-clause-kept
write_lines-requires-clause-kept g c = let (kinds, lines, kept) = c.requires.kept in (kinds, lines, kept.named)

pub write_lines-requires-clause-places : goal.write_lines-requires-clause-places
write_lines-requires-clause-places g c =
    let (kinds, lines, kept) = c.requires.kept in
    let many = ap length c.as_slice.ensures.value ∙ as_many kinds lines c.args.self.now c.args.names.now kept in
    subst (ArePlaces c.args.self.now.kept) (sym c.items.ensures)
    (subst (λ n. All (λ p. p < n) c.in-Ok.places) many (linear_inside c.as_slice.result.now c.in-Ok.places c.in-Ok.ensures.linear))

pub write_lines-requires-clause-all : goal.write_lines-requires-clause-all
write_lines-requires-clause-all g c =
    let (kinds, lines, kept) = c.requires.kept in
    ap length c.items.ensures
    ∙ (linear_length c.as_slice.result.now c.in-Ok.places c.in-Ok.ensures.linear
    ∙ (ap length c.as_slice.ensures.value ∙ as_many kinds lines c.args.self.now c.args.names.now kept))

pub unreachable-requires : goal.unreachable-requires
unreachable-requires g c =
    let es = c.as_slice.result.now in
    let i = c.args.i in
    let j = c.args.j in
    let one : IsCallAt es i = subst (λ l. IsCallAt l i) (sym c.as_slice.ensures.value) (call_there c.args.self.now.events.items i c.requires.calls.0) in
    let other : IsCallAt es j = subst (λ l. IsCallAt l j) (sym c.as_slice.ensures.value) (call_there c.args.self.now.events.items j c.requires.calls.1) in
    elim (subst (IsNotAdjacent es i j) c.in-Err-NotACall.field-0-is c.in-Err-NotACall.ensures.refused) [
      | inl first ↦ first.1 one
      | inr second ↦ second.2 other
    ]

pub returns-in-Ok-clause-ok : goal.returns-in-Ok-clause-ok
returns-in-Ok-clause-ok g c =
    let was = g.S.Sink.written c.args.out.now in
    let now = g.S.Sink.written c.write_lines.new.out in
    let same = c.as_slice.ensures.value in
    let loose : ¬ (Reaches c.args.self.now.events.items c.args.i c.args.j) = subst (λ es. ¬ (Reaches es c.args.i c.args.j)) same c.in-Ok.ensures.calls.2 in
    let places = c.items.ensures ∙ (c.in-Ok.ensures.beside ∙ ap (λ es. beside es c.args.i c.args.j) same) in
    on_ok_weaker c.write_lines.result
    (λ (all : (kinds : List Kind) (lines : List Line) → KeepsNamed kinds c.args.self.now.kept c.args.names.now lines
    → Appends was now (lines_text (reordered lines c.items.result.now))) kinds lines kept.
    subst (Appends was now)
    (ap (λ ps. lines_text (reordered lines ps)) places ∙ two_beside c.args.self.now.events.items lines c.args.self.now.lines.items c.args.i c.args.j loose)
    (all kinds lines kept.named))
    c.write_lines.ensures.ok

pub returns-in-Ok-clause-front : goal.returns-in-Ok-clause-front
returns-in-Ok-clause-front g c =
    let was = g.S.Sink.written c.args.out.now in
    let now = g.S.Sink.written c.write_lines.new.out in
    let same = c.as_slice.ensures.value in
    let loose : ¬ (Reaches c.args.self.now.events.items c.args.i c.args.j) = subst (λ es. ¬ (Reaches es c.args.i c.args.j)) same c.in-Ok.ensures.calls.2 in
    let places = c.items.ensures ∙ (c.in-Ok.ensures.beside ∙ ap (λ es. beside es c.args.i c.args.j) same) in
    on_err_weaker c.write_lines.result
    (λ (all : (kinds : List Kind) (lines : List Line) → KeepsNamed kinds c.args.self.now.kept c.args.names.now lines
    → WritesFront was now [] (lines_text (reordered lines c.items.result.now))) kinds lines kept.
    subst (WritesFront was now [])
    (ap (λ ps. lines_text (reordered lines ps)) places ∙ two_beside c.args.self.now.events.items lines c.args.self.now.lines.items c.args.i c.args.j loose)
    (all kinds lines kept.named))
    c.write_lines.ensures.front

pub returns-in-Err-Ordered-clause-ok : goal.returns-in-Err-Ordered-clause-ok
returns-in-Err-Ordered-clause-ok g c =
    let was = g.S.Sink.written c.args.out.now in
    let now = g.S.Sink.written c.write_path.new.out in
    let es = c.as_slice.result.now in
    let same = c.as_slice.ensures.value in
    let i = c.args.i in
    let j = c.args.j in
    let path : IsFarthestPath es i c.in-Err-Ordered.path j = (subst (IsNotAdjacent es i j) c.in-Err-Ordered.field-0-is c.in-Err-Ordered.ensures.refused).2 in
    let reach : Reaches c.args.self.now.events.items i j = subst (λ l. Reaches l i j) same (path_reaches es c.in-Err-Ordered.path i j c.requires.order path) in
    let places = c.items-in-Err-Ordered.ensures ∙ (path_computed es c.in-Err-Ordered.path i j c.requires.order path ∙ ap (λ l. farthest_path l i j) same) in
    on_ok_weaker c.write_path.result
    (λ (one : Appends was now (path_line c.args.self.now.lines.items c.items-in-Err-Ordered.result.now)) (kinds : List Kind) (lines : List Line)
    (kept : AdjoinsNamed kinds c.args.self.now c.args.names.now lines).
    subst (Appends was now)
    (ap (path_line c.args.self.now.lines.items) places ∙ two_ordered c.args.self.now.events.items lines c.args.self.now.lines.items i j reach)
    one)
    c.write_path.ensures.ok

pub returns-in-Err-Ordered-clause-front : goal.returns-in-Err-Ordered-clause-front
returns-in-Err-Ordered-clause-front g c =
    let was = g.S.Sink.written c.args.out.now in
    let now = g.S.Sink.written c.write_path.new.out in
    let es = c.as_slice.result.now in
    let same = c.as_slice.ensures.value in
    let i = c.args.i in
    let j = c.args.j in
    let path : IsFarthestPath es i c.in-Err-Ordered.path j = (subst (IsNotAdjacent es i j) c.in-Err-Ordered.field-0-is c.in-Err-Ordered.ensures.refused).2 in
    let reach : Reaches c.args.self.now.events.items i j = subst (λ l. Reaches l i j) same (path_reaches es c.in-Err-Ordered.path i j c.requires.order path) in
    let places = c.items-in-Err-Ordered.ensures ∙ (path_computed es c.in-Err-Ordered.path i j c.requires.order path ∙ ap (λ l. farthest_path l i j) same) in
    on_err_weaker c.write_path.result
    (λ (one : WritesFront was now [] (path_line c.args.self.now.lines.items c.items-in-Err-Ordered.result.now)) (kinds : List Kind) (lines : List Line)
    (kept : AdjoinsNamed kinds c.args.self.now c.args.names.now lines).
    subst (WritesFront was now [])
    (ap (path_line c.args.self.now.lines.items) places ∙ two_ordered c.args.self.now.events.items lines c.args.self.now.lines.items i j reach)
    one)
    c.write_path.ensures.front
