use Rattle.std.proofs.Common.{sym, ◌∙◌}
use Rattle.std.proofs.lemmas.Option.{MatchOption-at_some}
use Rattle.rd_kinds.specs.Objects.{machine_for, shape_of}
use Rattle.rd_replay.proofs.CompareLemmas.{gives_other, gives_same, stays_same}
use Rattle.rd_replay.proofs.replayer.compare.Goals as goal

pub returns-then-is_same-clause-answer : goal.returns-then-is_same-clause-answer
returns-then-is_same-clause-answer c =
    let parts = MatchOption-at_some _ _ _ c.unwrap.ensures c.split_last.ensures.cases in
    gives_same (machine_for c.args.object.now) (shape_of c.args.object.now) (shape_of c.apply.new.self) c.args.call.now _ c.in-Ok.given _
    (sym c.items.ensures ∙ parts.0) (rw (← c.items.ensures) parts.1) c.in-Ok.ensures.goes (sym c.is_same.ensures ∙ c.if-is_same.true)

pub returns-then-is_same-clause-same : goal.returns-then-is_same-clause-same
returns-then-is_same-clause-same c = λ _.
    let parts = MatchOption-at_some _ _ _ c.unwrap.ensures c.split_last.ensures.cases in
    stays_same (machine_for c.args.object.now) (shape_of c.args.object.now) (shape_of c.apply.new.self) c.args.call.now _ c.in-Ok.given _
    (sym c.items.ensures ∙ parts.0) (rw (← c.items.ensures) parts.1) c.in-Ok.ensures.goes (sym c.is_same.ensures ∙ c.if-is_same.true)

pub returns-else-is_same-clause-answer : goal.returns-else-is_same-clause-answer
returns-else-is_same-clause-answer c =
    let parts = MatchOption-at_some _ _ _ c.unwrap.ensures c.split_last.ensures.cases in
    gives_other (machine_for c.args.object.now) (shape_of c.args.object.now) (shape_of c.apply.new.self) c.args.call.now _ c.in-Ok.given _
    (sym c.items.ensures ∙ parts.0) (rw (← c.items.ensures) parts.1) c.in-Ok.ensures.goes (sym c.is_same.ensures ∙ c.if-is_same.false)
