use Rattle.std.proofs.Common.{◌≡◌, ◌++◌, [], ◌∷◌, cond, sym, ap, ◌∙◌, OnOk, subst}
use Rattle.std.proofs.lemmas.List.{append-nil}
use Rattle.rd_points.specs.Blocks.{Column, numbers_in}
use Rattle.rd_points.proofs.SlotLemmas.{apart, plain_alone}
use Rattle.rd_points.proofs.rows.add_numbers.Goals as goal

pub returns-in-None : goal.returns-in-None
returns-in-None c =
    let column : Column = record { forward = c.args.forward.now; backward = c.args.backward.now; slots = c.args.slots } in
    let first = c.args.first in
    let none : numbers_in first c.args.slot column ≡ cond c.meet.result (first ∷ []) [] =
    ap (λ s. numbers_in first s column) c.in-None.is ∙ plain_alone first column ∙ ap (λ b. cond b (first ∷ []) []) (sym c.meet.ensures) in
    subst (λ l. OnOk c.push_if.result (c.push_if.new.row.items ≡ c.args.row.now.items ++ l)) (sym none) c.push_if.ensures

pub returns-else-has_slot : goal.returns-else-has_slot
returns-else-has_slot c =
    let column : Column = record { forward = c.args.forward.now; backward = c.args.backward.now; slots = c.args.slots } in
    let none : numbers_in c.args.first c.args.slot column ≡ [] =
    ap (λ s. numbers_in c.args.first s column) c.in-Some.is ∙ apart c.args.first c.in-Some.number column (sym c.has_slot.ensures ∙ c.if-has_slot.false) in
    sym (append-nil c.args.row.now.items) ∙ ap (λ l. c.args.row.now.items ++ l) (sym none)
