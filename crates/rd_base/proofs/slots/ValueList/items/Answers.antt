use Rattle.std.proofs.Common.{◌∙◌, sym, arith}
use Rattle.std.proofs.lemmas.Bool.{eqb-true, eqb-false}
use Rattle.rd_base.proofs.ListedLemmas.{held_few, held_many}
use Rattle.rd_base.proofs.slots.ValueList.items.Goals as goal

pub returns-then-is_empty : goal.returns-then-is_empty
returns-then-is_empty c =
    let empty = eqb-true _ 0 (sym c.is_empty.ensures ∙ c.if-is_empty.true) in
    c.as_slice.ensures.value ∙ sym (held_few c.self.inside.few.items c.self.inside.many.items (omega (arith, empty, c.self.inside.many.ok.0, c.self.inside.many.ok.1))) ∙ c.self.view_is

pub returns-else-is_empty : goal.returns-else-is_empty
returns-else-is_empty c =
    let some = eqb-false _ 0 (sym c.is_empty.ensures ∙ c.if-is_empty.false) in
    c.as_slice-else-is_empty.ensures.value ∙ sym (held_many c.self.inside.few.items c.self.inside.many.items (omega (arith, some, c.self.inside.many.ok.0, c.self.inside.many.ok.1))) ∙ c.self.view_is
