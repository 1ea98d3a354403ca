use Rattle.std.proofs.Common.{◌≡◌, ◌∙◌, sym, ap, [], ◌∷◌, ◌++◌, length, ◌<◌, arith}
use Rattle.std.proofs.lemmas.Bool.{eqb-true, eqb-false}
use Rattle.rd_base.specs.Slots.{held_values}
use Rattle.rd_base.proofs.ListedLemmas.{held_few, held_many, held_more}
use Rattle.rd_base.proofs.slots.ValueList.push_to_many.Goals as goal

pub returns-then-is_empty-clause-ok : goal.returns-then-is_empty-clause-ok
returns-then-is_empty-clause-ok c =
    let empty = eqb-true _ 0 (sym c.is_empty.ensures ∙ c.if-is_empty.true) in
    let none : length c.self.inside.many.items ≡ 0 = omega (arith, empty, c.self.inside.many.ok.0, c.self.inside.many.ok.1) in
    ap (held_values c.self.inside.few.items) c.in_ok-push.ensures.items ∙ held_more c.self.inside.few.items c.in_ok-list.list.items c.args.value
    ∙ ap (λ values. values ++ c.args.value ∷ []) (c.in_ok-list.ensures ∙ c.as_slice.ensures.value ∙ sym (held_few c.self.inside.few.items c.self.inside.many.items none) ∙ c.self.view_is)

pub returns-clause-ok : goal.returns-clause-ok
returns-clause-ok c =
    let some = eqb-false _ 0 (sym c.is_empty.ensures ∙ c.if-is_empty.false) in
    let has : 0 < length c.self.inside.many.items = omega (arith, some, c.self.inside.many.ok.0, c.self.inside.many.ok.1) in
    ap (held_values c.self.inside.few.items) c.in_ok-push-2.ensures.items ∙ held_more c.self.inside.few.items c.self.inside.many.items c.args.value
    ∙ ap (λ values. values ++ c.args.value ∷ []) (sym (held_many c.self.inside.few.items c.self.inside.many.items has) ∙ c.self.view_is)
