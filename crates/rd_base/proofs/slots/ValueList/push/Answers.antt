use Rattle.std.proofs.Common.{◌≡◌, ◌∙◌, sym, ap, [], ◌∷◌, ◌++◌, length, arith}
use Rattle.std.proofs.lemmas.Bool.{eqb-true}
use Rattle.rd_base.proofs.ListedLemmas.{held_few}
use Rattle.rd_base.proofs.slots.ValueList.push.Goals as goal

pub returns-then-not-is_full-clause-ok : goal.returns-then-not-is_full-clause-ok
returns-then-not-is_full-clause-ok c =
    let empty = eqb-true _ 0 (sym c.is_empty.ensures ∙ c.if-is_empty.true) in
    let none : length c.self.inside.many.items ≡ 0 = omega (arith, empty, c.self.inside.many.ok.0, c.self.inside.many.ok.1) in
    held_few c.push.new.self.items c.self.inside.many.items none ∙ c.push.ensures.items
    ∙ ap (λ values. values ++ c.args.value ∷ []) (sym (held_few c.self.inside.few.items c.self.inside.many.items none) ∙ c.self.view_is)
