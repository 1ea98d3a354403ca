use Rattle.std.proofs.Common.{◌||◌, Bool, ap, is_some, sym, ◌∙◌}
use Rattle.rd_ecl.specs.Specified.{formula_at}
use Rattle.rd_open_kind.proofs.OpenedLemmas.{is_set_given, same_some}
use Rattle.rd_open_kind.proofs.open_kind.OpenKind.is_set.Goals as goal

pub returns-then-is_some : goal.returns-then-is_some
returns-then-is_some c =
    let kind = c.self.inside.draft in
    let asked = rw (← c.self.view_is) at c.requires in
    let given = is_set_given kind c.self.inside.default c.args.first c.args.second c.methods-methods.ensures.valid asked.0 asked.1 in
    rw (← c.self.view_is)
    (c.if-is_some.true ∙ (ap (λ (b : Bool). b || is_some (formula_at kind c.args.first c.args.second)) c.if-is_some.ensures ∙ sym given))

pub returns-else-is_some : goal.returns-else-is_some
returns-else-is_some c =
    let kind = c.self.inside.draft in
    let asked = rw (← c.self.view_is) at c.requires in
    let given = is_set_given kind c.self.inside.default c.args.first c.args.second c.methods-methods.ensures.valid asked.0 asked.1 in
    let own = c.is_some-else-is_some.ensures ∙ (sym (same_some _ c.formula.result) ∙ ap is_some c.formula.ensures) in
    rw (← c.self.view_is)
    (own ∙ (ap (λ (b : Bool). b || is_some (formula_at kind c.args.first c.args.second)) c.if-is_some.ensures ∙ sym given))
