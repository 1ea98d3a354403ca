use Rattle.rd_formulas.proofs.BuildingLemmas.{unknown_by}
use Rattle.rd_formulas.proofs.scope.Scope.is_unknown.Goals as goal

pub returns-in-Some : goal.returns-in-Some
returns-in-Some c =
    unknown_by c.args.self.now c.args.number c.in-Some.side c.in-Some.name.now c.slot.result c.is_none.result c.is_none.ensures
    (rw (← c.word.ensures) c.in-Some.ensures.some) c.slot.ensures.some c.slot.ensures.none
