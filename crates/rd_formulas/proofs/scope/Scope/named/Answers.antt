use Rattle.rd_formulas.proofs.BuildingLemmas.{defined_is}
use Rattle.rd_formulas.proofs.scope.Scope.named.Goals as goal

pub returns-in-Some-formula-clause-defined : goal.returns-in-Some-formula-clause-defined
returns-in-Some-formula-clause-defined c =
    let has = defined_is c.args.self.now c.in-Some.side c.in-Ok.name _ c.requires.0 (rw (← c.definitions.ensures) c.in-Some-formula.ensures.some) in
    (has.alone, has.pair.few, has.pair.shallow)
