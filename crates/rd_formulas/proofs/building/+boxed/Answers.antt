use Rattle.rd_formulas.proofs.building.+boxed.Goals as goal

pub returns-in-Relation : goal.returns-in-Relation
returns-in-Relation t c = rw c.in-Relation.is c.boxed_relation.ensures
