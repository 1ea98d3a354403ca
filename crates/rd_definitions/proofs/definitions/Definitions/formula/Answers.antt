use Rattle.std.proofs.Common.{◌≡◌, IfSome, IfNone, Some, None, subst}
use Rattle.rd_ecl.specs.Formulas.{tree_of}
use Rattle.rd_definitions.specs.Definitions.{formula_of}
use Rattle.rd_definitions.proofs.DefinitionLemmas.{found_held, not_found}
use Rattle.rd_definitions.proofs.definitions.Definitions.formula.Goals as goal

pub returns-clause-some : goal.returns-clause-some
returns-clause-some c = subst (λ ds. IfSome c.get.result (λ formula. formula_of ds c.args.name.now ≡ Some (tree_of formula.now))) c.self.view_is
    (found_held c.get.result c.self.inside.held.entries c.args.name.now c.get.ensures.value)

pub returns-clause-none : goal.returns-clause-none
returns-clause-none c = subst (λ ds. IfNone c.get.result (formula_of ds c.args.name.now ≡ None)) c.self.view_is
    (not_found c.get.result c.self.inside.held.entries c.args.name.now c.get.ensures.value)
