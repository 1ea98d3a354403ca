use Rattle.std.proofs.Common.{◌≡◌, ◌++◌, ◌∷◌, [], map, None, sym, ap, subst, ◌∙◌}
use Rattle.rd_ecl.specs.Formulas.{tree_of}
use Rattle.rd_definitions.specs.Definitions.{entry_definition, formula_of}
use Rattle.rd_definitions.proofs.DefinitionLemmas.{added_last}
use Rattle.rd_definitions.proofs.definitions.Definitions.add.Goals as goal

pub returns-clause-ok : goal.returns-clause-ok
returns-clause-ok c =
    ap (map entry_definition) c.in_ok-insert.ensures.entries
    ∙ added_last c.self.inside.held c.args.name c.args.formula (subst (λ ds. formula_of ds c.args.name ≡ None) (sym c.self.view_is) c.requires)
    ∙ ap (λ ds. ds ++ record { name = c.args.name; formula = tree_of c.args.formula } ∷ []) c.self.view_is
