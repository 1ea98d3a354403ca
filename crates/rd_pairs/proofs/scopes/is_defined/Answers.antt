use Rattle.std.proofs.Common.{◌∙◌, ℕ, List, ap, sym, subst, true≢false}
use Rattle.std.specs.Prelude.{Contains}
use Rattle.rd_ecl.specs.declared.kinds.Method.{Method}
use Rattle.rd_ecl.specs.Specified.{SpecifiedKind}
use Rattle.rd_pairs.specs.PairCauses.{variables_of_method}
use Rattle.rd_pairs.specs.PairJudging.{kind_with}
use Rattle.rd_pairs.proofs.DefinitionLemmas.{defined_if}
use Rattle.rd_pairs.proofs.scopes.is_defined.Goals as goal

pub returns-else-is_among : goal.returns-else-is_among
returns-else-is_among c =
    let name = c.args.name.now in
    let methods = c.methods.ensures.value ∙ ap (λ (k : SpecifiedKind). k.methods) c.draft.ensures.value in
    let variables = c.variables_of.ensures ∙ ap (λ (ms : List Method). variables_of_method (kind_with ms) c.args.method) methods in
    let lacks : ¬ (Contains (variables_of_method c.args.opened.now.kind c.args.method) name) =
    λ there. true≢false (sym (c.is_among.ensures.1 (subst (λ (xs : List (List ℕ)). Contains xs name) (sym variables) there)) ∙ c.if-is_among.false) in
    rw c.is_some.ensures
    (rw (← c.definitions.ensures)
    (defined_if c.formula.result c.definitions.result.now (variables_of_method c.args.opened.now.kind c.args.method) name c.formula.ensures.some
    c.formula.ensures.none lacks))
