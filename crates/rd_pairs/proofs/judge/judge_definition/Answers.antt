use Rattle.std.proofs.Common.{◌∙◌, ◌<◌, ap, length}
use Rattle.rd_ecl.specs.Formulas.{tree_of}
use Rattle.rd_ecl.specs.Specified.{SpecifiedKind}
use Rattle.rd_formulas.specs.declared.scope.Scope.{Scope}
use Rattle.rd_formulas.specs.Scope.{HasTerms}
use Rattle.rd_grammar.specs.Grammar.{parsed_tree}
use Rattle.rd_pairs.specs.Causes.{IsSpecLineRefused}
use Rattle.rd_pairs.specs.PairCauses.{DefinitionHas, definition_scope}
use Rattle.rd_pairs.proofs.DefinitionLemmas.{definition_clean, definition_large, definition_may, definition_new, definition_refused, definition_says, definition_says_here, definition_scoped, definition_taken, definition_terms, number_is}
use Rattle.rd_pairs.proofs.FormLemmas.{definition_few, definition_formula}
use Rattle.rd_pairs.proofs.JudgeLemmas.{refused_as, refuted}
use Rattle.rd_pairs.proofs.NumberLemmas.{number_within}
use Rattle.rd_pairs.proofs.ScopeLemmas.{back, scope_back}
use Rattle.rd_pairs.proofs.judge.judge_definition.Goals as goal

pub resolve-requires-clause-scope : goal.resolve-requires-clause-scope
resolve-requires-clause-scope c =
    let opened = c.args.opened.now in
    let line = c.args.line.now in
    let tokens = c.args.tokens.now in
    let owner = c.args.names.0.now in
    let name = c.args.names.1.now in
    let read = parsed_tree c.args.parsed.now in
    let m = c.in-Some.method in
    let same = c.methods.ensures.value ∙ ap (λ (k : SpecifiedKind). k.methods) c.draft.ensures.value in
    let is = number_is opened.kind c.methods.result.now owner m same c.in-Some.ensures.some in
    let scope = c.definition_scope-scope.result in
    let alike = c.definition_scope-scope.ensures in
    let draft = c.draft.ensures.valid in
    let right = c.requires.right in
    let form = definition_formula right.0 right.1 line tokens owner name read c.requires.within c.requires.sorts right.3 in
    let target = definition_scope opened.kind line tokens m in (
      scope_back scope target alike (definition_scoped opened line tokens owner name read draft m is form),
      back (λ (s : Scope). length s.line.now < 4294967295) scope target alike c.requires.short,
    )

pub resolve-requires-clause-terms : goal.resolve-requires-clause-terms
resolve-requires-clause-terms c =
    let opened = c.args.opened.now in
    let line = c.args.line.now in
    let tokens = c.args.tokens.now in
    let owner = c.args.names.0.now in
    let name = c.args.names.1.now in
    let read = parsed_tree c.args.parsed.now in
    let m = c.in-Some.method in
    let same = c.methods.ensures.value ∙ ap (λ (k : SpecifiedKind). k.methods) c.draft.ensures.value in
    let is = number_is opened.kind c.methods.result.now owner m same c.in-Some.ensures.some in
    let scope = c.definition_scope-scope.result in
    let alike = c.definition_scope-scope.ensures in
    let draft = c.draft.ensures.valid in
    let right = c.requires.right in
    let form = definition_formula right.0 right.1 line tokens owner name read c.requires.within c.requires.sorts right.3 in
    let target = definition_scope opened.kind line tokens m in
    back (λ (s : Scope). HasTerms s read) scope target alike (definition_terms opened line tokens owner name read draft m is form)

pub resolve-requires-clause-few : goal.resolve-requires-clause-few
resolve-requires-clause-few c =
    let right = c.requires.right in
    definition_few right.0 right.1 c.args.line.now c.args.tokens.now c.args.names.0.now c.args.names.1.now (parsed_tree c.args.parsed.now) right.2 right.3

pub returns-in-Err-clause-refused : goal.returns-in-Err-clause-refused
returns-in-Err-clause-refused c =
    let opened = c.args.opened.now in
    let line = c.args.line.now in
    let tokens = c.args.tokens.now in
    let owner = c.args.names.0.now in
    let name = c.args.names.1.now in
    let read = parsed_tree c.args.parsed.now in
    let m = c.in-Some.method in
    let same = c.methods.ensures.value ∙ ap (λ (k : SpecifiedKind). k.methods) c.draft.ensures.value in
    let is = number_is opened.kind c.methods.result.now owner m same c.in-Some.ensures.some in
    let scope = c.definition_scope-scope.result in
    let alike = c.definition_scope-scope.ensures in
    let draft = c.draft.ensures.valid in
    rw c.refusal_of.ensures (definition_refused opened line tokens owner name read draft m is scope alike c.in-Err.refused c.in-Err.ensures.refused)

pub is_defined-requires : goal.is_defined-requires
is_defined-requires c =
    let opened = c.args.opened.now in
    let owner = c.args.names.0.now in
    let m = c.in-Some.method in
    let same = c.methods.ensures.value ∙ ap (λ (k : SpecifiedKind). k.methods) c.draft.ensures.value in
    number_within opened.kind.methods owner m (number_is opened.kind c.methods.result.now owner m same c.in-Some.ensures.some)

pub returns-then-is_defined-clause-refused : goal.returns-then-is_defined-clause-refused
returns-then-is_defined-clause-refused c =
    let opened = c.args.opened.now in
    let line = c.args.line.now in
    let tokens = c.args.tokens.now in
    let owner = c.args.names.0.now in
    let name = c.args.names.1.now in
    let read = parsed_tree c.args.parsed.now in
    let m = c.in-Some.method in
    let same = c.methods.ensures.value ∙ ap (λ (k : SpecifiedKind). k.methods) c.draft.ensures.value in
    let is = number_is opened.kind c.methods.result.now owner m same c.in-Some.ensures.some in
    let scope = c.definition_scope-scope.result in
    let alike = c.definition_scope-scope.ensures in
    let draft = c.draft.ensures.valid in
    let right = c.requires.right in
    let form = definition_formula right.0 right.1 line tokens owner name read c.requires.within c.requires.sorts right.3 in
    let told = c.in-Ok.ensures in
    let outline = tree_of c.in-Ok.outline in
    rw c.place_at-then-is_defined.ensures
    (definition_taken opened line tokens owner name read draft m is form scope alike outline told.outlines told.formula.inside told.ready
    (c.is_defined.ensures.0 c.if-is_defined.true))

pub expanded-requires-clause-ready : goal.expanded-requires-clause-ready
expanded-requires-clause-ready c =
    let opened = c.args.opened.now in
    let line = c.args.line.now in
    let tokens = c.args.tokens.now in
    let owner = c.args.names.0.now in
    let name = c.args.names.1.now in
    let read = parsed_tree c.args.parsed.now in
    let m = c.in-Some.method in
    let same = c.methods.ensures.value ∙ ap (λ (k : SpecifiedKind). k.methods) c.draft.ensures.value in
    let is = number_is opened.kind c.methods.result.now owner m same c.in-Some.ensures.some in
    let scope = c.definition_scope-scope.result in
    let alike = c.definition_scope-scope.ensures in
    let draft = c.draft.ensures.valid in
    let right = c.requires.right in
    let form = definition_formula right.0 right.1 line tokens owner name read c.requires.within c.requires.sorts right.3 in
    let target = definition_scope opened.kind line tokens m in (
      scope_back scope target alike (definition_scoped opened line tokens owner name read draft m is form),
      back (λ (s : Scope). HasTerms s read) scope target alike (definition_terms opened line tokens owner name read draft m is form),
      c.in-Ok.ensures.ready,
    )

pub expanded-requires-clause-few : goal.expanded-requires-clause-few
expanded-requires-clause-few c =
    let right = c.requires.right in
    definition_few right.0 right.1 c.args.line.now c.args.tokens.now c.args.names.0.now c.args.names.1.now (parsed_tree c.args.parsed.now) right.2 right.3

pub returns-in_err-formula-clause-refused : goal.returns-in_err-formula-clause-refused
returns-in_err-formula-clause-refused c =
    let opened = c.args.opened.now in
    let line = c.args.line.now in
    let tokens = c.args.tokens.now in
    let owner = c.args.names.0.now in
    let name = c.args.names.1.now in
    let read = parsed_tree c.args.parsed.now in
    let m = c.in-Some.method in
    let same = c.methods.ensures.value ∙ ap (λ (k : SpecifiedKind). k.methods) c.draft.ensures.value in
    let is = number_is opened.kind c.methods.result.now owner m same c.in-Some.ensures.some in
    let scope = c.definition_scope-scope.result in
    let alike = c.definition_scope-scope.ensures in
    let draft = c.draft.ensures.valid in
    let right = c.requires.right in
    let form = definition_formula right.0 right.1 line tokens owner name read c.requires.within c.requires.sorts right.3 in
    let told = c.in-Ok.ensures in
    let outline = tree_of c.in-Ok.outline in
    let lacks = refuted c.is_defined.result c.is_defined.ensures.1 c.if-is_defined.false in
    let large = definition_large opened line tokens owner name read draft m is form scope alike outline told.outlines told.formula.inside told.ready lacks in
    refused_as c.from_residual.result c.in_err-formula.field-0.0 (IsSpecLineRefused (DefinitionHas opened line tokens owner name read)) c.from_residual.ensures.1
    (large c.in_err-formula.field-0.0 c.in_err-formula.ensures.refused)

pub returns-clause-clean : goal.returns-clause-clean
returns-clause-clean c =
    let opened = c.args.opened.now in
    let line = c.args.line.now in
    let tokens = c.args.tokens.now in
    let owner = c.args.names.0.now in
    let name = c.args.names.1.now in
    let read = parsed_tree c.args.parsed.now in
    let m = c.in-Some.method in
    let same = c.methods.ensures.value ∙ ap (λ (k : SpecifiedKind). k.methods) c.draft.ensures.value in
    let is = number_is opened.kind c.methods.result.now owner m same c.in-Some.ensures.some in
    let scope = c.definition_scope-scope.result in
    let alike = c.definition_scope-scope.ensures in
    let draft = c.draft.ensures.valid in
    let right = c.requires.right in
    let form = definition_formula right.0 right.1 line tokens owner name read c.requires.within c.requires.sorts right.3 in
    let told = c.in-Ok.ensures in
    let outline = tree_of c.in-Ok.outline in
    let lacks = refuted c.is_defined.result c.is_defined.ensures.1 c.if-is_defined.false in
    let f = tree_of c.in_ok-formula.formula in
    let says = c.in_ok-formula.ensures.says in
    let small = c.in_ok-formula.ensures.within in
    definition_clean opened line tokens owner name read draft m is form scope alike outline told.outlines told.formula.inside told.ready lacks f says small

pub returns-clause-says : goal.returns-clause-says
returns-clause-says c =
    let opened = c.args.opened.now in
    let line = c.args.line.now in
    let tokens = c.args.tokens.now in
    let owner = c.args.names.0.now in
    let name = c.args.names.1.now in
    let read = parsed_tree c.args.parsed.now in
    let m = c.in-Some.method in
    let same = c.methods.ensures.value ∙ ap (λ (k : SpecifiedKind). k.methods) c.draft.ensures.value in
    let is = number_is opened.kind c.methods.result.now owner m same c.in-Some.ensures.some in
    let scope = c.definition_scope-scope.result in
    let alike = c.definition_scope-scope.ensures in
    let draft = c.draft.ensures.valid in
    let right = c.requires.right in
    let form = definition_formula right.0 right.1 line tokens owner name read c.requires.within c.requires.sorts right.3 in
    let told = c.in-Ok.ensures in
    let outline = tree_of c.in-Ok.outline in
    let lacks = refuted c.is_defined.result c.is_defined.ensures.1 c.if-is_defined.false in
    let f = tree_of c.in_ok-formula.formula in
    let says = c.in_ok-formula.ensures.says in
    let small = c.in_ok-formula.ensures.within in
    definition_says opened line tokens owner name read draft m is form scope alike outline told.outlines told.formula.inside told.ready lacks f says small

pub returns-clause-known : goal.returns-clause-known
returns-clause-known c =
    let opened = c.args.opened.now in
    let owner = c.args.names.0.now in
    let m = c.in-Some.method in
    let same = c.methods.ensures.value ∙ ap (λ (k : SpecifiedKind). k.methods) c.draft.ensures.value in
    number_within opened.kind.methods owner m (number_is opened.kind c.methods.result.now owner m same c.in-Some.ensures.some)

pub returns-clause-unknown : goal.returns-clause-unknown
returns-clause-unknown c =
    let opened = c.args.opened.now in
    let line = c.args.line.now in
    let tokens = c.args.tokens.now in
    let owner = c.args.names.0.now in
    let name = c.args.names.1.now in
    let read = parsed_tree c.args.parsed.now in
    let m = c.in-Some.method in
    let same = c.methods.ensures.value ∙ ap (λ (k : SpecifiedKind). k.methods) c.draft.ensures.value in
    let is = number_is opened.kind c.methods.result.now owner m same c.in-Some.ensures.some in
    let scope = c.definition_scope-scope.result in
    let alike = c.definition_scope-scope.ensures in
    let draft = c.draft.ensures.valid in
    let right = c.requires.right in
    let form = definition_formula right.0 right.1 line tokens owner name read c.requires.within c.requires.sorts right.3 in
    let told = c.in-Ok.ensures in
    let outline = tree_of c.in-Ok.outline in
    let lacks = refuted c.is_defined.result c.is_defined.ensures.1 c.if-is_defined.false in
    let f = tree_of c.in_ok-formula.formula in
    let says = c.in_ok-formula.ensures.says in
    let small = c.in_ok-formula.ensures.within in
    definition_new opened line tokens owner name read draft m is form f (definition_says_here opened line tokens owner name read draft m is form scope alike outline told.outlines told.formula.inside told.ready lacks f says small)
    (definition_clean opened line tokens owner name read draft m is form scope alike outline told.outlines told.formula.inside told.ready lacks f says small)

pub returns-clause-may : goal.returns-clause-may
returns-clause-may c =
    let opened = c.args.opened.now in
    let line = c.args.line.now in
    let tokens = c.args.tokens.now in
    let owner = c.args.names.0.now in
    let name = c.args.names.1.now in
    let read = parsed_tree c.args.parsed.now in
    let m = c.in-Some.method in
    let same = c.methods.ensures.value ∙ ap (λ (k : SpecifiedKind). k.methods) c.draft.ensures.value in
    let is = number_is opened.kind c.methods.result.now owner m same c.in-Some.ensures.some in
    let scope = c.definition_scope-scope.result in
    let alike = c.definition_scope-scope.ensures in
    let draft = c.draft.ensures.valid in
    let right = c.requires.right in
    let form = definition_formula right.0 right.1 line tokens owner name read c.requires.within c.requires.sorts right.3 in
    let told = c.in-Ok.ensures in
    let outline = tree_of c.in-Ok.outline in
    let lacks = refuted c.is_defined.result c.is_defined.ensures.1 c.if-is_defined.false in
    let f = tree_of c.in_ok-formula.formula in
    let says = c.in_ok-formula.ensures.says in
    let small = c.in_ok-formula.ensures.within in
    definition_may opened line tokens owner name read draft m is form f (definition_says_here opened line tokens owner name read draft m is form scope alike outline told.outlines told.formula.inside told.ready lacks f says small)
    (definition_clean opened line tokens owner name read draft m is form scope alike outline told.outlines told.formula.inside told.ready lacks f says small)
