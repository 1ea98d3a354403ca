use Rattle.std.proofs.Common.{◌∙◌, ◌<◌, ap, length, sym, subst}
use Rattle.std.specs.Prelude.{IsTrue, is_some, ◌↔◌}
use Rattle.rd_ecl.specs.Formulas.{tree_of}
use Rattle.rd_ecl.specs.Specified.{SpecifiedKind, formula_at, names_of}
use Rattle.rd_formulas.specs.declared.scope.Scope.{Scope}
use Rattle.rd_formulas.specs.Scope.{HasTerms}
use Rattle.rd_grammar.specs.Grammar.{parsed_tree}
use Rattle.rd_pairs.specs.Causes.{IsSpecLineRefused}
use Rattle.rd_pairs.specs.PairCauses.{HasManyPredicates, PairHas, scope_of}
use Rattle.rd_pairs.proofs.FormLemmas.{pair_few, pair_formula}
use Rattle.rd_pairs.proofs.JudgeLemmas.{refused_as, refuted}
use Rattle.rd_pairs.proofs.NumberLemmas.{in_order}
use Rattle.rd_pairs.proofs.PairLemmas.{first_known, many_if, not_set, numbers_are, pair_clean, pair_large, pair_many, pair_may, pair_refused, pair_says, pair_scoped, pair_taken, pair_terms, pair_unknown, says_here, second_known}
use Rattle.rd_pairs.proofs.ScopeLemmas.{back, scope_back}
use Rattle.rd_pairs.proofs.judge.judge_pair.Goals as goal

pub returns-in-Err-clause-refused : goal.returns-in-Err-clause-refused
returns-in-Err-clause-refused c =
    let opened = c.args.opened.now in
    let same = c.methods.ensures.value ∙ ap (λ (k : SpecifiedKind). k.methods) c.draft-kind.ensures.value in
    pair_unknown c.args.version opened c.args.line.now c.args.tokens.now c.args.names.0.now c.args.names.1.now (parsed_tree c.args.parsed.now)
    c.methods.result.now c.in-Err.fault same c.in-Err.ensures.unknown

pub pair_scope-scope-requires-clause-known : goal.pair_scope-scope-requires-clause-known
pair_scope-scope-requires-clause-known c =
    let opened = c.args.opened.now in
    let line = c.args.line.now in
    let tokens = c.args.tokens.now in
    let first = c.args.names.0.now in
    let second = c.args.names.1.now in
    let read = parsed_tree c.args.parsed.now in
    let m = c.in-Ok.numbers.0 in
    let n = c.in-Ok.numbers.1 in
    let same = c.methods.ensures.value ∙ ap (λ (k : SpecifiedKind). k.methods) c.draft-kind.ensures.value in
    let are = numbers_are opened.kind c.methods.result.now first second m n same c.in-Ok.ensures.first c.in-Ok.ensures.second in
    let draft = c.draft-kind.ensures.valid in
    (first_known c.args.version opened line tokens first second read draft m n are, second_known c.args.version opened line tokens first second read draft m n are)

pub resolve-requires-clause-scope : goal.resolve-requires-clause-scope
resolve-requires-clause-scope c =
    let opened = c.args.opened.now in
    let line = c.args.line.now in
    let tokens = c.args.tokens.now in
    let first = c.args.names.0.now in
    let second = c.args.names.1.now in
    let read = parsed_tree c.args.parsed.now in
    let m = c.in-Ok.numbers.0 in
    let n = c.in-Ok.numbers.1 in
    let same = c.methods.ensures.value ∙ ap (λ (k : SpecifiedKind). k.methods) c.draft-kind.ensures.value in
    let are = numbers_are opened.kind c.methods.result.now first second m n same c.in-Ok.ensures.first c.in-Ok.ensures.second in
    let draft = c.draft-kind.ensures.valid in
    let version = c.args.version in
    let definitions = c.draft-kind.ensures.definitions in
    let right = c.requires.right in
    let form = pair_formula version right.0 (names_of opened.kind.methods) line tokens first second read c.requires.within c.requires.sorts right.1 in
    let scope = c.pair_scope-scope.result in
    let alike = c.pair_scope-scope.ensures in
    let target = scope_of version opened line tokens m n in (
      scope_back scope target alike (pair_scoped version opened line tokens first second read draft m n are definitions form),
      back (λ (s : Scope). length s.line.now < 4294967295) scope target alike c.requires.short,
    )

pub resolve-requires-clause-terms : goal.resolve-requires-clause-terms
resolve-requires-clause-terms c =
    let opened = c.args.opened.now in
    let line = c.args.line.now in
    let tokens = c.args.tokens.now in
    let first = c.args.names.0.now in
    let second = c.args.names.1.now in
    let read = parsed_tree c.args.parsed.now in
    let m = c.in-Ok.numbers.0 in
    let n = c.in-Ok.numbers.1 in
    let same = c.methods.ensures.value ∙ ap (λ (k : SpecifiedKind). k.methods) c.draft-kind.ensures.value in
    let are = numbers_are opened.kind c.methods.result.now first second m n same c.in-Ok.ensures.first c.in-Ok.ensures.second in
    let draft = c.draft-kind.ensures.valid in
    let version = c.args.version in
    let definitions = c.draft-kind.ensures.definitions in
    let right = c.requires.right in
    let form = pair_formula version right.0 (names_of opened.kind.methods) line tokens first second read c.requires.within c.requires.sorts right.1 in
    let scope = c.pair_scope-scope.result in
    let alike = c.pair_scope-scope.ensures in
    let target = scope_of version opened line tokens m n in
    back (λ (s : Scope). HasTerms s read) scope target alike (pair_terms version opened line tokens first second read draft m n are definitions form)

pub resolve-requires-clause-few : goal.resolve-requires-clause-few
resolve-requires-clause-few c =
    let right = c.requires.right in
    pair_few c.args.version right.0 (names_of c.args.opened.now.kind.methods) c.args.line.now c.args.tokens.now c.args.names.0.now c.args.names.1.now
    (parsed_tree c.args.parsed.now) c.requires.few right.1

pub returns-in-Err-resolve-clause-refused : goal.returns-in-Err-resolve-clause-refused
returns-in-Err-resolve-clause-refused c =
    let opened = c.args.opened.now in
    let line = c.args.line.now in
    let tokens = c.args.tokens.now in
    let first = c.args.names.0.now in
    let second = c.args.names.1.now in
    let read = parsed_tree c.args.parsed.now in
    let m = c.in-Ok.numbers.0 in
    let n = c.in-Ok.numbers.1 in
    let same = c.methods.ensures.value ∙ ap (λ (k : SpecifiedKind). k.methods) c.draft-kind.ensures.value in
    let are = numbers_are opened.kind c.methods.result.now first second m n same c.in-Ok.ensures.first c.in-Ok.ensures.second in
    let draft = c.draft-kind.ensures.valid in
    let version = c.args.version in
    let definitions = c.draft-kind.ensures.definitions in
    let right = c.requires.right in
    let form = pair_formula version right.0 (names_of opened.kind.methods) line tokens first second read c.requires.within c.requires.sorts right.1 in
    let scope = c.pair_scope-scope.result in
    let alike = c.pair_scope-scope.ensures in
    rw c.refusal_of.ensures (pair_refused version opened line tokens first second read draft m n are scope alike c.in-Err-resolve.refused c.in-Err-resolve.ensures.refused)

pub is_set-requires : goal.is_set-requires
is_set-requires c =
    let opened = c.args.opened.now in
    let line = c.args.line.now in
    let tokens = c.args.tokens.now in
    let first = c.args.names.0.now in
    let second = c.args.names.1.now in
    let read = parsed_tree c.args.parsed.now in
    let m = c.in-Ok.numbers.0 in
    let n = c.in-Ok.numbers.1 in
    let same = c.methods.ensures.value ∙ ap (λ (k : SpecifiedKind). k.methods) c.draft-kind.ensures.value in
    let are = numbers_are opened.kind c.methods.result.now first second m n same c.in-Ok.ensures.first c.in-Ok.ensures.second in
    let draft = c.draft-kind.ensures.valid in
    rw c.draft-kind.ensures.value (
      in_order (names_of opened.kind.methods) first second m n draft.methods.different c.requires.right.1.order are.first_name are.second_name,
      second_known c.args.version opened line tokens first second read draft m n are,
    )

pub returns-then-is_set-clause-refused : goal.returns-then-is_set-clause-refused
returns-then-is_set-clause-refused c =
    let opened = c.args.opened.now in
    let line = c.args.line.now in
    let tokens = c.args.tokens.now in
    let first = c.args.names.0.now in
    let second = c.args.names.1.now in
    let read = parsed_tree c.args.parsed.now in
    let m = c.in-Ok.numbers.0 in
    let n = c.in-Ok.numbers.1 in
    let same = c.methods.ensures.value ∙ ap (λ (k : SpecifiedKind). k.methods) c.draft-kind.ensures.value in
    let are = numbers_are opened.kind c.methods.result.now first second m n same c.in-Ok.ensures.first c.in-Ok.ensures.second in
    let draft = c.draft-kind.ensures.valid in
    let version = c.args.version in
    let definitions = c.draft-kind.ensures.definitions in
    let right = c.requires.right in
    let form = pair_formula version right.0 (names_of opened.kind.methods) line tokens first second read c.requires.within c.requires.sorts right.1 in
    let scope = c.pair_scope-scope.result in
    let alike = c.pair_scope-scope.ensures in
    let told = c.in-Ok-resolve.ensures in
    let outline = tree_of c.in-Ok-resolve.outline in
    let set_here = c.is_set.ensures ∙ ap (λ (k : SpecifiedKind). is_some (formula_at k m n)) c.draft-kind.ensures.value in
    rw c.place_at.ensures
    (pair_taken version opened line tokens first second read draft m n are definitions form scope alike outline told.outlines told.formula.inside told.ready
    (sym set_here ∙ c.if-is_set.true))

pub expanded-requires-clause-ready : goal.expanded-requires-clause-ready
expanded-requires-clause-ready c =
    let opened = c.args.opened.now in
    let line = c.args.line.now in
    let tokens = c.args.tokens.now in
    let first = c.args.names.0.now in
    let second = c.args.names.1.now in
    let read = parsed_tree c.args.parsed.now in
    let m = c.in-Ok.numbers.0 in
    let n = c.in-Ok.numbers.1 in
    let same = c.methods.ensures.value ∙ ap (λ (k : SpecifiedKind). k.methods) c.draft-kind.ensures.value in
    let are = numbers_are opened.kind c.methods.result.now first second m n same c.in-Ok.ensures.first c.in-Ok.ensures.second in
    let draft = c.draft-kind.ensures.valid in
    let version = c.args.version in
    let definitions = c.draft-kind.ensures.definitions in
    let right = c.requires.right in
    let form = pair_formula version right.0 (names_of opened.kind.methods) line tokens first second read c.requires.within c.requires.sorts right.1 in
    let scope = c.pair_scope-scope.result in
    let alike = c.pair_scope-scope.ensures in
    let target = scope_of version opened line tokens m n in (
      scope_back scope target alike (pair_scoped version opened line tokens first second read draft m n are definitions form),
      back (λ (s : Scope). HasTerms s read) scope target alike (pair_terms version opened line tokens first second read draft m n are definitions form),
      c.in-Ok-resolve.ensures.ready,
    )

pub expanded-requires-clause-few : goal.expanded-requires-clause-few
expanded-requires-clause-few c =
    let right = c.requires.right in
    pair_few c.args.version right.0 (names_of c.args.opened.now.kind.methods) c.args.line.now c.args.tokens.now c.args.names.0.now c.args.names.1.now
    (parsed_tree c.args.parsed.now) c.requires.few right.1

pub returns-in_err-formula-clause-refused : goal.returns-in_err-formula-clause-refused
returns-in_err-formula-clause-refused c =
    let opened = c.args.opened.now in
    let line = c.args.line.now in
    let tokens = c.args.tokens.now in
    let first = c.args.names.0.now in
    let second = c.args.names.1.now in
    let read = parsed_tree c.args.parsed.now in
    let m = c.in-Ok.numbers.0 in
    let n = c.in-Ok.numbers.1 in
    let same = c.methods.ensures.value ∙ ap (λ (k : SpecifiedKind). k.methods) c.draft-kind.ensures.value in
    let are = numbers_are opened.kind c.methods.result.now first second m n same c.in-Ok.ensures.first c.in-Ok.ensures.second in
    let draft = c.draft-kind.ensures.valid in
    let version = c.args.version in
    let definitions = c.draft-kind.ensures.definitions in
    let right = c.requires.right in
    let form = pair_formula version right.0 (names_of opened.kind.methods) line tokens first second read c.requires.within c.requires.sorts right.1 in
    let scope = c.pair_scope-scope.result in
    let alike = c.pair_scope-scope.ensures in
    let told = c.in-Ok-resolve.ensures in
    let outline = tree_of c.in-Ok-resolve.outline in
    let set_here = c.is_set.ensures ∙ ap (λ (k : SpecifiedKind). is_some (formula_at k m n)) c.draft-kind.ensures.value in
    let lacks = not_set (formula_at opened.kind m n) (sym set_here ∙ c.if-is_set.false) in
    let large = pair_large version opened line tokens first second read draft m n are definitions form scope alike outline told.outlines told.formula.inside told.ready lacks in
    refused_as c.from_residual.result c.in_err-formula.field-0.0 (IsSpecLineRefused (PairHas version opened line tokens first second read)) c.from_residual.ensures.1
    (large c.in_err-formula.field-0.0 c.in_err-formula.ensures.refused)

pub has_room-requires-clause-known : goal.has_room-requires-clause-known
has_room-requires-clause-known c =
    let opened = c.args.opened.now in
    let line = c.args.line.now in
    let tokens = c.args.tokens.now in
    let first = c.args.names.0.now in
    let second = c.args.names.1.now in
    let read = parsed_tree c.args.parsed.now in
    let m = c.in-Ok.numbers.0 in
    let n = c.in-Ok.numbers.1 in
    let same = c.methods.ensures.value ∙ ap (λ (k : SpecifiedKind). k.methods) c.draft-kind.ensures.value in
    let are = numbers_are opened.kind c.methods.result.now first second m n same c.in-Ok.ensures.first c.in-Ok.ensures.second in
    let draft = c.draft-kind.ensures.valid in
    rw c.draft-kind.ensures.value (
      in_order (names_of opened.kind.methods) first second m n draft.methods.different c.requires.right.1.order are.first_name are.second_name,
      second_known c.args.version opened line tokens first second read draft m n are,
    )

pub returns-then-not-has_room-clause-refused : goal.returns-then-not-has_room-clause-refused
returns-then-not-has_room-clause-refused c =
    let opened = c.args.opened.now in
    let line = c.args.line.now in
    let tokens = c.args.tokens.now in
    let first = c.args.names.0.now in
    let second = c.args.names.1.now in
    let read = parsed_tree c.args.parsed.now in
    let m = c.in-Ok.numbers.0 in
    let n = c.in-Ok.numbers.1 in
    let same = c.methods.ensures.value ∙ ap (λ (k : SpecifiedKind). k.methods) c.draft-kind.ensures.value in
    let are = numbers_are opened.kind c.methods.result.now first second m n same c.in-Ok.ensures.first c.in-Ok.ensures.second in
    let draft = c.draft-kind.ensures.valid in
    let version = c.args.version in
    let definitions = c.draft-kind.ensures.definitions in
    let right = c.requires.right in
    let form = pair_formula version right.0 (names_of opened.kind.methods) line tokens first second read c.requires.within c.requires.sorts right.1 in
    let scope = c.pair_scope-scope.result in
    let alike = c.pair_scope-scope.ensures in
    let told = c.in-Ok-resolve.ensures in
    let outline = tree_of c.in-Ok-resolve.outline in
    let set_here = c.is_set.ensures ∙ ap (λ (k : SpecifiedKind). is_some (formula_at k m n)) c.draft-kind.ensures.value in
    let lacks = not_set (formula_at opened.kind m n) (sym set_here ∙ c.if-is_set.false) in
    let f = tree_of c.in_ok-formula.formula in
    let says = c.in_ok-formula.ensures.says in
    let small = c.in_ok-formula.ensures.within in
    let room = subst (λ (k : SpecifiedKind). IsTrue c.has_room.result ↔ ¬ (HasManyPredicates k m n f)) c.draft-kind.ensures.value c.has_room.ensures in
    let many = many_if opened.kind m n f (refuted c.has_room.result room.1 c.if-not-has_room.true) in
    rw c.place_at-then-not-has_room.ensures
    (pair_many version opened line tokens first second read draft m n are definitions form scope alike outline told.outlines told.formula.inside told.ready lacks f says small many)

pub returns-clause-clean : goal.returns-clause-clean
returns-clause-clean c =
    let opened = c.args.opened.now in
    let line = c.args.line.now in
    let tokens = c.args.tokens.now in
    let first = c.args.names.0.now in
    let second = c.args.names.1.now in
    let read = parsed_tree c.args.parsed.now in
    let m = c.in-Ok.numbers.0 in
    let n = c.in-Ok.numbers.1 in
    let same = c.methods.ensures.value ∙ ap (λ (k : SpecifiedKind). k.methods) c.draft-kind.ensures.value in
    let are = numbers_are opened.kind c.methods.result.now first second m n same c.in-Ok.ensures.first c.in-Ok.ensures.second in
    let draft = c.draft-kind.ensures.valid in
    let version = c.args.version in
    let definitions = c.draft-kind.ensures.definitions in
    let right = c.requires.right in
    let form = pair_formula version right.0 (names_of opened.kind.methods) line tokens first second read c.requires.within c.requires.sorts right.1 in
    let scope = c.pair_scope-scope.result in
    let alike = c.pair_scope-scope.ensures in
    let told = c.in-Ok-resolve.ensures in
    let outline = tree_of c.in-Ok-resolve.outline in
    let set_here = c.is_set.ensures ∙ ap (λ (k : SpecifiedKind). is_some (formula_at k m n)) c.draft-kind.ensures.value in
    let lacks = not_set (formula_at opened.kind m n) (sym set_here ∙ c.if-is_set.false) in
    let f = tree_of c.in_ok-formula.formula in
    let says = c.in_ok-formula.ensures.says in
    let small = c.in_ok-formula.ensures.within in
    let room = subst (λ (k : SpecifiedKind). IsTrue c.has_room.result ↔ ¬ (HasManyPredicates k m n f)) c.draft-kind.ensures.value c.has_room.ensures in
    pair_clean version opened line tokens first second read draft m n are definitions form scope alike outline told.outlines told.formula.inside told.ready lacks f says small
    (room.0 c.if-not-has_room.false)

pub returns-clause-says : goal.returns-clause-says
returns-clause-says c =
    let opened = c.args.opened.now in
    let line = c.args.line.now in
    let tokens = c.args.tokens.now in
    let first = c.args.names.0.now in
    let second = c.args.names.1.now in
    let read = parsed_tree c.args.parsed.now in
    let m = c.in-Ok.numbers.0 in
    let n = c.in-Ok.numbers.1 in
    let same = c.methods.ensures.value ∙ ap (λ (k : SpecifiedKind). k.methods) c.draft-kind.ensures.value in
    let are = numbers_are opened.kind c.methods.result.now first second m n same c.in-Ok.ensures.first c.in-Ok.ensures.second in
    let draft = c.draft-kind.ensures.valid in
    let version = c.args.version in
    let definitions = c.draft-kind.ensures.definitions in
    let right = c.requires.right in
    let form = pair_formula version right.0 (names_of opened.kind.methods) line tokens first second read c.requires.within c.requires.sorts right.1 in
    let scope = c.pair_scope-scope.result in
    let alike = c.pair_scope-scope.ensures in
    let told = c.in-Ok-resolve.ensures in
    let outline = tree_of c.in-Ok-resolve.outline in
    let set_here = c.is_set.ensures ∙ ap (λ (k : SpecifiedKind). is_some (formula_at k m n)) c.draft-kind.ensures.value in
    let lacks = not_set (formula_at opened.kind m n) (sym set_here ∙ c.if-is_set.false) in
    let f = tree_of c.in_ok-formula.formula in
    let says = c.in_ok-formula.ensures.says in
    let small = c.in_ok-formula.ensures.within in
    let room = subst (λ (k : SpecifiedKind). IsTrue c.has_room.result ↔ ¬ (HasManyPredicates k m n f)) c.draft-kind.ensures.value c.has_room.ensures in
    pair_says version opened line tokens first second read draft m n are definitions form scope alike outline told.outlines told.formula.inside told.ready lacks f says small

pub returns-clause-may : goal.returns-clause-may
returns-clause-may c =
    let opened = c.args.opened.now in
    let line = c.args.line.now in
    let tokens = c.args.tokens.now in
    let first = c.args.names.0.now in
    let second = c.args.names.1.now in
    let read = parsed_tree c.args.parsed.now in
    let m = c.in-Ok.numbers.0 in
    let n = c.in-Ok.numbers.1 in
    let same = c.methods.ensures.value ∙ ap (λ (k : SpecifiedKind). k.methods) c.draft-kind.ensures.value in
    let are = numbers_are opened.kind c.methods.result.now first second m n same c.in-Ok.ensures.first c.in-Ok.ensures.second in
    let draft = c.draft-kind.ensures.valid in
    let version = c.args.version in
    let definitions = c.draft-kind.ensures.definitions in
    let right = c.requires.right in
    let form = pair_formula version right.0 (names_of opened.kind.methods) line tokens first second read c.requires.within c.requires.sorts right.1 in
    let scope = c.pair_scope-scope.result in
    let alike = c.pair_scope-scope.ensures in
    let told = c.in-Ok-resolve.ensures in
    let outline = tree_of c.in-Ok-resolve.outline in
    let set_here = c.is_set.ensures ∙ ap (λ (k : SpecifiedKind). is_some (formula_at k m n)) c.draft-kind.ensures.value in
    let lacks = not_set (formula_at opened.kind m n) (sym set_here ∙ c.if-is_set.false) in
    let f = tree_of c.in_ok-formula.formula in
    let says = c.in_ok-formula.ensures.says in
    let small = c.in_ok-formula.ensures.within in
    let room = subst (λ (k : SpecifiedKind). IsTrue c.has_room.result ↔ ¬ (HasManyPredicates k m n f)) c.draft-kind.ensures.value c.has_room.ensures in
    pair_may version opened line tokens first second read draft m n are definitions form f right.1.order (says_here version opened line tokens first second read draft m n are definitions form scope alike outline told.outlines told.formula.inside told.ready lacks f says small)
    (pair_clean version opened line tokens first second read draft m n are definitions form scope alike outline told.outlines told.formula.inside told.ready lacks f says small
    (room.0 c.if-not-has_room.false))
