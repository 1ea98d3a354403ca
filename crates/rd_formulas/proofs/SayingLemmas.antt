-- What was read says a formula and has an outline, which are one where no name is used.
use Rattle.std.proofs.Common.{◌≡◌, ◌≢◌, ℕ, Bool, true, false, ◌||◌, List, Option, Some, None, refl, sym, ◌∙◌, subst, true≢false}
use Rattle.std.specs.Prelude.{IsSome}
use Rattle.std.proofs.lemmas.Option.{slice_get_read}
use Rattle.rd_ecl.specs.declared.formulas.Side.TheVariants.{First, Second}
use Rattle.rd_ecl.specs.Formulas.{Tree, truth, negation, both, either, crosses_sides}
use Rattle.rd_ecl.specs.Sides.{on_side}
use Rattle.rd_ecl.specs.Variables.{is_one_of}
use Rattle.rd_ecl.proofs.VariableLemmas.{among_decides}
use Rattle.rd_definitions.specs.Definitions.{formula_of}
use Rattle.rd_formulas.specs.declared.scope.Scope.{Scope}
use Rattle.rd_formulas.specs.declared.terms.Meant.{Meant}
use Rattle.rd_formulas.specs.declared.terms.Meant.TheVariants.{Slot as SlotOf, Value as ValueOf}
use Rattle.rd_formulas.specs.Meaning.{Gives, relation_of_terms}
use Rattle.rd_formulas.specs.Scope.{HasTerms, IsNameAt, IsReady, IsTermAt, IsTruth, IsUnknown, IsUnknownName, MeansAt, Outlines, SaysTree, NameStandsFor, definitions_of, token_bytes_at, variables_of}
use Rattle.rd_formulas.proofs.BuildingLemmas.{related_some}
use Rattle.rd_formulas.proofs.OutlineLemmas.{differ, related_like, side_of}
use Rattle.rd_grammar.specs.declared.marks.Leaf.TheVariants.{Name, Truth}
use Rattle.rd_grammar.specs.Grammar.{ParsedTree, leaf, relation, negation as read_not, both as read_and, either as read_or}
use Rattle.rd_tokens.specs.declared.words.dialects.Dialect.{Dialect}
use Rattle.rd_tokens.specs.declared.words.dialects.Dialect.TheVariants.{Named, Unsided}
use Rattle.rd_tokens.specs.declared.words.terms.Said.TheVariants.{Variable, Value as ValueSaid}
use Rattle.rd_tokens.specs.Words.{SaysTermIn}

-- each known term has a meaning
meant_some : (scope : Scope) (number : ℕ) → IsTermAt scope number → ¬ (IsUnknown scope number) → (x : Meant) × MeansAt scope number x
meant_some scope number (within, (ValueSaid value, says)) known = (ValueOf value, says)
meant_some scope number (within, (Variable side name, says)) known = by (is_one_of name (variables_of scope side)) refl where
  by : (test : Bool) → is_one_of name (variables_of scope side) ≡ test → (x : Meant) × MeansAt scope number x
  by true e =
      let (slot, there, at) = (among_decides name (variables_of scope side)).0 e in
      (SlotOf side slot, (name, says, slice_get_read (variables_of scope side) _ slot name refl there (sym at)))
  by false e = absurd (known (side, name, says, λ there. true≢false (sym ((among_decides name (variables_of scope side)).1 there) ∙ e)))

some_value : {X : Type 0} (o : Option X) → IsSome o → (x : X) × (o ≡ Some x)
some_value (Some x) h = (x, refl)
some_value None h = absurd (cc)

-- each known name stands for a formula
stands_some : (scope : Scope) (token : ℕ) → IsNameAt scope token → ¬ (IsUnknownName scope token) → (f : Tree) × NameStandsFor scope token f
stands_some scope token (named, within, (side, name, says)) known = by (formula_of (definitions_of scope side) name) refl where
  by : (found : Option Tree) → formula_of (definitions_of scope side) name ≡ found → (f : Tree) × NameStandsFor scope token f
  by (Some f) e = (on_side side f, (side, name, f, says, e, refl))
  by None e = absurd (known (side, name, says, e))

gives_some : (scope : Scope) (Stands : ℕ → Tree → Type 0) (read : ParsedTree)
    → ((token : ℕ) → IsNameAt scope token → ¬ (IsUnknownName scope token) → (f : Tree) × Stands token f) → HasTerms scope read → IsReady scope read
    → (f : Tree) × Gives (MeansAt scope) Stands read f
gives_some scope Stands (leaf (Truth value) token) names terms ready = (truth value, refl)
gives_some scope Stands (leaf Name token) names terms ready = names token terms ready
gives_some scope Stands (relation left sign token right) names terms ready =
    let (x, first) = meant_some scope left terms.0 ready.0 in
    let (y, second) = meant_some scope right terms.1 ready.1 in
    let (f, is) = some_value (relation_of_terms sign x y) (related_some scope sign left token right x y first second ready.2) in
    (f, (x, y, first, second, is))
gives_some scope Stands (read_not token read) names terms ready =
    let (f, says) = gives_some scope Stands read names terms ready in (negation f, (f, refl, says))
gives_some scope Stands (read_and left token right) names terms ready =
    let (f, says) = gives_some scope Stands left names terms.0 ready.0 in
    let (g, told) = gives_some scope Stands right names terms.1 ready.1 in
    (both f g, (f, g, refl, says, told))
gives_some scope Stands (read_or left token right) names terms ready =
    let (f, says) = gives_some scope Stands left names terms.0 ready.0 in
    let (g, told) = gives_some scope Stands right names terms.1 ready.1 in
    (either f g, (f, g, refl, says, told))

pub says_some : (scope : Scope) (read : ParsedTree) → HasTerms scope read → IsReady scope read → (f : Tree) × SaysTree scope read f
says_some scope read terms ready = gives_some scope (NameStandsFor scope) read (stands_some scope) terms ready

pub outline_some : (scope : Scope) (read : ParsedTree) → HasTerms scope read → IsReady scope read → (f : Tree) × Outlines scope read f
outline_some scope read terms ready = gives_some scope IsTruth read (λ token named known. (truth true, refl)) terms ready

-- where no name may be used
unnamed : (scope : Scope) (S T : ℕ → Tree → Type 0) (read : ParsedTree) (f : Tree) → scope.dialect ≢ Named → HasTerms scope read
    → Gives (MeansAt scope) S read f → Gives (MeansAt scope) T read f
unnamed scope S T (leaf (Truth value) token) f none terms given = given
unnamed scope S T (leaf Name token) f none terms given = absurd (none terms.0)
unnamed scope S T (relation left sign token right) f none terms given = given
unnamed scope S T (read_not token read) f none terms (g, e, given) = (g, e, unnamed scope S T read g none terms given)
unnamed scope S T (read_and left token right) f none terms (g, h, e, first, second) =
    (g, h, e, unnamed scope S T left g none terms.0 first, unnamed scope S T right h none terms.1 second)
unnamed scope S T (read_or left token right) f none terms (g, h, e, first, second) =
    (g, h, e, unnamed scope S T left g none terms.0 first, unnamed scope S T right h none terms.1 second)

pub unnamed_says : (scope : Scope) (read : ParsedTree) (f : Tree) → scope.dialect ≢ Named → HasTerms scope read → Outlines scope read f → SaysTree scope read f
unnamed_says scope read f none terms outlines = unnamed scope IsTruth (NameStandsFor scope) read f none terms outlines

pub says_unnamed : (scope : Scope) (read : ParsedTree) (f : Tree) → scope.dialect ≢ Named → HasTerms scope read → SaysTree scope read f → Outlines scope read f
says_unnamed scope read f none terms says = unnamed scope (NameStandsFor scope) IsTruth read f none terms says

-- where variables have no side, nothing is of side 2
no_second : (dialect : Dialect) (bytes name : List ℕ) → dialect ≡ Unsided → ¬ (SaysTermIn dialect bytes (Variable Second name))
no_second dialect bytes name unsided says = subst (λ d. SaysTermIn d bytes (Variable Second name)) unsided says

on_one_side : (scope : Scope) (left right : ℕ) (x y : Meant) → scope.dialect ≡ Unsided → MeansAt scope left x → MeansAt scope right y
    → differ (side_of x) (side_of y) ≡ false
on_one_side scope left right (ValueOf v) y unsided h k = refl
on_one_side scope left right (SlotOf Second i) y unsided (name, says, h) k = absurd (no_second scope.dialect (token_bytes_at scope left) name unsided says)
on_one_side scope left right (SlotOf First i) (ValueOf w) unsided h k = refl
on_one_side scope left right (SlotOf First i) (SlotOf First j) unsided h k = refl
on_one_side scope left right (SlotOf First i) (SlotOf Second j) unsided h (name, says, k) =
    absurd (no_second scope.dialect (token_bytes_at scope right) name unsided says)

-- so no relation crosses the sides
pub unsided_alone : (scope : Scope) (read : ParsedTree) (f : Tree) → scope.dialect ≡ Unsided → HasTerms scope read → SaysTree scope read f → crosses_sides f ≡ false
unsided_alone scope (leaf (Truth value) token) f unsided terms e = rw e refl
unsided_alone scope (leaf Name token) f unsided terms given =
    let clash : Unsided ≡ Named = sym unsided ∙ terms.0 in absurd (cc)
unsided_alone scope (relation left sign token right) f unsided terms (x, y, h, k, e) =
    (related_like left sign token right x y f e).0 ∙ on_one_side scope left right x y unsided h k
unsided_alone scope (read_not token read) f unsided terms (g, e, says) = rw e (unsided_alone scope read g unsided terms says)
unsided_alone scope (read_and left token right) f unsided terms (g, h, e, says, told) =
    rw e (λ i. unsided_alone scope left g unsided terms.0 says i || unsided_alone scope right h unsided terms.1 told i)
unsided_alone scope (read_or left token right) f unsided terms (g, h, e, says, told) =
    rw e (λ i. unsided_alone scope left g unsided terms.0 says i || unsided_alone scope right h unsided terms.1 told i)
