-- The words behind `when`, with the variables and definitions of methods.
use Rattle.std.proofs.Common.{◌≡◌, ℕ, ◌+◌, ◌<◌, ◌≤◌, List, [], ◌∷◌, length, Option, Some, None, refl, sym, subst, arith}
use Rattle.std.specs.Prelude.{All, option_map, slice_get, unwrap_or}
use Rattle.std.proofs.lemmas.List.Elements.{All-drop, All-nil}
use Rattle.std.proofs.lemmas.Option.{get_or_from_slice_get, slice_get-get_or}
use Rattle.rd_base.specs.declared.limits.TheConstants.{MOST_ARGUMENTS}
use Rattle.rd_definitions.specs.Definitions.{IsDefined}
use Rattle.rd_ecl.specs.declared.kinds.Method.{Method}
use Rattle.rd_ecl.specs.Specified.{AreMethods, IsDraft, SpecifiedKind, slots_at}
use Rattle.rd_ecl.specs.Variables.{AreVariables}
use Rattle.rd_formulas.specs.declared.scope.Scope.{Scope}
use Rattle.rd_formulas.specs.Scope.{IsScope}
use Rattle.rd_lines.specs.declared.forms.Version.{Version}
use Rattle.rd_open_kind.specs.Opened.{AreItsDefinitions, Opened, definitions_at}
use Rattle.rd_pairs.specs.PairCauses.{definition_scope, scope_of, variables_of_method}
use Rattle.rd_pairs.specs.PairJudging.{IsSameScope, kind_with}
use Rattle.rd_tokens.specs.declared.sorts.Token.{Token}
use Rattle.rd_tokens.specs.Tokens.{IsTokenOf, LiesIn}

-- what is looked at in a scope
abbrev pub as_now : Scope → Scope
as_now scope = record {
  dialect = scope.dialect;
  line = record { ref_ptr = (0, 0); now = scope.line.now };
  tokens = record { ref_ptr = (0, 0); now = scope.tokens.now };
  first = record { ref_ptr = (0, 0); now = scope.first.now };
  second = record { ref_ptr = (0, 0); now = scope.second.now };
  first_definitions = record { ref_ptr = (0, 0); now = scope.first_definitions.now };
  second_definitions = record { ref_ptr = (0, 0); now = scope.second_definitions.now };
}

same_now : (scope other : Scope) → IsSameScope scope other → as_now scope ≡ as_now other
same_now scope other alike = λ i. record {
  dialect = alike.dialect i;
  line = record { ref_ptr = (0, 0); now = alike.line i };
  tokens = record { ref_ptr = (0, 0); now = alike.tokens i };
  first = record { ref_ptr = (0, 0); now = alike.first i };
  second = record { ref_ptr = (0, 0); now = alike.second i };
  first_definitions = record { ref_ptr = (0, 0); now = alike.first_definitions i };
  second_definitions = record { ref_ptr = (0, 0); now = alike.second_definitions i };
}

-- what is said of one is said of the other
pub moved : (P : Scope → Type 0) (scope other : Scope) → IsSameScope scope other → P (as_now scope) → P (as_now other)
moved P scope other alike = subst P (same_now scope other alike)

pub back : (P : Scope → Type 0) (scope other : Scope) → IsSameScope scope other → P (as_now other) → P (as_now scope)
back P scope other alike = subst P (sym (same_now scope other alike))

pub scope_back : (scope other : Scope) → IsSameScope scope other → IsScope other → IsScope scope
scope_back scope other alike is = record {
  within = back (λ (s : Scope). All (LiesIn s.line.now) s.tokens.now) scope other alike is.within;
  sorts = back (λ (s : Scope). All (IsTokenOf s.line.now) s.tokens.now) scope other alike is.sorts;
  first = back (λ (s : Scope). length s.first.now ≤ MOST_ARGUMENTS + 1) scope other alike is.first;
  second = back (λ (s : Scope). length s.second.now ≤ MOST_ARGUMENTS + 1) scope other alike is.second;
  first_defined = back (λ (s : Scope). All (IsDefined (length s.first.now)) s.first_definitions.now) scope other alike is.first_defined;
  second_defined = back (λ (s : Scope). All (IsDefined (length s.second.now)) s.second_definitions.now) scope other alike is.second_defined;
}

-- the variables of a method that is there
missing : (methods : List Method) (i : ℕ) → i < length methods → slice_get methods i ≡ None → ⊥
missing [] i within none = absurd (omega arith)
missing (x ∷ methods) i within none = let there = slice_get-get_or (x ∷ methods) i x within in absurd (cc)

variables_by : (methods : List Method) (i : ℕ) (o : Option Method) → AreMethods methods → i < length methods → slice_get methods i ≡ o
    → AreVariables (unwrap_or (option_map (λ (method : Method). method.variables) o) [])
variables_by methods i None are within here = absurd (missing methods i within here)
variables_by methods i (Some method) are within here =
    subst (λ (m : Method). AreVariables m.variables) (get_or_from_slice_get methods i method method here) (are.each i method within)

pub variables_are : (methods : List Method) (i : ℕ) → AreMethods methods → i < length methods → AreVariables (variables_of_method (kind_with methods) i)
variables_are methods i are within = variables_by methods i (slice_get methods i) are within refl

-- as many as there are slots
slots_by : (o : Option Method) → length (unwrap_or (option_map (λ (method : Method). method.variables) o) [])
    ≡ unwrap_or (option_map (λ (method : Method). length method.variables) o) 0
slots_by None = refl
slots_by (Some method) = refl

pub slots_are : (kind : SpecifiedKind) (i : ℕ) → length (variables_of_method kind i) ≡ slots_at kind.methods i
slots_are kind i = slots_by (slice_get kind.methods i)

defined_there : (opened : Opened) (i : ℕ) → AreItsDefinitions opened.kind opened.defined → i < length opened.kind.methods
    → All (IsDefined (length (variables_of_method opened.kind i))) (definitions_at opened.defined i)
defined_there opened i are within =
    subst (λ (count : ℕ). All (IsDefined count) (definitions_at opened.defined i)) (sym (slots_are opened.kind i)) (are.each i within)

-- the words of a line of methods that are there are a scope
module _ (opened : Opened) (line : List ℕ) (tokens : List Token) (within : All (LiesIn line) tokens) (sorts : All (IsTokenOf line) tokens)
    (draft : IsDraft opened.kind) where
  pub pair_is_scope : (version : Version) (m n : ℕ) → AreItsDefinitions opened.kind opened.defined → m < length opened.kind.methods
      → n < length opened.kind.methods → IsScope (scope_of version opened line tokens m n)
  pair_is_scope version m n are first second = record {
    within = All-drop (LiesIn line) 4 tokens within;
    sorts = All-drop (IsTokenOf line) 4 tokens sorts;
    first = (variables_are opened.kind.methods m draft.methods first).few;
    second = (variables_are opened.kind.methods n draft.methods second).few;
    first_defined = defined_there opened m are first;
    second_defined = defined_there opened n are second;
  }

  pub definition_is_scope : (m : ℕ) → m < length opened.kind.methods → IsScope (definition_scope opened.kind line tokens m)
  definition_is_scope m known = record {
    within = All-drop (LiesIn line) 4 tokens within;
    sorts = All-drop (IsTokenOf line) 4 tokens sorts;
    first = (variables_are opened.kind.methods m draft.methods known).few;
    second = (variables_are opened.kind.methods m draft.methods known).few;
    first_defined = All-nil (IsDefined (length (variables_of_method opened.kind m)));
    second_defined = All-nil (IsDefined (length (variables_of_method opened.kind m)));
  }
