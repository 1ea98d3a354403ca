-- What one line more leaves of a kind's definitions, and which of its pairs have a formula.
use Rattle.std.proofs.Common.{◌≡◌, ℕ, ◌<◌, ◌≤◌, zero, suc, Bool, ◌||◌, List, [], ◌∷◌, ◌++◌, length, length-append, Option, Some, None, refl, ap, sym, subst, ⊎_elim, ◌∙◌, arith, get_or, is_some, set}
use Rattle.std.specs.Prelude.{All, option_map}
use Rattle.std.proofs.lemmas.Bool.{cases_eq}
use Rattle.std.proofs.lemmas.List.{get_or_append_left, get_or_push, get_or_read_under, get_or-set_same, get_or-set_other, length-set}
use Rattle.std.proofs.lemmas.List.Elements.{All-nil, All-push}
use Rattle.rd_definitions.specs.Definitions.{Definition, IsDefined}
use Rattle.rd_ecl.specs.declared.kinds.Method.{Method}
use Rattle.rd_ecl.specs.Specified.{SpecifiedKind, IsDraft, formula_at, slots_at, with_method}
use Rattle.rd_open_kind.specs.Filled.{filled_with}
use Rattle.rd_open_kind.specs.Opened.{AreItsDefinitions, definitions_at}
use Rattle.rd_open_kind.proofs.FilledLemmas.{filled_whole}

-- ---- a method more

slots_before : (methods : List Method) (method : Method) (i : ℕ) → i < length methods → slots_at (methods ++ method ∷ []) i ≡ slots_at methods i
slots_before [] method i h = absurd (omega (arith, h))
slots_before (m ∷ methods) method zero h = refl
slots_before (m ∷ methods) method (suc i) h = slots_before methods method i (omega (arith, h))

pub method_undefined : (kind : SpecifiedKind) (method : Method) (defined : List (List Definition)) → AreItsDefinitions kind defined
    → AreItsDefinitions (with_method kind method) (defined ++ [] ∷ [])
method_undefined kind method defined are =
    let count = are.count in
    let methods = length-append kind.methods (method ∷ []) in
    let slots = slots_at (kind.methods ++ method ∷ []) in
    record {
      count = omega (arith, count, methods, length-append defined ([] ∷ []));
      each = λ i h.
          ⊎_elim
          (λ last. subst (All (IsDefined (slots i)))
          (sym (get_or_push defined [] [] i (sym last)))
          (All-nil (IsDefined (slots i))))
          (λ other. let before : i < length defined = omega (arith, count, methods, h, other) in
          rw (get_or_append_left defined ([] ∷ []) [] i before, slots_before kind.methods method i (omega (arith, count, before)))
          (are.each i (omega (arith, count, before))))
          (cases_eq i (length defined));
    }

-- ---- a definition more

pub one_more_defined : (kind : SpecifiedKind) (defined : List (List Definition)) (method : ℕ) (definition : Definition) → AreItsDefinitions kind defined
    → method < length kind.methods → IsDefined (slots_at kind.methods method) definition
    → AreItsDefinitions kind (set defined method (definitions_at defined method ++ definition ∷ []))
one_more_defined kind defined method definition are inside is =
    let count = are.count in
    let more = definitions_at defined method ++ definition ∷ [] in
    record {
      count = length-set defined method more ∙ are.count;
      each = λ i h.
          ⊎_elim
          (λ same. subst (λ (n : ℕ). All (IsDefined (slots_at kind.methods n)) (definitions_at (set defined method more) n)) (sym same)
          (rw (get_or-set_same defined method more [] (omega (arith, count, inside)))
          (All-push (IsDefined (slots_at kind.methods method)) (definitions_at defined method) definition (are.each method inside) is)))
          (λ other. rw (get_or-set_other defined method i more [] other) (are.each i h)) (cases_eq i method);
    }

-- put behind those that are there
pub one_more_there : (kind : SpecifiedKind) (defined : List (List Definition)) (method : ℕ) (definition : Definition) (there more : List Definition)
    → AreItsDefinitions kind defined → method < length kind.methods → IsDefined (slots_at kind.methods method) definition
    → there ≡ get_or defined method there → more ≡ there ++ definition ∷ [] → AreItsDefinitions kind (set defined method more)
one_more_there kind defined method definition there more are inside is at e =
    let count = are.count in
    let own : more ≡ definitions_at defined method ++ definition ∷ [] =
    e ∙ ap (λ ds. ds ++ definition ∷ []) (get_or_read_under defined method (length defined) there [] at (omega (arith, count, inside)) refl) in
    subst (λ ds. AreItsDefinitions kind (set defined method ds)) (sym own) (one_more_defined kind defined method definition are inside is)

-- ---- a pair's formula

-- each pair has one where there is a default
pub is_set_given : (kind : SpecifiedKind) (default : Option Bool) (first second : ℕ) → IsDraft kind → first ≤ second → second < length kind.methods
    → is_some (formula_at (filled_with default kind) first second) ≡ (is_some default || is_some (formula_at kind first second))
unfolding filled_with
is_set_given kind None first second is ordered known = refl
is_set_given kind (Some value) first second is ordered known = filled_whole kind value is first second ordered known

pub same_some : {X Y : Type 0} (f : X → Y) (x : Option X) → is_some (option_map f x) ≡ is_some x
same_some f (Some x) = refl
same_some f None = refl
