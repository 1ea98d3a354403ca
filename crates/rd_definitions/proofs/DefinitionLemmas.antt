-- What a name stands for among definitions.
use Rattle.std.proofs.Common.{Bor, inl, inr, IfSome, IfNone, option_copied, ◌≡◌, ◌≢◌, ◌↔◌, ℕ, Bool, true, false, cond, List, [], ◌∷◌, ◌++◌, map, Option, Some, None, Contains, option_map, nat_eq, refl, sym, ap, subst, ◌∙◌, arith, true≢false}
use Rattle.std.specs.Prelude.{All}
use Rattle.std.specs.Cmp.Lexicographic.{pointwise, bytes_decides, nat_list_eq_equiv}
use Rattle.std.specs.Map.{lookup}
use Rattle.std.proofs.lemmas.Bool.{false_from_ne_true}
use Rattle.std.proofs.lemmas.List.{map-append}
use Rattle.std.proofs.lemmas.List.Elements.{All-contains, Contains-append_cases, Contains-append_right, Contains-get_or, Contains-push_cases}
use Rattle.indexmap.specs.IndexMap.{IndexMap, insert_entry}
use Rattle.indexmap.proofs.CallerLemmas.{insert_entry-new}
use Rattle.rd_ecl.specs.declared.formulas.Formula.{Formula}
use Rattle.rd_ecl.specs.Formulas.{Tree, tree_of}
use Rattle.rd_definitions.specs.Definitions.{Definition, IsDefined, entry_definition, formula_of, names_defined}

-- ---- the table

-- what a look-up in the table finds
pub looked_up : (entries : List (List ℕ × Formula)) (name : List ℕ) → formula_of (map entry_definition entries) name ≡ option_map tree_of (lookup (pointwise nat_eq name) entries)
looked_up [] name = refl
looked_up (e ∷ es) name =
    ap (λ b. cond b (Some (tree_of e.1)) (formula_of (map entry_definition es) name)) (nat_list_eq_equiv.symm e.0 name)
    ∙ by (pointwise nat_eq name e.0) (looked_up es name)
  where
    by : (b : Bool) → formula_of (map entry_definition es) name ≡ option_map tree_of (lookup (pointwise nat_eq name) es)
        → cond b (Some (tree_of e.1)) (formula_of (map entry_definition es) name) ≡ option_map tree_of (cond b (Some e.1) (lookup (pointwise nat_eq name) es))
    by true rest = refl
    by false rest = rest

-- so what it answers is what the name stands for
pub found_held : (found : Option (Bor Formula)) (entries : List (List ℕ × Formula)) (name : List ℕ) → option_copied found ≡ lookup (pointwise nat_eq name) entries
    → IfSome found (λ formula. formula_of (map entry_definition entries) name ≡ Some (tree_of formula.now))
found_held None entries name is = tt
found_held (Some formula) entries name is = looked_up entries name ∙ ap (option_map tree_of) (sym is)

pub not_found : (found : Option (Bor Formula)) (entries : List (List ℕ × Formula)) (name : List ℕ) → option_copied found ≡ lookup (pointwise nat_eq name) entries
    → IfNone found (formula_of (map entry_definition entries) name ≡ None)
not_found None entries name is = looked_up entries name ∙ ap (option_map tree_of) (sym is)
not_found (Some formula) entries name is = tt

none_held : (found : Option Formula) → option_map tree_of found ≡ None → found ≡ None
none_held None e = refl
none_held (Some formula) e = cc e

-- a name that isn't defined isn't in the table, and goes last
pub added_last : {S : Type 0} (table : IndexMap (List ℕ) Formula S) (name : List ℕ) (formula : Formula) → formula_of (map entry_definition table.entries) name ≡ None
    → map entry_definition (insert_entry (pointwise nat_eq) table.entries name formula) ≡ map entry_definition table.entries ++ record { name = name; formula = tree_of formula } ∷ []
added_last table name formula none =
    ap (map entry_definition) (insert_entry-new (pointwise nat_eq) table name formula (none_held _ (sym (looked_up table.entries name) ∙ none)))
    ∙ map-append entry_definition table.entries ((name, formula) ∷ [])

-- ---- names

same_names : (x y : List ℕ) → x ≡ y → pointwise nat_eq x y ≡ true
same_names x y same = (bytes_decides x y).1 same

other_names : (x y : List ℕ) → x ≢ y → pointwise nat_eq x y ≡ false
other_names x y other = false_from_ne_true _ (λ same. other ((bytes_decides x y).0 same))

-- a name stands for the formula of a definition of that name
pub definition_found : (ds : List Definition) (name : List ℕ) (f : Tree) → formula_of ds name ≡ Some f → (d : Definition) × Contains ds d × (d.name ≡ name) × (d.formula ≡ f)
definition_found [] name f found = cc found
definition_found (d ∷ ds) name f found = by (pointwise nat_eq d.name name) refl found (definition_found ds name f)
  where
    by : (b : Bool) → pointwise nat_eq d.name name ≡ b → cond b (Some d.formula) (formula_of ds name) ≡ Some f
        → (formula_of ds name ≡ Some f → (x : Definition) × Contains ds x × (x.name ≡ name) × (x.formula ≡ f))
        → (x : Definition) × Contains (d ∷ ds) x × (x.name ≡ name) × (x.formula ≡ f)
    by true same is rest = (d, Contains-get_or (d ∷ ds) 0 d (omega arith), (bytes_decides d.name name).0 same, cc is)
    by false other is rest =
        let later = rest is in
        (later.0, Contains-append_right (d ∷ []) ds later.0 later.1, later.2, later.3)

-- and for none exactly where it isn't among the names that are defined
pub none_if_unnamed : (ds : List Definition) (name : List ℕ) → ¬ (Contains (names_defined ds) name) → formula_of ds name ≡ None
none_if_unnamed [] name unnamed = refl
none_if_unnamed (d ∷ ds) name unnamed =
    ap (λ b. cond b (Some d.formula) (formula_of ds name))
    (other_names d.name name (λ same. unnamed (subst (Contains (names_defined (d ∷ ds))) same (Contains-get_or (names_defined (d ∷ ds)) 0 d.name (omega arith)))))
    ∙ none_if_unnamed ds name (λ there. unnamed (Contains-append_right (d.name ∷ []) (names_defined ds) name there))

pub unnamed_if_none : (ds : List Definition) (name : List ℕ) → formula_of ds name ≡ None → ¬ (Contains (names_defined ds) name)
unnamed_if_none [] name none there = let below = there.1 in absurd (omega (arith, below))
unnamed_if_none (d ∷ ds) name none there = by (pointwise nat_eq d.name name) refl none (λ rest. unnamed_if_none ds name rest)
  where
    by : (b : Bool) → pointwise nat_eq d.name name ≡ b → cond b (Some d.formula) (formula_of ds name) ≡ None → (formula_of ds name ≡ None → ¬ (Contains (names_defined ds) name)) → ⊥
    by true same is rest = cc is
    by false other is rest = elim (Contains-append_cases (d.name ∷ []) (names_defined ds) name there) [
      | inl here ↦ elim (Contains-push_cases [] d.name name here) [ inl nowhere ↦ (let below = nowhere.1 in absurd (omega (arith, below))) | inr same ↦ true≢false (sym (same_names d.name name same) ∙ other) ]
      | inr later ↦ rest is later
    ]

pub named_or_none : (ds : List Definition) (name : List ℕ) → ((formula_of ds name ≡ None) ↔ ¬ (Contains (names_defined ds) name))
named_or_none ds name = (unnamed_if_none ds name, none_if_unnamed ds name)

-- ---- one definition more

-- what was found is found still
pub found_before : (ds : List Definition) (d : Definition) (name : List ℕ) (f : Tree) → formula_of ds name ≡ Some f → formula_of (ds ++ d ∷ []) name ≡ Some f
found_before [] d name f found = cc found
found_before (x ∷ xs) d name f found = by (pointwise nat_eq x.name name) found (found_before xs d name f)
  where
    by : (b : Bool) → cond b (Some x.formula) (formula_of xs name) ≡ Some f → (formula_of xs name ≡ Some f → formula_of (xs ++ d ∷ []) name ≡ Some f)
        → cond b (Some x.formula) (formula_of (xs ++ d ∷ []) name) ≡ Some f
    by true is rest = is
    by false is rest = rest is

-- what wasn't is found only where it is the last definition's name
pub found_last : (ds : List Definition) (d : Definition) (name : List ℕ) → formula_of ds name ≡ None → formula_of (ds ++ d ∷ []) name ≡ formula_of (d ∷ []) name
found_last [] d name none = refl
found_last (x ∷ xs) d name none = by (pointwise nat_eq x.name name) none (found_last xs d name)
  where
    by : (b : Bool) → cond b (Some x.formula) (formula_of xs name) ≡ None → (formula_of xs name ≡ None → formula_of (xs ++ d ∷ []) name ≡ formula_of (d ∷ []) name)
        → cond b (Some x.formula) (formula_of (xs ++ d ∷ []) name) ≡ formula_of (d ∷ []) name
    by true is rest = cc is
    by false is rest = rest is

pub found_by_last : (ds : List Definition) (d : Definition) → formula_of ds d.name ≡ None → formula_of (ds ++ d ∷ []) d.name ≡ Some d.formula
found_by_last ds d none = found_last ds d d.name none ∙ ap (λ b. cond b (Some d.formula) None) (same_names d.name d.name refl)

pub found_by_other : (ds : List Definition) (d : Definition) (name : List ℕ) → d.name ≢ name → formula_of (ds ++ d ∷ []) name ≡ formula_of ds name
found_by_other [] d name other = ap (λ b. cond b (Some d.formula) None) (other_names d.name name other)
found_by_other (x ∷ xs) d name other = ap (cond (pointwise nat_eq x.name name) (Some x.formula)) (found_by_other xs d name other)

-- ---- formulas of one method

-- what is found among formulas of one method is one
pub defined_found : (count : ℕ) (ds : List Definition) (name : List ℕ) (f : Tree) → All (IsDefined count) ds → formula_of ds name ≡ Some f → IsDefined count (record { name = name; formula = f })
defined_found count ds name f each found =
    let (d, there, named, is) = definition_found ds name f found in
    subst (IsDefined count) (λ i. record { name = named i; formula = is i }) (All-contains (IsDefined count) ds d each there)
