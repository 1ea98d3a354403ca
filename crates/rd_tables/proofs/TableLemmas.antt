-- Tables that are made from rows of distinct names, one row after another.
use Rattle.std.proofs.Common.{◌≡◌, ◌≢◌, ℕ, ◌+◌, ◌<◌, List, [], ◌∷◌, ◌++◌, map, take, length, get_or, slice_get, Some, option_map, false, refl, sym, ap, subst, ◌∙◌, arith}
use Rattle.std.specs.List.{AllPairs, IsDistinct}
use Rattle.std.specs.Cmp.Lexicographic.{bytes_decides}
use Rattle.std.proofs.lemmas.Map.Made.{IsDistinct-from_AllPairs}
use Rattle.std.specs.Map.{keys_of}
use Rattle.std.proofs.lemmas.List.{length-map, map-append, take-map, take_more}
use Rattle.std.proofs.lemmas.Option.{slice_get-map, slice_get-get_or, get_or_from_slice_get}
use Rattle.indexmap.specs.IndexMap.{IndexMap, insert_entry}
use Rattle.indexmap.proofs.CallerLemmas.{insert_entry-new}
use Rattle.rd_ecl.specs.declared.kinds.Method.{Method}
use Rattle.rd_ecl.specs.Specified.{SpecifiedKind, AreMethods}
use Rattle.rd_ecl.specs.Kinds.{kind_names, method_of, kind_of, kinds_of}
use Rattle.rd_tables.specs.declared.methods.Methods.{Methods}
use Rattle.rd_rules.specs.MayFollow.{same_name, is_among}
use Rattle.rd_tables.specs.Tables.{method_entry, methods_in, kind_entry}
use Rattle.rd_tables.proofs.NameLemmas.{not_before}
use Rattle.rd_tables.proofs.LookupLemmas.{none_is, known_in}

module _ {Y M R : Type 0} (entry : List ℕ × Y → M) (of : R → M) (name : M → List ℕ) (named : (e : List ℕ × Y) → name (entry e) ≡ e.0) where
  keys_named : (entries : List (List ℕ × Y)) → keys_of entries ≡ map name (map entry entries)
  keys_named [] = refl
  keys_named (e ∷ es) = λ i. sym (named e) i ∷ keys_named es i

  module _ {S : Type 0} (rows : List R) (different : IsDistinct same_name (map name (map of rows))) (table : IndexMap (List ℕ) Y S) (i : ℕ) (row : R) (value : Y) where
    row_added : i < length rows → get_or rows i row ≡ row → map entry table.entries ≡ map of (take i rows) → entry (name (of row), value) ≡ of row
        → map entry (insert_entry same_name table.entries (name (of row)) value) ≡ map of (take (i + 1) rows)
    row_added below at so_far is =
        let names : List (List ℕ) = map name (map of rows) in
        let long : length names ≡ length rows = length-map (map of rows) name ∙ length-map rows of in
        let found : slice_get names i ≡ Some (name (of row)) =
        slice_get-map name (map of rows) i ∙ ap (option_map name) (slice_get-map of rows i ∙ ap (option_map of) (slice_get-get_or rows i row below ∙ ap Some at)) in
        let here : get_or names i [] ≡ name (of row) = get_or_from_slice_get names i (name (of row)) [] found in
        let keys : keys_of table.entries ≡ take i names =
        keys_named table.entries ∙ ap (map name) so_far ∙ sym (take-map name i (map of rows) ∙ ap (map name) (take-map of i rows)) in
        let fresh : is_among (take i names) (name (of row)) ≡ false =
        subst (λ n. is_among (take i names) n ≡ false) here (not_before names different i (omega arith)) in
        let pushed : insert_entry same_name table.entries (name (of row)) value ≡ table.entries ++ (name (of row), value) ∷ [] =
        insert_entry-new same_name table (name (of row)) value (none_is _ (known_in table.entries (take i names) keys (name (of row)) ∙ fresh)) in
        ap (map entry) pushed ∙ map-append entry table.entries ((name (of row), value) ∷ []) ∙ (λ j. so_far j ++ is j ∷ [])
        ∙ sym (ap (map of) (take_more rows i row below ∙ ap (λ r. take i rows ++ r ∷ []) at) ∙ map-append of (take i rows) (row ∷ []))

-- no two names that differ are the same
differ : (names : List (List ℕ)) → AllPairs (λ x y. x ≢ y) names → IsDistinct same_name names
differ names apart = IsDistinct-from_AllPairs bytes_decides names apart

names_specified : (methods : List Method) → map (λ m. m.name) methods ≡ map (λ m. m.name) (map method_of methods)
names_specified [] = refl
names_specified (m ∷ ms) = ap (λ names. m.name ∷ names) (names_specified ms)

-- a table of the first methods, after the next one
pub method_added : {S : Type 0} (methods : List Method) → AreMethods methods → (table : IndexMap (List ℕ) ℕ S) (i : ℕ) (method : Method)
    → i < length methods → get_or methods i method ≡ method → map method_entry table.entries ≡ map method_of (take i methods)
    → map method_entry (insert_entry same_name table.entries method.name (length method.variables)) ≡ map method_of (take (i + 1) methods)
method_added methods are table i method below at so_far =
    row_added method_entry method_of (λ m. m.name) (λ e. refl) methods (differ (map (λ m. m.name) (map method_of methods)) (subst (AllPairs (λ x y. x ≢ y)) (names_specified methods) are.different)) table i method (length method.variables) below at so_far refl

-- and one of the first kinds, after the next one with its methods
pub kind_added : {S : Type 0} (kinds : List SpecifiedKind) → AllPairs (λ x y. x ≢ y) (kind_names (kinds_of kinds)) → (table : IndexMap (List ℕ) Methods S) (i : ℕ) (kind : SpecifiedKind) (methods : Methods)
    → i < length kinds → get_or kinds i kind ≡ kind → map kind_entry table.entries ≡ map kind_of (take i kinds) → methods_in methods ≡ map method_of kind.methods
    → map kind_entry (insert_entry same_name table.entries kind.name methods) ≡ map kind_of (take (i + 1) kinds)
kind_added kinds different table i kind methods below at so_far is =
    row_added kind_entry kind_of (λ k. k.name) (λ e. refl) kinds (differ (kind_names (kinds_of kinds)) different) table i kind methods below at so_far (λ j. record { name = kind.name; methods = is j })
