-- What look-ups in a table find.
use Rattle.std.proofs.Common.{◌≡◌, ℕ, suc, ◌+◌, ◌<◌, ◌≤◌, Bool, true, false, not, cond, ◌||◌, ltb, List, [], ◌∷◌, map, Option, Some, None, is_some, length, position, slice_get, option_map, unwrap_or, refl, sym, ap, subst, ◌∙◌, arith, ltb-true, true≢false}
use Rattle.std.specs.List.{IsDistinct, list_any, position_or_len}
use Rattle.std.specs.Map.{lookup, keys_of}
use Rattle.std.proofs.lemmas.Bool.{lt-ltb, ltb-false}
use Rattle.std.proofs.lemmas.List.{length-map}
use Rattle.std.proofs.lemmas.List.Sums.{prefix_len-le-length}
use Rattle.std.proofs.lemmas.Option.{slice_get-map, slice_get_within, get_or_from_slice_get}
use Rattle.indexmap.specs.IndexMap.{get_by, index_map_len, index_of_by}
use Rattle.rd_ecl.specs.Kinds.{KindMethod, method_names, kind_slots_at}
use Rattle.rd_rules.specs.MayFollow.{same_name, is_among, place}
use Rattle.rd_rules.proofs.PlaceLemmas.{not_known, place_new}
use Rattle.rd_tables.specs.declared.methods.Methods.{Methods}
use Rattle.rd_tables.specs.Tables.{method_entry, methods_in, found_method}
use Rattle.rd_tables.proofs.NameLemmas.{place_at}

-- ---- look-ups

-- what look-ups find in a table with these names, whose place is the next one for any other name
module _ {X : Type 0} (test : List ℕ → Bool) where
  is_some-lookup : (entries : List (List ℕ × X)) → is_some (lookup test entries) ≡ list_any test (keys_of entries)
  is_some-lookup [] = refl
  is_some-lookup (e ∷ es) = by (test e.0) (is_some-lookup es)
    where
      by : (b : Bool) → is_some (lookup test es) ≡ list_any test (keys_of es) → is_some (cond b (Some e.1) (lookup test es)) ≡ (b || list_any test (keys_of es))
      by true rest = refl
      by false rest = rest

  pub lookup-at : (entries : List (List ℕ × X)) → option_map (λ e. e.1) (slice_get entries (position_or_len test (keys_of entries))) ≡ lookup test entries
  lookup-at [] = refl
  lookup-at (e ∷ es) = by (test e.0) (lookup-at es)
    where
      At : ℕ → Bool → Type 0
      At n b = option_map (λ e. e.1) (slice_get (e ∷ es) n) ≡ cond b (Some e.1) (lookup test es)

      by : (b : Bool) → option_map (λ e. e.1) (slice_get es (position_or_len test (keys_of es))) ≡ lookup test es → At (cond (not b) (1 + position_or_len test (keys_of es)) 0) b
      by true rest = refl
      by false rest = let next : suc (position_or_len test (keys_of es)) ≡ 1 + position_or_len test (keys_of es) = omega arith in subst (λ n. At n false) next rest

position-or_next : (test : List ℕ → Bool) (names : List (List ℕ)) → unwrap_or (position test names) (length names) ≡ position_or_len test names
position-or_next test names = by (ltb (position_or_len test names) (length names)) refl
  where
    by : (b : Bool) → ltb (position_or_len test names) (length names) ≡ b → unwrap_or (cond b (Some (position_or_len test names)) None) (length names) ≡ position_or_len test names
    by true e = refl
    by false e =
        let most : position_or_len test names ≤ length names = prefix_len-le-length (λ name. not (test name)) names in
        let least : length names ≤ position_or_len test names = ltb-false _ _ e in omega arith

module _ {X : Type 0} (entries : List (List ℕ × X)) (names : List (List ℕ)) (keys : keys_of entries ≡ names) (name : List ℕ) where
  pub known_in : is_some (lookup (same_name name) entries) ≡ is_among names name
  known_in = is_some-lookup (same_name name) entries ∙ ap (λ names. is_among names name) keys

  pub unknown_in : (value : Option X) → lookup (same_name name) entries ≡ value → not (is_among names name) ≡ not (is_some value)
  unknown_in value e = ap not (sym known_in ∙ ap is_some e)

  pub place_in : (index : Option ℕ) → position (same_name name) (keys_of entries) ≡ index → place names name ≡ unwrap_or index (length entries)
  place_in index e =
      ap (λ names. place names name) (sym keys) ∙ sym (position-or_next (same_name name) (keys_of entries))
      ∙ (λ i. unwrap_or (e i) (length-map entries (λ e. e.0) i))

  pub entry_in : (value : Option X) → lookup (same_name name) entries ≡ value → option_map (λ e. e.1) (slice_get entries (place names name)) ≡ value
  entry_in value e = ap (λ names. option_map (λ e. e.1) (slice_get entries (place names name))) (sym keys) ∙ lookup-at (same_name name) entries ∙ e

pub none_is : {X : Type 0} (o : Option X) → is_some o ≡ false → o ≡ None
none_is None e = refl
none_is (Some x) e = absurd (true≢false e)

-- ---- names that differ

-- a name stands at its place
pub place_of : (names : List (List ℕ)) → IsDistinct same_name names → (i : ℕ) (name : List ℕ) → slice_get names i ≡ Some name → place names name ≡ i
place_of names differ i name at =
    subst (λ n. place names n ≡ i) (get_or_from_slice_get names i name [] at) (place_at names differ i (slice_get_within names i name at))

-- and is found there
pub place_found : (names : List (List ℕ)) → IsDistinct same_name names → (i : ℕ) (name : List ℕ) → slice_get names i ≡ Some name → Some i ≡ position (same_name name) names
place_found names differ i name at =
    let is : position_or_len (same_name name) names ≡ i = place_of names differ i name at in
    let inside : i < length names = slice_get_within names i name at in
    rw (is, lt-ltb i (length names) inside) refl

-- so a look-up by that name finds what stands there
module _ {X : Type 0} (entries : List (List ℕ × X)) (differ : IsDistinct same_name (keys_of entries)) (i : ℕ) (name : List ℕ) (value : X) (at : slice_get entries i ≡ Some (name, value)) where
  key_at : slice_get (keys_of entries) i ≡ Some name
  key_at = slice_get-map (λ entry. entry.0) entries i ∙ ap (option_map (λ entry. entry.0)) at

  pub index_near : position (same_name name) (keys_of entries) ≡ Some i
  index_near = sym (place_found (keys_of entries) differ i name key_at)

  pub value_near : lookup (same_name name) entries ≡ Some value
  value_near =
      sym (lookup-at (same_name name) entries)
      ∙ ap (λ n. option_map (λ entry. entry.1) (slice_get entries n)) (place_of (keys_of entries) differ i name key_at)
      ∙ ap (option_map (λ entry. entry.1)) at

-- ---- methods

names-methods : (entries : List (List ℕ × ℕ)) → keys_of entries ≡ method_names (map method_entry entries)
names-methods [] = refl
names-methods (e ∷ es) = ap (λ names. e.0 ∷ names) (names-methods es)

method_slots : (entries : List (List ℕ × ℕ)) (i : ℕ) → kind_slots_at (map method_entry entries) i ≡ unwrap_or (option_map (λ e. e.1) (slice_get entries i)) 0
method_slots entries i = ap (λ o. unwrap_or (option_map (λ (m : KindMethod). m.slots) o) 0) (slice_get-map method_entry entries i) ∙ by (slice_get entries i)
  where
    by : (o : Option (List ℕ × ℕ)) → unwrap_or (option_map (λ (m : KindMethod). m.slots) (option_map method_entry o)) 0 ≡ unwrap_or (option_map (λ e. e.1) o) 0
    by None = refl
    by (Some e) = refl

-- what a look-up of a method finds
pub method_found : (methods : Methods) (name : List ℕ) (index slots : Option ℕ) → index_of_by (same_name name) methods.slots ≡ index → get_by (same_name name) methods.slots ≡ slots
    → found_method (methods_in methods) name ≡ record { number = unwrap_or index (index_map_len methods.slots); unknown = not (is_some slots); slots = unwrap_or slots 0 }
method_found methods name index slots at value =
    let entries = methods.slots.entries in
    let names = method_names (methods_in methods) in
    let keys : keys_of entries ≡ names = names-methods entries in
    λ i. record {
      number = place_in entries names keys name index at i;
      unknown = unknown_in entries names keys name slots value i;
      slots = (method_slots entries (place names name) ∙ ap (λ o. unwrap_or o 0) (entry_in entries names keys name slots value)) i;
    }

-- what is found where no method has the name
no_place : (names : List (List ℕ)) (name : List ℕ) → is_among names name ≡ false → position (same_name name) names ≡ None
no_place names name fresh = by (ltb (place names name) (length names)) refl
  where
    by : (b : Bool) → ltb (place names name) (length names) ≡ b → cond b (Some (place names name)) None ≡ None
    by true e = let at : place names name ≡ length names = place_new names name (not_known names name fresh) in let less = ltb-true _ _ e in absurd (omega (arith, at, less))
    by false e = refl

pub method_unknown : (methods : Methods) (name : List ℕ) → is_among (keys_of methods.slots.entries) name ≡ false
    → found_method (methods_in methods) name ≡ record { number = index_map_len methods.slots; unknown = true; slots = 0 }
method_unknown methods name fresh =
    let entries = methods.slots.entries in
    method_found methods name None None (no_place (keys_of entries) name fresh) (none_is _ (is_some-lookup (same_name name) entries ∙ fresh))
