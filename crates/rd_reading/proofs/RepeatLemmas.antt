-- The first of names that is one of those before it.
use Rattle.std.proofs.Common.{◌≡◌, ◌≢◌, ◌<◌, ◌+◌, ℕ, Bool, true, false, not, ◌||◌, nat_eq, List, [], ◌∷◌, ◌++◌, length, get_or, take, refl, sym, ◌∙◌, ap, subst, cond, arith, length-append}
use Rattle.std.specs.Prelude.{AllPairs, Contains}
use Rattle.std.specs.Cmp.Lexicographic.{bytes_decides, nat_list_eq_equiv, pointwise, slice_cmp}
use Rattle.std.specs.List.{list_any}
use Rattle.std.specs.Ordering.{is_eq, nat_cmp}
use Rattle.std.specs.Str.{bytes_eq}
use denote.Ref.{Bor}
use Rattle.std.proofs.Math.ListN.{get_or-append}
use Rattle.std.proofs.Math.Seq.{get_or-append_seam, take-append_seam, take-length}
use Rattle.std.proofs.lemmas.List.{get_or-take, length-take-le, take-append-le, take_more}
use Rattle.std.proofs.lemmas.List.Folds.{list_any-append}
use Rattle.std.proofs.lemmas.Map.Keys.{IsDistinct-push}
use Rattle.std.proofs.lemmas.Map.Made.{AllPairs-from_IsDistinct, IsDistinct-from_AllPairs}
use Rattle.std.proofs.lemmas.Map.Text.{is_eq-slice_cmp}
use Rattle.std.proofs.lemmas.Option.{get_or_from_slice_get, slice_get_read, slice_get_within}
use Rattle.rd_reading.specs.Causes.{IsFirstRepeated}
use Rattle.rd_ecl.specs.Variables.{is_one_of}
use Rattle.rd_ecl.proofs.VariableLemmas.{among_decides, different_decides, negated}

-- no two of the names are alike
abbrev pub Different : List (List ℕ) → Type 0
Different names = AllPairs (λ x y. x ≢ y) names

-- of different names none is the first to stand twice
pub none_repeated : (names : List (List ℕ)) (number : ℕ) → Different names → ¬ (IsFirstRepeated names number)
none_repeated names number different repeated =
    let name = repeated.name in
    let within : number < length names = slice_get_within names number name repeated.stands in
    let front : length (take number names) ≡ number = length-take-le number names (omega (arith, within)) in
    let k = repeated.repeats.0 in
    let inside : k < length (take number names) = repeated.repeats.1 in
    let below : k < number = omega (arith, front, inside) in
    different k number name below within
    (sym (get_or-take number names k name below) ∙ repeated.repeats.2 ∙ sym (get_or_from_slice_get names number name name repeated.stands))

pub none_different : Different []
none_different = (different_decides []).0 refl

pub one_different : (names : List (List ℕ)) (name : List ℕ) → Different names → is_one_of name names ≡ false → Different (names ++ name ∷ [])
one_different names name different fresh =
    AllPairs-from_IsDistinct bytes_decides (names ++ name ∷ [])
    (IsDistinct-push nat_list_eq_equiv names name (IsDistinct-from_AllPairs bytes_decides names different) fresh)

negated_back : (test : Bool) → not test ≡ false → test ≡ true
negated_back true h = refl
negated_back false h = absurd (cc)

module _ (names : List (List ℕ)) (last : List ℕ) where
  -- a name that is one of those before it is the first such, where those differ
  pub repeated_at : (number : ℕ) (name : List ℕ) → number < length names → name ≡ get_or names number name → Different (take number names)
      → is_one_of name (take number names) ≡ true → IsFirstRepeated (names ++ last ∷ []) number
  repeated_at number name within is different among =
      let front : take number (names ++ last ∷ []) ≡ take number names = take-append-le number names (last ∷ []) (omega (arith, within)) in
      record {
        name = name;
        stands = slice_get_read (names ++ last ∷ []) _ number name refl (omega (arith, within, length-append names (last ∷ [])))
            (is ∙ sym (get_or-append names (last ∷ []) name number within));
        repeats = subst (λ (l : List (List ℕ)). Contains l name) (sym front) ((among_decides name (take number names)).0 among);
        others = subst Different (sym front) different;
      }

  pub repeated_last : Different names → is_one_of last names ≡ true → IsFirstRepeated (names ++ last ∷ []) (length names)
  repeated_last different among =
      let front : take (length names) (names ++ last ∷ []) ≡ names = take-append_seam names (last ∷ []) in
      record {
        name = last;
        stands = slice_get_read (names ++ last ∷ []) _ (length names) last refl (omega (arith, length-append names (last ∷ [])))
            (sym (get_or-append_seam names last [] last));
        repeats = subst (λ (l : List (List ℕ)). Contains l last) (sym front) ((among_decides last names).0 among);
        others = subst Different (sym front) different;
      }

-- is the name one of these?
abbrev pub is_found : List ℕ → List (Bor (List ℕ)) → Bool
is_found name keys = list_any (λ key. is_eq (slice_cmp nat_cmp name key.now)) keys

-- the names before an index, which differ
pub record AreSeen (names : List (List ℕ)) (keys : List (Bor (List ℕ))) (number : ℕ) : Type 0 where
  pub so_far : (name : List ℕ) → is_found name keys ≡ is_one_of name (take number names)
  pub different : Different (take number names)

-- one of the names, or one more behind them
among_more : (names : List (List ℕ)) (name other : List ℕ) → is_one_of other (names ++ name ∷ []) ≡ cond (bytes_eq name other) true (is_one_of other names)
among_more names name other =
    list_any-append (pointwise nat_eq other) names (name ∷ []) ∙ turned (is_one_of other names) (bytes_eq name other) (bytes_eq other name) (nat_list_eq_equiv.symm name other) where
      turned : (among one way : Bool) → one ≡ way → (among || (way || false)) ≡ cond one true among
      turned true true true e = refl
      turned true false false e = refl
      turned false true true e = refl
      turned false false false e = refl
      turned true true false e = absurd (cc)
      turned true false true e = absurd (cc)
      turned false true false e = absurd (cc)
      turned false false true e = absurd (cc)

module _ (names : List (List ℕ)) (keys : List (Bor (List ℕ))) (number : ℕ) (name : List ℕ) (within : number < length names)
    (is : name ≡ get_or names number name) (seen : AreSeen names keys number) (is_new : Bool) (added : is_new ≡ not (is_found name keys)) where
  pub seen_twice : (last : List ℕ) → is_new ≡ false → IsFirstRepeated (names ++ last ∷ []) number
  seen_twice last old =
      repeated_at names last number name within is seen.different
      (sym (seen.so_far name) ∙ negated_back (is_found name keys) (sym added ∙ old))

  pub seen_once : (more : List (Bor (List ℕ)))
      → ((key : Bor (List ℕ)) → is_found key.now more ≡ cond (is_eq (slice_cmp nat_cmp name key.now)) true (is_found key.now keys)) → is_new ≡ true
      → AreSeen names more (number + 1)
  seen_once more grown new =
      let fresh : is_one_of name (take number names) ≡ false = sym (seen.so_far name) ∙ negated (is_found name keys) (sym added ∙ new) in
      let next : take (number + 1) names ≡ take number names ++ name ∷ [] =
      take_more names number name within ∙ ap (λ (n : List ℕ). take number names ++ n ∷ []) (sym is) in
      record {
        so_far = λ other.
            grown (record { ref_ptr = (0, 0); now = other })
            ∙ ap (λ (b : Bool). cond b true (is_found other keys)) (is_eq-slice_cmp name other)
            ∙ ap (λ (b : Bool). cond (bytes_eq name other) true b) (seen.so_far other)
            ∙ sym (among_more (take number names) name other)
            ∙ ap (is_one_of other) (sym next);
        different = subst Different (sym next) (one_different (take number names) name seen.different fresh);
      }

-- all names are seen
module _ (names : List (List ℕ)) (keys : List (Bor (List ℕ))) (number : ℕ) (all : number ≡ length names) (seen : AreSeen names keys number) where
  whole : take number names ≡ names
  whole = ap (λ (n : ℕ). take n names) all ∙ take-length names

  pub last_twice : (last : List ℕ) → is_found last keys ≡ true → IsFirstRepeated (names ++ last ∷ []) (length names)
  last_twice last among =
      repeated_last names last (subst Different whole seen.different) (ap (is_one_of last) (sym whole) ∙ sym (seen.so_far last) ∙ among)

  pub last_once : (last : List ℕ) → is_found last keys ≡ false → Different (names ++ last ∷ [])
  last_once last fresh =
      one_different names last (subst Different whole seen.different) (ap (is_one_of last) (sym whole) ∙ sym (seen.so_far last) ∙ fresh)
