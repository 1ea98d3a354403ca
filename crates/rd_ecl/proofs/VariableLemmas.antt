-- The tests of variables find what they are for.
use Rattle.std.proofs.Common.{◌≡◌, ◌≢◌, ℕ, ◌≤◌, Bool, true, false, not, ◌||◌, List, [], ◌∷◌, length, nat_eq, leb, arith, ap, refl, sym, Decides}
use Rattle.std.specs.Prelude.{AllPairs, Contains}
use Rattle.std.specs.List.{AllByRecursion, IsDistinct}
use Rattle.std.specs.Cmp.Lexicographic.{pointwise, bytes_decides, nat_list_eq_equiv, same_text}
use Rattle.std.proofs.lemmas.Bool.Decides.{Decides-and, Decides-like, Decides-ltb, Decides-not, nat_tests}
use Rattle.std.proofs.lemmas.List.Sums.{AllPass-from_list_all, list_all-from_AllPass}
use Rattle.std.proofs.lemmas.Map.Made.{AllPairs-from_IsDistinct, IsDistinct-from_AllPairs}
use Rattle.std.proofs.lemmas.Map.Views.{Contains-from_any, list_any-from_Contains}
use Rattle.rd_ecl.specs.Variables.{IsVariable, is_variable, is_variable_byte, kept_words, is_one_of, are_different}
use Rattle.rd_base.specs.declared.limits.TheConstants.{MOST_NAME_BYTES}

pub among_decides : (name : List ℕ) (names : List (List ℕ)) → Decides (is_one_of name names) (Contains names name)
among_decides name names =
    (Contains-from_any (λ x y h. same_text x y (sym h)) name names, list_any-from_Contains nat_list_eq_equiv name names)

few_decides : (bytes : List ℕ) → Decides (leb (length bytes) MOST_NAME_BYTES) (length bytes ≤ MOST_NAME_BYTES)
few_decides bytes = (λ h. grind (arith, nat_tests), λ h. grind (arith, nat_tests))

pub variable_decides : (bytes : List ℕ) → Decides (is_variable bytes) (IsVariable bytes)
variable_decides bytes =
    Decides-like _
    (λ h. record { some = h.0; few = h.1.0; letter = h.1.1.0; each = h.1.1.1.0; free = h.1.1.1.1 })
    (λ v. (v.some, (v.few, (v.letter, (v.each, v.free)))))
    (Decides-and _ _ (Decides-ltb 0 (length bytes)) (Decides-and _ _ (few_decides bytes) (Decides-and _ _ (λ h. h, λ h. h)
    (Decides-and _ _ (AllPass-from_list_all is_variable_byte bytes, list_all-from_AllPass is_variable_byte bytes)
    (Decides-not _ (among_decides bytes kept_words))))))

pub negated : (test : Bool) → not test ≡ true → test ≡ false
negated true h = cc
negated false h = refl

neither : (a b : Bool) → (a || b) ≡ false → (a ≡ false) × (b ≡ false)
neither true b h = cc
neither false b h = (refl, h)

both_fail : (a b : Bool) → a ≡ false → b ≡ false → (a || b) ≡ false
both_fail true b h k = cc
both_fail false b h k = k

apart : (name : List ℕ) (names : List (List ℕ)) → is_one_of name names ≡ false → AllByRecursion (λ other. pointwise nat_eq name other ≡ false) names
apart name [] h = tt
apart name (other ∷ names) h = ((neither _ _ h).0, apart name names (neither _ _ h).1)

not_among : (name : List ℕ) (names : List (List ℕ)) → AllByRecursion (λ other. pointwise nat_eq name other ≡ false) names → is_one_of name names ≡ false
not_among name [] h = refl
not_among name (other ∷ names) h = both_fail _ _ h.0 (not_among name names h.1)

distinct_decides : (names : List (List ℕ)) → Decides (are_different names) (IsDistinct (pointwise nat_eq) names)
unfolding IsDistinct
distinct_decides [] = (λ h. tt, λ h. refl)
distinct_decides (name ∷ names) =
    Decides-and _ _ (λ h. apart name names (negated _ h), λ h. ap not (not_among name names h)) (distinct_decides names)

pub different_decides : (names : List (List ℕ)) → Decides (are_different names) (AllPairs (λ x y. x ≢ y) names)
different_decides names =
    Decides-like _ (AllPairs-from_IsDistinct bytes_decides names) (IsDistinct-from_AllPairs bytes_decides names) (distinct_decides names)
