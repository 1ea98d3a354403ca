-- The test of methods out of order finds them.
use Rattle.std.proofs.Common.{◌≡◌, ◌≢◌, ℕ, Bool, true, false, List, [], ◌∷◌, ◌++◌, nat_eq, refl, ap, subst, cond}
use Rattle.std.specs.Prelude.{Contains}
use Rattle.std.specs.Cmp.Lexicographic.{pointwise, bytes_decides}
use Rattle.std.proofs.lemmas.List.Elements.{Contains-append_right}
use Rattle.rd_ecl.specs.Variables.{is_one_of}
use Rattle.rd_ecl.proofs.VariableLemmas.{among_decides}
use Rattle.rd_lines.specs.Lines.{IsOutOfOrder}
use Rattle.rd_lines.specs.Reading.{names_behind}

module _ (first second : List ℕ) (differ : first ≢ second) where
  further : (method : List ℕ) (methods : List (List ℕ)) → IsOutOfOrder methods first second → IsOutOfOrder (method ∷ methods) first second
  further method methods (before, behind, same, among, other) = (method ∷ before, behind, ap (λ (l : List (List ℕ)). method ∷ l) same, among, other)

  pub found_out : (methods : List (List ℕ)) → is_one_of first (names_behind second methods) ≡ true → IsOutOfOrder methods first second
  found_out [] found = absurd (cc)
  found_out (method ∷ methods) found = choose (found_out methods) (pointwise nat_eq method second) refl found where
    choose : (is_one_of first (names_behind second methods) ≡ true → IsOutOfOrder methods first second) → (test : Bool) → pointwise nat_eq method second ≡ test → is_one_of first (cond test methods (names_behind second methods)) ≡ true
        → IsOutOfOrder (method ∷ methods) first second
    choose rest true is among =
        let same : method ≡ second = (bytes_decides method second).0 is in
        ([], methods, ap (λ (m : List ℕ). m ∷ methods) same, (among_decides first methods).0 among, differ)
    choose rest false is among = further method methods (rest among)

  contained : (method : List ℕ) (before behind methods : List (List ℕ)) → method ∷ methods ≡ before ++ second ∷ behind → Contains behind first
      → Contains methods first
  contained method [] behind methods same among =
      let tails : behind ≡ methods = cc in
      subst (λ (l : List (List ℕ)). Contains l first) tails among
  contained method (m ∷ before) behind methods same among =
      let tails : before ++ second ∷ behind ≡ methods = cc in
      subst (λ (l : List (List ℕ)). Contains l first) tails (Contains-append_right before (second ∷ behind) first (Contains-append_right (second ∷ []) behind first among))

  later : (method : List ℕ) (before behind methods : List (List ℕ)) → method ∷ methods ≡ before ++ second ∷ behind → method ≢ second
      → Contains behind first → IsOutOfOrder methods first second
  later method [] behind methods same other among = absurd (other (cc))
  later method (m ∷ before) behind methods same other among = (before, behind, cc, among, differ)

  pub finds_out : (methods : List (List ℕ)) → IsOutOfOrder methods first second → is_one_of first (names_behind second methods) ≡ true
  finds_out [] ([], behind, same, among, other) = absurd (cc)
  finds_out [] (m ∷ before, behind, same, among, other) = absurd (cc)
  finds_out (method ∷ methods) (before, behind, same, among, other) = choose (finds_out methods) (pointwise nat_eq method second) refl where
    choose : (IsOutOfOrder methods first second → is_one_of first (names_behind second methods) ≡ true) → (test : Bool) → pointwise nat_eq method second ≡ test → is_one_of first (cond test methods (names_behind second methods)) ≡ true
    choose rest true is = (among_decides first methods).1 (contained method before behind methods same among)
    choose rest false is =
        rest (later method before behind methods same
        (λ e. let yes : pointwise nat_eq method second ≡ true = (bytes_decides method second).1 e in cc) among)
