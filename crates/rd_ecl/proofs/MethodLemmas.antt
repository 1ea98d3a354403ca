-- What a draft's methods are, and what one more leaves of it.
use Rattle.std.proofs.Common.{◌≡◌, ◌≢◌, ℕ, false, List, [], ◌∷◌, ◌++◌, arith, length-append, refl}
use Rattle.std.specs.Prelude.{IsTrue, All, AllPairs}
use Rattle.std.specs.List.{list_all}
use Rattle.std.specs.Cmp.Lexicographic.{bytes_decides, nat_list_eq_equiv}
use Rattle.std.proofs.lemmas.List.{map-append}
use Rattle.std.proofs.lemmas.List.Elements.{All-nil, All-push}
use Rattle.std.proofs.lemmas.List.Sums.{AllPass-from_list_all}
use Rattle.std.proofs.lemmas.Map.Keys.{IsDistinct-push}
use Rattle.std.proofs.lemmas.Map.Made.{AllPairs-from_IsDistinct, IsDistinct-from_AllPairs}
use Rattle.rd_base.specs.Names.{IsName}
use Rattle.rd_ecl.specs.declared.kinds.Method.{Method}
use Rattle.rd_ecl.specs.Variables.{IsVariable, is_variable, is_one_of}
use Rattle.rd_ecl.specs.Specified.{SpecifiedKind, AreMethods, MayAdd, IsMethod, names_of}
use Rattle.rd_ecl.proofs.VariableLemmas.{different_decides, negated, variable_decides}

no_pairs : AllPairs {X = List ℕ} (λ x y. x ≢ y) []
no_pairs = (different_decides []).0 refl

pub no_methods : AreMethods []
no_methods = record { few = omega arith; named = All-nil (λ method. IsName method.name); different = no_pairs; each = All-nil IsMethod }

all_variables : (variables : List (List ℕ)) → IsTrue (list_all is_variable variables) → All IsVariable variables
all_variables variables h k d inside = (variable_decides _).0 (AllPass-from_list_all is_variable variables h k d inside)

one_more : (names : List (List ℕ)) (name : List ℕ) → AllPairs (λ x y. x ≢ y) names → is_one_of name names ≡ false → AllPairs (λ x y. x ≢ y) (names ++ name ∷ [])
one_more names name different fresh =
    AllPairs-from_IsDistinct bytes_decides (names ++ name ∷ [])
    (IsDistinct-push nat_list_eq_equiv names name (IsDistinct-from_AllPairs bytes_decides names different) fresh)

pub one_method_more : (kind : SpecifiedKind) (method : Method) → AreMethods kind.methods → IsName method.name → MayAdd kind method.name method.variables
    → AreMethods (kind.methods ++ method ∷ [])
one_method_more kind method are name may =
    record {
      few = let room = may.room in rw (length-append kind.methods (method ∷ [])) (omega (arith, room));
      named = All-push (λ m. IsName m.name) kind.methods method are.named name;
      different = rw (map-append (λ m. m.name) kind.methods (method ∷ [])) (one_more (names_of kind.methods) method.name are.different (negated _ may.fresh));
      each = All-push IsMethod kind.methods method are.each
          (record { some = may.some; few = may.few; different = (different_decides method.variables).0 may.different; each = all_variables method.variables may.each });
    }
