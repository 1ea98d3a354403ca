-- The first of two lists.
use Rattle.std.proofs.Common.{◌≡◌, ℕ, Bool, true, false, if◌then◌else◌, List, [], ◌∷◌, ◌++◌, Option, Some, None, option_map, refl, ap, sym, ◌∙◌, append_assoc, true≢false, subst}
use Rattle.std.specs.Prelude.{IfErr, IfNone, IfOk, IfSome, IsSome, Result, Ok, Err, is_some, not}
use Rattle.std.proofs.lemmas.Option.{same_Some}
use Rattle.rd_formulas.specs.Meaning.{IsFirst, IsFirstSign, IsFirstUse, NoneOf, Related, Use, earlier, use_token}

pub none_both : {T : Type 0} (P : T → Type 0) (xs ys : List T) → NoneOf P xs → NoneOf P ys → NoneOf P (xs ++ ys)
none_both P [] ys h k = k
none_both P (x ∷ xs) ys h k = (h.0, none_both P xs ys h.1 k)

pub none_left : {T : Type 0} (P : T → Type 0) (xs ys : List T) → NoneOf P (xs ++ ys) → NoneOf P xs
none_left P [] ys h = tt
none_left P (x ∷ xs) ys h = (h.0, none_left P xs ys h.1)

pub none_right : {T : Type 0} (P : T → Type 0) (xs ys : List T) → NoneOf P (xs ++ ys) → NoneOf P ys
none_right P [] ys h = h
none_right P (x ∷ xs) ys h = none_right P xs ys h.1

pub first_both : {T : Type 0} (P : T → Type 0) (xs ys : List T) (a b : Option T) → IsFirst P xs a → IsFirst P ys b → IsFirst P (xs ++ ys) (earlier a b)
first_both P xs ys (Some x) b (front, back, is, none, has) k =
    (front, back ++ ys, ap (λ l. l ++ ys) is ∙ append_assoc front (x ∷ back) ys, none, has)
first_both P xs ys None None h k = none_both P xs ys h k
first_both P xs ys None (Some y) h (front, back, is, none, has) =
    (xs ++ front, back, ap (λ l. xs ++ l) is ∙ sym (append_assoc xs front (y ∷ back)), none_both P xs front h none, has)

sign_of : (a b : Option Related) → earlier (option_map (λ it. it.sign) a) (option_map (λ it. it.sign) b) ≡ option_map (λ it. it.sign) (earlier a b)
sign_of (Some a) b = refl
sign_of None b = refl

pub sign_both : (P : Related → Type 0) (xs ys : List Related) (a b : Option ℕ) → IsFirstSign P xs a → IsFirstSign P ys b → IsFirstSign P (xs ++ ys) (earlier a b)
sign_both P xs ys a b (first, h, e) (second, k, f) =
    (earlier first second, first_both P xs ys first second h k, rw (e, f) (sign_of first second))

use_of : (a b : Option Use) → earlier (option_map use_token a) (option_map use_token b) ≡ option_map use_token (earlier a b)
use_of (Some a) b = refl
use_of None b = refl

pub use_both : (P : Use → Type 0) (xs ys : List Use) (a b : Option ℕ) → IsFirstUse P xs a → IsFirstUse P ys b → IsFirstUse P (xs ++ ys) (earlier a b)
use_both P xs ys a b (first, h, e) (second, k, f) =
    (earlier first second, first_both P xs ys first second h k, rw (e, f) (use_of first second))

-- one that is looked at
pub first_one : {T : Type 0} (P : T → Type 0) (x : T) (test : Bool) → (test ≡ true → P x) → (P x → test ≡ true) → IsFirst P (x ∷ []) (if test then Some x else None)
first_one P x true has only = ([], [], refl, tt, has refl)
first_one P x false has only = ((λ h. absurd (true≢false (sym (only h)))), tt)

pub sign_one : (P : Related → Type 0) (asked : Related) (test : Bool) → (test ≡ true → P asked) → (P asked → test ≡ true)
    → IsFirstSign P (asked ∷ []) (if test then Some asked.sign else None)
sign_one P asked true has only = (Some asked, ([], [], refl, tt, has refl), refl)
sign_one P asked false has only = (None, ((λ h. absurd (true≢false (sym (only h)))), tt), refl)

pub use_one : (P : Use → Type 0) (asked : Use) (test : Bool) → (test ≡ true → P asked) → (P asked → test ≡ true)
    → IsFirstUse P (asked ∷ []) (if test then Some (use_token asked) else None)
use_one P asked true has only = (Some asked, ([], [], refl, tt, has refl), refl)
use_one P asked false has only = (None, ((λ h. absurd (true≢false (sym (only h)))), tt), refl)

-- a test whether nothing is there
pub test_none : {X : Type 0} (o : Option X) (test : Bool) (P : X → Type 0) (Q : Type 0) → is_some o ≡ not test → IfSome o P → IfNone o Q → ((x : X) → P x → Q → ⊥)
    → (test ≡ true → Q) × (Q → test ≡ true)
test_none None true P Q e some none apart = ((λ h. none), λ q. refl)
test_none None false P Q e some none apart = absurd (cc)
test_none (Some x) true P Q e some none apart = absurd (cc)
test_none (Some x) false P Q e some none apart = ((λ h. absurd (true≢false (sym h))), λ q. absurd (apart x some q))

-- something is there, unless what would hold without it doesn't
pub there_unless : {X : Type 0} (o : Option X) (Q : Type 0) → IfNone o Q → (Q → ⊥) → IsSome o
there_unless (Some x) Q h k = refl
there_unless None Q h k = absurd (k h)

pub given_at : {X : Type 0} (o : Option X) (P : X → Type 0) (x : X) → o ≡ Some x → IfSome o P → P x
given_at (Some y) P x e h = subst P (same_Some y x e) h
given_at None P x e h = absurd (cc)

pub ok_then : {X E : Type 0} (r : Result X E) (P Q : X → Type 0) → ((x : X) → P x → Q x) → IfOk r P → IfOk r Q
ok_then (Ok x) P Q step h = step x h
ok_then (Err e) P Q step h = tt

pub err_then : {X E : Type 0} (r : Result X E) (P Q : E → Type 0) → ((e : E) → P e → Q e) → IfErr r P → IfErr r Q
err_then (Ok x) P Q step h = tt
err_then (Err e) P Q step h = step e h

pub no_sign : (P : Related → Type 0) (xs : List Related) → IsFirstSign P xs None → NoneOf P xs
no_sign P xs (None, h, e) = h
no_sign P xs (Some asked, h, e) = absurd (cc)

pub no_use : (P : Use → Type 0) (xs : List Use) → IsFirstUse P xs None → NoneOf P xs
no_use P xs (None, h, e) = h
no_use P xs (Some asked, h, e) = absurd (cc)
