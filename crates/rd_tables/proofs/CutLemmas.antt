-- A line's words that are cut behind a name.
use Rattle.std.proofs.Common.{◌≡◌, ◌≢◌, ℕ, ◌+◌, ◌<◌, Bool, true, false, not, List, length, take, get_or, refl, sym, ap, subst, ◌∙◌, arith, true≢false}
use Rattle.std.proofs.lemmas.Bool.{eqb-true, false_from_ne_true}
use Rattle.std.proofs.lemmas.List.{get_or-take, length-drop, length-take}
use Rattle.std.proofs.lemmas.List.Sums.{prefix_len-le-length, prefix_len_is, prefix_len_passes, prefix_len_stops}
use Rattle.std.specs.List.{AllPass, before_first, after_first, position_or_len, prefix_len}
use Rattle.rd_base.specs.Bytes.{is_space}
use Rattle.rd_base.specs.Names.{IsName, is_name_byte}

not_twice : (test : Bool) → not (not test) ≡ test
not_twice true = refl
not_twice false = refl

-- no name has a space
not_space : (byte : ℕ) → is_name_byte byte ≡ true → not (is_space byte) ≡ true
not_space byte name = ap not (false_from_ne_true (is_space byte) (λ e. true≢false (sym (subst (λ b. is_name_byte b ≡ true) (eqb-true byte 32 e) name))))

module _ (bytes : List ℕ) (count : ℕ) (is : count ≡ prefix_len is_name_byte bytes) where
  -- the first space stands behind the bytes of names, if one stands there
  pub space_at : (default : ℕ) → count < length bytes → get_or bytes count default ≡ 32 → position_or_len is_space bytes ≡ count
  space_at default inside blank =
      prefix_len_is (λ byte. not (is_space byte)) bytes count default (omega arith)
      (λ k below. not_space (get_or bytes k default) (prefix_len_passes is_name_byte bytes k default (subst (λ n. k < n) is below))) (λ _. ap (λ byte. not (is_space byte)) blank)

  -- they are bytes of names
  pub front_passes : AllPass is_name_byte (take count bytes)
  front_passes k default below =
      let inside : k < count = omega (arith, length-take count bytes) in
      ap is_name_byte (get_or-take count bytes k default inside) ∙ prefix_len_passes is_name_byte bytes k default (subst (λ n. k < n) is inside)

  -- no two names stand where no space does
  pub no_two : (count < length bytes → get_or bytes count 0 ≢ 32) → ¬ (IsName (before_first is_space bytes) × IsName (after_first is_space bytes))
  no_two other names =
      let at : ℕ = position_or_len is_space bytes in
      let inside : at < length bytes = omega (arith, names.1.some, length-drop (at + 1) bytes) in
      let blank : get_or bytes at 0 ≡ 32 = eqb-true _ 32 (sym (not_twice _) ∙ ap not (prefix_len_stops (λ byte. not (is_space byte)) bytes 0 inside)) in
      let whole : prefix_len is_name_byte bytes ≡ at =
      prefix_len_is is_name_byte bytes at 0 (omega arith) (λ k below. ap is_name_byte (sym (get_or-take at bytes k 0 below)) ∙ names.0.each k 0 (omega (arith, length-take at bytes)))
      (λ _. ap is_name_byte blank) in
      let same : at ≡ count = sym whole ∙ sym is in
      other (subst (λ n. n < length bytes) same inside) (subst (λ n. get_or bytes n 0 ≡ 32) same blank)
