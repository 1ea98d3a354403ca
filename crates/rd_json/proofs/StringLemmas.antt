-- Strings, piece by piece.
use Rattle.std.proofs.Common.{◌≡◌, ◌+◌, ◌<◌, ◌≤◌, ℕ, zero, suc, inl, inr, true, List, [], ◌∷◌, ◌++◌, None, Some, length, take, drop, refl, sym, ◌∙◌, ap, add-one, append-nil, append_assoc, arith, flat_map}
use Rattle.std.specs.Prelude.{slice_index}
use Rattle.std.proofs.Math.Seq.{drop-length, take-length}
use Rattle.std.proofs.lemmas.Bool.{cases_Bool}
use Rattle.std.proofs.lemmas.List.Concat.{flat_map-cons}
use Rattle.memchr.specs.Find.{IsFirstByte, is_byte2}
use Rattle.rd_json.specs.Json.{string_byte}

-- a byte that is escaped, and one that isn't
escaped_byte : (b : ℕ) → is_byte2 34 92 b ≡ true → string_byte b ≡ 92 ∷ b ∷ []
escaped_byte b special = rw special refl

other_byte : (b : ℕ) → (is_byte2 34 92 b ≡ true → ⊥) → string_byte b ≡ b ∷ []
other_byte b other = elim (cases_Bool (is_byte2 34 92 b)) [ inl special ↦ absurd (other special) | inr is ↦ rw is refl ]

-- bytes in front that aren't escaped
front_stands : (bytes : List ℕ) (at : ℕ) → at ≤ length bytes → ((k : ℕ) → k < at → is_byte2 34 92 (slice_index bytes k) ≡ true → ⊥)
    → flat_map string_byte bytes ≡ take at bytes ++ flat_map string_byte (drop at bytes)
front_stands bytes zero within others = refl
front_stands [] (suc at) within others = absurd (omega arith)
front_stands (b ∷ bytes) (suc at) within others =
    flat_map-cons string_byte b bytes
    ∙ (ap (λ l. l ++ flat_map string_byte bytes) (other_byte b (others 0 (omega arith)))
    ∙ ap (λ l. b ∷ l) (front_stands bytes at (omega arith) (λ k low. others (suc k) (omega (arith, low)))))

here_escaped : (bytes : List ℕ) (at : ℕ) → at < length bytes → is_byte2 34 92 (slice_index bytes at) ≡ true
    → flat_map string_byte (drop at bytes) ≡ (92 ∷ slice_index bytes at ∷ []) ++ flat_map string_byte (drop (suc at) bytes)
here_escaped [] at within special = absurd (omega arith)
here_escaped (b ∷ bytes) zero within special =
    flat_map-cons string_byte b bytes ∙ ap (λ l. l ++ flat_map string_byte bytes) (escaped_byte b special)
here_escaped (b ∷ bytes) (suc at) within special = here_escaped bytes at (omega arith) special

-- where none is escaped
pub none_escaped : (bytes : List ℕ) → IsFirstByte (is_byte2 34 92) bytes None → flat_map string_byte bytes ≡ bytes
none_escaped bytes none =
    front_stands bytes (length bytes) (omega arith) (λ k low. none k (omega arith) low)
    ∙ ((λ i. take-length bytes i ++ flat_map string_byte (drop-length bytes i)) ∙ append-nil bytes)

-- up to the first that is, and behind it
pub first_escaped : (bytes : List ℕ) (at : ℕ) → IsFirstByte (is_byte2 34 92) bytes (Some at)
    → flat_map string_byte bytes ≡ take at bytes ++ (92 ∷ slice_index bytes at ∷ []) ++ flat_map string_byte (drop (at + 1) bytes)
first_escaped bytes at found =
    let within : at < length bytes = found.0.high in
    let front = take at bytes in
    let escape = 92 ∷ slice_index bytes at ∷ [] in
    front_stands bytes at (omega arith) (λ k low. found.0.before k (omega arith) low)
    ∙ ap (λ l. front ++ l) (here_escaped bytes at within found.1 ∙ ap (λ n. escape ++ flat_map string_byte (drop n bytes)) (sym (add-one at)))
    ∙ sym (append_assoc front escape (flat_map string_byte (drop (at + 1) bytes)))
