-- What stands between quotes.
use Rattle.std.proofs.Common.{◌≡◌, ◌≢◌, ℕ, suc, ◌/◌, ◌%◌, ◌<◌, Bool, true, false, List, [], ◌∷◌, ◌++◌, length, take, drop, refl, sym, ap, subst, arith, ne_eqb, inl, inr}
use Rattle.std.specs.Fmt.{digit_glyph}
use Rattle.std.specs.List.{AllByRecursion}
use Rattle.std.proofs.lemmas.Bool.{cases_Bool}
use Rattle.std.proofs.lemmas.Bool.Decides.{eqb_tells, nat_tests}
use Rattle.rd_base.specs.Spelling.{is_plain, byte_spelling, bytes_spelling}
use Rattle.rd_tokens.specs.Tokens.{IsInside}
use Rattle.rd_tokens.specs.Tokens.IsInside.{nothing_inside, pair_first, other_first}
use Rattle.rd_tokens.specs.ReadingTokens.{inside_length}

-- it ends at the quote behind it
pub inside_found : (inside behind : List ℕ) → IsInside inside → inside_length false (inside ++ 34 ∷ behind) ≡ length inside
unfolding inside_length
inside_found _ behind nothing_inside = refl
inside_found _ behind (pair_first {b = b} {bytes = bytes} more) = ap (λ n. suc (suc n)) (inside_found bytes behind more)
inside_found _ behind (other_first {b = b} {bytes = bytes} no_quote no_slash more) =
    rw (ne_eqb b 34 no_quote, ne_eqb b 92 no_slash) (ap suc (inside_found bytes behind more))

-- what stands before the end, if the byte before it may have taken its first byte
abbrev IsBefore : Bool → List ℕ → Type 0
IsBefore false bytes = IsInside bytes
IsBefore true bytes = IsInside (92 ∷ bytes)

abbrev EndsAt : Bool → List ℕ → ℕ → Type 0
EndsAt taken bytes n = IsBefore taken (take n bytes) × (bytes ≡ take n bytes ++ 34 ∷ drop (suc n) bytes)

slash_length : (b : ℕ) (bytes : List ℕ) → b ≡ 92 → inside_length false (b ∷ bytes) ≡ suc (inside_length true bytes)
unfolding inside_length
slash_length b bytes slash = ap (λ b. inside_length false (b ∷ bytes)) slash

other_length : (b : ℕ) (bytes : List ℕ) → b ≢ 34 → b ≢ 92 → inside_length false (b ∷ bytes) ≡ suc (inside_length false bytes)
unfolding inside_length
other_length b bytes no_quote no_slash = rw (ne_eqb b 34 no_quote, ne_eqb b 92 no_slash) refl

quote_length : (b : ℕ) (bytes : List ℕ) → b ≡ 34 → inside_length false (b ∷ bytes) ≡ 0
unfolding inside_length
quote_length b bytes quote = ap (λ b. inside_length false (b ∷ bytes)) quote

taken_length : (b : ℕ) (bytes : List ℕ) → inside_length true (b ∷ bytes) ≡ suc (inside_length false bytes)
unfolding inside_length
taken_length b bytes = refl

ends : (taken : Bool) (bytes : List ℕ) → inside_length taken bytes < length bytes → EndsAt taken bytes (inside_length taken bytes)
ends taken [] within = absurd (omega arith)
ends true (b ∷ bytes) within =
    let long = taken_length b bytes in
    let more = ends false bytes (omega (arith, long)) in
    subst (EndsAt true (b ∷ bytes)) (sym long) (pair_first more.0, ap (λ xs. b ∷ xs) more.1)
ends false (b ∷ bytes) within =
    elim (eqb_tells b 34) [
      | inl quote ↦
          subst (EndsAt false (b ∷ bytes)) (sym (quote_length b bytes quote.1)) (nothing_inside, ap (λ b. b ∷ bytes) quote.1)
      | inr no_quote ↦ elim (eqb_tells b 92) [
        | inl slash ↦
            let long = slash_length b bytes slash.1 in
            let more = ends true bytes (omega (arith, long)) in
            subst (EndsAt false (b ∷ bytes)) (sym long)
            (subst (λ b. IsInside (b ∷ take (inside_length true bytes) bytes)) (sym slash.1) more.0, ap (λ xs. b ∷ xs) more.1)
        | inr no_slash ↦
            let long = other_length b bytes no_quote.1 no_slash.1 in
            let more = ends false bytes (omega (arith, long)) in
            subst (EndsAt false (b ∷ bytes)) (sym long) (other_first no_quote.1 no_slash.1 more.0, ap (λ xs. b ∷ xs) more.1)
      ]
    ]

pub inside_said : (bytes : List ℕ) → inside_length false bytes < length bytes
    → IsInside (take (inside_length false bytes) bytes)
    × (bytes ≡ take (inside_length false bytes) bytes ++ 34 ∷ drop (suc (inside_length false bytes)) bytes)
inside_said bytes within = ends false bytes within

-- the bytes of a text, each spelled, stand between quotes
inside_both : (first second : List ℕ) → IsInside first → IsInside second → IsInside (first ++ second)
inside_both _ second nothing_inside there = there
inside_both _ second (pair_first {b = b} {bytes = bytes} more) there = pair_first (inside_both bytes second more there)
inside_both _ second (other_first {b = b} {bytes = bytes} no_quote no_slash more) there =
    other_first no_quote no_slash (inside_both bytes second more there)

glyph_other : (digit : ℕ) → digit < 16 → (digit_glyph false digit ≢ 34) × (digit_glyph false digit ≢ 92)
glyph_other digit small = (grind (arith, nat_tests), grind (arith, nat_tests))

digits_inside : (high low : ℕ) → (high ≢ 34) × (high ≢ 92) → (low ≢ 34) × (low ≢ 92) → IsInside (92 ∷ 120 ∷ high ∷ low ∷ [])
digits_inside high low highs lows = pair_first (other_first highs.0 highs.1 (other_first lows.0 lows.1 nothing_inside))

byte_inside : (byte : ℕ) → byte < 256 → IsInside (byte_spelling byte)
unfolding byte_spelling
byte_inside byte small =
    elim (eqb_tells byte 34) [
      | inl quote ↦ rw quote.0 (pair_first nothing_inside)
      | inr no_quote ↦ elim (eqb_tells byte 92) [
        | inl slash ↦ rw (no_quote.0, slash.0) (pair_first nothing_inside)
        | inr no_slash ↦ elim (cases_Bool (is_plain byte)) [
          | inl plain ↦ rw (no_quote.0, no_slash.0, plain) (other_first no_quote.1 no_slash.1 nothing_inside)
          | inr special ↦
              rw (no_quote.0, no_slash.0, special)
              (digits_inside (digit_glyph false (byte / 16)) (digit_glyph false (byte % 16))
              (glyph_other (byte / 16) (omega arith)) (glyph_other (byte % 16) (omega arith)))
        ]
      ]
    ]

pub spelled_inside : (text : List ℕ) → AllByRecursion (λ b. b < 256) text → IsInside (bytes_spelling text)
spelled_inside [] each = nothing_inside
spelled_inside (byte ∷ text) each =
    inside_both (byte_spelling byte) (bytes_spelling text) (byte_inside byte each.0) (spelled_inside text each.1)
