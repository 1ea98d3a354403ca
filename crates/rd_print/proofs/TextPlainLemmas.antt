-- The text of sound words has visible bytes and spaces alone.
use Rattle.std.proofs.Common.{◌≡◌, ℕ, ◌<◌, ◌/◌, ◌%◌, true, false, refl, List, [], ◌∷◌, ◌++◌, codes, sym, subst, arith, inl, inr}
use Rattle.std.specs.Prelude.{All}
use Rattle.std.specs.Fmt.{digit_glyph}
use Rattle.std.specs.List.{AllByRecursion, AllPass}
use Rattle.std.proofs.lemmas.Bool.{cases_Bool}
use Rattle.std.proofs.lemmas.Bool.Decides.{eqb_tells, nat_tests}
use Rattle.std.proofs.lemmas.List.Elements.{All-weaker}
use Rattle.rd_base.specs.Spelling.{byte_spelling, bytes_spelling, is_plain}
use Rattle.rd_base.proofs.FoundLemmas.{each_by_recursion, each_from_recursion}
use Rattle.rd_print.specs.declared.canonical.word_list.PrintedWord.{PrintedWord}
use Rattle.rd_tokens.specs.declared.sorts.Sort.{Sort}
use Rattle.rd_tokens.specs.declared.sorts.Sort.TheVariants.{Open, Close, Word as Plain, Text, Wrong}
use Rattle.rd_tokens.specs.Tokens.{SpellsText, is_word_byte}
use Rattle.rd_print.specs.Text.{IsRightToken, IsRightWord, gap, words_text}
use Rattle.rd_print.proofs.TextJoinLemmas.{first_word, text_behind, whole_text}

abbrev ArePlain : List ℕ → Type 0
ArePlain bytes = AllByRecursion (λ b. is_plain b ≡ true) bytes

plain_both : (bytes more : List ℕ) → ArePlain bytes → ArePlain more → ArePlain (bytes ++ more)
plain_both [] more here there = there
plain_both (b ∷ bytes) more here there = (here.0, plain_both bytes more here.1 there)

-- texts
glyph_plain : (digit : ℕ) → digit < 16 → is_plain (digit_glyph false digit) ≡ true
glyph_plain digit small = grind (arith, nat_tests)

byte_plain : (byte : ℕ) → byte < 256 → ArePlain (byte_spelling byte)
unfolding byte_spelling
byte_plain byte small =
    elim (eqb_tells byte 34) [
      | inl quote ↦ rw quote.0 (refl, (refl, tt))
      | inr no_quote ↦ elim (eqb_tells byte 92) [
        | inl slash ↦ rw (no_quote.0, slash.0) (refl, (refl, tt))
        | inr no_slash ↦ elim (cases_Bool (is_plain byte)) [
          | inl plain ↦ rw (no_quote.0, no_slash.0, plain) (plain, tt)
          | inr special ↦
              rw (no_quote.0, no_slash.0, special)
              (refl, (refl, (glyph_plain (byte / 16) (omega arith), (glyph_plain (byte % 16) (omega arith), tt))))
        ]
      ]
    ]

inside_plain : (text : List ℕ) → AllByRecursion (λ b. b < 256) text → ArePlain (bytes_spelling text)
inside_plain [] each = tt
inside_plain (byte ∷ text) each = plain_both (byte_spelling byte) (bytes_spelling text) (byte_plain byte each.0) (inside_plain text each.1)

text_plain : (bytes : List ℕ) → SpellsText bytes → ArePlain bytes
text_plain bytes (text, is, spelled) =
    subst ArePlain (sym spelled)
    (refl, plain_both (bytes_spelling text) (codes "\"") (inside_plain text (each_by_recursion (λ b. b < 256) text is.each)) (refl, tt))

-- words
byte_of_word : (b : ℕ) → is_word_byte b ≡ true → is_plain b ≡ true
byte_of_word b is = grind (arith, nat_tests)

right_plain : (sort : Sort) (bytes : List ℕ) → IsRightToken sort bytes → ArePlain bytes
right_plain Open bytes right = subst ArePlain (sym right) (refl, tt)
right_plain Close bytes right = subst ArePlain (sym right) (refl, tt)
right_plain Plain bytes right = each_by_recursion (λ b. is_plain b ≡ true) bytes (All-weaker _ _ byte_of_word bytes right.1)
right_plain Text bytes right = text_plain bytes right
right_plain Wrong bytes right = absurd right

gap_plain : (first second : Sort) → ArePlain (gap first second)
gap_plain Open second = tt
gap_plain first Close = tt
gap_plain first second = (refl, tt)

behind_plain : (sort : Sort) (words : List PrintedWord) → AllByRecursion IsRightWord words → ArePlain (text_behind sort words)
behind_plain sort [] each = tt
behind_plain sort (w ∷ words) each =
    plain_both (gap sort w.sort) (words_text (w ∷ words)) (gap_plain sort w.sort)
    (subst ArePlain (sym (first_word w words))
    (plain_both w.bytes (text_behind w.sort words) (right_plain w.sort w.bytes each.0) (behind_plain w.sort words each.1)))

pub words_plain : (words : List PrintedWord) → All IsRightWord words → AllPass is_plain (words_text words)
words_plain words each =
    each_from_recursion (λ b. is_plain b ≡ true) (words_text words)
    (subst ArePlain (whole_text words) (behind_plain Open words (each_by_recursion IsRightWord words each)))
