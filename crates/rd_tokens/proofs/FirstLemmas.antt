-- The first token of bytes.
use Rattle.std.proofs.Common.{◌≡◌, ◌≢◌, ℕ, suc, ◌<◌, ◌≤◌, Bool, true, false, List, [], ◌∷◌, ◌++◌, length, take, drop, get_or, refl, sym, ◌∙◌, ap, subst, arith, ne_eqb, is_some, cond, inl, inr, append_assoc, append-nil, length-append, take-append-drop}
use Rattle.std.specs.List.{AllByRecursion, AllPass, prefix_len}
use Rattle.std.proofs.lemmas.Bool.{cases_Bool, cases_lt}
use Rattle.std.proofs.lemmas.Bool.Decides.{eqb_tells, nat_tests}
use Rattle.std.proofs.lemmas.List.{at_drop_all, drop_more, length-take-le, get_or-take}
use Rattle.std.proofs.lemmas.List.Sums.{prefix_len-le-length, prefix_len_passes, prefix_len_stops}
use Rattle.rd_base.specs.Spelling.{is_plain, bytes_spelling}
use Rattle.rd_base.specs.ReadingValues.{value_of}
use Rattle.rd_base.proofs.FoundLemmas.{each_by_recursion}
use Rattle.rd_tokens.specs.declared.sorts.Sort.{Sort}
use Rattle.rd_tokens.specs.declared.sorts.Sort.TheVariants.{Open, Close, Word, Text, Wrong}
use Rattle.rd_tokens.specs.Tokens.{is_word_byte, EndsWord, IsInside, in_quotes, HasNoEnd, SpellsText, IsWrong, IsToken}
use Rattle.rd_tokens.specs.Tokens.IsWrong.{wrong_byte, wrong_text, no_end}
use Rattle.rd_tokens.specs.ReadingTokens.{inside_length, first_length, sort_of}
use Rattle.rd_tokens.proofs.InsideLemmas.{inside_found, inside_said}
use Rattle.rd_tokens.proofs.TextLemmas.{text_told, text_found, text_inside}

-- what a token is found to be
pub record Found (sort : Sort) (bytes behind : List ℕ) : Type 0 where
  pub some : 0 < length bytes
  pub other : get_or (bytes ++ behind) 0 0 ≢ 32
  pub long : first_length (bytes ++ behind) ≡ length bytes
  pub is : sort_of bytes ≡ sort

open_found : (behind : List ℕ) → Found Open (40 ∷ []) behind
unfolding first_length sort_of
open_found behind = record { some = omega arith; other = λ same. omega (arith, same); long = refl; is = refl }

close_found : (behind : List ℕ) → Found Close (41 ∷ []) behind
unfolding first_length sort_of
close_found behind = record { some = omega arith; other = λ same. omega (arith, same); long = refl; is = refl }

-- a byte of a word is none of the others, and a byte that isn't plain neither
other_than_word : (b c : ℕ) → is_word_byte b ≡ true → is_word_byte c ≡ false → b ≢ c
other_than_word b c word other same =
    let both : ◌≡◌ {A = Bool} true false = sym word ∙ ap is_word_byte same ∙ other in cc

other_than_plain : (b c : ℕ) → is_plain b ≡ false → is_plain c ≡ true → b ≢ c
other_than_plain b c special plain same =
    let both : ◌≡◌ {A = Bool} false true = sym special ∙ ap is_plain same ∙ plain in cc

special_no_word : (b : ℕ) → is_plain b ≡ false → is_word_byte b ≡ false
special_no_word b special = grind (arith, nat_tests)

special_left : (b : ℕ) → is_word_byte b ≡ false → b ≢ 32 → b ≢ 34 → b ≢ 40 → b ≢ 41 → is_plain b ≡ false
special_left b word space quote opens closes = grind (arith, nat_tests)

byte_found : (b : ℕ) (behind : List ℕ) → is_plain b ≡ false → Found Wrong (b ∷ []) behind
unfolding first_length sort_of
byte_found b behind special =
    let quote = ne_eqb b 34 (other_than_plain b 34 special refl) in
    let opens = ne_eqb b 40 (other_than_plain b 40 special refl) in
    let closes = ne_eqb b 41 (other_than_plain b 41 special refl) in
    let word = special_no_word b special in
    record {
      some = omega arith;
      other = other_than_plain b 32 special refl;
      long = rw (word, quote) refl;
      is = rw (word, opens, closes, quote) refl;
    }

-- a word goes to the first other byte
prefix_found : (bytes behind : List ℕ) → AllByRecursion (λ b. is_word_byte b ≡ true) bytes → EndsWord behind
    → prefix_len is_word_byte (bytes ++ behind) ≡ length bytes
prefix_found [] [] each ends = refl
prefix_found [] (b ∷ behind) each ends = rw ends refl
prefix_found (b ∷ bytes) behind each ends = rw each.0 (omega (arith, prefix_found bytes behind each.1 ends))

word_found : (bytes behind : List ℕ) → 0 < length bytes → AllByRecursion (λ b. is_word_byte b ≡ true) bytes → EndsWord behind
    → Found Word bytes behind
unfolding first_length sort_of
word_found [] behind some each ends = absurd (omega arith)
word_found (b ∷ bytes) behind some each ends =
    let quote = ne_eqb b 34 (other_than_word b 34 each.0 refl) in
    let opens = ne_eqb b 40 (other_than_word b 40 each.0 refl) in
    let closes = ne_eqb b 41 (other_than_word b 41 each.0 refl) in
    record {
      some = some;
      other = other_than_word b 32 each.0 refl;
      long = rw (each.0, quote) (omega (arith, prefix_found bytes behind each.1 ends));
      is = rw (each.0, opens, closes, quote) refl;
    }

-- what is quoted goes to the quote that ends it
quoted_found : (sort : Sort) (inside behind : List ℕ) → IsInside inside → sort_of (in_quotes inside) ≡ sort → Found sort (in_quotes inside) behind
unfolding first_length
quoted_found sort inside behind there is =
    record {
      some = omega arith;
      other = λ same. omega (arith, same);
      long =
          rw (append_assoc inside (34 ∷ []) behind, inside_found inside behind there)
          (omega (arith, length-append inside (34 ∷ behind), length-append inside (34 ∷ [])));
      is = is;
    }

sort_of_quoted : (bytes : List ℕ) → sort_of (34 ∷ bytes) ≡ cond (is_some (value_of (34 ∷ bytes))) Text Wrong
unfolding sort_of
sort_of_quoted bytes = refl

text_sort : (text : List ℕ) → is_some (value_of (in_quotes (bytes_spelling text))) ≡ true → sort_of (in_quotes (bytes_spelling text)) ≡ Text
text_sort text found = sort_of_quoted (bytes_spelling text ++ 34 ∷ []) ∙ ap (λ test. cond test Text Wrong) found

wrong_sort : (bytes : List ℕ) → ¬ (SpellsText (34 ∷ bytes)) → sort_of (34 ∷ bytes) ≡ Wrong
wrong_sort bytes other = elim (text_told bytes) [
  | inl text ↦ absurd (other text.1)
  | inr wrong ↦ sort_of_quoted bytes ∙ ap (λ test. cond test Text Wrong) wrong.0
]

-- a quote without an end takes all bytes
all_inside : (bytes : List ℕ) → HasNoEnd bytes → length bytes ≤ inside_length false bytes
all_inside bytes unended = elim (cases_lt (inside_length false bytes) (length bytes)) [
  | inl within ↦ let said = inside_said bytes within in absurd (unended _ _ said.0 said.1)
  | inr all ↦ all
]

no_text : (bytes : List ℕ) → HasNoEnd bytes → ¬ (SpellsText (34 ∷ bytes))
no_text bytes unended spelled =
    unended (bytes_spelling spelled.0) [] (text_inside spelled.0 spelled.1) (ap (λ (xs : List ℕ). drop 1 xs) spelled.2)

no_end_found : (bytes : List ℕ) → HasNoEnd bytes → Found Wrong (34 ∷ bytes) []
unfolding first_length
no_end_found bytes unended =
    record {
      some = omega arith;
      other = λ same. omega (arith, same);
      long = rw (append-nil bytes) (omega (arith, all_inside bytes unended));
      is = wrong_sort bytes (no_text bytes unended);
    }

wrong_found : (bytes behind : List ℕ) → IsWrong bytes behind → Found Wrong bytes behind
wrong_found _ _ (wrong_byte {b = b} {behind = behind} special) = byte_found b behind special
wrong_found _ _ (wrong_text inside {behind = behind} there other) =
    quoted_found Wrong inside behind there (wrong_sort (inside ++ 34 ∷ []) other)
wrong_found _ _ (no_end {bytes = bytes} unended) = no_end_found bytes unended

pub token_found : (sort : Sort) (bytes behind : List ℕ) → IsToken sort bytes behind → Found sort bytes behind
token_found Open bytes behind is = subst (λ bytes. Found Open bytes behind) (sym is) (open_found behind)
token_found Close bytes behind is = subst (λ bytes. Found Close bytes behind) (sym is) (close_found behind)
token_found Word bytes behind is = word_found bytes behind is.0 (each_by_recursion _ bytes is.1) is.2
token_found Text bytes behind is =
    let text = is.0 in
    subst (λ bytes. Found Text bytes behind) (sym is.2)
    (quoted_found Text (bytes_spelling text) behind (text_inside text is.1) (text_sort text (text_found text is.1)))
token_found Wrong bytes behind is = wrong_found bytes behind is

-- bytes that begin with no space are a token and what is behind it
pub record First (line : List ℕ) : Type 0 where
  pub sort : Sort
  pub bytes : List ℕ
  pub behind : List ℕ
  pub whole : line ≡ bytes ++ behind
  pub is : IsToken sort bytes behind

word_ends : (bytes : List ℕ) → EndsWord (drop (prefix_len is_word_byte bytes) bytes)
word_ends bytes =
    let n = prefix_len is_word_byte bytes in
    elim (cases_lt n (length bytes)) [
      | inl within ↦ rw (drop_more bytes n 0 within) (prefix_len_stops is_word_byte bytes 0 within)
      | inr all ↦ subst EndsWord (sym (at_drop_all (λ (xs : List ℕ). xs) bytes n all)) tt
    ]

word_passes : (bytes : List ℕ) → AllPass is_word_byte (take (prefix_len is_word_byte bytes) bytes)
word_passes bytes k d within =
    let long = length-take-le (prefix_len is_word_byte bytes) bytes (prefix_len-le-length is_word_byte bytes) in
    let passes = prefix_len_passes is_word_byte bytes k d (omega (arith, long)) in
    grind (arith, passes, get_or-take)

first_word : (b : ℕ) (bytes : List ℕ) → is_word_byte b ≡ true → First (b ∷ bytes)
first_word b bytes word =
    let n = prefix_len is_word_byte (b ∷ bytes) in
    let most = prefix_len-le-length is_word_byte (b ∷ bytes) in
    let long = length-take-le n (b ∷ bytes) most in
    let some : 0 < n = rw word (omega arith) in
    record {
      sort = Word;
      bytes = take n (b ∷ bytes);
      behind = drop n (b ∷ bytes);
      whole = sym (take-append-drop n (b ∷ bytes));
      is = (omega (arith, long, some), word_passes (b ∷ bytes), word_ends (b ∷ bytes));
    }

first_closed : (inside behind : List ℕ) → IsInside inside → First (in_quotes inside ++ behind)
first_closed inside behind there = elim (text_told (inside ++ 34 ∷ [])) [
  | inl text ↦ record { sort = Text; bytes = in_quotes inside; behind = behind; whole = refl; is = text.1 }
  | inr wrong ↦ record { sort = Wrong; bytes = in_quotes inside; behind = behind; whole = refl; is = wrong_text inside there wrong.1 }
]

first_unended : (bytes : List ℕ) → length bytes ≤ inside_length false bytes → HasNoEnd bytes
first_unended bytes all inside behind there same =
    let found : inside_length false bytes ≡ length inside = ap (inside_length false) same ∙ inside_found inside behind there in
    omega (arith, found, ap length same, length-append inside (34 ∷ behind))

first_quote : (bytes : List ℕ) → First (34 ∷ bytes)
first_quote bytes = elim (cases_lt (inside_length false bytes) (length bytes)) [
  | inl within ↦
      let said = inside_said bytes within in
      let inside = take (inside_length false bytes) bytes in
      let behind = drop (suc (inside_length false bytes)) bytes in
      let whole : 34 ∷ bytes ≡ in_quotes inside ++ behind = ap (λ xs. 34 ∷ xs) (said.1 ∙ sym (append_assoc inside (34 ∷ []) behind)) in
      subst First (sym whole) (first_closed inside behind said.0)
  | inr all ↦ record {
    sort = Wrong;
    bytes = 34 ∷ bytes;
    behind = [];
    whole = sym (append-nil (34 ∷ bytes));
    is = no_end (first_unended bytes all);
  }
]

pub first_token : (line : List ℕ) → 0 < length line → get_or line 0 0 ≢ 32 → First line
first_token [] some other = absurd (omega arith)
first_token (b ∷ bytes) some other =
    elim (eqb_tells b 40) [
      | inl opens ↦ record { sort = Open; bytes = b ∷ []; behind = bytes; whole = refl; is = ap (λ b. b ∷ []) opens.1 }
      | inr no_open ↦ elim (eqb_tells b 41) [
        | inl closes ↦ record { sort = Close; bytes = b ∷ []; behind = bytes; whole = refl; is = ap (λ b. b ∷ []) closes.1 }
        | inr no_close ↦ elim (eqb_tells b 34) [
          | inl quote ↦ subst (λ b. First (b ∷ bytes)) (sym quote.1) (first_quote bytes)
          | inr no_quote ↦ elim (cases_Bool (is_word_byte b)) [
            | inl word ↦ first_word b bytes word
            | inr no_word ↦
                let special = special_left b no_word other no_quote.1 no_open.1 no_close.1 in
                record { sort = Wrong; bytes = b ∷ []; behind = bytes; whole = refl; is = wrong_byte special }
          ]
        ]
      ]
    ]
