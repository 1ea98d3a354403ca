-- Where a value ends: at the first space outside its quotes.
use Rattle.std.proofs.Common.{◌≡◌, ℕ, suc, ◌+◌, ◌/◌, ◌%◌, ◌<◌, ◌≤◌, ◌^◌, true, false, ◌≢◌, List, [], ◌∷◌, ◌++◌, length, take, drop, get_or, refl, sym, ◌∙◌, ap, pos, negsuc, codes, decimal, arith, append_assoc, length-append, length-drop, add-one, eqb-true, ne_eqb, inl, inr, take_at, take_all, ◌-◌}
use Rattle.std.specs.Fmt.{digit_glyph}
use Rattle.std.specs.List.{AllByRecursion}
use Rattle.std.specs.Str.Parse.{AllDigits}
use Rattle.std.proofs.Math.Seq.{drop-append-add}
use Rattle.std.proofs.lemmas.Bool.{cases_Bool}
use Rattle.std.proofs.lemmas.Bool.Decides.{eqb_tells, nat_tests}
use Rattle.std.proofs.lemmas.Fmt.{decimal_is_IsNumeral}
use Rattle.std.proofs.lemmas.List.{at_drop_all, drop_more}
use Rattle.std.proofs.lemmas.Str.Parse.{digit_from_value}
use Rattle.rd_base.specs.declared.values.Value.{Value}
use Rattle.rd_base.specs.declared.values.Value.TheVariants.{Nil, Bool as Truth, Int, Text}
use Rattle.rd_base.specs.Spelling.{byte_spelling, is_plain, bytes_spelling, value_spelling, IsValue}
use Rattle.rd_base.proofs.FoundLemmas.{each_by_recursion}
use Rattle.rd_event.specs.declared.slots.Place.{Place}
use Rattle.rd_event.specs.declared.slots.Place.TheVariants.{Outside, Quoted, Escaped}
use Rattle.rd_event.specs.ReadingSlots.{ends_value, next_place, value_length, first_value, other_values}

-- Steps of the loop that looks for the end.
pub ends_here : (place : Place) (bytes : List ℕ) (index : ℕ) → index < length bytes → ends_value place (get_or bytes index 0) ≡ true
    → value_length place (drop index bytes) ≡ 0
unfolding value_length
ends_here place bytes index within here = rw (drop_more bytes index 0 within, here) refl

pub goes_on : (place : Place) (bytes : List ℕ) (index : ℕ) → index < length bytes → ends_value place (get_or bytes index 0) ≡ false
    → value_length place (drop index bytes) ≡ suc (value_length (next_place place (get_or bytes index 0)) (drop (index + 1) bytes))
unfolding value_length
goes_on place bytes index within on = rw (drop_more bytes index 0 within, on) refl

pub ends_behind : (place : Place) (bytes : List ℕ) (index : ℕ) → length bytes ≤ index → value_length place (drop index bytes) ≡ 0
unfolding value_length
ends_behind place bytes index behind = at_drop_all (value_length place) bytes index behind

-- the same outside quotes and between them, by the byte that stands there
pub at_space : (bytes : List ℕ) (index : ℕ) → index < length bytes → get_or bytes index 0 ≡ 32 → value_length Outside (drop index bytes) ≡ 0
at_space bytes index within here = ends_here Outside bytes index within (rw here refl)

pub at_quote : (bytes : List ℕ) (index : ℕ) → index < length bytes → get_or bytes index 0 ≡ 34
    → value_length Outside (drop index bytes) ≡ suc (value_length Quoted (drop (index + 1) bytes))
at_quote bytes index within here =
    goes_on Outside bytes index within (rw here refl) ∙ ap (λ place. suc (value_length place (drop (index + 1) bytes))) (rw here refl)

pub at_other : (bytes : List ℕ) (index : ℕ) → index < length bytes → get_or bytes index 0 ≢ 32 → get_or bytes index 0 ≢ 34
    → value_length Outside (drop index bytes) ≡ suc (value_length Outside (drop (index + 1) bytes))
at_other bytes index within no_space no_quote =
    goes_on Outside bytes index within (ne_eqb _ 32 no_space)
    ∙ ap (λ place. suc (value_length place (drop (index + 1) bytes))) (rw (ne_eqb _ 34 no_quote) refl)

pub at_closing : (bytes : List ℕ) (index : ℕ) → index < length bytes → get_or bytes index 0 ≡ 34
    → value_length Quoted (drop index bytes) ≡ suc (value_length Outside (drop (index + 1) bytes))
at_closing bytes index within here =
    goes_on Quoted bytes index within refl ∙ ap (λ place. suc (value_length place (drop (index + 1) bytes))) (rw here refl)

pub at_inner : (bytes : List ℕ) (index : ℕ) → index < length bytes → get_or bytes index 0 ≢ 34 → get_or bytes index 0 ≢ 92
    → value_length Quoted (drop index bytes) ≡ suc (value_length Quoted (drop (index + 1) bytes))
at_inner bytes index within no_quote no_escape =
    goes_on Quoted bytes index within refl
    ∙ ap (λ place. suc (value_length place (drop (index + 1) bytes))) (rw (ne_eqb _ 34 no_quote, ne_eqb _ 92 no_escape) refl)

-- what stands behind a place is all that is taken there
pub quoted_behind : (bytes : List ℕ) (place : ℕ) → value_length Quoted (take (length bytes - place) (drop place bytes)) ≡ value_length Quoted (drop place bytes)
quoted_behind bytes place = ap (value_length Quoted) (take_all (length bytes - place) (drop place bytes) (omega (arith, length-drop place bytes)))

-- only a space ends a value
space_ends : (place : Place) (byte : ℕ) → ends_value place byte ≡ true → byte ≡ 32
space_ends Outside byte here = eqb-true byte 32 here
space_ends Quoted byte here = cc
space_ends Escaped byte here = cc

-- bytes are what stands before the space, the space, and what stands behind it
cut_back : (place : Place) (bytes : List ℕ) → value_length place bytes < length bytes
    → take (value_length place bytes) bytes ++ 32 ∷ drop (suc (value_length place bytes)) bytes ≡ bytes
unfolding value_length
cut_back place [] within = absurd (omega arith)
cut_back place (byte ∷ bytes) within = elim (cases_Bool (ends_value place byte)) [
  | inl here ↦ rw here (ap (λ b. b ∷ bytes) (sym (space_ends place byte here)))
  | inr on ↦
      let more : value_length (next_place place byte) bytes < length bytes = (let all = rw on at within in omega arith) in
      rw on (ap (λ xs. byte ∷ xs) (cut_back (next_place place byte) bytes more))
]

pub values_joined : (bytes : List ℕ) → 0 < length (other_values bytes) → bytes ≡ first_value bytes ++ 32 ∷ other_values bytes
values_joined bytes some =
    let within : value_length Outside bytes < length bytes = omega (arith, length-drop (value_length Outside bytes + 1) bytes) in
    rw add-one (sym (cut_back Outside bytes within))

-- from a place a word leads to a place, and no value ends in it
abbrev Through : Place → List ℕ → Place → Type 0
Through p word q = (rest : List ℕ) → value_length p (word ++ rest) ≡ length word + value_length q rest

through_none : (p : Place) → Through p [] p
through_none p rest = omega arith

through_byte : (p q : Place) (byte : ℕ) (word : List ℕ) → ends_value p byte ≡ false → Through (next_place p byte) word q → Through p (byte ∷ word) q
unfolding value_length
through_byte p q byte word on through rest = rw on (ap suc (through rest) ∙ omega arith)

through_both : (p q r : Place) (word more : List ℕ) → Through p word q → Through q more r → Through p (word ++ more) r
through_both p q r word more first second rest =
    ap (value_length p) (append_assoc word more rest) ∙ first (more ++ rest)
    ∙ ap (λ n. length word + n) (second rest) ∙ omega (arith, length-append word more)

-- a byte that is neither a space nor a quote
through_other : (byte : ℕ) (word : List ℕ) → byte ≢ 32 → byte ≢ 34 → Through Outside word Outside → Through Outside (byte ∷ word) Outside
through_other byte word no_space no_quote through =
    through_byte Outside Outside byte word (ne_eqb byte 32 no_space) (rw (ne_eqb byte 34 no_quote) through)

through_digits : (digits : List ℕ) → AllDigits 10 digits → Through Outside digits Outside
through_digits [] all = through_none Outside
through_digits (digit ∷ digits) all =
    let range = digit_from_value digit all.0 in
    through_other digit digits (λ e. absurd (omega arith)) (λ e. absurd (omega arith)) (through_digits digits all.1)

through_decimal : (n : ℕ) → n < 2 ^ 64 → Through Outside (decimal n) Outside
through_decimal n small = through_digits (decimal n) (decimal_is_IsNumeral n small).0.1

-- the spelling of a byte of a text
inside_byte : (byte : ℕ) (word : List ℕ) → byte ≢ 34 → byte ≢ 92 → Through Quoted word Quoted → Through Quoted (byte ∷ word) Quoted
inside_byte byte word no_quote no_slash through =
    through_byte Quoted Quoted byte word refl (rw (ne_eqb byte 34 no_quote, ne_eqb byte 92 no_slash) through)

escaped_byte : (byte : ℕ) (word : List ℕ) → Through Quoted word Quoted → Through Quoted (92 ∷ byte ∷ word) Quoted
escaped_byte byte word through =
    through_byte Quoted Quoted 92 (byte ∷ word) refl (through_byte Escaped Quoted byte word refl through)

glyph_other : (digit : ℕ) → digit < 16 → (digit_glyph false digit ≢ 34) × (digit_glyph false digit ≢ 92)
glyph_other digit small = (grind (arith, nat_tests), grind (arith, nat_tests))

through_digits_of : (high low : ℕ) → (high ≢ 34) × (high ≢ 92) → (low ≢ 34) × (low ≢ 92)
    → Through Quoted (92 ∷ 120 ∷ high ∷ low ∷ []) Quoted
through_digits_of high low highs lows =
    escaped_byte 120 (high ∷ low ∷ [])
    (inside_byte high (low ∷ []) highs.0 highs.1 (inside_byte low [] lows.0 lows.1 (through_none Quoted)))

through_escaped : (byte : ℕ) → byte < 256 → Through Quoted (byte_spelling byte) Quoted
unfolding byte_spelling
through_escaped byte small =
    let none = through_none Quoted in
    elim (eqb_tells byte 34) [
      | inl quote ↦ rw quote.0 (escaped_byte 34 [] none)
      | inr no_quote ↦ elim (eqb_tells byte 92) [
        | inl slash ↦ rw (no_quote.0, slash.0) (escaped_byte 92 [] none)
        | inr no_slash ↦ elim (cases_Bool (is_plain byte)) [
          | inl plain ↦ rw (no_quote.0, no_slash.0, plain) (inside_byte byte [] no_quote.1 no_slash.1 none)
          | inr special ↦
              rw (no_quote.0, no_slash.0, special)
              (through_digits_of (digit_glyph false (byte / 16)) (digit_glyph false (byte % 16))
              (glyph_other (byte / 16) (omega arith)) (glyph_other (byte % 16) (omega arith)))
        ]
      ]
    ]

through_inside : (text : List ℕ) → AllByRecursion (λ b. b < 256) text → Through Quoted (bytes_spelling text) Quoted
through_inside [] each = through_none Quoted
through_inside (byte ∷ text) each =
    through_both Quoted Quoted Quoted (byte_spelling byte) (bytes_spelling text) (through_escaped byte each.0) (through_inside text each.1)

-- no value ends inside the spelling of one
pub through_value : (value : Value) → IsValue value → Through Outside (value_spelling value) Outside
unfolding value_length
through_value Nil range = λ rest. omega arith
through_value (Truth true) range = λ rest. omega arith
through_value (Truth false) range = λ rest. omega arith
through_value (Int (pos n)) range = through_decimal n (omega (arith, range.sfits))
through_value (Int (negsuc n)) range =
    through_other 45 (decimal (suc n)) (omega arith) (omega arith) (through_decimal (suc n) (omega (arith, range.sfits)))
through_value (Text text) range =
    through_byte Outside Outside 34 (bytes_spelling text ++ 34 ∷ []) refl
    (through_both Quoted Quoted Outside (bytes_spelling text) (34 ∷ []) (through_inside text (each_by_recursion _ text range.each))
    (through_byte Quoted Outside 34 [] refl (through_none Outside)))

-- a value before a space ends there
ends_at_space : (value : Value) (rest : List ℕ) → IsValue value
    → value_length Outside (value_spelling value ++ 32 ∷ rest) ≡ length (value_spelling value)
unfolding value_length
ends_at_space value rest range = through_value value range (32 ∷ rest) ∙ omega arith

pub value_before : (value : Value) (rest : List ℕ) → IsValue value → first_value (value_spelling value ++ 32 ∷ rest) ≡ value_spelling value
value_before value rest range = rw (ends_at_space value rest range) (take_at (value_spelling value) (32 ∷ rest) _ refl)

pub value_behind : (value : Value) (rest : List ℕ) → IsValue value → other_values (value_spelling value ++ 32 ∷ rest) ≡ rest
value_behind value rest range = rw (ends_at_space value rest range) (drop-append-add (value_spelling value) (32 ∷ rest) 1)

-- so does an arrow
pub arrow_before : (rest : List ℕ) → first_value (45 ∷ 62 ∷ 32 ∷ rest) ≡ codes "->"
unfolding value_length
arrow_before rest = refl

pub arrow_behind : (rest : List ℕ) → other_values (45 ∷ 62 ∷ 32 ∷ rest) ≡ rest
unfolding value_length
arrow_behind rest = refl
