-- Texts and their spellings.
use Rattle.std.proofs.Common.{◌≡◌, ℕ, zero, suc, ◌-◌, ◌/◌, ◌%◌, ◌<◌, ◌≤◌, ◌≢◌, Bool, true, false, not, eqb, ne_eqb, leb-true, get_or, nat_eq, inl, inr, List, [], ◌∷◌, ◌++◌, length, take, drop, refl, sym, ◌∙◌, ap, subst, Option, Some, None, option_map, arith, length-append, take-append-drop, append_assoc, append-nil, take_at, drop_at, zero-le}
use Rattle.std.specs.Fmt.{digit_glyph}
use Rattle.std.specs.List.{AllByRecursion, starts_with, list_all}
use Rattle.std.specs.Cmp.Lexicographic.{bytes_decides}
use Rattle.std.proofs.lemmas.Bool.{cases_Bool, cases_lt, and_parts}
use Rattle.std.proofs.lemmas.Bool.Decides.{eqb_tells, nat_tests}
use Rattle.std.proofs.lemmas.List.{nil_from_length, take_all}
use Rattle.std.proofs.lemmas.Option.{cond_some, same_Some, none-some, option_and_then_some}
use Rattle.rd_base.specs.declared.spelling.TheConstants.{STANDING}
use Rattle.rd_base.proofs.TableLemmas.{agree, flag_of_byte}
use Rattle.rd_base.specs.Spelling.{is_plain, byte_spelling, bytes_spelling}
use Rattle.rd_base.specs.ReadingValues.{hex_value, first_byte, stands, next_of, inside_of}

-- a hexadecimal digit gives its value back
hex_back : (digit : ℕ) → digit < 16 → hex_value (digit_glyph false digit) ≡ digit
hex_back digit small = grind (arith, nat_tests)

hex_small : (byte : ℕ) → hex_value byte < 16
hex_small byte = grind (arith, nat_tests)

-- the spelling of a byte gives the byte back
first_found : (byte : ℕ) (after : List ℕ) → byte < 256 → first_byte (byte_spelling byte ++ after) ≡ byte
unfolding byte_spelling first_byte
first_found byte after small =
    elim (eqb_tells byte 34) [
      | inl quote ↦ rw quote.0 (sym quote.1)
      | inr no_quote ↦ elim (eqb_tells byte 92) [
        | inl slash ↦ rw (no_quote.0, slash.0) (sym slash.1)
        | inr no_slash ↦ elim (cases_Bool (is_plain byte)) [
          | inl plain ↦ rw (no_quote.0, no_slash.0, plain, no_slash.0) refl
          | inr special ↦
              let high = hex_back (byte / 16) (omega arith) in
              let low = hex_back (byte % 16) (omega arith) in
              rw (no_quote.0, no_slash.0, special, high, low) (omega arith)
        ]
      ]
    ]

-- the spelling of a byte has one byte or more, and four at most
pub byte_spelling_length : (byte : ℕ) → (0 < length (byte_spelling byte)) × (length (byte_spelling byte) ≤ 4)
unfolding byte_spelling
byte_spelling_length byte = (grind (arith, nat_tests), grind (arith, nat_tests))

next_found : (byte : ℕ) (after : List ℕ) → byte < 256 → next_of (byte_spelling byte ++ after) ≡ Some (byte, after)
unfolding next_of
next_found byte after small =
    rw (
      first_found byte after small,
      take_at (byte_spelling byte) after (length (byte_spelling byte)) refl,
      (bytes_decides (byte_spelling byte) (byte_spelling byte)).1 refl,
      drop_at (byte_spelling byte) after (length (byte_spelling byte)) refl,
    ) refl

-- a number that is no byte would be spelled by four bytes
large : (byte : ℕ) → 256 ≤ byte → byte_spelling byte ≡ 92 ∷ 120 ∷ digit_glyph false (byte / 16) ∷ digit_glyph false (byte % 16) ∷ []
unfolding byte_spelling
large byte big = grind (arith, nat_tests)

two_digits_small : (high low : ℕ) (after : List ℕ) → first_byte (92 ∷ 120 ∷ high ∷ low ∷ after) < 256
unfolding first_byte
two_digits_small high low after = omega (arith, hex_small high, hex_small low)

first_small : (bytes after : List ℕ) → byte_spelling (first_byte bytes) ++ after ≡ bytes → first_byte bytes < 256
first_small bytes after is =
    elim (cases_lt (first_byte bytes) 256) [
      | inl small ↦ small
      | inr big ↦
          let spelled = ap (λ spelled. spelled ++ after) (sym (large (first_byte bytes) big)) ∙ is in
          subst (λ all. first_byte all < 256) spelled (two_digits_small _ _ after)
    ]

pub next_said : (bytes : List ℕ) (byte : ℕ) (after : List ℕ) → next_of bytes ≡ Some (byte, after)
    → (byte < 256) × (byte_spelling byte ++ after ≡ bytes)
unfolding next_of
next_said bytes byte after found =
    let first = first_byte bytes in
    let rest = drop (length (byte_spelling first)) bytes in
    let parts = cond_some {A = ℕ × List ℕ} (starts_with nat_eq bytes (byte_spelling first)) (first, rest) (byte, after) found in
    let front = (bytes_decides (byte_spelling first) (take (length (byte_spelling first)) bytes)).0 parts.0 in
    let whole = ap (λ front. front ++ rest) front ∙ take-append-drop (length (byte_spelling first)) bytes in
    let same_byte : first ≡ byte = ap (λ (step : ℕ × List ℕ). step.0) parts.1 in
    let same_rest : rest ≡ after = ap (λ (step : ℕ × List ℕ). step.1) parts.1 in (
      subst (λ b. b < 256) same_byte (first_small bytes rest whole),
      subst (λ b. byte_spelling b ++ after ≡ bytes) same_byte (subst (λ x. byte_spelling first ++ x ≡ bytes) same_rest whole),
    )

-- a plain byte but `"` and `\` stands for itself
plain_spelling : (byte : ℕ) → is_plain byte ≡ true → byte ≢ 34 → byte ≢ 92 → byte_spelling byte ≡ byte ∷ []
unfolding byte_spelling
plain_spelling byte plain no_quote no_slash = rw (ne_eqb byte 34 no_quote, ne_eqb byte 92 no_slash, plain) refl

plain_is_small : (byte : ℕ) → is_plain byte ≡ true → byte < 256
plain_is_small byte plain = omega (arith, leb-true byte 126 (and_parts _ _ plain).1)

not_this : (byte other : ℕ) → not (eqb byte other) ≡ true → byte ≢ other
not_this byte other apart = λ same. grind (arith, nat_tests)

-- the table tells which bytes stand
standing_agrees : agree stands 0 STANDING ≡ true
unfolding agree
standing_agrees = refl

pub standing_at : (byte : ℕ) (default : Bool) → byte < 256 → get_or STANDING byte default ≡ stands byte
standing_at = flag_of_byte stands STANDING standing_agrees

-- a byte that stands is read in one step
next_standing : (byte : ℕ) (after : List ℕ) → stands byte ≡ true → next_of (byte ∷ after) ≡ Some (byte, after)
next_standing byte after standing =
    let parts = and_parts _ _ standing in
    let others = and_parts _ _ parts.1 in
    ap (λ spelled. next_of (spelled ++ after)) (sym (plain_spelling byte parts.0 (not_this byte 34 others.0) (not_this byte 92 others.1)))
    ∙ next_found byte after (plain_is_small byte parts.0)

-- the same of a list that begins so
pub next_of_standing : (bytes : List ℕ) → 1 ≤ length bytes → stands (get_or bytes 0 0) ≡ true
    → next_of bytes ≡ Some (get_or bytes 0 0, take (length bytes - 1) (drop 1 bytes))
next_of_standing [] some standing = absurd (omega arith)
next_of_standing (byte ∷ after) some standing =
    let rest : take (suc (length after) - 1) after ≡ after = take_all (suc (length after) - 1) after (omega arith) in
    next_standing byte after standing ∙ ap (λ others. Some (byte, others)) (sym rest)

-- one more byte of a text
next_inside : (room : ℕ) (bytes : List ℕ) (byte : ℕ) (after : List ℕ) → 0 < length bytes → next_of bytes ≡ Some (byte, after)
    → inside_of (suc room) bytes ≡ option_map (λ text. byte ∷ text) (inside_of room after)
unfolding inside_of
next_inside room [] byte after some next = absurd (omega arith)
next_inside room (b ∷ bytes) byte after some next = rw next refl

-- bytes that all stand for themselves are a text
standing_inside : (bytes : List ℕ) (room : ℕ) → length bytes ≤ room → list_all stands bytes ≡ true → inside_of room bytes ≡ Some bytes
unfolding inside_of
standing_inside [] room few all = refl
standing_inside (byte ∷ bytes) zero few all = absurd (omega arith)
standing_inside (byte ∷ bytes) (suc room) few all =
    let parts = and_parts _ _ all in
    next_inside room (byte ∷ bytes) byte bytes (omega arith) (next_standing byte bytes parts.0)
    ∙ ap (option_map (λ text. byte ∷ text)) (standing_inside bytes room (omega arith) parts.1)

pub inside_standing : (bytes : List ℕ) → length bytes ≤ 255 → list_all stands bytes ≡ true → inside_of 255 bytes ≡ Some bytes
inside_standing bytes few all = standing_inside bytes 255 few all

-- a text is found in its spelling
pub inside_found : (text : List ℕ) (room : ℕ) → length text ≤ room → AllByRecursion (λ b. b < 256) text
    → inside_of room (bytes_spelling text) ≡ Some text
unfolding inside_of
inside_found [] room few each = refl
inside_found (byte ∷ text) zero few each = absurd (omega arith)
inside_found (byte ∷ text) (suc room) few each =
    let some : 0 < length (byte_spelling byte ++ bytes_spelling text) = omega (arith, length-append (byte_spelling byte) (bytes_spelling text), (byte_spelling_length byte).0) in
    let short : length text ≤ room = omega arith in
    next_inside room (byte_spelling byte ++ bytes_spelling text) byte (bytes_spelling text) some (next_found byte (bytes_spelling text) each.0)
    ∙ ap (option_map (λ text. byte ∷ text)) (inside_found text room short each.1)

-- what a changed answer came from
pub option_map_some : {A B : Type 0} (f : A → B) (found : Option A) (y : B) → option_map f found ≡ Some y
    → (x : A) × (found ≡ Some x) × (f x ≡ y)
option_map_some f (Some x) y is = (x, refl, same_Some (f x) y is)
option_map_some f None y is = absurd (none-some y is)

-- and only there
pub inside_said : (room : ℕ) (bytes text : List ℕ) → inside_of room bytes ≡ Some text
    → (length text ≤ room) × AllByRecursion (λ b. b < 256) text × (bytes_spelling text ≡ bytes)
unfolding inside_of
inside_said room [] text found =
    subst (λ text. (length text ≤ room) × AllByRecursion (λ b. b < 256) text × (bytes_spelling text ≡ [])) (same_Some [] text found)
    (zero-le, tt, refl)
inside_said zero (b ∷ bytes) text found = absurd (none-some text found)
inside_said (suc room) (b ∷ bytes) text found =
    option_and_then_some _ (next_of (b ∷ bytes)) text found (λ step next more.
    let rest = option_map_some _ (inside_of room step.1) text more in
    let first = next_said (b ∷ bytes) step.0 step.1 next in
    let others = inside_said room step.1 rest.0 rest.1 in
    subst (λ text. (length text ≤ suc room) × AllByRecursion (λ b. b < 256) text × (bytes_spelling text ≡ b ∷ bytes)) rest.2
    (omega (arith, others.0), (first.0, others.1), ap (λ after. byte_spelling step.0 ++ after) others.2 ∙ first.1))

-- Steps of the loop that reads a text.
map_twice : (text : List ℕ) (byte : ℕ) (found : Option (List ℕ))
    → option_map (λ more. text ++ more) (option_map (λ more. byte ∷ more) found) ≡ option_map (λ more. (text ++ byte ∷ []) ++ more) found
map_twice text byte (Some more) = ap (λ all. Some all) (sym (append_assoc text (byte ∷ []) more))
map_twice text byte None = refl

pub inside_more : (bytes text rest after : List ℕ) (byte : ℕ)
    → inside_of 255 bytes ≡ option_map (λ more. text ++ more) (inside_of (255 - length text) rest)
    → length text < 255 → 0 < length rest → next_of rest ≡ Some (byte, after)
    → inside_of 255 bytes ≡ option_map (λ more. (text ++ byte ∷ []) ++ more) (inside_of (255 - length (text ++ byte ∷ [])) after)
inside_more bytes text rest after byte so_far room some next =
    let one_less : 255 - length text ≡ suc (255 - length (text ++ byte ∷ [])) = omega (arith, length-append text (byte ∷ [])) in
    so_far
    ∙ ap (λ room. option_map (λ more. text ++ more) (inside_of room rest)) one_less
    ∙ ap (option_map (λ more. text ++ more)) (next_inside _ rest byte after some next)
    ∙ map_twice text byte _

no_next : (room : ℕ) (bytes : List ℕ) → 0 < length bytes → next_of bytes ≡ None → inside_of room bytes ≡ None
unfolding inside_of
no_next room [] some none = absurd (omega arith)
no_next zero (b ∷ bytes) some none = refl
no_next (suc room) (b ∷ bytes) some none = rw none refl

-- a text goes no further where no byte is spelled
pub inside_stops : (bytes text rest : List ℕ)
    → inside_of 255 bytes ≡ option_map (λ more. text ++ more) (inside_of (255 - length text) rest)
    → 0 < length rest → next_of rest ≡ None → None ≡ inside_of 255 bytes
inside_stops bytes text rest so_far some none =
    sym (so_far ∙ ap (option_map (λ more. text ++ more)) (no_next (255 - length text) rest some none))

no_room : (bytes : List ℕ) → 0 < length bytes → inside_of 0 bytes ≡ None
unfolding inside_of
no_room [] some = absurd (omega arith)
no_room (b ∷ bytes) some = refl

-- a text has no 256th byte
pub inside_full : (bytes text rest : List ℕ)
    → inside_of 255 bytes ≡ option_map (λ more. text ++ more) (inside_of (255 - length text) rest)
    → 0 < length rest → length text ≡ 255 → None ≡ inside_of 255 bytes
inside_full bytes text rest so_far some full =
    let none : 255 - length text ≡ 0 = omega arith in
    sym (so_far ∙ ap (λ room. option_map (λ more. text ++ more) (inside_of room rest)) none
    ∙ ap (option_map (λ more. text ++ more)) (no_room rest some))

nothing_inside : (room : ℕ) → inside_of room [] ≡ Some []
unfolding inside_of
nothing_inside room = refl

-- the text at the end of its spelling
pub inside_ends : (bytes text rest : List ℕ)
    → inside_of 255 bytes ≡ option_map (λ more. text ++ more) (inside_of (255 - length text) rest)
    → length rest ≡ 0 → Some text ≡ inside_of 255 bytes
inside_ends bytes text rest so_far end =
    let none : rest ≡ [] = nil_from_length rest end in
    sym (so_far ∙ ap (λ rest. option_map (λ more. text ++ more) (inside_of (255 - length text) rest)) none
    ∙ ap (option_map (λ more. text ++ more)) (nothing_inside (255 - length text)) ∙ ap (λ all. Some all) (append-nil text))

-- a text of bytes that stand is spelled as it is
pub own_spelling : (bytes : List ℕ) → list_all stands bytes ≡ true → bytes_spelling bytes ≡ bytes
own_spelling [] standing = refl
own_spelling (byte ∷ bytes) standing =
    let parts = and_parts _ _ standing in
    let first = and_parts _ _ parts.0 in
    let others = and_parts _ _ first.1 in
    rw (plain_spelling byte first.0 (not_this byte 34 others.0) (not_this byte 92 others.1), own_spelling bytes parts.1) refl
