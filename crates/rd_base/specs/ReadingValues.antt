-- The value that bytes spell, computed: this project's profile.
use Rattle.std.specs.Prelude.{ℕ, zero, suc, ◌+◌, ◌-◌, ◌*◌, ◌^◌, ◌==◌, ◌&&◌, Bool, true, false, not, nat_eq, nat_lt, nat_le, if◌then◌else◌, List, [], ◌∷◌, length, drop, slice_index, slice_range, codes, ℤ, pos, negsuc, Option, Some, None}
use Rattle.std.specs.Fmt.{signed_decimal}
use Rattle.std.specs.List.{starts_with}
use Rattle.std.specs.Option.{option_map, option_and_then}
use Rattle.std.specs.Str.{bytes_eq}
use Rattle.std.specs.Str.Parse.{signed_digits_value}
use Rattle.rd_base.specs.declared.values.Value.{Value}
use Rattle.rd_base.specs.declared.values.Value.TheVariants.{Nil, Bool as Truth, Int, Text}
use Rattle.rd_base.specs.Spelling.{is_plain, byte_spelling}
use Rattle.rd_base.specs.Bytes.{quote, backslash, letter_x}

-- a number of 64 bits with a sign
abbrev pub has_64_bits : ℤ → Bool
has_64_bits (pos n) = nat_lt n (2 ^ 63)
has_64_bits (negsuc n) = nat_lt n (2 ^ 63)

-- the integer whose decimal the bytes are
unfoldable pub integer_of : List ℕ → Option ℤ
integer_of bytes =
    let z = signed_digits_value 10 bytes in
    if has_64_bits z && bytes_eq (signed_decimal z) bytes then Some z else None

-- the value of a hexadecimal digit in lower case, and 0 for every other byte
abbrev pub hex_value : ℕ → ℕ
hex_value b =
    if nat_le 48 b && nat_le b 57 then b - 48
    else if nat_le 97 b && nat_le b 102 then b - 87
    else 0

-- what stands behind a `\`: two hexadecimal digits behind an `x`, or the byte itself
abbrev pub byte_behind_slash : List ℕ → ℕ
byte_behind_slash bytes =
    if slice_index bytes 1 == letter_x then hex_value (slice_index bytes 2) * 16 + hex_value (slice_index bytes 3)
    else slice_index bytes 1

-- if the bytes begin with the spelling of a byte, that byte
unfoldable pub first_byte : List ℕ → ℕ
first_byte bytes = if slice_index bytes 0 == backslash then byte_behind_slash bytes else slice_index bytes 0

-- a plain byte but `"` and `\`, which stands in a text as it is
abbrev pub stands : ℕ → Bool
stands b = is_plain b && (not (b == quote) && not (b == backslash))

-- the byte whose spelling the bytes begin with, and the bytes behind it
unfoldable pub next_of : List ℕ → Option (ℕ × List ℕ)
next_of bytes =
    let spelled = byte_spelling (first_byte bytes) in
    if starts_with nat_eq bytes spelled then Some (first_byte bytes, drop (length spelled) bytes) else None

-- the bytes that stand spelled between the quotes of a text, at most so many
unfoldable pub inside_of : ℕ → List ℕ → Option (List ℕ)
inside_of room [] = Some []
inside_of zero (b ∷ bytes) = None
inside_of (suc room) (b ∷ bytes) =
    option_and_then (λ step. option_map (λ text. step.0 ∷ text) (inside_of room step.1)) (next_of (b ∷ bytes))

-- two bytes or more, the first and the last of them `"`
abbrev pub is_quoted : List ℕ → Bool
is_quoted bytes =
    nat_le 2 (length bytes) && slice_index bytes 0 == quote && slice_index bytes (length bytes - 1) == quote

-- what stands between the first and the last byte
abbrev pub between_quotes : List ℕ → List ℕ
between_quotes bytes = slice_range bytes 1 (length bytes - 1)

-- the text whose bytes stand spelled between the first and the last byte
abbrev pub text_of : List ℕ → Option Value
text_of bytes = option_map (λ text. Text text) (inside_of 255 (between_quotes bytes))

-- the value that the bytes spell
unfoldable pub value_of : List ℕ → Option Value
value_of bytes =
    if bytes_eq bytes (codes "nil") then Some Nil
    else if bytes_eq bytes (codes "true") then Some (Truth true)
    else if bytes_eq bytes (codes "false") then Some (Truth false)
    else if is_quoted bytes then text_of bytes
    else option_map (λ z. Int z) (integer_of bytes)
