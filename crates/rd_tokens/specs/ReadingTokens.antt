-- The first token of bytes, computed: this project's profile.
use Rattle.std.specs.Prelude.{ℕ, suc, ◌+◌, ◌==◌, ◌&&◌, Bool, false, not, min, if◌then◌else◌, List, [], ◌∷◌, length, take, drop, slice_index, is_some}
use Rattle.std.specs.List.{prefix_len}
use Rattle.rd_base.specs.ReadingValues.{value_of}
use Rattle.rd_tokens.specs.declared.sorts.Sort.{Sort}
use Rattle.rd_tokens.specs.declared.sorts.Sort.TheVariants.{Open, Close, Word, Text, Wrong}
use Rattle.rd_tokens.specs.declared.sorts.Token.{Token}
use Rattle.rd_tokens.specs.Tokens.{is_word_byte}
use Rattle.rd_base.specs.Bytes.{backslash, quote}

-- a quote that no `\` took with it
abbrev pub ends_quote : Bool → ℕ → Bool
ends_quote taken b = not taken && b == quote

-- a `\` that no other took with it
abbrev pub takes_next : Bool → ℕ → Bool
takes_next taken b = not taken && b == backslash

-- how many bytes stand before the quote that ends them
unfoldable pub inside_length : Bool → List ℕ → ℕ
inside_length taken [] = 0
inside_length taken (b ∷ bytes) = if ends_quote taken b then 0 else suc (inside_length (takes_next taken b) bytes)

-- how long the first token of bytes is that begin with no space
unfoldable pub first_length : List ℕ → ℕ
first_length bytes =
    if slice_index bytes 0 == quote then min (inside_length false (drop 1 bytes) + 2) (length bytes)
    else if is_word_byte (slice_index bytes 0) then prefix_len is_word_byte bytes
    else 1

-- the sort of a token with these bytes
unfoldable pub sort_of : List ℕ → Sort
sort_of bytes =
    if slice_index bytes 0 == 40 then Open
    else if slice_index bytes 0 == 41 then Close
    else if slice_index bytes 0 == quote then (if is_some (value_of bytes) then Text else Wrong)
    else if is_word_byte (slice_index bytes 0) then Word
    else Wrong

-- the first token of bytes that begin with no space, of which the first stands at the place
abbrev pub token_of : ℕ → List ℕ → Token
token_of place bytes = record { place = place; length = first_length bytes; sort = sort_of (take (first_length bytes) bytes) }
