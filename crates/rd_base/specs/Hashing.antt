-- What a text is hashed by: this project's profile.
use Rattle.std.specs.Prelude.{ℕ, zero, suc, List, [], ◌∷◌, ◌++◌, nat_le, length, take, drop, if◌then◌else◌}

-- the bytes in parts of eight, of which the last may be shorter, and is longer where there would be more parts than so many behind it
unfoldable pub eights : ℕ → List ℕ → List (List ℕ)
eights zero bytes = bytes ∷ []
eights (suc more) bytes = if nat_le (length bytes) 8 then bytes ∷ [] else take 8 bytes ∷ eights more (drop 8 bytes)

-- the bytes in parts of at most eight
abbrev pub eights_of : List ℕ → List (List ℕ)
eights_of bytes = eights (length bytes) bytes

-- the parts of a text, a write each: of a text above eight bytes twice, so that no part undoes what those before it made
abbrev pub text_input : List ℕ → List (List ℕ)
text_input text = if nat_le (length text) 8 then text ∷ [] else eights_of text ++ eights_of text
