-- Bytes by their names in ASCII, and the first of many.
use Rattle.std.specs.Prelude.{◌≡◌, ◌==◌, ◌++◌, ℕ, Bool, List}

abbrev pub line_feed : ℕ
line_feed = 10

abbrev pub space : ℕ
space = 32

-- "
abbrev pub quote : ℕ
quote = 34

-- #
abbrev pub hash : ℕ
hash = 35

-- \
abbrev pub backslash : ℕ
backslash = 92

-- _
abbrev pub underscore : ℕ
underscore = 95

-- x
abbrev pub letter_x : ℕ
letter_x = 120

abbrev pub is_space : ℕ → Bool
is_space byte = byte == space

-- the bytes are the first of the whole
abbrev pub IsFront : List ℕ → List ℕ → Type 0
IsFront front whole = (rest : List ℕ) × (whole ≡ front ++ rest)
