-- The number that a word spells, computed: this project's profile.
use Rattle.std.specs.Prelude.{ℕ, ◌&&◌, nat_le, if◌then◌else◌, List, Option, Some, None}
use Rattle.std.specs.Fmt.{decimal}
use Rattle.std.specs.Str.{bytes_eq}
use Rattle.std.specs.Str.Parse.{digits_value}

-- the number up to this one whose decimal the bytes are: without sign and without leading zeros
unfoldable pub number_read : ℕ → List ℕ → Option ℕ
number_read most bytes =
    let number = digits_value 10 bytes in
    if nat_le number most && bytes_eq (decimal number) bytes then Some number else None
