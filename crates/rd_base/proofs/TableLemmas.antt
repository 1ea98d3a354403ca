-- Tables of flags, one for each byte.
use Rattle.std.proofs.Common.{◌≡◌, ℕ, zero, suc, ◌+◌, ◌<◌, Bool, true, ◌&&◌, List, [], ◌∷◌, length, get_or, arith, ap, ◌∙◌}
use Rattle.std.specs.Bool.{beq}
use Rattle.std.specs.Cmp.{booleans_Decides}
use Rattle.std.proofs.lemmas.Bool.{and_parts}

-- the flags of the bytes from one on tell which pass the test
unfoldable pub agree : (ℕ → Bool) → ℕ → List Bool → Bool
agree p first [] = true
agree p first (flag ∷ flags) = beq flag (p first) && agree p (first + 1) flags

flag_at : (p : ℕ → Bool) (flags : List Bool) (first place : ℕ) (default : Bool) → agree p first flags ≡ true → place < length flags
    → get_or flags place default ≡ p (first + place)
unfolding agree
flag_at p [] first place default all inside = absurd (omega arith)
flag_at p (flag ∷ flags) first zero default all inside =
    let here : first ≡ first + 0 = omega arith in
    (booleans_Decides flag (p first)).0 (and_parts _ _ all).0 ∙ ap p here
flag_at p (flag ∷ flags) first (suc place) default all inside =
    let there : first + 1 + place ≡ first + suc place = omega arith in
    flag_at p flags (first + 1) place default (and_parts _ _ all).1 (omega arith) ∙ ap p there

-- the flag of a byte in a table of them all
pub flag_of_byte : (p : ℕ → Bool) (flags : List Bool) → agree p 0 flags ≡ true → (byte : ℕ) (default : Bool) → byte < length flags
    → get_or flags byte default ≡ p byte
flag_of_byte p flags all byte default inside =
    let there : 0 + byte ≡ byte = omega arith in
    flag_at p flags 0 byte default all inside ∙ ap p there
