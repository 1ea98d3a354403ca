-- What the tokens of a line are.
use Rattle.std.proofs.Common.{◌≤◌, ℕ, List, length, arith, length-append}
use Rattle.std.specs.Prelude.{All}
use Rattle.std.specs.List.{AllByRecursion}
use Rattle.rd_base.proofs.FoundLemmas.{each_by_recursion}
use Rattle.rd_tokens.specs.declared.sorts.Token.{Token}
use Rattle.rd_tokens.specs.Tokens.{AreTokens, Cuts, LiesIn, nothing_left, space_first, token_first}

count_from : {place : ℕ} {line : List ℕ} {tokens : List Token} (whole : List ℕ) → Cuts place line tokens → AllByRecursion (LiesIn whole) tokens
    → length tokens ≤ length line
count_from whole nothing_left each = omega arith
count_from whole (space_first rest) each = let more = count_from whole rest each in omega (arith, more)
count_from whole (token_first sort bytes behind is rest) each =
    let more = count_from whole rest each.1 in
    let some = each.0.some in
    omega (arith, more, some, length-append bytes behind)

-- a line has no more tokens than bytes
pub token_count : (line : List ℕ) (tokens : List Token) → AreTokens line tokens → All (LiesIn line) tokens → length tokens ≤ length line
token_count line tokens cut each = count_from line cut (each_by_recursion (LiesIn line) tokens each)
