-- Steps of the loops over a line's bytes.
use Rattle.std.proofs.Common.{◌≡◌, ℕ, suc, ◌+◌, ◌<◌, ◌≤◌, Bool, true, false, not, cond, nat_lt, Option, Some, None, List, [], ◌∷◌, length, drop, get_or, refl, arith}
use Rattle.std.specs.List.{position, prefix_len, position_or_len}
use Rattle.std.proofs.lemmas.Bool.Decides.{nat_tests}
use Rattle.std.proofs.lemmas.List.{at_drop_all, drop_more}
use Rattle.std.proofs.lemmas.List.Sums.{prefix_len-le-length}
use Rattle.rd_tokens.specs.Tokens.{is_word_byte}
use Rattle.rd_tokens.specs.ReadingTokens.{ends_quote, takes_next, inside_length}

-- the quote that ends what is quoted
pub ends_here : (taken : Bool) (bytes : List ℕ) (index : ℕ) → index < length bytes → ends_quote taken (get_or bytes index 0) ≡ true
    → inside_length taken (drop index bytes) ≡ 0
unfolding inside_length
ends_here taken bytes index within here = rw (drop_more bytes index 0 within, here) refl

pub goes_on : (taken : Bool) (bytes : List ℕ) (index : ℕ) → index < length bytes → ends_quote taken (get_or bytes index 0) ≡ false
    → inside_length taken (drop index bytes) ≡ suc (inside_length (takes_next taken (get_or bytes index 0)) (drop (index + 1) bytes))
unfolding inside_length
goes_on taken bytes index within on = rw (drop_more bytes index 0 within, on) refl

pub ends_behind : (taken : Bool) (bytes : List ℕ) (index : ℕ) → length bytes ≤ index → inside_length taken (drop index bytes) ≡ 0
unfolding inside_length
ends_behind taken bytes index behind = at_drop_all (inside_length taken) bytes index behind

-- the first byte that fails a test, as `position` looks for it
not_twice : (test : Bool) → not (not test) ≡ test
not_twice true = refl
not_twice false = refl

pub first_other : (p : ℕ → Bool) (bytes : List ℕ) → position_or_len (λ byte. not (p byte)) bytes ≡ prefix_len p bytes
first_other p [] = refl
first_other p (byte ∷ bytes) = rw (not_twice (p byte), first_other p bytes) refl

-- where no byte is another, a word has all of them
none_made : (test : Bool) (place : ℕ) → ◌≡◌ {A = Option ℕ} None (cond test (Some place) None) → test ≡ false
none_made true place none = cc
none_made false place none = refl

pub no_other : (bytes : List ℕ) → ◌≡◌ {A = Option ℕ} None (position (λ byte. not (is_word_byte byte)) bytes)
    → length bytes ≡ prefix_len is_word_byte bytes
no_other bytes none =
    let first = first_other is_word_byte bytes in
    let most = prefix_len-le-length is_word_byte bytes in
    let test = none_made (nat_lt (position_or_len (λ byte. not (is_word_byte byte)) bytes) (length bytes)) _ none in
    let behind : length bytes ≤ position_or_len (λ byte. not (is_word_byte byte)) bytes = grind (arith, nat_tests) in
    omega (arith, first, most, behind)
