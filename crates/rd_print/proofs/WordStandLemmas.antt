-- Words that stand at a place of a line's tokens, and the marks of words.
use Rattle.std.proofs.Common.{◌≡◌, ℕ, zero, suc, ◌+◌, List, [], ◌∷◌, ◌++◌, length, map, refl, sym, ◌∙◌, ap, subst, arith, Some}
use Rattle.std.specs.Prelude.{slice_get, unwrap_or, option_map}
use Rattle.std.proofs.lemmas.Option.{same_Some, none-some}
use Rattle.rd_formulas.specs.declared.scope.Scope.{Scope}
use Rattle.rd_formulas.specs.Scope.{token_bytes_at}
use Rattle.rd_grammar.specs.declared.marks.Mark.{Mark}
use Rattle.rd_tokens.specs.declared.sorts.Token.{Token}
use Rattle.rd_tokens.specs.declared.words.dialects.Dialect.TheVariants.{Sided}
use Rattle.rd_tokens.specs.Tokens.{bytes_of}
use Rattle.rd_tokens.specs.Words.{IsSymbol, IsMark, AreMarks}
use Rattle.rd_print.specs.declared.canonical.word_list.PrintedWord.{PrintedWord}
use Rattle.rd_print.specs.Canonical.{AreWords}

-- the words have the bytes of the tokens from this number on
abbrev pub Stand : Scope → ℕ → List PrintedWord → Type 0
Stand scope n [] = Unit {0}
Stand scope n (word ∷ words) = (token_bytes_at scope n ≡ word.bytes) × Stand scope (suc n) words

pub stand_front : (scope : Scope) (n : ℕ) (words more : List PrintedWord) → Stand scope n (words ++ more) → Stand scope n words
stand_front scope n [] more stand = tt
stand_front scope n (word ∷ words) more stand = (stand.0, stand_front scope (suc n) words more stand.1)

pub stand_back : (scope : Scope) (n : ℕ) (words more : List PrintedWord) → Stand scope n (words ++ more) → Stand scope (n + length words) more
stand_back scope n [] more stand = let same : n ≡ n + 0 = omega arith in subst (λ (k : ℕ). Stand scope k more) same stand
stand_back scope n (word ∷ words) more stand =
    let same : suc n + length words ≡ n + suc (length words) = omega arith in
    subst (λ (k : ℕ). Stand scope k more) same (stand_back scope (suc n) words more stand.1)

-- the marks are those of the words, numbered from here
abbrev pub AreFrom : ℕ → List PrintedWord → List Mark → Type 0
AreFrom n [] [] = Unit {0}
AreFrom n [] (m ∷ ms) = ⊥
AreFrom n (w ∷ ws) [] = ⊥
AreFrom n (w ∷ ws) (m ∷ ms) = IsSymbol w.sort w.bytes m.symbol × (m.token ≡ n) × AreFrom (suc n) ws ms

pub from_append : (n : ℕ) (ws vs : List PrintedWord) (ms ns : List Mark) → AreFrom n ws ms → AreFrom (n + length ws) vs ns → AreFrom n (ws ++ vs) (ms ++ ns)
from_append n [] vs [] ns here there = let same : n + 0 ≡ n = omega arith in subst (λ (k : ℕ). AreFrom k vs ns) same there
from_append n [] vs (m ∷ ms) ns here there = absurd here
from_append n (w ∷ ws) vs [] ns here there = absurd here
from_append n (w ∷ ws) vs (m ∷ ms) ns here there =
    let same : n + suc (length ws) ≡ suc n + length ws = omega arith in
    (here.0, here.1, from_append (suc n) ws vs ms ns here.2 (subst (λ (k : ℕ). AreFrom k vs ns) same there))

-- the words of tokens
abbrev shown : List ℕ → Token → PrintedWord
shown line t = record { sort = t.sort; bytes = bytes_of line t }

stand_by : (scope : Scope) (n : ℕ) (tokens : List Token)
    → ((i : ℕ) → token_bytes_at scope (n + i) ≡ unwrap_or (option_map (bytes_of scope.line.now) (slice_get tokens i)) []) → Stand scope n (map (shown scope.line.now) tokens)
stand_by scope n [] at = tt
stand_by scope n (token ∷ tokens) at =
    let here : n ≡ n + 0 = omega arith in (
      ap (token_bytes_at scope) here ∙ at 0,
      stand_by scope (suc n) tokens
          (λ i. let there : suc n + i ≡ n + suc i = omega arith in ap (token_bytes_at scope) there ∙ at (suc i)),
    )

pub stand_all : (scope : Scope) (words : List PrintedWord) → AreWords scope.line.now scope.tokens.now words → Stand scope 0 words
stand_all scope words are =
    subst (Stand scope 0) are (stand_by scope 0 scope.tokens.now (λ i. let same : 0 + i ≡ i = omega arith in ap (token_bytes_at scope) same))

-- the marks of the words of tokens are the tokens' marks
count_from : (line : List ℕ) (n : ℕ) (tokens : List Token) (marks : List Mark) → AreFrom n (map (shown line) tokens) marks → length marks ≡ length tokens
count_from line n [] [] are = refl
count_from line n [] (m ∷ marks) are = absurd are
count_from line n (t ∷ tokens) [] are = absurd are
count_from line n (t ∷ tokens) (m ∷ marks) are = ap suc (count_from line (suc n) tokens marks are.2)

each_from : (line : List ℕ) (n : ℕ) (tokens : List Token) (marks : List Mark) → AreFrom n (map (shown line) tokens) marks
    → (place : ℕ) (token : Token) (mark : Mark) → slice_get tokens place ≡ Some token → slice_get marks place ≡ Some mark → IsMark Sided line (n + place) token mark
each_from line n [] marks are place token mark there here = absurd (none-some token there)
each_from line n (t ∷ tokens) [] are place token mark there here = absurd are
each_from line n (t ∷ tokens) (m ∷ marks) are zero token mark there here =
    let first : t ≡ token = same_Some t token there in
    let second : m ≡ mark = same_Some m mark here in
    let same : n ≡ n + 0 = omega arith in
    subst (λ (x : Token). IsMark Sided line (n + 0) x mark) first
    (subst (λ (x : Mark). IsMark Sided line (n + 0) t x) second (record { symbol = are.0; number = are.1 ∙ same }))
each_from line n (t ∷ tokens) (m ∷ marks) are (suc place) token mark there here =
    let same : suc n + place ≡ n + suc place = omega arith in
    subst (λ (k : ℕ). IsMark Sided line k token mark) same (each_from line (suc n) tokens marks are.2 place token mark there here)

pub are_marks : (line : List ℕ) (tokens : List Token) (words : List PrintedWord) (marks : List Mark) → AreWords line tokens words → AreFrom 0 words marks
    → AreMarks Sided line tokens marks
are_marks line tokens words marks are from =
    let moved = subst (λ (ws : List PrintedWord). AreFrom 0 ws marks) (sym are) from in
    record {
      count = count_from line 0 tokens marks moved;
      each = λ place token mark there here.
          let same : 0 + place ≡ place = omega arith in
          subst (λ (k : ℕ). IsMark Sided line k token mark) same (each_from line 0 tokens marks moved place token mark there here);
    }
