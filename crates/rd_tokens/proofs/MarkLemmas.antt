-- Marks of a line.
use Rattle.std.proofs.Common.{◌≡◌, ℕ, zero, suc, ◌+◌, ◌<◌, List, [], ◌∷◌, ◌++◌, length, refl, sym, ◌∙◌, ap, subst, Some, ◌⊎◌, inl, inr, arith, length-append}
use Rattle.std.specs.Prelude.{slice_get}
use Rattle.std.proofs.lemmas.Option.{same_Some, none-some, slice_get_within}
use Rattle.rd_tokens.specs.declared.sorts.Token.{Token}
use Rattle.rd_tokens.specs.declared.words.dialects.Dialect.{Dialect}
use Rattle.rd_grammar.specs.declared.marks.Mark.{Mark}
use Rattle.rd_grammar.specs.declared.marks.Symbol.{Symbol}
use Rattle.rd_grammar.specs.Numbers.{AreNumbered}
use Rattle.rd_tokens.specs.Words.{IsMark, AreMarks}
use Rattle.rd_tokens.proofs.DialectLemmas.{one_symbol_in}
use Rattle.rd_tokens.specs.Tokens.{bytes_of}

-- the marks of the first tokens
pub record SoFar (dialect : Dialect) (line : List ℕ) (tokens : List Token) (n : ℕ) (marks : List Mark) : Type 0 where
  pub count : length marks ≡ n
  pub each : (place : ℕ) (token : Token) (mark : Mark) → slice_get tokens place ≡ Some token → slice_get marks place ≡ Some mark
      → IsMark dialect line place token mark

last_or_before : (marks : List Mark) (last : Mark) (place : ℕ) (mark : Mark) → slice_get (marks ++ last ∷ []) place ≡ Some mark
    → (slice_get marks place ≡ Some mark) ⊎ ((place ≡ length marks) × (last ≡ mark))
last_or_before [] last zero mark is = inr (refl, same_Some last mark is)
last_or_before [] last (suc place) mark is = absurd (none-some mark is)
last_or_before (m ∷ marks) last zero mark is = inl is
last_or_before (m ∷ marks) last (suc place) mark is = elim (last_or_before marks last place mark is) [
  | inl before ↦ inl before
  | inr here ↦ inr (ap suc here.0, here.1)
]

pub so_far_none : (dialect : Dialect) (line : List ℕ) (tokens : List Token) → SoFar dialect line tokens 0 []
so_far_none dialect line tokens = record { count = refl; each = λ place token mark there here. absurd (none-some mark here) }

each_push : (dialect : Dialect) (line : List ℕ) (tokens : List Token) (n : ℕ) (marks : List Mark) (token : Token) (last : Mark) → SoFar dialect line tokens n marks
    → slice_get tokens n ≡ Some token → IsMark dialect line n token last → (place : ℕ) (other : Token) (mark : Mark) → slice_get tokens place ≡ Some other
    → slice_get (marks ++ last ∷ []) place ≡ Some mark → IsMark dialect line place other mark
each_push dialect line tokens n marks token last so_far at is place other mark there here = elim (last_or_before marks last place mark here) [
  | inl before ↦ so_far.each place other mark there before
  | inr behind ↦
      let number : place ≡ n = behind.0 ∙ so_far.count in
      let same : token ≡ other = same_Some token other (sym at ∙ ap (slice_get tokens) (sym number) ∙ there) in
      subst (λ k. IsMark dialect line k other mark) (sym number)
      (subst (λ t. IsMark dialect line n t mark) same (subst (λ m. IsMark dialect line n token m) behind.1 is))
]

pub so_far_push : (dialect : Dialect) (line : List ℕ) (tokens : List Token) (n : ℕ) (marks more : List Mark) (token : Token) (last : Mark) → SoFar dialect line tokens n marks
    → slice_get tokens n ≡ Some token → IsMark dialect line n token last → more ≡ marks ++ last ∷ [] → SoFar dialect line tokens (n + 1) more
so_far_push dialect line tokens n marks more token last so_far at is pushed =
    rw pushed (record {
      count = omega (arith, length-append marks (last ∷ []), so_far.count);
      each = each_push dialect line tokens n marks token last so_far at is;
    })

pub so_far_all : (dialect : Dialect) (line : List ℕ) (tokens : List Token) (n : ℕ) (marks : List Mark) → n ≡ length tokens → SoFar dialect line tokens n marks
    → AreMarks dialect line tokens marks
so_far_all dialect line tokens n marks all so_far = record { count = so_far.count ∙ all; each = so_far.each }

-- each mark's number is its place
token_at : (tokens : List Token) (place : ℕ) → place < length tokens → (token : Token) × (slice_get tokens place ≡ Some token)
token_at [] place within = absurd (omega arith)
token_at (token ∷ tokens) zero within = (token, refl)
token_at (token ∷ tokens) (suc place) within = token_at tokens place (omega arith)

within_tokens : (dialect : Dialect) (line : List ℕ) (tokens : List Token) (marks : List Mark) → AreMarks dialect line tokens marks → (place : ℕ) (mark : Mark)
    → slice_get marks place ≡ Some mark → (token : Token) × (slice_get tokens place ≡ Some token)
within_tokens dialect line tokens marks are place mark here = token_at tokens place (subst (λ n. place < n) are.count (slice_get_within marks place mark here))

pub numbered : (dialect : Dialect) (line : List ℕ) (tokens : List Token) (marks : List Mark) → AreMarks dialect line tokens marks → AreNumbered marks
numbered dialect line tokens marks are place mark here =
    let at = within_tokens dialect line tokens marks are place mark here in (are.each place at.0 mark at.1 here).number

-- the marks of a line are one list
same_mark : (a b : Mark) → a.symbol ≡ b.symbol → a.token ≡ b.token → a ≡ b
same_mark a b symbols numbers =
    let first : a ≡ record { symbol = b.symbol; token = a.token } = ap (λ (x : Symbol). record { symbol = x; token = a.token }) symbols in
    let second : record { symbol = b.symbol; token = a.token } ≡ b = ap (λ (n : ℕ). record { symbol = b.symbol; token = n }) numbers in
    first ∙ second

one_mark : (dialect : Dialect) (line : List ℕ) (place : ℕ) (token : Token) (a b : Mark) → IsMark dialect line place token a → IsMark dialect line place token b → a ≡ b
one_mark dialect line place token a b first second =
    same_mark a b (one_symbol_in dialect token.sort (bytes_of line token) a.symbol b.symbol first.symbol second.symbol) (first.number ∙ sym second.number)

each_alike : (xs ys : List Mark) → length xs ≡ length ys
    → ((place : ℕ) (x y : Mark) → slice_get xs place ≡ Some x → slice_get ys place ≡ Some y → x ≡ y) → xs ≡ ys
each_alike [] [] count each = refl
each_alike [] (y ∷ ys) count each = absurd (omega (arith, count))
each_alike (x ∷ xs) [] count each = absurd (omega (arith, count))
each_alike (x ∷ xs) (y ∷ ys) count each =
    let first : x ≡ y = each 0 x y refl refl in
    let rest : xs ≡ ys = each_alike xs ys (omega (arith, count)) (λ place. each (suc place)) in
    rw (first, rest) refl

pub one_list : (dialect : Dialect) (line : List ℕ) (tokens : List Token) (first second : List Mark) → AreMarks dialect line tokens first → AreMarks dialect line tokens second → first ≡ second
one_list dialect line tokens first second one two =
    each_alike first second (one.count ∙ sym two.count)
    (λ place x y here there.
    let at = within_tokens dialect line tokens first one place x here in
    one_mark dialect line place at.0 x y (one.each place at.0 x at.1 here) (two.each place at.0 y at.1 there))
