-- The marks behind `when` of a right line are those of its tokens.
use Rattle.std.proofs.Common.{◌≡◌, ℕ, zero, suc, ◌+◌, ◌≤◌, List, [], ◌∷◌, length, drop, refl, ap, subst, ◌∙◌, arith, Some}
use Rattle.std.specs.Prelude.{slice_get}
use Rattle.std.proofs.lemmas.Option.{none-some, same_Some}
use Rattle.rd_tokens.specs.declared.sorts.Token.{Token}
use Rattle.rd_grammar.specs.declared.marks.Mark.{Mark}
use Rattle.rd_tokens.specs.declared.words.dialects.Dialect.{Dialect}
use Rattle.rd_tokens.specs.Words.{AreMarks, IsMark, IsSymbolIn}
use Rattle.rd_lines.specs.Lines.{AreMarksFrom, LineWord, word_at, words_of}

-- as many, and each of its word
count_from : (dialect : Dialect) (line : List ℕ) (k : ℕ) (tokens : List Token) (marks : List Mark) → AreMarksFrom dialect k (words_of line tokens) marks
    → length marks ≡ length tokens
count_from dialect line k [] [] are = refl
count_from dialect line k [] (mark ∷ marks) are = absurd are
count_from dialect line k (token ∷ tokens) [] are = absurd are
count_from dialect line k (token ∷ tokens) (mark ∷ marks) are = ap suc (count_from dialect line (suc k) tokens marks are.2)

is_mark : (dialect : Dialect) (line : List ℕ) (place number : ℕ) (token other : Token) (mark here : Mark)
    → IsSymbolIn dialect token.sort (word_at line token).bytes mark.symbol → mark.token ≡ number → number ≡ place → token ≡ other → mark ≡ here
    → IsMark dialect line place other here
is_mark dialect line place number token other mark here symbol is numbers tokens marks =
    subst (λ (t : Token). IsMark dialect line place t here) tokens
    (subst (λ (m : Mark). IsMark dialect line place token m) marks (record { symbol = symbol; number = is ∙ numbers }))

each_from : (dialect : Dialect) (line : List ℕ) (k : ℕ) (tokens : List Token) (marks : List Mark) → AreMarksFrom dialect k (words_of line tokens) marks
    → (place : ℕ) (token : Token) (mark : Mark) → slice_get tokens place ≡ Some token → slice_get marks place ≡ Some mark
    → IsMark dialect line (k + place) token mark
each_from dialect line k [] marks are place token mark there here = absurd (none-some token there)
each_from dialect line k (t ∷ tokens) [] are place token mark there here = absurd are
each_from dialect line k (t ∷ tokens) (m ∷ marks) are zero token mark there here =
    is_mark dialect line (k + zero) k t token m mark are.0 are.1 (omega arith) (same_Some t token there) (same_Some m mark here)
each_from dialect line k (t ∷ tokens) (m ∷ marks) are (suc place) token mark there here =
    let sum : suc k + place ≡ k + suc place = omega arith in
    subst (λ (n : ℕ). IsMark dialect line n token mark) sum (each_from dialect line (suc k) tokens marks are.2 place token mark there here)

pub are_marks : (dialect : Dialect) (line : List ℕ) (tokens : List Token) (marks : List Mark) → AreMarksFrom dialect 0 (words_of line tokens) marks
    → AreMarks dialect line tokens marks
are_marks dialect line tokens marks are = record {
  count = count_from dialect line 0 tokens marks are;
  each = λ place token mark there here.
      let sum : 0 + place ≡ place = omega arith in
      subst (λ (n : ℕ). IsMark dialect line n token mark) sum (each_from dialect line 0 tokens marks are place token mark there here);
}

-- the words behind the fourth
pub behind_four : (line : List ℕ) (tokens : List Token) (a b c d : LineWord) (behind : List LineWord) → words_of line tokens ≡ a ∷ b ∷ c ∷ d ∷ behind
    → (4 ≤ length tokens) × (behind ≡ words_of line (drop 4 tokens))
behind_four line [] a b c d behind same = absurd (cc)
behind_four line (x ∷ []) a b c d behind same = absurd (cc)
behind_four line (x ∷ y ∷ []) a b c d behind same = absurd (cc)
behind_four line (x ∷ y ∷ z ∷ []) a b c d behind same = absurd (cc)
behind_four line (x ∷ y ∷ z ∷ w ∷ tokens) a b c d behind same = (omega arith, cc)
