-- A right line of a pair, or of a definition, has a formula behind `when`.
use Rattle.std.proofs.Common.{◌≡◌, ◌≤◌, ℕ, List, ◌∷◌, codes, drop, length, refl, sym, subst, arith, inl, inr}
use Rattle.std.specs.Prelude.{All}
use Rattle.std.proofs.lemmas.List.{length-map}
use Rattle.rd_base.specs.declared.limits.TheConstants.{MOST_TOKENS}
use Rattle.rd_formulas.proofs.ReadingLemmas.{few_named}
use Rattle.rd_grammar.specs.declared.marks.Mark.{Mark}
use Rattle.rd_grammar.specs.Grammar.{ParsedTree, MarksSay, disj}
use Rattle.rd_grammar.specs.Numbers.{named_by}
use Rattle.rd_lines.specs.declared.forms.Stage.{Stage}
use Rattle.rd_lines.specs.declared.forms.Version.{Version}
use Rattle.rd_lines.specs.declared.forms.Version.TheVariants.{One, Two}
use Rattle.rd_lines.specs.Lines.{AreMarksFrom, HasFewWords, IsCommuteLine, CountsTokens, IsDefineLine, LineWord, dialect_of, plain, word_at, words_of}
use Rattle.rd_tokens.specs.declared.sorts.Token.{Token}
use Rattle.rd_tokens.specs.declared.words.dialects.Dialect.{Dialect}
use Rattle.rd_tokens.specs.declared.words.dialects.Dialect.TheVariants.{Unsided}
use Rattle.rd_tokens.specs.Tokens.{IsTokenOf, LiesIn}
use Rattle.rd_tokens.specs.Words.{AreMarks}
use Rattle.rd_pairs.proofs.MarkLemmas.{are_marks, behind_four}

-- the tokens of a line, of which those behind the fourth say this by the grammar
pub record HasFormula (dialect : Dialect) (line : List ℕ) (tokens : List Token) (read : ParsedTree) : Type 0 where
  pub within : All (LiesIn line) tokens
  pub sorts : All (IsTokenOf line) tokens
  pub behind : 4 ≤ length tokens
  pub marks : List Mark
  pub marked : AreMarks dialect line (drop 4 tokens) marks
  pub says : MarksSay disj marks read

module _ (dialect : Dialect) (line : List ℕ) (tokens : List Token) (head first second : LineWord) (behind : List LineWord) (marks : List Mark)
    (read : ParsedTree) (written : words_of line tokens ≡ head ∷ first ∷ second ∷ plain (codes "when") ∷ behind)
    (marked : AreMarksFrom dialect 0 behind marks) (says : MarksSay disj marks read) where
  has_formula : All (LiesIn line) tokens → All (IsTokenOf line) tokens → HasFormula dialect line tokens read
  has_formula within sorts =
      let parts = behind_four line tokens head first second (plain (codes "when")) behind written in
      record {
        within = within;
        sorts = sorts;
        behind = parts.0;
        marks = marks;
        marked = are_marks dialect line (drop 4 tokens) marks (subst (λ (words : List LineWord). AreMarksFrom dialect 0 words marks) parts.1 marked);
        says = says;
      }

  few_behind : length behind ≤ MOST_TOKENS → length (named_by read) ≤ MOST_TOKENS
  few_behind few =
      let parts = behind_four line tokens head first second (plain (codes "when")) behind written in
      let counts = (are_marks dialect line (drop 4 tokens) marks (subst (λ (words : List LineWord). AreMarksFrom dialect 0 words marks) parts.1 marked)).count in
      let words : length (words_of line (drop 4 tokens)) ≤ MOST_TOKENS = subst (λ (words : List LineWord). length words ≤ MOST_TOKENS) parts.1 few in
      few_named marks read says (omega (arith, words, counts, length-map (drop 4 tokens) (word_at line)))

-- a pair
pub pair_formula : (version : Version) (stage : Stage) (methods : List (List ℕ)) (line : List ℕ) (tokens : List Token) (first second : List ℕ) (read : ParsedTree)
    → All (LiesIn line) tokens → All (IsTokenOf line) tokens → IsCommuteLine version stage methods (words_of line tokens) first second read
    → HasFormula (dialect_of version) line tokens read
pair_formula version stage methods line tokens first second read within sorts right =
    has_formula (dialect_of version) line tokens (plain (codes "commute")) (plain first) (plain second) right.behind right.marks read right.written
    right.marked right.says within sorts

pair_counted : (version : Version) → CountsTokens version (plain (codes "commute"))
pair_counted One = refl
pair_counted Two = inl refl

pub pair_few : (version : Version) (stage : Stage) (methods : List (List ℕ)) (line : List ℕ) (tokens : List Token) (first second : List ℕ) (read : ParsedTree)
    → HasFewWords version (words_of line tokens) → IsCommuteLine version stage methods (words_of line tokens) first second read
    → length (named_by read) ≤ MOST_TOKENS
pair_few version stage methods line tokens first second read few right =
    few_behind (dialect_of version) line tokens (plain (codes "commute")) (plain first) (plain second) right.behind right.marks read right.written
    right.marked right.says (few.few (plain (codes "commute")) (plain first) (plain second) right.behind (pair_counted version) right.written)

-- a definition
pub definition_formula : (version : Version) (stage : Stage) (line : List ℕ) (tokens : List Token) (owner name : List ℕ) (read : ParsedTree)
    → All (LiesIn line) tokens → All (IsTokenOf line) tokens → IsDefineLine version stage (words_of line tokens) owner name read
    → HasFormula Unsided line tokens read
definition_formula version stage line tokens owner name read within sorts right =
    has_formula Unsided line tokens (plain (codes "define")) (plain owner) (plain name) right.behind right.marks read right.written right.marked
    right.says within sorts

pub definition_few : (version : Version) (stage : Stage) (line : List ℕ) (tokens : List Token) (owner name : List ℕ) (read : ParsedTree)
    → HasFewWords version (words_of line tokens) → IsDefineLine version stage (words_of line tokens) owner name read
    → length (named_by read) ≤ MOST_TOKENS
definition_few version stage line tokens owner name read few right =
    let counted : CountsTokens version (plain (codes "define")) =
    subst (λ (v : Version). CountsTokens v (plain (codes "define"))) (sym right.second_version) (inr refl) in
    few_behind Unsided line tokens (plain (codes "define")) (plain owner) (plain name) right.behind right.marks read right.written right.marked
    right.says (few.few (plain (codes "define")) (plain owner) (plain name) right.behind counted right.written)
