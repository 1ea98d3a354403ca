-- The lines of a canonical text, and their tokens.
use Rattle.std.proofs.Common.{◌≡◌, ◌≢◌, ℕ, true, List, [], ◌∷◌, ◌++◌, map, codes, sym, ap, subst, arith, inl, inr, ◌∙◌}
use Rattle.std.specs.Prelude.{All, flat_map, slice_index, ◌==◌}
use Rattle.std.proofs.lemmas.Bool.Decides.{Decides-eqb}
use Rattle.std.specs.List.{AllPass, AllByRecursion}
use Rattle.std.proofs.lemmas.List.{append_assoc, append-nil}
use Rattle.std.proofs.lemmas.Simd.{map-map}
use Rattle.rd_base.specs.Bytes.{is_space}
use Rattle.rd_base.specs.Spelling.{is_plain}
use Rattle.rd_print.specs.declared.canonical.word_list.PrintedWord.{PrintedWord}
use Rattle.rd_print.specs.Canonical.{plain_word}
use Rattle.rd_lines.specs.Lines.{LineWord, words_of}
use Rattle.rd_print.specs.Printed.{printed_line}
use Rattle.rd_print.proofs.TextAgainLemmas.{words_again}
use Rattle.rd_print.proofs.TextPlainLemmas.{words_plain}
use Rattle.rd_print.specs.Text.{IsRightWord, gap, words_text}
use Rattle.rd_tokens.specs.declared.sorts.Token.{Token}
use Rattle.rd_tokens.specs.Tokens.{AreTokens, bytes_of}
use Rattle.rd_reading.specs.Texts.{AreLines, IsLine, IsSkipped, line_first, no_line}

-- a word that is written, as one that is read
abbrev pub lift : PrintedWord → LineWord
lift word = record { sort = word.sort; bytes = word.bytes }

no_feed_plain : (bytes : List ℕ) → AllPass is_plain bytes → IsLine bytes
no_feed_plain bytes plain k within feed =
    let here : is_plain (slice_index bytes k) ≡ true = plain k 0 within in
    let wrong : is_plain 10 ≡ true = subst (λ (b : ℕ). is_plain b ≡ true) feed here in absurd (cc)

-- the lines of the text
pub lines_cut : (lines : List (List PrintedWord)) → AllByRecursion (All IsRightWord) lines → AreLines (flat_map printed_line lines) (map words_text lines)
lines_cut [] sound = no_line
lines_cut (line ∷ lines) (here, rest) =
    subst (λ (t : List ℕ). AreLines t (map words_text (line ∷ lines))) (sym (append_assoc (words_text line) (codes "\n") (flat_map printed_line lines)))
    (line_first (no_feed_plain (words_text line) (words_plain line here)) (lines_cut lines rest))

-- the words of its tokens
pub words_read : (words : List PrintedWord) (tokens : List Token) → All IsRightWord words → AreTokens (words_text words) tokens
    → words_of (words_text words) tokens ≡ map lift words
words_read words tokens sound are =
    sym (map-map lift (λ (t : Token). record { sort = t.sort; bytes = bytes_of (words_text words) t }) tokens)
    ∙ ap (map lift) (words_again words tokens sound are)

-- the line begins with its first word
begins : (word : PrintedWord) (words : List PrintedWord) → (rest : List ℕ) × (words_text (word ∷ words) ≡ word.bytes ++ rest)
begins word [] = ([], sym (append-nil word.bytes))
begins word (next ∷ words) = (gap word.sort next.sort ++ words_text (next ∷ words), append_assoc word.bytes (gap word.sort next.sort) (words_text (next ∷ words)))

-- a line whose first byte is no # and no space says something
pub kept_line : (b : ℕ) (bytes : List ℕ) (words : List PrintedWord) → b ≢ 35 → b ≢ 32 → ¬ (IsSkipped (words_text (plain_word (b ∷ bytes) ∷ words)))
kept_line b bytes words comment space = λ skipped. by (begins (plain_word (b ∷ bytes)) words) skipped where
  by : (rest : List ℕ) × (words_text (plain_word (b ∷ bytes) ∷ words) ≡ (b ∷ bytes) ++ rest) → IsSkipped (words_text (plain_word (b ∷ bytes) ∷ words)) → ⊥
  by (rest, same) (inl (more, e)) = let here : b ∷ (bytes ++ rest) ≡ 35 ∷ more = sym same ∙ e in let heads : b ≡ 35 = cc in comment heads
  by (rest, same) (inr passes) =
      let spaces : AllPass is_space (b ∷ (bytes ++ rest)) = subst (λ (t : List ℕ). AllPass is_space t) same passes in
      let first : (b == 32) ≡ true = spaces 0 0 (omega arith) in
      space ((Decides-eqb b 32).0 first)
