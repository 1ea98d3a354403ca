-- The text of words, which stand one space apart but for those inside a parenthesis at its edges: this project's profile.
use Rattle.std.specs.Prelude.{◌≡◌, ℕ, ◌<◌, List, [], ◌∷◌, ◌++◌, length, codes}
use Rattle.std.specs.List.{AllPass}
use Rattle.rd_print.specs.declared.canonical.word_list.PrintedWord.{PrintedWord}
use Rattle.rd_tokens.specs.declared.sorts.Sort.{Sort}
use Rattle.rd_tokens.specs.declared.sorts.Sort.TheVariants.{Open, Close, Word as Plain, Text, Wrong}
use Rattle.rd_tokens.specs.Tokens.{SpellsText, is_word_byte}

-- what stands between two words of these sorts: nothing behind `(` or before `)`, else a space
abbrev pub gap : Sort → Sort → List ℕ
gap Open second = []
gap first Close = []
gap first second = codes " "

-- the text of words
abbrev pub words_text : List PrintedWord → List ℕ
words_text [] = []
words_text (w ∷ []) = w.bytes
words_text (w ∷ v ∷ words) = w.bytes ++ gap w.sort v.sort ++ words_text (v ∷ words)

-- the bytes alone are a token of the sort, one that is right
abbrev pub IsRightToken : Sort → List ℕ → Type 0
IsRightToken Open bytes = bytes ≡ codes "("
IsRightToken Close bytes = bytes ≡ codes ")"
IsRightToken Plain bytes = (0 < length bytes) × AllPass is_word_byte bytes
IsRightToken Text bytes = SpellsText bytes
IsRightToken Wrong bytes = ⊥

-- the word alone is a token of its sort
abbrev pub IsRightWord : PrintedWord → Type 0
IsRightWord word = IsRightToken word.sort word.bytes
