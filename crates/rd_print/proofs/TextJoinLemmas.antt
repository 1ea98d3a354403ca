-- The text of words that stand behind others.
use Rattle.std.proofs.Common.{◌≡◌, ℕ, List, [], ◌∷◌, ◌++◌, zero, suc, ◌<◌, length, drop, get_or, arith, refl, sym, append_assoc, append-nil}
use Rattle.std.specs.Prelude.{Result, Ok, Err, OnErr}
use Rattle.rd_base.specs.Bytes.{IsFront}
use Rattle.rd_print.specs.declared.canonical.word_list.PrintedWord.{PrintedWord}
use Rattle.rd_tokens.specs.declared.sorts.Sort.{Sort}
use Rattle.rd_tokens.specs.declared.sorts.Sort.TheVariants.{Open}
use Rattle.rd_print.specs.Text.{gap, words_text}

-- the text of words behind a word of this sort
abbrev pub text_behind : Sort → List PrintedWord → List ℕ
text_behind sort [] = []
text_behind sort (w ∷ words) = gap sort w.sort ++ words_text (w ∷ words)

-- the first word, and those behind it
pub first_word : (w : PrintedWord) (words : List PrintedWord) → words_text (w ∷ words) ≡ w.bytes ++ text_behind w.sort words
first_word w [] = sym (append-nil w.bytes)
first_word w (v ∷ words) = append_assoc w.bytes (gap w.sort v.sort) (words_text (v ∷ words))

-- the text of words is as behind `(`
pub whole_text : (words : List PrintedWord) → text_behind Open words ≡ words_text words
whole_text [] = refl
whole_text (w ∷ words) = refl

-- what stands before the next word, and then the rest
next_text : (sort : Sort) (words : List PrintedWord) (w : PrintedWord) (k : ℕ) → k < length words → w ≡ get_or words k w
    → text_behind sort (drop k words) ≡ gap sort w.sort ++ words_text (drop k words)
next_text sort [] w k within is = absurd (omega arith)
next_text sort (v ∷ words) w zero within is = rw is refl
next_text sort (v ∷ words) w (suc k) within is = next_text sort words w k (omega arith) is

-- a text that ends behind what stands before the next word is a front of the whole
pub front_of_text : (whole text new : List ℕ) (sort : Sort) (words : List PrintedWord) (w : PrintedWord) (k : ℕ) → k < length words → w ≡ get_or words k w
    → whole ≡ text ++ text_behind sort (drop k words) → new ≡ text ++ gap sort w.sort → IsFront new whole
front_of_text whole text new sort words w k within is all here =
    (words_text (drop k words), rw (all, here, next_text sort words w k within is) (sym (append_assoc text (gap sort w.sort) (words_text (drop k words)))))

pub on_err : {X E : Type 0} (r : Result X E) (P : Type 0) → P → OnErr r P
on_err (Ok x) P h = tt
on_err (Err e) P h = h
