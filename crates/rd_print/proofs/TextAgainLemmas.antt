-- The tokens of the text of sound words are these words.
use Rattle.std.proofs.Common.{◌≡◌, ℕ, ◌+◌, ◌-◌, List, [], ◌∷◌, ◌++◌, length, take, drop, refl, sym, ◌∙◌, ap, subst, arith, append_assoc, length-append, take_at, drop_at}
use Rattle.std.specs.Prelude.{All}
use Rattle.std.proofs.lemmas.List.{take-map, drop-map}
use Rattle.std.specs.List.{AllByRecursion}
use Rattle.rd_base.proofs.FoundLemmas.{each_by_recursion}
use Rattle.rd_print.specs.declared.canonical.word_list.PrintedWord.{PrintedWord}
use Rattle.rd_print.specs.Canonical.{AreWords}
use Rattle.rd_tokens.specs.declared.sorts.Sort.{Sort}
use Rattle.rd_tokens.specs.declared.sorts.Sort.TheVariants.{Open, Close, Word as Plain, Text, Wrong}
use Rattle.rd_tokens.specs.declared.sorts.Token.{Token}
use Rattle.rd_tokens.specs.Tokens.{AreTokens, Cuts, EndsWord, IsToken, bytes_of}
use Rattle.rd_tokens.specs.Tokens.Cuts.{nothing_left, space_first, token_first}
use Rattle.rd_tokens.proofs.CutLemmas.{one_list, some_tokens}
use Rattle.rd_print.specs.Text.{IsRightToken, IsRightWord, gap, words_text}
use Rattle.rd_print.proofs.TextJoinLemmas.{first_word, text_behind, whole_text}

-- what stands between two words is passed over
gap_passed : (first second : Sort) (place : ℕ) (bytes : List ℕ) (tokens : List Token) → Cuts (place + length (gap first second)) bytes tokens
    → Cuts place (gap first second ++ bytes) tokens
gap_passed Open second place bytes tokens cuts = let same : place + 0 ≡ place = omega arith in subst (λ (n : ℕ). Cuts n bytes tokens) same cuts
gap_passed first Close place bytes tokens cuts = let same : place + 0 ≡ place = omega arith in subst (λ (n : ℕ). Cuts n bytes tokens) same cuts
gap_passed first second place bytes tokens cuts = space_first cuts

-- what stands behind a word ends it
ends_at : (sort : Sort) (bytes rest : List ℕ) → IsRightToken sort bytes → EndsWord (gap Plain sort ++ (bytes ++ rest))
ends_at Open bytes rest right = refl
ends_at Close bytes rest right = subst (λ (xs : List ℕ). EndsWord (xs ++ rest)) (sym right) refl
ends_at Plain bytes rest right = refl
ends_at Text bytes rest right = refl
ends_at Wrong bytes rest right = absurd right

ends_word : (words : List PrintedWord) → AllByRecursion IsRightWord words → EndsWord (text_behind Plain words)
ends_word [] each = tt
ends_word (w ∷ words) each =
    subst (λ (text : List ℕ). EndsWord (gap Plain w.sort ++ text)) (sym (first_word w words))
    (ends_at w.sort w.bytes (text_behind w.sort words) each.0)

right_token : (sort : Sort) (bytes behind : List ℕ) → IsRightToken sort bytes → (sort ≡ Plain → EndsWord behind) → IsToken sort bytes behind
right_token Open bytes behind right ends = right
right_token Close bytes behind right ends = right
right_token Plain bytes behind right ends = (right.0, right.1, ends refl)
right_token Text bytes behind right ends = right
right_token Wrong bytes behind right ends = absurd right

word_token : (w : PrintedWord) (words : List PrintedWord) → IsRightWord w → AllByRecursion IsRightWord words → IsToken w.sort w.bytes (text_behind w.sort words)
word_token w words sound each =
    right_token w.sort w.bytes (text_behind w.sort words) sound
    (λ same. subst (λ (sort : Sort). EndsWord (text_behind sort words)) (sym same) (ends_word words each))

-- the bytes at a place of a line
bytes_at : (line before bytes rest : List ℕ) (place : ℕ) → line ≡ before ++ (bytes ++ rest) → length before ≡ place
    → take (length bytes) (drop place line) ≡ bytes
bytes_at line before bytes rest place whole here =
    ap (λ (xs : List ℕ). take (length bytes) (drop place xs)) whole
    ∙ ap (λ (xs : List ℕ). take (length bytes) xs) (drop_at before (bytes ++ rest) place here)
    ∙ take_at bytes rest (length bytes) refl

-- the tokens of a text in its line are the words
record Shown (line : List ℕ) (place : ℕ) (text : List ℕ) (words : List PrintedWord) : Type 0 where
  tokens : List Token
  cuts : Cuts place text tokens
  are : AreWords line tokens words

first_again : (w : PrintedWord) (bytes : List ℕ) (others words : List PrintedWord) → bytes ≡ w.bytes → others ≡ words
    → record { sort = w.sort; bytes = bytes } ∷ others ≡ w ∷ words
first_again w bytes others words same more =
    ap (λ (xs : List ℕ). record { sort = w.sort; bytes = xs } ∷ others) same ∙ ap (λ (ws : List PrintedWord). w ∷ ws) more

one_shown : (line front : List ℕ) (sort : Sort) (w : PrintedWord) (words : List PrintedWord) → line ≡ front ++ text_behind sort (w ∷ words)
    → IsToken w.sort w.bytes (text_behind w.sort words)
    → Shown line (length ((front ++ gap sort w.sort) ++ w.bytes) + 1) (text_behind w.sort words) words
    → Shown line (length front + 1) (text_behind sort (w ∷ words)) (w ∷ words)
one_shown line front sort w words whole is more =
    let space = gap sort w.sort in
    let place = length front + 1 + length space in
    let next : length ((front ++ space) ++ w.bytes) + 1 ≡ place + length w.bytes =
    omega (arith, length-append (front ++ space) w.bytes, length-append front space) in
    let here : length (front ++ space) ≡ place - 1 = omega (arith, length-append front space) in
    let parts : line ≡ (front ++ space) ++ (w.bytes ++ text_behind w.sort words) =
    whole ∙ ap (λ (xs : List ℕ). front ++ (space ++ xs)) (first_word w words)
    ∙ sym (append_assoc front space (w.bytes ++ text_behind w.sort words)) in
    let cuts = subst (λ (n : ℕ). Cuts n (text_behind w.sort words) more.tokens) next more.cuts in
    let first = token_first w.sort w.bytes (text_behind w.sort words) is cuts in
    let token : Token = record { place = place; length = length w.bytes; sort = w.sort } in
    record {
      tokens = token ∷ more.tokens;
      cuts = gap_passed sort w.sort (length front + 1) (words_text (w ∷ words)) (token ∷ more.tokens)
          (subst (λ (text : List ℕ). Cuts place text (token ∷ more.tokens)) (sym (first_word w words)) first);
      are = first_again w (bytes_of line token) _ words
          (bytes_at line (front ++ space) w.bytes (text_behind w.sort words) (place - 1) parts here) more.are;
    }

all_shown : (line front : List ℕ) (sort : Sort) (words : List PrintedWord) → AllByRecursion IsRightWord words → line ≡ front ++ text_behind sort words
    → Shown line (length front + 1) (text_behind sort words) words
all_shown line front sort [] each whole = record { tokens = []; cuts = nothing_left; are = refl }
all_shown line front sort (w ∷ words) each whole =
    let space = gap sort w.sort in
    let rest = text_behind w.sort words in
    let parts : line ≡ ((front ++ space) ++ w.bytes) ++ rest =
    whole ∙ ap (λ (xs : List ℕ). front ++ (space ++ xs)) (first_word w words)
    ∙ sym (append_assoc front space (w.bytes ++ rest)) ∙ sym (append_assoc (front ++ space) w.bytes rest) in
    one_shown line front sort w words whole (word_token w words each.0 each.1)
    (all_shown line ((front ++ space) ++ w.bytes) w.sort words each.1 parts)

pub words_again : (words : List PrintedWord) (tokens : List Token) → All IsRightWord words → AreTokens (words_text words) tokens → AreWords (words_text words) tokens words
words_again words tokens each are =
    let shown = all_shown (words_text words) [] Open words (each_by_recursion IsRightWord words each) (sym (whole_text words)) in
    let cuts : AreTokens (words_text words) shown.tokens = subst (λ (text : List ℕ). Cuts 1 text shown.tokens) (whole_text words) shown.cuts in
    subst (λ (ts : List Token). AreWords (words_text words) ts words) (one_list (words_text words) shown.tokens tokens cuts are) shown.are

pub one_words : (first second : List PrintedWord) → All IsRightWord first → All IsRightWord second → words_text first ≡ words_text second → first ≡ second
one_words first second each other same =
    let found = some_tokens (words_text first) in
    let here = words_again first found.0 each found.1 in
    let there = words_again second found.0 other (subst (λ (text : List ℕ). AreTokens text found.0) same found.1) in
    sym here ∙ subst (λ (text : List ℕ). AreWords text found.0 second) (sym same) there

-- words in front, and words behind them
abbrev word_at : List ℕ → Token → PrintedWord
word_at line t = record { sort = t.sort; bytes = bytes_of line t }

pub front_again : (ws vs : List PrintedWord) (tokens : List Token) → All IsRightWord (ws ++ vs) → AreTokens (words_text (ws ++ vs)) tokens
    → AreWords (words_text (ws ++ vs)) (take (length ws) tokens) ws
front_again ws vs tokens each are =
    sym (take-map (word_at (words_text (ws ++ vs))) (length ws) tokens)
    ∙ ap (λ (xs : List PrintedWord). take (length ws) xs) (words_again (ws ++ vs) tokens each are)
    ∙ take_at ws vs (length ws) refl

pub behind_again : (ws vs : List PrintedWord) (tokens : List Token) → All IsRightWord (ws ++ vs) → AreTokens (words_text (ws ++ vs)) tokens
    → AreWords (words_text (ws ++ vs)) (drop (length ws) tokens) vs
behind_again ws vs tokens each are =
    sym (drop-map (word_at (words_text (ws ++ vs))) (length ws) tokens)
    ∙ ap (λ (xs : List PrintedWord). drop (length ws) xs) (words_again (ws ++ vs) tokens each are)
    ∙ drop_at ws vs (length ws) refl
