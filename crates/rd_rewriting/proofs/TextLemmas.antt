-- The text of lines, one behind another.
use Rattle.std.proofs.Common.{◌≡◌, ℕ, zero, suc, ◌+◌, ◌≤◌, List, [], ◌∷◌, ◌++◌, length, Some, take, drop, slice_get, refl, sym, ap, ◌∙◌, arith}
use Rattle.std.proofs.lemmas.Grind.{flat_map-append}
use Rattle.std.proofs.lemmas.List.{append-nil, append_assoc, take-append-drop}
use Rattle.rd_event.specs.Items.{line_text, lines_text}
use Rattle.rd_event.specs.declared.items.Line.{Line}

-- the first lines, and one more
taken_more : (lines : List Line) (i : ℕ) (line : Line) → slice_get lines i ≡ Some line → take (suc i) lines ≡ take i lines ++ line ∷ []
taken_more [] i line at = cc
taken_more (x ∷ lines) zero line at = let same : x ≡ line = cc in ap (λ l. l ∷ []) same
taken_more (x ∷ lines) (suc i) line at = ap (λ l. x ∷ l) (taken_more lines i line at)

pub text_more : (lines : List Line) (i : ℕ) (line : Line) → slice_get lines i ≡ Some line
    → lines_text (take (i + 1) lines) ≡ lines_text (take i lines) ++ line_text line
text_more lines i line at =
    ap (λ n. lines_text (take n lines)) (let e : i + 1 ≡ suc i = omega arith in e)
    ∙ (ap lines_text (taken_more lines i line at)
    ∙ (flat_map-append line_text (take i lines) (line ∷ []) ∙ ap (λ t. lines_text (take i lines) ++ t) (append-nil (line_text line))))

-- all lines, by the first, the next and those behind
text_split : (lines : List Line) (i : ℕ) (line : Line) → slice_get lines i ≡ Some line
    → lines_text lines ≡ lines_text (take i lines) ++ (line_text line ++ lines_text (drop (i + 1) lines))
text_split lines i line at =
    ap lines_text (sym (take-append-drop (i + 1) lines))
    ∙ (flat_map-append line_text (take (i + 1) lines) (drop (i + 1) lines)
    ∙ (ap (λ t. t ++ lines_text (drop (i + 1) lines)) (text_more lines i line at) ∙ append_assoc (lines_text (take i lines)) (line_text line) (lines_text (drop (i + 1) lines))))

-- where a front of the next one was written
pub text_front : (lines : List Line) (i : ℕ) (line : Line) (part rest : List ℕ) → slice_get lines i ≡ Some line → line_text line ≡ part ++ rest
    → lines_text lines ≡ (lines_text (take i lines) ++ part) ++ (rest ++ lines_text (drop (i + 1) lines))
text_front lines i line part rest at is = by (lines_text (take i lines)) (lines_text (drop (i + 1) lines)) (text_split lines i line at)
  where
    by : (before behind : List ℕ) → lines_text lines ≡ before ++ (line_text line ++ behind) → lines_text lines ≡ (before ++ part) ++ (rest ++ behind)
    by before behind split =
        split ∙ (ap (λ t. before ++ (t ++ behind)) is
        ∙ (ap (λ t. before ++ t) (append_assoc part rest behind) ∙ sym (append_assoc before part (rest ++ behind))))

pub text_all : (lines : List Line) (n : ℕ) → length lines ≤ n → lines_text (take n lines) ≡ lines_text lines
text_all lines n many = ap lines_text (by lines n many)
  where
    by : (xs : List Line) (m : ℕ) → length xs ≤ m → take m xs ≡ xs
    by [] zero le = refl
    by [] (suc m) le = refl
    by (x ∷ xs) zero le = absurd (omega arith)
    by (x ∷ xs) (suc m) le = ap (λ l. x ∷ l) (by xs m (omega arith))
