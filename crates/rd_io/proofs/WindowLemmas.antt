-- Windows of a buffer: `take n (drop from xs)` is the n elements from a place on.
use Rattle.std.proofs.Common.{◌≡◌, ℕ, ◌+◌, ◌-◌, ◌<◌, ◌≤◌, List, ◌∷◌, ◌++◌, take, drop, length, get_or, sym, ap, ◌∙◌, subst, arith}
use Rattle.std.specs.List.{copy_within}
use Rattle.std.proofs.lemmas.List.{drop-take, take-take, drop-drop, length-drop, length-take, take-append-drop, drop_more, get_or-take}
use Rattle.std.proofs.lemmas.List.Edits.{take-paste}

-- what a copy to the front has there
copied_front : (xs : List ℕ) (low high : ℕ) → low ≤ high → high ≤ length xs
    → take (high - low) (copy_within xs low high 0) ≡ take (high - low) (drop low xs)
copied_front xs low high l h =
    let n = high - low in
    let zero : 0 + n ≡ n = omega arith in
    subst (λ k. take k (copy_within xs low high 0) ≡ take n (drop low xs)) zero
    (take-paste xs 0 (drop low xs) n (omega arith) (simp length-drop (omega arith)))

-- a window stays what it was when all from `low` up to `high` is copied to the front
pub moved : (xs : List ℕ) (low high from n : ℕ) → low ≤ from → from + n ≤ high → high ≤ length xs
    → take n (drop (from - low) (copy_within xs low high 0)) ≡ take n (drop from xs)
moved xs low high from n l f h =
    let g = from - low in
    let ys = copy_within xs low high 0 in
    let in_front : g + n ≤ high - low = omega arith in
    let back : low + g ≡ from = omega arith in
    sym (drop-take g n ys)
    ∙ ap (drop g) (sym (take-take (g + n) (high - low) ys in_front) ∙ ap (take (g + n)) (copied_front xs low high (omega arith) h) ∙ take-take (g + n) (high - low) (drop low xs) in_front)
    ∙ drop-take g n (drop low xs)
    ∙ ap (take n) (drop-drop g low xs ∙ ap (λ k. drop k xs) back)

-- the window up to a place, what stands there, and the window behind it
pub cut_at : (xs : List ℕ) (start held at : ℕ) → at < held → start + held ≤ length xs
    → take held (drop start xs)
    ≡ take at (drop start xs) ++ get_or (drop start xs) at 0 ∷ take (held - (at + 1)) (drop (start + (at + 1)) xs)
cut_at xs start held at l h =
    let ys = drop start xs in
    let p = take held ys in
    let whole : at + 1 + (held - (at + 1)) ≡ held = omega arith in
    let inside : at < length p = simp (length-take, length-drop) (omega arith) in
    sym (take-append-drop at p)
    ∙ ap (λ front. front ++ drop at p) (take-take at held ys (omega arith))
    ∙ ap (λ back. take at ys ++ back) (drop_more p at 0 inside)
    ∙ ap (λ b. take at ys ++ b ∷ drop (at + 1) p) (get_or-take held ys at 0 l)
    ∙ ap (λ back. take at ys ++ get_or ys at 0 ∷ back)
    (ap (λ n. drop (at + 1) (take n ys)) (sym whole) ∙ drop-take (at + 1) (held - (at + 1)) ys
    ∙ ap (take (held - (at + 1))) (drop-drop (at + 1) start xs))
