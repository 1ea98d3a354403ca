-- Texts one behind another.
use Rattle.std.proofs.Common.{◌≡◌, ℕ, zero, suc, ◌-◌, ◌<◌, ◌≤◌, List, [], ◌∷◌, ◌++◌, length, Result, Ok, Err, Some, take, drop, get_or, slice_get, refl, ap, ◌∙◌, arith}
use Rattle.std.specs.Prelude.{OnErr, OnOk, slice_range}
use Rattle.std.proofs.lemmas.List.{drop-append-le, drop_at, length-append, length-drop, take-append-le, take_all}
use Rattle.rd_rewriting.specs.Texts.{AreStarts, end_before, texts_in}

pub texts_counted : (bytes starts : List ℕ) → length (texts_in bytes starts) ≡ length starts
texts_counted bytes [] = refl
texts_counted bytes (start ∷ starts) = ap suc (texts_counted bytes starts)

-- ---- starts

-- each ends within the bytes
end_inside : (starts : List ℕ) (count : ℕ) → AreStarts starts count → end_before starts count ≤ count
end_inside [] count are = omega arith
end_inside (start ∷ starts) count are = omega (arith, are.0, end_inside starts count are.1)

-- so it is with more bytes, and with one more that starts there
pub starts_longer : (starts : List ℕ) (count more : ℕ) → AreStarts starts count → count ≤ more → AreStarts starts more
starts_longer [] count more are below = tt
starts_longer (start ∷ []) count more are below = (omega (arith, are.0, below), tt)
starts_longer (start ∷ next ∷ starts) count more are below = (are.0, starts_longer (next ∷ starts) count more are.1 below)

pub starts_more : (starts : List ℕ) (count : ℕ) → AreStarts starts count → AreStarts (starts ++ count ∷ []) count
starts_more [] count are = (omega arith, tt)
starts_more (start ∷ []) count are = (are.0, (omega arith, tt))
starts_more (start ∷ next ∷ starts) count are = (are.0, starts_more (next ∷ starts) count are.1)

-- ---- one text more

-- the bytes of a text and a line feed behind others, where there was memory for it
pub longer : {T E : Type 0} (bytes line more all : List ℕ) (result : Result T E) → more ≡ bytes ++ line → OnOk result (all ≡ more ++ 10 ∷ []) → OnErr result (all ≡ more)
    → length bytes ≤ length all
longer bytes line more all (Ok _) is ok err = omega (arith, ap length is, length-append bytes line, ap length ok, length-append more (10 ∷ []))
longer bytes line more all (Err _) is ok err = omega (arith, ap length is, length-append bytes line, ap length err)

end_more : (starts : List ℕ) (count more : ℕ) → end_before (starts ++ count ∷ []) more ≡ end_before starts count
end_more [] count more = refl
end_more (start ∷ starts) count more = refl

range_longer : (bytes more : List ℕ) (from to : ℕ) → from ≤ to → to ≤ length bytes → slice_range (bytes ++ more) from to ≡ slice_range bytes from to
range_longer bytes more from to rises inside =
    ap (take (to - from)) (drop-append-le from bytes more (omega (arith, rises, inside)))
    ∙ take-append-le (to - from) (drop from bytes) more (omega (arith, rises, inside, length-drop from bytes))

-- where others start in front, with more bytes behind theirs, one more starts there and has these
pub texts_more : (bytes more starts : List ℕ) → AreStarts starts (length bytes)
    → texts_in (bytes ++ more) (starts ++ length bytes ∷ []) ≡ texts_in bytes starts ++ more ∷ []
texts_more bytes more [] are =
    ap (λ text. text ∷ [])
    (ap (take (length (bytes ++ more) - length bytes)) (drop_at bytes more (length bytes) refl)
    ∙ take_all (length (bytes ++ more) - length bytes) more (omega (arith, length-append bytes more)))
texts_more bytes more (start ∷ starts) are =
    let end = end_before starts (length bytes) in
    let same : end_before (starts ++ length bytes ∷ []) (length (bytes ++ more)) ≡ end = end_more starts (length bytes) (length (bytes ++ more)) in
    (λ i. slice_range (bytes ++ more) start (same i) ∷ texts_more bytes more starts are.1 i)
    ∙ ap (λ text. text ∷ (texts_in bytes starts ++ more ∷ [])) (range_longer bytes more start end are.0 (end_inside starts (length bytes) are.1))

-- ---- the text with a number

-- it stands from its start to the next one
pub next_text : (bytes starts : List ℕ) (index : ℕ) → suc index < length starts
    → slice_get (texts_in bytes starts) index ≡ Some (slice_range bytes (get_or starts index 0) (get_or starts (suc index) 0))
next_text bytes [] index inside = absurd (omega arith)
next_text bytes (start ∷ []) index inside = absurd (omega arith)
next_text bytes (start ∷ next ∷ starts) zero inside = refl
next_text bytes (start ∷ next ∷ starts) (suc index) inside = next_text bytes (next ∷ starts) index (omega arith)

pub next_inside : (starts : List ℕ) (count index : ℕ) → AreStarts starts count → suc index < length starts
    → (get_or starts index 0 ≤ get_or starts (suc index) 0) × (get_or starts (suc index) 0 ≤ count)
next_inside [] count index are inside = absurd (omega arith)
next_inside (start ∷ []) count index are inside = absurd (omega arith)
next_inside (start ∷ next ∷ starts) count zero are inside = (are.0, end_inside (next ∷ starts) count are.1)
next_inside (start ∷ next ∷ starts) count (suc index) are inside = next_inside (next ∷ starts) count index are.1 (omega arith)

-- or to the end
pub last_text : (bytes starts : List ℕ) (index : ℕ) → suc index ≡ length starts
    → slice_get (texts_in bytes starts) index ≡ Some (slice_range bytes (get_or starts index 0) (length bytes))
last_text bytes [] index last = absurd (omega arith)
last_text bytes (start ∷ []) zero last = refl
last_text bytes (start ∷ []) (suc index) last = absurd (omega arith)
last_text bytes (start ∷ next ∷ starts) zero last = absurd (omega arith)
last_text bytes (start ∷ next ∷ starts) (suc index) last = last_text bytes (next ∷ starts) index (omega arith)

pub last_inside : (starts : List ℕ) (count index : ℕ) → AreStarts starts count → suc index ≡ length starts → get_or starts index 0 ≤ count
last_inside [] count index are last = absurd (omega arith)
last_inside (start ∷ []) count zero are last = are.0
last_inside (start ∷ []) count (suc index) are last = absurd (omega arith)
last_inside (start ∷ next ∷ starts) count zero are last = absurd (omega arith)
last_inside (start ∷ next ∷ starts) count (suc index) are last = last_inside (next ∷ starts) count index are.1 (omega arith)
