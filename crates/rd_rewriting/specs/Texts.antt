-- Texts one behind another, by where each starts.
use Rattle.std.specs.Prelude.{ℕ, ◌≤◌, List, [], ◌∷◌, length, slice_range}

-- where a text ends behind which others start here, among so many bytes
abbrev pub end_before : List ℕ → ℕ → ℕ
end_before [] count = count
end_before (start ∷ starts) count = start

-- each ends where the next one starts, the last one with the bytes
abbrev pub texts_in : List ℕ → List ℕ → List (List ℕ)
texts_in bytes [] = []
texts_in bytes (start ∷ starts) = slice_range bytes start (end_before starts (length bytes)) ∷ texts_in bytes starts

-- none starts behind its end
abbrev pub AreStarts : List ℕ → ℕ → Type 0
AreStarts [] count = Unit {0}
AreStarts (start ∷ starts) count = (start ≤ end_before starts count) × AreStarts starts count
