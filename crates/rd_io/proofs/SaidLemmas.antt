-- The lines that bytes say are those of their reading.
use Rattle.std.proofs.Common.{◌≡◌, ◌≢◌, ◌⊎◌, inl, inr, ℕ, zero, suc, ◌+◌, ◌-◌, ◌<◌, ◌≤◌, Bool, true, false, min, List, [], ◌∷◌, ◌++◌, None, take, drop, length, eqb, sym, ap, subst, ◌∙◌, refl, arith}
use Rattle.std.proofs.lemmas.Bool.{cases_lt}
use Rattle.std.proofs.lemmas.Bool.Decides.{nat_tests}
use Rattle.std.proofs.lemmas.List.{append_assoc, append-nil, length-append, length-take, length-take-le, take-append-drop, take-take, take_all, get_or-take}
use Rattle.rd_io.specs.Lines.{LinesEnding, Reading, Stop, reading, rest_ending}
use Rattle.rd_io.specs.Lines.Stop.{end, fault}
use Rattle.rd_io.specs.Lines.LinesEnding.{at_end, no_final_newline, line_too_long, bytes_limit, faulted}
use Rattle.rd_io.specs.Lines.Reading.{stops, line}
use Rattle.rd_io.specs.LineReader.{HasNoFeed, Reader}
use Rattle.rd_io.specs.SaidLines.{EndsLines, IsRest, SaysLines}
use Rattle.rd_io.proofs.ReadingLemmas.{left_past, left_short, left_too_long, reading_line}

-- ---- there is only one reading

-- a reader that holds these bytes
abbrev held : ℕ → ℕ → List ℕ → Reader
held limit room bytes = record { pending = bytes; room = room; limit = limit; line = []; number = 0; ended = None }

no_feed_front : (n : ℕ) (bytes : List ℕ) → HasNoFeed bytes → HasNoFeed (take n bytes)
no_feed_front n bytes clean = λ k l e.
    let in_front : k < min n (length bytes) = simp length-take at l in
    clean k (omega arith) (sym (get_or-take n bytes k 0 (omega arith)) ∙ e)

rest_read : (limit room : ℕ) (stop : Stop) (bytes : List ℕ) → IsRest limit room bytes → reading limit room stop bytes ≡ stops (rest_ending stop bytes)
rest_read limit room stop bytes is =
    ap (reading limit room stop) (sym (append-nil bytes)) ∙ left_short (held limit room bytes) (record { clean = is.clean; short = is.short; within = is.within }) stop

ends_read : (limit room : ℕ) (stop : Stop) (bytes : List ℕ) (ending : LinesEnding) → EndsLines limit room stop bytes ending
    → reading limit room stop bytes ≡ stops ending
ends_read limit room stop bytes line_too_long (within, long, clean) =
    ap (reading limit room stop) (sym (take-append-drop limit bytes))
    ∙ left_too_long (held limit room (take limit bytes)) (record { clean = clean; long = length-take-le limit bytes long; within = within }) stop (drop limit bytes)
ends_read limit room stop bytes bytes_limit (short, past, clean) =
    ap (reading limit room stop) (sym (take-append-drop (room + 1) bytes))
    ∙ left_past (held limit room (take (room + 1) bytes))
    (record { clean = subst HasNoFeed (sym (take-take room (room + 1) bytes (omega arith))) clean; past = length-take-le (room + 1) bytes (omega arith); short = short }) stop (drop (room + 1) bytes)
ends_read limit room stop bytes faulted (is, stopped) = rest_read limit room stop bytes is ∙ ap (λ s. stops (rest_ending s bytes)) stopped
ends_read limit room stop bytes no_final_newline (is, ended, some) =
    rest_read limit room stop bytes is ∙ ap (λ s. stops (rest_ending s bytes)) ended ∙ ap stops (not_well bytes some)
  where
    not_well : (xs : List ℕ) → xs ≢ [] → rest_ending end xs ≡ no_final_newline
    not_well [] nonempty = absurd (nonempty refl)
    not_well (x ∷ xs) nonempty = refl
ends_read limit room stop bytes at_end (is, ended, none) =
    rest_read limit room stop bytes is ∙ ap (λ s. stops (rest_ending s bytes)) ended ∙ ap (λ xs. stops (rest_ending end xs)) none

pub one_reading : (limit room : ℕ) (stop : Stop) (bytes : List ℕ) (lines : Reading) → SaysLines limit room stop bytes lines → lines ≡ reading limit room stop bytes
one_reading limit room stop bytes (stops ending) ends = sym (ends_read limit room stop bytes ending ends)
one_reading limit room stop bytes (line first others) (behind, left, is, clean, short, fits, says) =
    ap (line first) (one_reading limit left stop behind others says)
    ∙ sym (ap (reading limit room stop) is ∙ reading_line limit room stop first behind left clean short fits)

-- ---- and there is one

-- the bytes up to their first line feed, if they have one
IsCut : List ℕ → Type 0
IsCut bytes = (front : List ℕ) × (behind : List ℕ) × (bytes ≡ front ++ 10 ∷ behind) × HasNoFeed front

no_feed_more : (b : ℕ) (bs : List ℕ) → eqb b 10 ≡ false → HasNoFeed bs → HasNoFeed (b ∷ bs)
no_feed_more b bs other clean zero l e = let apart : b ≢ 10 = grind (arith, nat_tests) in apart e
no_feed_more b bs other clean (suc k) l e = clean k (omega arith) e

find_feed : (bytes : List ℕ) → HasNoFeed bytes ⊎ IsCut bytes
unfolding IsCut
find_feed [] = inl (λ k l. absurd (omega arith))
find_feed (b ∷ bs) = by (eqb b 10) refl (find_feed bs)
  where
    by : (t : Bool) → eqb b 10 ≡ t → HasNoFeed bs ⊎ IsCut bs → HasNoFeed (b ∷ bs) ⊎ IsCut (b ∷ bs)
    by true here found =
        let is : b ≡ 10 = grind (arith, nat_tests) in
        inr ([], bs, ap (λ x. x ∷ bs) is, λ k l. absurd (omega arith))
    by false other (inl clean) = inl (no_feed_more b bs other clean)
    by false other (inr (front, behind, is, clean)) = inr (b ∷ front, behind, ap (λ xs. b ∷ xs) is, no_feed_more b front other clean)

-- bytes without a line feed among the first that a line may have, within the limit on bytes, end in some way
some_ending : (limit room : ℕ) (stop : Stop) (bytes : List ℕ) → HasNoFeed (take (min limit room) bytes) → (ending : LinesEnding) × EndsLines limit room stop bytes ending
some_ending limit room stop bytes clean =
    elim (cases_lt room limit) [
      | inl less ↦
          let size : min limit room ≡ room = omega arith in
          elim (cases_lt room (length bytes)) [
            | inl past ↦ (bytes_limit, (less, past, subst (λ n. HasNoFeed (take n bytes)) size clean))
            | inr fits ↦ some_rest stop bytes (rest_of room size fits (omega arith) fits)
          ]
      | inr enough ↦
          let size : min limit room ≡ limit = omega arith in
          elim (cases_lt (length bytes) limit) [
            | inl short ↦ some_rest stop bytes (rest_of limit size (omega arith) short (omega arith))
            | inr long ↦ (line_too_long, (enough, long, subst (λ n. HasNoFeed (take n bytes)) size clean))
          ]
    ]
  where
    rest_of : (n : ℕ) → min limit room ≡ n → length bytes ≤ n → length bytes < limit → length bytes ≤ room → IsRest limit room bytes
    rest_of n size all short within = record {
      clean = subst HasNoFeed (take_all n bytes all) (subst (λ k. HasNoFeed (take k bytes)) size clean);
      short = short;
      within = within;
    }

    some_rest : (s : Stop) (xs : List ℕ) → IsRest limit room xs → (ending : LinesEnding) × EndsLines limit room s xs ending
    some_rest fault xs is = (faulted, (is, refl))
    some_rest end [] is = (at_end, (is, refl, refl))
    some_rest end (x ∷ xs) is = (no_final_newline, (is, refl, λ e. cc))

some_lines : (fuel limit room : ℕ) (stop : Stop) (bytes : List ℕ) → length bytes < fuel → (lines : Reading) × SaysLines limit room stop bytes lines
unfolding IsCut
some_lines zero limit room stop bytes few = absurd (omega arith)
some_lines (suc fuel) limit room stop bytes few = by (some_lines fuel limit) (find_feed (take (min limit room) bytes))
  where
    by : ((left : ℕ) (s : Stop) (xs : List ℕ) → length xs < fuel → (lines : Reading) × SaysLines limit left s xs lines)
        → HasNoFeed (take (min limit room) bytes) ⊎ IsCut (take (min limit room) bytes) → (lines : Reading) × SaysLines limit room stop bytes lines
    by more (inl clean) = let ends = some_ending limit room stop bytes clean in (stops ends.0, ends.1)
    by more (inr (front, after, is, clean)) =
        let behind = after ++ drop (min limit room) bytes in
        let whole : bytes ≡ front ++ 10 ∷ behind =
        sym (take-append-drop (min limit room) bytes) ∙ ap (λ xs. xs ++ drop (min limit room) bytes) is ∙ append_assoc front (10 ∷ after) (drop (min limit room) bytes) in
        let size : length front + suc (length after) ≡ min (min limit room) (length bytes) =
        sym (length-append front (10 ∷ after)) ∙ sym (ap length is) ∙ length-take (min limit room) bytes in
        let total : length bytes ≡ length front + suc (length behind) = ap length whole ∙ length-append front (10 ∷ behind) in
        let left = room - (length front + 1) in
        let others = more left stop behind (omega arith) in
        (line front others.0, (behind, left, whole, clean, omega arith, omega arith, others.1))

pub said_reading : (limit room : ℕ) (stop : Stop) (bytes : List ℕ) → SaysLines limit room stop bytes (reading limit room stop bytes)
said_reading limit room stop bytes =
    let some = some_lines (length bytes + 1) limit room stop bytes (omega arith) in
    subst (SaysLines limit room stop bytes) (one_reading limit room stop bytes some.0 some.1) some.1
