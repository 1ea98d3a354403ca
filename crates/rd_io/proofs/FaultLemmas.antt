-- The lines behind which a read fails are the first of those of all bytes.
use Rattle.std.proofs.Common.{◌≡◌, ℕ, ◌+◌, ◌-◌, ◌<◌, ◌≤◌, inl, inr, Bool, true, false, cond, List, [], ◌∷◌, ◌++◌, take, length, eqb, ltb, leb, sym, ap, subst, ◌∙◌, refl, arith}
use Rattle.std.proofs.lemmas.Bool.{cases_lt, le-ltb, lt-ltb}
use Rattle.std.proofs.lemmas.List.{length-append, take-append-le, take_all}
use Rattle.std.proofs.Math.Seq.{take-append-add}
use Rattle.rd_io.specs.Lines.{IsFrontOfReading, Stop, Parts, Reading, lines_of, parts_of, reading, with_byte}
use Rattle.rd_io.specs.Lines.Stop.{fault}
use Rattle.rd_io.specs.Lines.LinesEnding.{at_end, bytes_limit, faulted, line_too_long, no_final_newline}
use Rattle.rd_io.specs.Lines.Parts.{rest, part}
use Rattle.rd_io.specs.Lines.Reading.{stops, line}
use Rattle.rd_io.proofs.ReadingLemmas.{first_of, first_with, lines_line, lines_long, lines_rest}

-- ---- parts of a front

-- the parts are the first of the whole's, and what they leave is a front of the next one
PartsBegin : Parts → Parts → Type 0
PartsBegin (rest bytes) whole = (more : List ℕ) × (first_of whole ≡ bytes ++ more)
PartsBegin (part bytes parts) whole = (later : Parts) × (whole ≡ part bytes later) × PartsBegin parts later

begin_with : (byte : ℕ) (p whole : Parts) → PartsBegin p whole → PartsBegin (with_byte byte p) (with_byte byte whole)
unfolding PartsBegin
begin_with byte (rest bytes) whole (more, is) = (more, first_with byte whole ∙ ap (λ bs. byte ∷ bs) is)
begin_with byte (part bytes parts) whole (later, is, begins) = (later, ap (with_byte byte) is, begins)

parts_begin : (bytes more : List ℕ) → PartsBegin (parts_of bytes) (parts_of (bytes ++ more))
unfolding PartsBegin
parts_begin [] more = (first_of (parts_of more), refl)
parts_begin (byte ∷ bytes) more = by (eqb byte 10) (parts_begin bytes more)
  where
    by : (b : Bool) → PartsBegin (parts_of bytes) (parts_of (bytes ++ more))
        → PartsBegin (cond b (part [] (parts_of bytes)) (with_byte byte (parts_of bytes))) (cond b (part [] (parts_of (bytes ++ more))) (with_byte byte (parts_of (bytes ++ more))))
    by true begins = (parts_of (bytes ++ more), refl, begins)
    by false begins = begin_with byte (parts_of bytes) (parts_of (bytes ++ more)) begins

-- ---- lines of a front

front_same : (lines : Reading) → IsFrontOfReading lines lines
front_same (stops at_end) = refl
front_same (stops no_final_newline) = refl
front_same (stops line_too_long) = refl
front_same (stops bytes_limit) = refl
front_same (stops faulted) = tt
front_same (line bytes more) = (more, refl, front_same more)

front_lines : (limit : ℕ) (stop : Stop) (past : Bool) (p whole : Parts) → PartsBegin p whole
    → IsFrontOfReading (lines_of limit fault false p) (lines_of limit stop past whole)
unfolding PartsBegin first_of
front_lines limit stop past (rest bytes) whole (more, is) =
    elim (cases_lt (length bytes) limit) [
      | inl short ↦ subst (λ lines. IsFrontOfReading lines (lines_of limit stop past whole)) (sym (lines_rest limit fault false bytes short)) tt
      | inr long ↦
          let long_too : limit ≤ length (first_of whole) = omega (arith, ap length is, length-append bytes more) in
          subst (λ lines. IsFrontOfReading lines (lines_of limit stop past whole)) (sym (lines_long limit fault false (rest bytes) long)) (lines_long limit stop past whole long_too)
    ]
front_lines limit stop past (part bytes parts) whole (later, is, begins) =
    elim (cases_lt (length bytes) limit) [
      | inl short ↦ subst (λ lines. IsFrontOfReading lines (lines_of limit stop past whole)) (sym (lines_line limit fault false bytes parts short))
          (lines_of limit stop past later, ap (lines_of limit stop past) is ∙ lines_line limit stop past bytes later short, front_lines limit stop past parts later begins)
      | inr long ↦ subst (λ lines. IsFrontOfReading lines (lines_of limit stop past whole)) (sym (lines_long limit fault false (part bytes parts) long))
          (ap (lines_of limit stop past) is ∙ lines_long limit stop past (part bytes later) long)
    ]

-- past the limit on bytes the stop is of no account
same_past : (limit : ℕ) (one other : Stop) (p : Parts) → lines_of limit one true p ≡ lines_of limit other true p
unfolding lines_of
same_past limit one other (rest bytes) = refl
same_past limit one other (part bytes more) = ap (λ lines. cond (leb limit (length bytes)) (stops line_too_long) (line bytes lines)) (same_past limit one other more)

pub front_reading : (limit room : ℕ) (stop : Stop) (bytes more : List ℕ) → IsFrontOfReading (reading limit room fault bytes) (reading limit room stop (bytes ++ more))
unfolding reading
front_reading limit room stop bytes more =
    elim (cases_lt room (length bytes)) [
      | inl past ↦
          let past_too : room < length (bytes ++ more) = omega (arith, length-append bytes more) in
          let left : lines_of limit fault (ltb room (length bytes)) (parts_of (take room bytes)) ≡ lines_of limit fault true (parts_of (take room bytes))
          = ap (λ b. lines_of limit fault b (parts_of (take room bytes))) (lt-ltb room (length bytes) past) in
          let right : lines_of limit stop (ltb room (length (bytes ++ more))) (parts_of (take room (bytes ++ more))) ≡ lines_of limit stop true (parts_of (take room bytes))
          = ap (λ b. lines_of limit stop b (parts_of (take room (bytes ++ more)))) (lt-ltb room (length (bytes ++ more)) past_too)
          ∙ ap (λ bs. lines_of limit stop true (parts_of bs)) (take-append-le room bytes more (omega arith)) in
          subst (IsFrontOfReading (lines_of limit fault (ltb room (length bytes)) (parts_of (take room bytes))))
          (left ∙ same_past limit fault stop (parts_of (take room bytes)) ∙ sym right)
          (front_same (lines_of limit fault (ltb room (length bytes)) (parts_of (take room bytes))))
      | inr within ↦
          let left : lines_of limit fault (ltb room (length bytes)) (parts_of (take room bytes)) ≡ lines_of limit fault false (parts_of bytes)
          = ap (λ b. lines_of limit fault b (parts_of (take room bytes))) (le-ltb room (length bytes) within) ∙ ap (λ bs. lines_of limit fault false (parts_of bs)) (take_all room bytes within) in
          let exact : room ≡ length bytes + (room - length bytes) = omega arith in
          let front : take room (bytes ++ more) ≡ bytes ++ take (room - length bytes) more = ap (λ n. take n (bytes ++ more)) exact ∙ take-append-add bytes more (room - length bytes) in
          subst (λ lines. IsFrontOfReading lines (lines_of limit stop (ltb room (length (bytes ++ more))) (parts_of (take room (bytes ++ more))))) (sym left)
          (subst (λ bs. IsFrontOfReading (lines_of limit fault false (parts_of bytes)) (lines_of limit stop (ltb room (length (bytes ++ more))) (parts_of bs))) (sym front)
          (front_lines limit stop (ltb room (length (bytes ++ more))) (parts_of bytes) (parts_of (bytes ++ take (room - length bytes) more)) (parts_begin bytes (take (room - length bytes) more))))
    ]
