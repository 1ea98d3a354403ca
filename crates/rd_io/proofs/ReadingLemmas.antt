-- What is still to come behind bytes of which something is known.
use Rattle.std.proofs.Common.{◌≡◌, ◌≢◌, ℕ, suc, ◌+◌, ◌-◌, ◌<◌, ◌≤◌, Bool, true, false, cond, List, [], ◌∷◌, ◌++◌, take, length, eqb, ltb, leb, sym, ap, ◌∙◌, refl, arith}
use Rattle.std.proofs.lemmas.List.{append_assoc, append-nil, length-append, length-take, take-append-le, take_all}
use Rattle.std.proofs.lemmas.Bool.Decides.{nat_tests}
use Rattle.std.proofs.Math.Seq.{take-append-add}
use Rattle.rd_io.specs.Lines.{Stop, Parts, with_byte, parts_of, rest_ending, lines_of, reading}
use Rattle.rd_io.specs.Lines.LinesEnding.{line_too_long, bytes_limit}
use Rattle.rd_io.specs.Lines.Reading.{stops, line}
use Rattle.rd_io.specs.Lines.Parts.{rest, part}
use Rattle.rd_io.specs.LineReader.{HasNoFeed, Reader, lines_left, with_more, GivesLine, IsTooLong, IsPast, IsShort}

no_feed_tail : (b : ℕ) (bs : List ℕ) → HasNoFeed (b ∷ bs) → HasNoFeed bs
no_feed_tail b bs h = λ k l. h (suc k) (omega arith)

no_feed_head : (b : ℕ) (bs : List ℕ) → HasNoFeed (b ∷ bs) → eqb b 10 ≡ false
no_feed_head b bs h = let apart : b ≢ 10 = h 0 (omega arith) in grind (arith, nat_tests)

parts_line : (bytes more : List ℕ) → HasNoFeed bytes → parts_of (bytes ++ 10 ∷ more) ≡ part bytes (parts_of more)
parts_line [] more clean = refl
parts_line (b ∷ bs) more clean =
    ap (λ t. cond t (part [] (parts_of (bs ++ 10 ∷ more))) (with_byte b (parts_of (bs ++ 10 ∷ more)))) (no_feed_head b bs clean)
    ∙ ap (with_byte b) (parts_line bs more (no_feed_tail b bs clean))

parts_rest : (bytes : List ℕ) → HasNoFeed bytes → parts_of bytes ≡ rest bytes
parts_rest [] clean = refl
parts_rest (b ∷ bs) clean =
    ap (λ t. cond t (part [] (parts_of bs)) (with_byte b (parts_of bs))) (no_feed_head b bs clean)
    ∙ ap (with_byte b) (parts_rest bs (no_feed_tail b bs clean))

-- the first part, or the rest where there is none
unfoldable pub first_of : Parts → List ℕ
first_of (rest bytes) = bytes
first_of (part bytes more) = bytes

pub first_with : (b : ℕ) (p : Parts) → first_of (with_byte b p) ≡ b ∷ first_of p
unfolding first_of
first_with b (rest bytes) = refl
first_with b (part bytes more) = refl

first_long : (bytes more : List ℕ) → HasNoFeed bytes → length bytes ≤ length (first_of (parts_of (bytes ++ more)))
first_long [] more clean = omega arith
first_long (b ∷ bs) more clean =
    let go = first_long bs more (no_feed_tail b bs clean) in
    let is = ap first_of (ap (λ t. cond t (part [] (parts_of (bs ++ more))) (with_byte b (parts_of (bs ++ more)))) (no_feed_head b bs clean))
    ∙ first_with b (parts_of (bs ++ more)) in
    omega (arith, ap length is)

pub lines_long : (limit : ℕ) (stop : Stop) (past : Bool) (p : Parts) → limit ≤ length (first_of p)
    → lines_of limit stop past p ≡ stops line_too_long
unfolding lines_of first_of
lines_long limit stop past (rest bytes) l =
    let t : leb limit (length bytes) ≡ true = grind (arith, nat_tests) in
    ap (λ b. cond b (stops line_too_long) (cond past (stops bytes_limit) (stops (rest_ending stop bytes)))) t
lines_long limit stop past (part bytes more) l =
    let t : leb limit (length bytes) ≡ true = grind (arith, nat_tests) in
    ap (λ b. cond b (stops line_too_long) (line bytes (lines_of limit stop past more))) t

pub lines_line : (limit : ℕ) (stop : Stop) (past : Bool) (bytes : List ℕ) (p : Parts) → length bytes < limit
    → lines_of limit stop past (part bytes p) ≡ line bytes (lines_of limit stop past p)
unfolding lines_of
lines_line limit stop past bytes p l =
    let t : leb limit (length bytes) ≡ false = grind (arith, nat_tests) in
    ap (λ b. cond b (stops line_too_long) (line bytes (lines_of limit stop past p))) t

pub lines_rest : (limit : ℕ) (stop : Stop) (past : Bool) (bytes : List ℕ) → length bytes < limit
    → lines_of limit stop past (rest bytes) ≡ cond past (stops bytes_limit) (stops (rest_ending stop bytes))
unfolding lines_of
lines_rest limit stop past bytes l =
    let t : leb limit (length bytes) ≡ false = grind (arith, nat_tests) in
    ap (λ b. cond b (stops line_too_long) (cond past (stops bytes_limit) (stops (rest_ending stop bytes)))) t

take_over : (front : List ℕ) (b : ℕ) (back : List ℕ) (n : ℕ) → take (length front + 1 + n) (front ++ b ∷ back) ≡ front ++ b ∷ take n back
take_over [] b back n = let e : 0 + 1 + n ≡ suc n = omega arith in ap (λ k. take k (b ∷ back)) e
take_over (x ∷ xs) b back n =
    let e : suc (length xs) + 1 + n ≡ suc (length xs + 1 + n) = omega arith in
    ap (λ k. take k (x ∷ (xs ++ b ∷ back))) e ∙ ap (λ ys. x ∷ ys) (take_over xs b back n)

pub reading_line : (limit room : ℕ) (stop : Stop) (bytes back : List ℕ) (n : ℕ) → HasNoFeed bytes → length bytes < limit
    → room ≡ length bytes + 1 + n → reading limit room stop (bytes ++ 10 ∷ back) ≡ line bytes (reading limit n stop back)
unfolding reading
reading_line limit room stop bytes back n clean short fits =
    let long : length (bytes ++ 10 ∷ back) ≡ length bytes + 1 + length back = length-append bytes (10 ∷ back) ∙ omega arith in
    let past : ltb room (length (bytes ++ 10 ∷ back)) ≡ ltb n (length back) = rw (long, fits) (grind (arith, nat_tests)) in
    ap (λ t. lines_of limit stop t (parts_of (take room (bytes ++ 10 ∷ back)))) past
    ∙ ap (λ k. lines_of limit stop (ltb n (length back)) (parts_of (take k (bytes ++ 10 ∷ back)))) fits
    ∙ ap (λ xs. lines_of limit stop (ltb n (length back)) (parts_of xs)) (take_over bytes 10 back n)
    ∙ ap (lines_of limit stop (ltb n (length back))) (parts_line bytes (take n back) clean)
    ∙ lines_line limit stop (ltb n (length back)) bytes (parts_of (take n back)) short

-- the bytes that are taken first are pending then
pub left_more : (r : Reader) (bytes : List ℕ) (stop : Stop) (more : List ℕ) → lines_left r stop (bytes ++ more) ≡ lines_left (with_more r bytes) stop more
left_more r bytes stop more = ap (reading r.limit r.room stop) (sym (append_assoc r.pending bytes more))

pub left_line : (old new : Reader) → GivesLine old new → (stop : Stop) (more : List ℕ) → lines_left old stop more ≡ line new.line (lines_left new stop more)
left_line old new g stop more =
    ap (λ p. reading old.limit old.room stop (p ++ more)) g.pending
    ∙ ap (reading old.limit old.room stop) (append_assoc new.line (10 ∷ new.pending) more)
    ∙ reading_line old.limit old.room stop new.line (new.pending ++ more) new.room g.clean g.short g.room
    ∙ ap (λ k. line new.line (reading k new.room stop (new.pending ++ more))) (sym g.limit)

pub left_too_long : (r : Reader) → IsTooLong r → (stop : Stop) (more : List ℕ) → lines_left r stop more ≡ stops line_too_long
unfolding reading
left_too_long r h stop more =
    let past = ltb r.room (length (r.pending ++ more)) in
    let front : take r.room (r.pending ++ more) ≡ r.pending ++ take (r.room - length r.pending) more = take_past r.pending more r.room (omega (arith, h.long, h.within)) in
    let long = first_long r.pending (take (r.room - length r.pending) more) h.clean in
    ap (λ xs. lines_of r.limit stop past (parts_of xs)) front
    ∙ lines_long r.limit stop past (parts_of (r.pending ++ take (r.room - length r.pending) more)) (omega (arith, h.long, long))
  where
    take_past : (xs ys : List ℕ) (n : ℕ) → length xs ≤ n → take n (xs ++ ys) ≡ xs ++ take (n - length xs) ys
    take_past xs ys n l =
        let split : length xs + (n - length xs) ≡ n = omega arith in
        ap (λ k. take k (xs ++ ys)) (sym split) ∙ take-append-add xs ys (n - length xs)

pub left_past : (r : Reader) → IsPast r → (stop : Stop) (more : List ℕ) → lines_left r stop more ≡ stops bytes_limit
unfolding reading
left_past r h stop more =
    let long = length-append r.pending more in
    let past : ltb r.room (length (r.pending ++ more)) ≡ true = rw long (let p = h.past in grind (arith, nat_tests)) in
    let front : take r.room (r.pending ++ more) ≡ take r.room r.pending = take-append-le r.room r.pending more (omega (arith, h.past)) in
    let size : length (take r.room r.pending) ≡ r.room = simp length-take (omega (arith, h.past)) in
    ap (λ t. lines_of r.limit stop t (parts_of (take r.room (r.pending ++ more)))) past
    ∙ ap (λ xs. lines_of r.limit stop true (parts_of xs)) front
    ∙ ap (lines_of r.limit stop true) (parts_rest (take r.room r.pending) h.clean)
    ∙ lines_rest r.limit stop true (take r.room r.pending) (omega (arith, h.short, size))

-- at the end of the bytes the pending ones are the rest
pub left_short : (r : Reader) → IsShort r → (stop : Stop) → lines_left r stop [] ≡ stops (rest_ending stop r.pending)
unfolding reading
left_short r h stop =
    let past : ltb r.room (length r.pending) ≡ false = let w = h.within in grind (arith, nat_tests) in
    ap (reading r.limit r.room stop) (append-nil r.pending)
    ∙ ap (λ t. lines_of r.limit stop t (parts_of (take r.room r.pending))) past
    ∙ ap (λ xs. lines_of r.limit stop false (parts_of xs)) (take_all r.room r.pending h.within)
    ∙ ap (lines_of r.limit stop false) (parts_rest r.pending h.clean)
    ∙ lines_rest r.limit stop false r.pending h.short
