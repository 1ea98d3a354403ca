-- Reading a whole log, line by line.
use Rattle.std.proofs.Common.{◌≡◌, ◌≢◌, ℕ, zero, suc, ◌+◌, ◌<◌, ◌==◌, true, false, if◌then◌else◌, List, [], ◌∷◌, length, take, drop, Option, Some, None, Result, Ok, Err, refl, sym, ap, ap₂, ◌∙◌, arith}
use Rattle.std.specs.Prelude.{slice_index}
use Rattle.std.proofs.lemmas.Bool.{false_from_ne_true}
use Rattle.std.proofs.lemmas.Bool.Decides.{Decides-eqb}
use Rattle.std.proofs.lemmas.List.{append-nil, append_assoc}
use Rattle.memchr.specs.Find.{IsFirstByte, is_byte}
use Rattle.rd_base.specs.Bytes.{line_feed}
use Rattle.rd_event.specs.Items.{is_skipped}
use Rattle.rd_io.specs.Lines.{Parts, part, parts_of, rest, with_byte}
use Rattle.rd_logs.specs.declared.lines.LogLine.{LogLine}
use Rattle.rd_logs.specs.LogLines.{log_header_of, log_line_of}
use Rattle.rd_logs.specs.WholeLogs.{SaidLines, added, begun_by, in_front, log_lines_from, log_from, said_by}

-- ---- the first line of bytes

cut_at : (text : List ℕ) (at : ℕ) → at < length text → slice_index text at ≡ 10 → ((k : ℕ) → k < at → slice_index text k ≢ 10) → parts_of text ≡ part (take at text) (parts_of (drop (suc at) text))
cut_at [] at within feed before = absurd (omega arith)
cut_at (b ∷ bytes) zero within feed before = rw ((Decides-eqb b 10).1 feed) refl
cut_at (b ∷ bytes) (suc at) within feed before =
    let other : (b == line_feed) ≡ false = false_from_ne_true _ (λ same. before 0 (omega arith) ((Decides-eqb b 10).0 same)) in
    ap (λ c. if c then part [] (parts_of bytes) else with_byte b (parts_of bytes)) other
    ∙ ap (with_byte b) (cut_at bytes at (omega arith) feed (λ k less. before (suc k) (omega arith)))

pub parts_cut : (text : List ℕ) (at : ℕ) → IsFirstByte (is_byte 10) text (Some at) → parts_of text ≡ part (take at text) (parts_of (drop (at + 1) text))
parts_cut text at found =
    let next : suc at ≡ at + 1 = omega arith in
    cut_at text at found.0.high ((Decides-eqb _ 10).0 found.1) (λ k less is. found.0.before k (omega arith) less ((Decides-eqb _ 10).1 is))
    ∙ ap (λ n. part (take at text) (parts_of (drop n text))) next

pub parts_left : (text : List ℕ) → IsFirstByte (is_byte 10) text None → parts_of text ≡ rest text
parts_left text none = by text (λ k less is. none k (omega arith) less ((Decides-eqb _ 10).1 is))
  where
    by : (text : List ℕ) → ((k : ℕ) → k < length text → slice_index text k ≢ 10) → parts_of text ≡ rest text
    by [] clean = refl
    by (b ∷ bytes) clean =
        let other : (b == line_feed) ≡ false = false_from_ne_true _ (λ same. clean 0 (omega arith) ((Decides-eqb b 10).0 same)) in
        ap (λ c. if c then part [] (parts_of bytes) else with_byte b (parts_of bytes)) other ∙ ap (with_byte b) (by bytes (λ k less. clean (suc k) (omega arith)))

-- ---- the header

pub no_header : (number : ℕ) (parts : Parts) (bytes : List ℕ) → parts ≡ rest bytes → log_from number parts ≡ Err number
unfolding log_from
no_header number parts bytes are = rw are refl

pub skips : (number : ℕ) (parts more : Parts) (line : List ℕ) → parts ≡ part line more → is_skipped line ≡ true → log_from number parts ≡ log_from (number + 1) more
unfolding log_from
skips number parts more line are skipped = rw (are, skipped) refl

pub begins : (number : ℕ) (parts more : Parts) (line : List ℕ) (found : Option (List ℕ)) → parts ≡ part line more → is_skipped line ≡ false → found ≡ log_header_of line
    → log_from number parts ≡ begun_by found number more
unfolding log_from
begins number parts more line found are other is = rw (are, other, is) refl

-- ---- the lines

-- what lines said in front of those that are still to be read
module _ (thread : List ℕ) (number : ℕ) (front : SaidLines) where
  pub all_read : (bytes : List ℕ) → bytes ≡ [] → in_front front (log_lines_from thread number (parts_of bytes)) ≡ Ok front
  unfolding log_lines_from
  all_read bytes none = rw none (ap₂ (λ objects events. Ok (record { objects = objects; events = events })) (append-nil front.objects) (append-nil front.events))

  pub left_over : (bytes : List ℕ) → bytes ≢ [] → parts_of bytes ≡ rest bytes → in_front front (log_lines_from thread number (parts_of bytes)) ≡ Err number
  unfolding log_lines_from
  left_over [] some are = absurd (some refl)
  left_over (byte ∷ bytes) some are = ap (λ parts. in_front front (log_lines_from thread number parts)) are

  pub bad_line : (parts more : Parts) (line : List ℕ) → parts ≡ part line more → log_line_of thread line ≡ None → in_front front (log_lines_from thread number parts) ≡ Err number
  unfolding log_lines_from
  bad_line parts more line are none = rw (are, none) refl

  pub reads : (parts more : Parts) (line : List ℕ) (said : LogLine) → parts ≡ part line more → log_line_of thread line ≡ Some said
      → in_front front (log_lines_from thread number parts) ≡ in_front (added front (said_by thread said)) (log_lines_from thread (number + 1) more)
  unfolding log_lines_from
  reads parts more line said are is = rw (are, is) (further (said_by thread said) (log_lines_from thread (number + 1) more))
    where
      further : (one : SaidLines) (behind : Result SaidLines ℕ) → in_front front (in_front one behind) ≡ in_front (added front one) behind
      further one (Ok lines) =
          ap₂ (λ objects events. Ok (record { objects = objects; events = events })) (sym (append_assoc front.objects one.objects lines.objects)) (sym (append_assoc front.events one.events lines.events))
      further one (Err bad) = refl
