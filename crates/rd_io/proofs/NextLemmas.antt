-- What the answers of the reader of lines say of the lines to come.
use Rattle.std.proofs.Common.{◌≡◌, ◌≢◌, ℕ, ◌+◌, ◌≤◌, List, [], ◌∷◌, ◌++◌, length, Result, Ok, Err, sym, ap, ◌∙◌, refl, arith}
use Rattle.std.proofs.lemmas.List.{append-nil}
use Rattle.rd_io.specs.Lines.{Stop, rest_ending}
use Rattle.rd_io.specs.Lines.Stop.{end, fault}
use Rattle.rd_io.specs.Lines.LinesEnding.{line_too_long, bytes_limit}
use Rattle.rd_io.specs.Lines.Reading.{stops, line}
use Rattle.rd_io.specs.LineReader.{Reader, lines_left, with_more, GivesLine, IsTooLong, IsPast, IsShort, IsAnswered, Moves, with_end, with_refusal, with_rest}
use Rattle.rd_io.specs.declared.lines.Next.{Next}
use Rattle.rd_io.specs.declared.lines.ReadEnd.{ReadEnd}
use Rattle.rd_io.specs.declared.lines.Next.TheVariants.{Line, End}
use Rattle.rd_io.specs.declared.lines.ReadEnd.TheVariants.{ReadFault, LineTooLong, BytesLimit, NoFinalNewline}
use Rattle.rd_io.proofs.ReadingLemmas.{left_more, left_line, left_too_long, left_past, left_short}

tells_line : (old new : Reader) (bytes : List ℕ) → GivesLine (with_more old bytes) new
    → (stop : Stop) (more : List ℕ) → lines_left old stop (bytes ++ more) ≡ line new.line (lines_left new stop more)
tells_line old new bytes g stop more = left_more old bytes stop more ∙ left_line (with_more old bytes) new g stop more

tells_too_long : (old : Reader) (bytes : List ℕ) → IsTooLong (with_more old bytes)
    → (stop : Stop) (more : List ℕ) → lines_left old stop (bytes ++ more) ≡ stops line_too_long
tells_too_long old bytes h stop more = left_more old bytes stop more ∙ left_too_long (with_more old bytes) h stop more

tells_past : (old : Reader) (bytes : List ℕ) → IsPast (with_more old bytes)
    → (stop : Stop) (more : List ℕ) → lines_left old stop (bytes ++ more) ≡ stops bytes_limit
tells_past old bytes h stop more = left_more old bytes stop more ∙ left_past (with_more old bytes) h stop more

tells_stop : (old : Reader) (bytes : List ℕ) → IsShort (with_more old bytes) → (stop : Stop)
    → lines_left old stop bytes ≡ stops (rest_ending stop (old.pending ++ bytes))
tells_stop old bytes h stop =
    ap (lines_left old stop) (sym (append-nil bytes)) ∙ left_more old bytes stop [] ∙ left_short (with_more old bytes) h stop

module _ (old new : Reader) (bytes : List ℕ) (past : length (old.pending ++ bytes) ≤ old.room + 1)
    (fits : length (old.pending ++ bytes) ≤ old.limit) where
  pub answered_line : GivesLine (with_more old bytes) new → IsAnswered old bytes new (Ok Line)
  answered_line g = record { tells = tells_line old new bytes g; leaves = g; past = past; fits = fits }

  pub answered_too_long : (mid : Reader) → mid ≡ with_more old bytes → IsTooLong (with_more old bytes)
      → new ≡ with_refusal mid LineTooLong → IsAnswered old bytes new (Err LineTooLong)
  answered_too_long mid is h e =
      record {
        tells = tells_too_long old bytes h;
        leaves = e ∙ ap (λ r. with_refusal r LineTooLong) is;
        past = past;
        fits = fits;
      }

  pub answered_past : (mid : Reader) → mid ≡ with_more old bytes → IsPast (with_more old bytes)
      → new ≡ with_refusal mid BytesLimit → IsAnswered old bytes new (Err BytesLimit)
  answered_past mid is h e =
      record {
        tells = tells_past old bytes h;
        leaves = e ∙ ap (λ r. with_refusal r BytesLimit) is;
        past = past;
        fits = fits;
      }

  pub answered_fault : new ≡ with_more old bytes → IsShort (with_more old bytes) → IsAnswered old bytes new (Err ReadFault)
  answered_fault is h =
      record {
        tells = (
          λ stop more. left_more old bytes stop more ∙ ap (λ (r : Reader). lines_left r stop more) (sym is),
          tells_stop old bytes h fault,
        );
        leaves = is;
        past = past;
        fits = fits;
      }

  -- the lines ended well, or at a rest
  pub answered_end : (result : Result Next ReadEnd) → IsShort (with_more old bytes)
      → (old.pending ++ bytes ≡ [] → (result ≡ Ok End) × (new ≡ with_end (with_more old bytes)))
      → (old.pending ++ bytes ≢ [] → (result ≡ Err NoFinalNewline) × (new ≡ with_rest (with_more old bytes)))
      → IsAnswered old bytes new result × Moves old new result
  answered_end result h well rest = go (old.pending ++ bytes) refl
    where
      go : (pending : List ℕ) → old.pending ++ bytes ≡ pending → IsAnswered old bytes new result × Moves old new result
      go [] is =
          let (answer, reader) = well is in
          rw answer (
            record {
              tells = tells_stop old bytes h end ∙ ap (λ p. stops (rest_ending end p)) is;
              leaves = reader;
              past = past;
              fits = fits;
            },
            record {
              limit = ap (λ (r : Reader). r.limit) reader;
              line = λ _. ap (λ (r : Reader). r.line) reader;
              number = ap (λ (r : Reader). r.number) reader;
              less = omega (arith, ap (λ (r : Reader). r.room) reader);
              ended = ap (λ (r : Reader). r.ended) reader;
            },
          )
      go (b ∷ bs) is =
          let some : old.pending ++ bytes ≢ [] = λ e. let no_cell : b ∷ bs ≡ [] = sym is ∙ e in cc in
          let (answer, reader) = rest some in
          rw answer (
            record {
              tells = (tells_stop old bytes h end ∙ ap (λ p. stops (rest_ending end p)) is, ap (λ (r : Reader). r.line) reader);
              leaves = reader;
              past = past;
              fits = fits;
            },
            record {
              limit = ap (λ (r : Reader). r.limit) reader;
              line = λ e. cc;
              number = ap (λ (r : Reader). r.number) reader;
              less = omega (arith, ap (λ (r : Reader). r.room) reader);
              ended = ap (λ (r : Reader). r.ended) reader;
            },
          )
