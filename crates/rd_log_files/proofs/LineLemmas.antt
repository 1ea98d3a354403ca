-- Where reading the lines of one log has come.
use Rattle.std.proofs.Common.{◌≡◌, ◌≢◌, ℕ, ◌+◌, ◌≤◌, List, [], ◌∷◌, ◌++◌, length, Result, Ok, Err, refl, sym, ap, ◌∙◌, subst, arith}
use Rattle.std.specs.Prelude.{IfErr, OnOk}
use Rattle.std.specs.List.{flat_map}
use Rattle.std.proofs.lemmas.List.{append_assoc, append-nil}
use Rattle.rd_base.specs.declared.limits.Limits.{Limits}
use Rattle.rd_io.specs.LineReader.{Reader, TellsNext, fresh, lines_left, number_after}
use Rattle.rd_io.specs.Lines.{LinesEnding, Reading, reading}
use Rattle.rd_io.specs.Lines.Stop.{end}
use Rattle.rd_io.specs.Lines.LinesEnding.{at_end, no_final_newline, line_too_long, bytes_limit}
use Rattle.rd_io.specs.Lines.Reading.{stops, line}
use Rattle.rd_io.specs.SaidLines.{SaysLines}
use Rattle.rd_io.specs.declared.lines.Next.TheVariants as next
use Rattle.rd_io.specs.declared.lines.ReadEnd.{ReadEnd}
use Rattle.rd_io.specs.declared.lines.ReadEnd.TheVariants.{ReadFault, LineTooLong, BytesLimit, NoFinalNewline}
use Rattle.rd_io.proofs.SaidLemmas.{said_reading}
use Rattle.rd_walk.specs.Progress.{IsCut, with_feed}
use Rattle.rd_walk.proofs.ProgressLemmas.{read_so_far}
use Rattle.rd_log_files.specs.Gathered.{counted_lines, counted_log, ended_log}
use Rattle.rd_log_files.specs.LogFiles.{TakesLines, ending_by}
use Rattle.rd_log_files.specs.declared.unread.LogLimit.{LogLimit}
use Rattle.rd_log_files.specs.declared.unread.LogsUnread.TheVariants.{Limit}
use Rattle.rd_log_files.proofs.GatheredLemmas.{counted_stops, ok_is_no_err, passed_behind}

-- the lines given so far are counted, and those that the reader has still to give are not
abbrev pub CountsOn : Limits → ℕ → ℕ → List ℕ → Reader → ℕ → Type 0
CountsOn limits log from taken reader events =
    (more : List ℕ) → counted_log limits log from (taken ++ more) ≡ counted_lines limits log events (reader.number + 1) (lines_left reader end more)

pub counts_none : (limits : Limits) (log from : ℕ) → CountsOn limits log from [] (fresh limits) from
counts_none limits log from more = refl

feeds_more : (lines : List (List ℕ)) (last : List ℕ) → flat_map with_feed (lines ++ last ∷ []) ≡ flat_map with_feed lines ++ with_feed last
feeds_more [] last = append-nil (with_feed last)
feeds_more (x ∷ xs) last = ap (λ t. with_feed x ++ t) (feeds_more xs last) ∙ sym (append_assoc (with_feed x) (flat_map with_feed xs) (with_feed last))

-- one line more is kept
pub kept_more : (lines : List (List ℕ)) (last text new : List ℕ) → text ≡ flat_map with_feed lines → new ≡ text ++ with_feed last
    → new ≡ flat_map with_feed (lines ++ last ∷ [])
kept_more lines last text new is kept = kept ∙ ap (λ t. t ++ with_feed last) is ∙ sym (feeds_more lines last)

-- nothing is pending where the lines have ended well
pub none_pending : (limit room : ℕ) (bytes : List ℕ) → reading limit room end bytes ≡ stops at_end → bytes ≡ []
none_pending limit room bytes is = (subst (SaysLines limit room end bytes) is (said_reading limit room end bytes)).2

module _ (limits : Limits) (log from : ℕ) (taken bytes : List ℕ) (old : Reader) (events : ℕ) (lines : List (List ℕ)) (so_far : CountsOn limits log from taken old events)
    (cut : IsCut limits taken old lines) (numbered : old.number ≡ length lines) where
  further : (more : List ℕ) → counted_log limits log from (taken ++ bytes ++ more) ≡ counted_lines limits log events (old.number + 1) (lines_left old end (bytes ++ more))
  further more = ap (counted_log limits log from) (append_assoc taken bytes more) ∙ so_far (bytes ++ more)

  pub takes_lines : length (old.pending ++ bytes) ≤ old.room + 1 → length (old.pending ++ bytes) ≤ old.limit → TakesLines limits log from (taken ++ bytes)
  takes_lines past fits = record {
    begun = old.number + 1;
    read = read_so_far limits taken bytes old lines cut (old.number + 1) (omega (arith, numbered)) (omega (arith, numbered)) past fits;
    stops = λ held passed is. (passed_behind limits log events (old.number + 1) (lines_left old end (bytes ++ held)) passed (sym (further held) ∙ is)).0;
  }

  -- the lines end so
  pub counts_ended : (held : List ℕ) (ending : LinesEnding) → lines_left old end (bytes ++ held) ≡ stops ending
      → counted_log limits log from (taken ++ bytes ++ held) ≡ ended_log limits log events (old.number + 1) ending
  counts_ended held ending is =
      further held ∙ ap (counted_lines limits log events (old.number + 1)) is ∙ counted_stops limits log events (old.number + 1) ending

  -- and all of it is kept
  pub ended_kept : (ending : LinesEnding) → lines_left old end bytes ≡ stops ending → ended_log limits log events (old.number + 1) ending ≡ Ok events
      → (whole : List ℕ) → whole ≡ flat_map with_feed lines ++ (old.pending ++ bytes) → (whole ≡ taken ++ bytes) × (counted_log limits log from whole ≡ Ok events)
  ended_kept ending is well whole kept =
      let same : whole ≡ taken ++ bytes = kept ∙ sym (append_assoc (flat_map with_feed lines) old.pending bytes) ∙ ap (λ t. t ++ bytes) (sym cut.cut) in (
        same,
        ap (counted_log limits log from) (same ∙ sym (append-nil (taken ++ bytes)))
            ∙ counts_ended [] ending (ap (lines_left old end) (append-nil bytes) ∙ is) ∙ well,
      )

  pub kept_well : lines_left old end bytes ≡ stops at_end → (text : List ℕ) → text ≡ flat_map with_feed lines
      → (text ≡ taken ++ bytes) × (counted_log limits log from text ≡ Ok events)
  kept_well is text kept =
      ended_kept at_end is refl text
      (kept ∙ sym (append-nil (flat_map with_feed lines)) ∙ ap (λ t. flat_map with_feed lines ++ t) (sym (none_pending old.limit old.room (old.pending ++ bytes) is)))

  pub kept_rest : lines_left old end bytes ≡ stops no_final_newline → (text rest whole : List ℕ) → text ≡ flat_map with_feed lines → rest ≡ old.pending ++ bytes
      → whole ≡ text ++ rest → (whole ≡ taken ++ bytes) × (counted_log limits log from whole ≡ Ok events)
  kept_rest is text rest whole kept rest_is whole_is =
      ended_kept no_final_newline is refl whole (whole_is ∙ ap (λ t. t ++ rest) kept ∙ ap (λ t. flat_map with_feed lines ++ t) rest_is)

  -- or they end by a limit that is passed
  pub refused_limit : (refused : ReadEnd) (new : Reader) → refused ≢ ReadFault → TellsNext old bytes new (Err refused) → new.number ≡ number_after old.number (Err refused)
      → (passed : LogLimit) → ((n : ℕ) → ended_log limits log n new.number (ending_by refused) ≡ Err passed) → (held : List ℕ)
      → counted_log limits log from (taken ++ bytes ++ held) ≡ Err passed
  refused_limit ReadFault new some tells next passed is held = absurd (some refl)
  refused_limit LineTooLong new some tells next passed is held =
      counts_ended held line_too_long (tells end held) ∙ ap (λ n. ended_log limits log events n line_too_long) (sym next) ∙ is events
  refused_limit BytesLimit new some tells next passed is held =
      counts_ended held bytes_limit (tells end held) ∙ ap (λ n. ended_log limits log events n bytes_limit) (sym next) ∙ is events
  refused_limit NoFinalNewline new some tells next passed is held = absurd (ok_is_no_err events passed (is events))

  -- a line is given
  module _ (new : Reader) (gives : TellsNext old bytes new (Ok next.Line)) where
    pub counts_given : (more : List ℕ) → counted_log limits log from (taken ++ bytes ++ more) ≡ counted_lines limits log events (old.number + 1) (line new.line (lines_left new end more))
    counts_given more = further more ∙ ap (counted_lines limits log events (old.number + 1)) (gives end more)

    -- and counted
    pub counts_line : (next : new.number ≡ old.number + 1) → (behind : ℕ)
        → ((more : Reading) → counted_lines limits log events new.number (line new.line more) ≡ counted_lines limits log behind (new.number + 1) more)
        → CountsOn limits log from (taken ++ bytes) new behind
    counts_line next behind counted more =
        counts_given more ∙ ap (λ n. counted_lines limits log events n (line new.line (lines_left new end more))) (sym next) ∙ counted (lines_left new end more)

    -- or a limit is passed
    pub counts_past : (next : new.number ≡ old.number + 1) → (passed : LogLimit)
        → ((more : Reading) → counted_lines limits log events new.number (line new.line more) ≡ Err passed) → (held : List ℕ)
        → counted_log limits log from (taken ++ bytes ++ held) ≡ Err passed
    counts_past next passed counted held =
        counts_given held ∙ ap (λ n. counted_lines limits log events n (line new.line (lines_left new end held))) (sym next) ∙ counted (lines_left new end held)

pub same_limit : (a b : LogLimit) → Limit a ≡ Limit b → a ≡ b
same_limit a b e = cc

-- what an answer says is what is wanted
pub ok_so : {T E : Type 0} (result : Result T E) (A B : Type 0) → (A → B) → OnOk result A → OnOk result B
ok_so (Ok answer) A B so is = so is
ok_so (Err e) A B so is = is

pub err_so : {T E : Type 0} (result : Result T E) (P Q : E → Type 0) → ((e : E) → P e → Q e) → IfErr result P → IfErr result Q
err_so (Ok answer) P Q so is = is
err_so (Err e) P Q so is = so e is
