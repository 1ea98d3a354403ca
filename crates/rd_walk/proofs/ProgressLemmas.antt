-- What was taken of an input, as the reader gives lines.
use Rattle.std.proofs.Common.{◌≡◌, ◌≤◌, ℕ, ◌+◌, List, [], ◌∷◌, ◌++◌, length, refl, sym, ap, ◌∙◌, arith}
use Rattle.std.specs.List.{flat_map}
use Rattle.std.proofs.lemmas.List.{append_assoc, append-nil, length-append}
use Rattle.std.proofs.lemmas.List.Elements.{All-nil, All-push}
use Rattle.rd_base.specs.declared.limits.Limits.{Limits}
use Rattle.rd_io.specs.LineReader.{GivesLine, HasNoFeed, Reader, fresh, with_more}
use Rattle.rd_walk.specs.Progress.{IsBegun, IsCut, IsTakenOfTrace, with_feed}
use Rattle.rd_walk.specs.Walk.{Entry}

feeds_more : (lines : List (List ℕ)) (line : List ℕ) → flat_map with_feed (lines ++ line ∷ []) ≡ flat_map with_feed lines ++ with_feed line
feeds_more [] line = append-nil (with_feed line)
feeds_more (x ∷ xs) line = ap (λ t. with_feed x ++ t) (feeds_more xs line) ∙ sym (append_assoc (with_feed x) (flat_map with_feed xs) (with_feed line))

pub cut_none : (limits : Limits) → IsCut limits [] (fresh limits) []
cut_none limits = record { cut = refl; clean = All-nil HasNoFeed; limit = refl; room = omega arith }

module _ (limits : Limits) (taken bytes : List ℕ) (old : Reader) (lines : List (List ℕ)) (so_far : IsCut limits taken old lines) where
  all_taken : taken ++ bytes ≡ flat_map with_feed lines ++ (old.pending ++ bytes)
  all_taken = ap (λ t. t ++ bytes) so_far.cut ∙ append_assoc (flat_map with_feed lines) old.pending bytes

  -- one line more is given
  pub cut_line : (new : Reader) → GivesLine (with_more old bytes) new → IsCut limits (taken ++ bytes) new (lines ++ new.line ∷ [])
  cut_line new gives = record {
    cut = all_taken ∙ ap (λ t. flat_map with_feed lines ++ t) gives.pending
        ∙ ap (λ t. flat_map with_feed lines ++ t) (sym (append_assoc new.line (10 ∷ []) new.pending))
        ∙ sym (append_assoc (flat_map with_feed lines) (with_feed new.line) new.pending)
        ∙ ap (λ t. t ++ new.pending) (sym (feeds_more lines new.line));
    clean = All-push HasNoFeed lines new.line so_far.clean gives.clean;
    limit = gives.limit ∙ so_far.limit;
    room =
        let more : length (flat_map with_feed (lines ++ new.line ∷ [])) ≡ length (flat_map with_feed lines) + (length new.line + 1) =
        ap length (feeds_more lines new.line) ∙ length-append (flat_map with_feed lines) (with_feed new.line) ∙ ap (λ n. length (flat_map with_feed lines) + n) (length-append new.line (10 ∷ [])) in
        omega (arith, more, gives.room, so_far.room);
  }

  -- and no more was taken than may be
  pub read_so_far : (begun : ℕ) → length lines ≤ begun → begun ≤ length lines + 1 → length (old.pending ++ bytes) ≤ old.room + 1
      → length (old.pending ++ bytes) ≤ old.limit → IsTakenOfTrace limits (taken ++ bytes) begun
  read_so_far begun few most past fits = record {
    lines = lines;
    rest = old.pending ++ bytes;
    cut = all_taken;
    clean = so_far.clean;
    few = few;
    most = most;
    short = omega (arith, fits, so_far.limit);
    bound = omega (arith, ap length all_taken, length-append (flat_map with_feed lines) (old.pending ++ bytes), past, so_far.room);
  }

-- all texts of the lines were written, and perhaps more behind them
pub all_begun : (text : List Entry → List ℕ) (more part : List ℕ) (entries : List Entry) → part ≡ text entries ++ more → IsBegun text part entries
all_begun text more part entries is = record { told = entries; last = []; is = sym (append-nil entries); one = omega arith; written = (more, is) }
