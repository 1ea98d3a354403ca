-- The lines that are kept, and those that are written.
use Rattle.std.proofs.Common.{◌≡◌, ℕ, ◌+◌, ◌<◌, List, length, map, Some, slice_get, sym, ap, subst, ◌∙◌, arith}
use Rattle.std.specs.Prelude.{All, filter, option_map}
use Rattle.std.proofs.lemmas.List.{length-map}
use Rattle.std.proofs.lemmas.List.Sums.{length-filter}
use Rattle.std.proofs.lemmas.Option.{same_Some, slice_get-map}
use Rattle.rd_ecl.specs.Kinds.{Kind}
use Rattle.rd_event.specs.Items.{line_text}
use Rattle.rd_event.specs.declared.items.Line.{Line}
use Rattle.rd_rewriting.proofs.ReorderedLemmas.{all_counted, declaration_line, event_line, objects_counted, root_line}
use Rattle.rd_rewriting.specs.Keeping.{ArePlaces, KeepsLines}
use Rattle.rd_rewriting.specs.Reordered.{is_declaration, reordered}
use Rattle.rd_rewriting.specs.declared.kept.Kept.{Kept}
use Rattle.rd_rules.specs.MayFollow.{events, is_event, is_root, objects_of}

-- the text with a number is that of the line with it
text_is : (all : List Line) (texts : List (List ℕ)) (i : ℕ) (line : Line) (text : List ℕ) → texts ≡ map line_text all → slice_get all i ≡ Some line → slice_get texts i ≡ Some text → text ≡ line_text line
text_is all texts i line text are at got =
    same_Some text (line_text line) (sym got ∙ (ap (λ l. slice_get l i) are ∙ (slice_get-map line_text all i ∙ ap (option_map line_text) at)))

module _ (kinds : List Kind) (now : Kept) (lines : List Line) (keeps : KeepsLines kinds now lines) where
  pub roots_kept : length now.roots ≡ length (filter is_root lines)
  roots_kept = ap length keeps.roots ∙ length-map (filter is_root lines) line_text

  pub objects_kept : length now.objects ≡ length (filter is_declaration lines)
  objects_kept = ap length keeps.objects ∙ length-map (filter is_declaration lines) line_text

  pub lines_kept : length now.lines ≡ length (filter is_event lines)
  lines_kept = ap length keeps.texts ∙ length-map (filter is_event lines) line_text

  -- as many objects and events as are counted
  pub objects_many : length now.objects ≡ length (objects_of lines)
  objects_many = objects_kept ∙ objects_counted lines

  pub lines_many : length now.lines ≡ events lines
  lines_many = lines_kept ∙ length-filter is_event lines

  module _ (places : List ℕ) (inside : ArePlaces now places) where
    places_inside : All (λ p. p < length (filter is_event lines)) places
    places_inside = subst (λ n. All (λ p. p < n) places) lines_kept inside

    pub counted : length (reordered lines places) ≡ 1 + length now.roots + length now.objects + length places
    counted = omega (arith, all_counted lines places places_inside, roots_kept, objects_kept)

    module _ (index i : ℕ) (line : Line) (text : List ℕ) (at : slice_get (reordered lines places) index ≡ Some line) where
      pub root_text : index ≡ i + 1 → i < length now.roots → slice_get now.roots i ≡ Some text → text ≡ line_text line
      root_text is below got =
          text_is (filter is_root lines) now.roots i line text keeps.roots
          (sym (root_line lines places places_inside index i is (omega (arith, below, roots_kept))) ∙ at) got

      pub object_text : index ≡ i + length now.roots + 1 → i < length now.objects → slice_get now.objects i ≡ Some text → text ≡ line_text line
      object_text is below got =
          text_is (filter is_declaration lines) now.objects i line text keeps.objects
          (sym (declaration_line lines places places_inside index i (omega (arith, is, roots_kept)) (omega (arith, below, objects_kept))) ∙ at) got

      pub event_text : (p : ℕ) → index ≡ i + length now.objects + length now.roots + 1 → slice_get places i ≡ Some p → slice_get now.lines p ≡ Some text → text ≡ line_text line
      event_text p is placed got =
          text_is (filter is_event lines) now.lines p line text keeps.texts
          (sym (event_line lines places places_inside index i p (omega (arith, is, roots_kept, objects_kept)) placed) ∙ at) got
