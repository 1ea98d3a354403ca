-- Which line stands where among those that are written.
use Rattle.std.proofs.Common.{◌≡◌, ℕ, zero, suc, ◌+◌, ◌<◌, List, [], ◌∷◌, ◌++◌, length, Some, slice_get, refl, sym, ap, ◌∙◌, arith}
use Rattle.std.specs.Prelude.{All, filter, filter_map}
use Rattle.std.specs.List.{cons_option}
use Rattle.std.proofs.lemmas.List.{length-append}
use Rattle.std.proofs.lemmas.List.Elements.{All-head, All-tail}
use Rattle.rd_event.specs.declared.items.Line.{Line}
use Rattle.rd_event.specs.declared.items.Line.TheVariants.{Skip, Header, Thread, Object, Event}
use Rattle.rd_order.proofs.OrderLemmas.{at_front}
use Rattle.rd_rewriting.specs.Reordered.{is_declaration, reordered}
use Rattle.rd_rules.specs.MayFollow.{is_event, is_root, objects_of, version_of}

-- what stands behind a list
got_behind : {X : Type 0} (xs ys : List X) (i : ℕ) → slice_get (xs ++ ys) (length xs + i) ≡ slice_get ys i
got_behind [] ys i = ap (slice_get ys) (omega arith)
got_behind (x ∷ xs) ys i =
    let same : length (x ∷ xs) + i ≡ suc (length xs + i) = omega arith in
    ap (slice_get (x ∷ (xs ++ ys))) same ∙ got_behind xs ys i

some_inside : {X : Type 0} (xs : List X) (p : ℕ) → p < length xs → (x : X) × (slice_get xs p ≡ Some x)
some_inside [] p inside = absurd (omega arith)
some_inside (x ∷ xs) zero inside = (x, refl)
some_inside (x ∷ xs) (suc p) inside = some_inside xs p (omega arith)

-- those at places of a list
module _ {X : Type 0} (xs : List X) where
  abbrev AreInside : List ℕ → Type 0
  AreInside places = All (λ p. p < length xs) places

  taken_more : (p : ℕ) (places : List ℕ) → p < length xs → (x : X) × (slice_get xs p ≡ Some x) × (filter_map (slice_get xs) (p ∷ places) ≡ x ∷ filter_map (slice_get xs) places)
  taken_more p places inside =
      let (x, is) = some_inside xs p inside in
      (x, is, ap (λ o. cons_option o (filter_map (slice_get xs) places)) is)

  taken_at : (places : List ℕ) → AreInside places → (i p : ℕ) → slice_get places i ≡ Some p → slice_get (filter_map (slice_get xs) places) i ≡ slice_get xs p
  taken_at [] inside i p at = cc
  taken_at (q ∷ places) inside zero p at =
      let (x, is, more) = taken_more q places (All-head (λ n. n < length xs) q places inside) in
      let same : q ≡ p = cc in
      ap (λ l. slice_get l 0) more ∙ (sym is ∙ ap (slice_get xs) same)
  taken_at (q ∷ places) inside (suc i) p at =
      let (x, is, more) = taken_more q places (All-head (λ n. n < length xs) q places inside) in
      ap (λ l. slice_get l (suc i)) more ∙ taken_at places (All-tail (λ n. n < length xs) q places inside) i p at

  taken_counted : (places : List ℕ) → AreInside places → length (filter_map (slice_get xs) places) ≡ length places
  taken_counted [] inside = refl
  taken_counted (q ∷ places) inside =
      let (x, is, more) = taken_more q places (All-head (λ n. n < length xs) q places inside) in
      ap length more ∙ ap suc (taken_counted places (All-tail (λ n. n < length xs) q places inside))

-- ---- objects

-- each has one declaration
pub objects_counted : (lines : List Line) → length (filter is_declaration lines) ≡ length (objects_of lines)
objects_counted [] = refl
objects_counted (Skip ∷ lines) = objects_counted lines
objects_counted (Header version ∷ lines) = objects_counted lines
objects_counted (Thread name ∷ lines) = objects_counted lines
objects_counted (Object name kind ∷ lines) = ap suc (objects_counted lines)
objects_counted (Event event ∷ lines) = objects_counted lines

-- ---- all lines

pub header_line : (lines : List Line) (places : List ℕ) → slice_get (reordered lines places) 0 ≡ Some (Header (version_of lines))
unfolding reordered
header_line lines places = refl

module _ (lines : List Line) (places : List ℕ) (inside : All (λ p. p < length (filter is_event lines)) places) where
  abbrev roots : List Line
  roots = filter is_root lines

  abbrev declarations : List Line
  declarations = filter is_declaration lines

  abbrev taken : List Line
  taken = filter_map (slice_get (filter is_event lines)) places

  pub all_counted : length (reordered lines places) ≡ 1 + length roots + length declarations + length places
  unfolding reordered
  all_counted = omega (arith, length-append roots (declarations ++ taken), length-append declarations taken, taken_counted (filter is_event lines) places inside)

  pub root_line : (index i : ℕ) → index ≡ i + 1 → i < length roots → slice_get (reordered lines places) index ≡ slice_get roots i
  unfolding reordered
  root_line index i is below =
      ap (slice_get (Header (version_of lines) ∷ (roots ++ (declarations ++ taken)))) (let e : index ≡ suc i = omega arith in e)
      ∙ at_front roots (declarations ++ taken) i below

  pub declaration_line : (index i : ℕ) → index ≡ i + length roots + 1 → i < length declarations → slice_get (reordered lines places) index ≡ slice_get declarations i
  unfolding reordered
  declaration_line index i is below =
      ap (slice_get (Header (version_of lines) ∷ (roots ++ (declarations ++ taken)))) (let e : index ≡ suc (length roots + i) = omega (arith, is) in e)
      ∙ (got_behind roots (declarations ++ taken) i ∙ at_front declarations taken i below)

  pub event_line : (index i p : ℕ) → index ≡ i + length declarations + length roots + 1 → slice_get places i ≡ Some p
      → slice_get (reordered lines places) index ≡ slice_get (filter is_event lines) p
  unfolding reordered
  event_line index i p is at =
      ap (slice_get (Header (version_of lines) ∷ (roots ++ (declarations ++ taken)))) (let e : index ≡ suc (length roots + (length declarations + i)) = omega (arith, is) in e)
      ∙ (got_behind roots (declarations ++ taken) (length declarations + i)
      ∙ (got_behind declarations taken i ∙ taken_at (filter is_event lines) places inside i p at))
