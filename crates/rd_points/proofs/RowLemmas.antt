-- Lists that are changed in place, one element after another.
use Rattle.std.proofs.Common.{◌≡◌, ◌+◌, ◌<◌, ◌≤◌, ℕ, List, ◌++◌, length, map, set, take, drop, get_or, sym, ap, ◌∙◌, arith}
use Rattle.std.proofs.lemmas.List.{append-nil, drop_all, get_or-map, length-map, length-set, map-set, take_all}
use Rattle.std.proofs.lemmas.List.Edits.{map_over_more}

-- what is seen of the new list: f of the first i that are seen of the old one, then the others
pub record Mapped {X Y : Type 0} (view : X → Y) (f : Y → Y) (old new : List X) (i : ℕ) : Type 0 where
  pub seen : map view new ≡ map f (take i (map view old)) ++ drop i (map view old)
  pub long : length new ≡ length old

module _ {X Y : Type 0} (view : X → Y) (f : Y → Y) where
  pub mapped_more : (old new : List X) (i : ℕ) (d y : X) → Mapped view f old new i → i < length old → view y ≡ f (view (get_or new i d))
      → Mapped view f old (set new i y) (i + 1)
  mapped_more old new i d y m within made = record {
    seen =
        let x = view (get_or new i d) in
        let read : x ≡ get_or (map view new) i x = sym (get_or-map view new i d x (omega (arith, m.long))) in
        let long : i < length (map view old) = omega (arith, length-map old view) in
        map-set view new i y ∙ ap (set (map view new) i) made ∙ map_over_more f (map view old) (map view new) i x long m.seen read;
    long = length-set new i y ∙ m.long;
  }

  pub mapped_all : (old new : List X) (i : ℕ) → Mapped view f old new i → length new ≤ i → map view new ≡ map f (map view old)
  mapped_all old new i m all =
      let long : length (map view old) ≤ i = omega (arith, length-map old view, m.long) in
      m.seen ∙ rw (take_all i (map view old) long, drop_all i (map view old) long) (append-nil _)
