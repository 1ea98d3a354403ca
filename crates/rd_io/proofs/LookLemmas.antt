-- What the reader of lines finds in the bytes that it holds.
use Rattle.std.proofs.Common.{◌≡◌, ◌≢◌, ℕ, ◌+◌, ◌-◌, ◌<◌, ◌≤◌, List, ◌∷◌, ◌++◌, Option, Result, take, drop, length, get_or, min, sym, ap, ◌∙◌, subst, refl, arith}
use Rattle.std.proofs.lemmas.List.{take-take, length-drop, length-take, get_or-take}
use Rattle.rd_io.specs.LineReader.{HasNoFeed, IsFirstFeed, GivesLine, IsPast, IsTooLong, IsShort}
use Rattle.rd_io.specs.declared.lines.Next.{Next}
use Rattle.rd_io.specs.declared.lines.ReadEnd.{ReadEnd}
use Rattle.rd_io.proofs.WindowLemmas.{cut_at}

module _ (xs line : List ℕ) (start held within room limit number : ℕ) (ended : Option (Result Next ReadEnd))
    (smaller : within ≡ min room held) (inside : start + held ≤ length xs) where
  same_width : start + within - start ≡ within
  same_width = omega arith

  pub gives_line : (at : ℕ) → held ≤ limit → IsFirstFeed (take (start + within - start) (drop start xs)) at
      → GivesLine
      (record { pending = take held (drop start xs); room = room; limit = limit; line = line; number = number; ended = ended })
      (record {
        pending = take (held - (at + 1)) (drop (start + (at + 1)) xs);
        room = room - (at + 1);
        limit = limit;
        line = take at (drop start xs);
        number = number + 1;
        ended = ended;
      })
  gives_line at fits first =
      let f : IsFirstFeed (take within (drop start xs)) at = subst (λ n. IsFirstFeed (take n (drop start xs)) at) same_width first in
      let low : at < within = omega (arith, simp (length-take, length-drop) at f.within) in
      let is_feed : get_or (drop start xs) at 0 ≡ 10 = sym (get_or-take within (drop start xs) at 0 low) ∙ f.feed in
      let long : length (take at (drop start xs)) ≡ at = simp (length-take, length-drop) (omega arith) in
      record {
        pending = cut_at xs start held at (omega arith) inside
            ∙ ap (λ b. take at (drop start xs) ++ b ∷ take (held - (at + 1)) (drop (start + (at + 1)) xs)) is_feed;
        clean = subst HasNoFeed (take-take at within (drop start xs) (omega arith)) f.before;
        short = omega arith;
        room = omega arith;
        limit = refl;
        number = refl;
        ended = refl;
      }

  held_is : length (take held (drop start xs)) ≡ held
  held_is = simp (length-take, length-drop) (omega arith)

  module _ (clean : HasNoFeed (take (start + within - start) (drop start xs))) where
    clean_within : HasNoFeed (take within (drop start xs))
    clean_within = subst (λ n. HasNoFeed (take n (drop start xs))) same_width clean

    pub is_past : held ≤ room + 1 → held ≤ limit → room < held
        → IsPast (record { pending = take held (drop start xs); room = room; limit = limit; line = line; number = number; ended = ended })
    is_past ahead fits past =
        let all : within ≡ room = omega arith in
        record {
          clean = subst HasNoFeed (ap (λ n. take n (drop start xs)) all ∙ sym (take-take room held (drop start xs) (omega arith))) clean_within;
          past = held_is ∙ omega arith;
          short = omega arith;
        }

    pub clean_held : held ≤ room → HasNoFeed (take held (drop start xs))
    clean_held low =
        let all : within ≡ held = omega arith in
        subst (λ n. HasNoFeed (take n (drop start xs))) all clean_within

    pub is_too_long : held ≤ room → held ≡ limit
        → IsTooLong (record { pending = take held (drop start xs); room = room; limit = limit; line = line; number = number; ended = ended })
    is_too_long low full = record { clean = clean_held low; long = held_is ∙ full; within = omega arith }

    pub is_short : held ≤ room → held ≤ limit → held ≢ limit
        → IsShort (record { pending = take held (drop start xs); room = room; limit = limit; line = line; number = number; ended = ended })
    is_short low fits part = record { clean = clean_held low; short = omega (arith, held_is); within = omega (arith, held_is) }
