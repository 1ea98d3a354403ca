-- What the reader of lines holds after a read.
use Rattle.std.proofs.Common.{◌≡◌, ℕ, ◌+◌, ◌-◌, ◌<◌, ◌≤◌, List, [], ◌++◌, Option, Result, Ok, take, drop, length, sym, ap, ◌∙◌, subst, arith}
use Rattle.std.proofs.lemmas.List.{take-take, drop-take, drop-drop, length-drop, length-take}
use Rattle.std.proofs.Math.Seq.{take-add}
use Rattle.rd_io.specs.Inputs.{Source, Takes, Reads, Goes}
use Rattle.rd_io.specs.LineReader.{Reader}
use Rattle.rd_io.specs.declared.inputs.Failed.{Failed}
use Rattle.rd_io.specs.declared.lines.Next.{Next}
use Rattle.rd_io.specs.declared.lines.ReadEnd.{ReadEnd}

pub same_reader : (p q l m : List ℕ) (room limit number : ℕ) (ended : Option (Result Next ReadEnd)) → p ≡ q → l ≡ m
    → ◌≡◌ {A = Reader} (record { pending = p; room = room; limit = limit; line = l; number = number; ended = ended })
    (record { pending = q; room = room; limit = limit; line = m; number = number; ended = ended })
same_reader p q l m room limit number ended e f =
    ap (λ (x : List ℕ). let r : Reader = record { pending = x; room = room; limit = limit; line = l; number = number; ended = ended } in r) e
    ∙ ap (λ (x : List ℕ). let r : Reader = record { pending = q; room = room; limit = limit; line = x; number = number; ended = ended } in r) f

-- lists with the same front have the same windows in it
front_window : (xs ys : List ℕ) (front at n : ℕ) → take front xs ≡ take front ys → at + n ≤ front
    → take n (drop at xs) ≡ take n (drop at ys)
front_window xs ys front at n e l =
    sym (drop-take at n xs)
    ∙ ap (drop at) (sym (take-take (at + n) front xs l) ∙ ap (take (at + n)) e ∙ take-take (at + n) front ys l)
    ∙ drop-take at n ys

module _ (was moved now : List ℕ) (start held line_start line_len by : ℕ) (low : by ≤ line_start) (behind : line_start + line_len ≤ start)
    (kept : (from n : ℕ) → line_start ≤ from → from + n ≤ start + held → take n (drop (from - by) moved) ≡ take n (drop from was))
    (before : take (start - by + held) now ≡ take (start - by + held) moved) where
  same_window : (from n : ℕ) → line_start ≤ from → from + n ≤ start + held → take n (drop (from - by) now) ≡ take n (drop from was)
  same_window from n l h = front_window now moved (start - by + held) (from - by) n before (omega arith) ∙ kept from n l h

  pub same_pending : take held (drop (start - by) now) ≡ take held (drop start was)
  same_pending = same_window start held (omega arith) (omega arith)

  pub same_line : take line_len (drop (line_start - by) now) ≡ take line_len (drop line_start was)
  same_line = same_window line_start line_len (omega arith) (omega arith)

  pub more_pending : (count : ℕ) → take (held + count) (drop (start - by) now)
      ≡ take held (drop start was) ++ take count (drop (start - by + held) now)
  more_pending count =
      take-add held count (drop (start - by) now)
      ∙ ap (λ xs. xs ++ take count (drop held (drop (start - by) now))) same_pending
      ∙ ap (λ xs. take held (drop start was) ++ take count xs) (drop-drop held (start - by) now)

-- what was taken, as the bytes behind those that were held
pub read_takes : (before after : Option Source) (now : List ℕ) (from asked count : ℕ) → 0 < asked → count ≤ asked → from + asked ≤ length now
    → Goes before after (λ old new. Reads {E = Failed} old new (take asked (drop from now)) (Ok count))
    → Goes before after (λ old new. Takes old new (take count (drop from now)) × (count ≡ 0 → old.held ≡ []))
read_takes before after now from asked count some few fits goes old is =
    let (new, told, (takes, none, _)) = goes old is in (
      new,
      told,
      (
        subst (λ bytes. Takes old new bytes) (take-take count asked (drop from now) few) takes,
        λ zero. none zero (simp (length-take, length-drop) (omega arith)),
      ),
    )
