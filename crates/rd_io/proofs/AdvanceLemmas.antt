-- The search for the next line.
use Rattle.std.proofs.Common.{◌≡◌, ℕ, ◌+◌, ◌<◌, ◌≤◌, Option, List, [], ◌++◌, take, length, sym, ap, ◌∙◌, subst, refl, arith}
use Rattle.std.proofs.lemmas.List.{append_assoc, append-nil, length-append, length-take, get_or-take, get_or_append_left, get_or_default}
use Rattle.std.proofs.Math.Seq.{take-append_seam}
use Rattle.rd_io.specs.Inputs.{Source, Goes, Takes}
use Rattle.rd_io.specs.LineReader.{HasNoFeed, HasLine, Reader, with_more, IsShort}

-- the state of a search: what was taken so far is pending, and the bytes that were looked at hold no line feed
pub record Searches (start now : Reader) (bytes : List ℕ) (seen : ℕ) : Type 0 where
  pub reader : now ≡ with_more start bytes
  pub bound : length (start.pending ++ bytes) ≤ start.room + 1
  pub fits : length (start.pending ++ bytes) ≤ start.limit
  pub held : seen ≤ length now.pending
  pub within : seen ≤ now.room
  pub clean : HasNoFeed (take seen now.pending)

pub none_more : (r : Reader) → r ≡ with_more r []
none_more r = ap (λ (p : List ℕ). let s : Reader = record { pending = p; room = r.room; limit = r.limit; line = r.line; number = r.number; ended = r.ended } in s) (sym (append-nil r.pending))

more_more : (r : Reader) (xs ys : List ℕ) → with_more (with_more r xs) ys ≡ with_more r (xs ++ ys)
more_more r xs ys = ap (λ (p : List ℕ). let s : Reader = record { pending = p; room = r.room; limit = r.limit; line = r.line; number = r.number; ended = r.ended } in s) (append_assoc r.pending xs ys)

pub searches_none : (r : Reader) → length r.pending ≤ r.room + 1 → length r.pending ≤ r.limit → Searches r r [] 0
searches_none r bound fits =
    record {
      reader = none_more r;
      bound = subst (λ (p : List ℕ). length p ≤ r.room + 1) (sym (append-nil r.pending)) bound;
      fits = subst (λ (p : List ℕ). length p ≤ r.limit) (sym (append-nil r.pending)) fits;
      held = omega arith;
      within = omega arith;
      clean = λ k l. absurd (omega arith);
    }

-- further bytes behind a search that found nothing in those before
pub searches_more : (start now after : Reader) (bytes more : List ℕ) (seen : ℕ) → Searches start now bytes seen → IsShort now
    → after ≡ with_more now more → length now.pending + length more ≤ now.room + 1 → length now.pending + length more ≤ now.limit
    → Searches start after (bytes ++ more) (length now.pending)
searches_more start now after bytes more seen s short is bound fits =
    let clean : HasNoFeed (take (length now.pending) (with_more now more).pending) =
    subst HasNoFeed (sym (take-append_seam now.pending more)) short.clean in
    let pending : length now.pending ≡ length start.pending + length bytes =
    ap (λ (r : Reader). length r.pending) s.reader ∙ length-append start.pending bytes in
    let room : now.room ≡ start.room = ap (λ (r : Reader). r.room) s.reader in
    let limit : now.limit ≡ start.limit = ap (λ (r : Reader). r.limit) s.reader in
    record {
      reader = is ∙ ap (λ r. with_more r more) s.reader ∙ more_more start bytes more;
      bound = simp length-append (omega (arith, pending, room));
      fits = simp length-append (omega (arith, pending, limit));
      held = subst (λ (r : Reader). length now.pending ≤ length r.pending) (sym is) (omega (arith, length-append now.pending more));
      within = subst (λ (r : Reader). length now.pending ≤ r.room) (sym is) short.within;
      clean = subst (λ (r : Reader). HasNoFeed (take (length now.pending) r.pending)) (sym is) clean;
    }

-- what was pending at the start holds no line where what is pending now holds no line feed
pub no_line : (start now : Reader) (bytes : List ℕ) → now ≡ with_more start bytes → HasNoFeed now.pending → HasLine start → ⊥
no_line start now bytes is clean (k, inside, feed) =
    let low : k < length start.pending = omega (arith, simp length-take at inside) in
    let front : k < start.room = omega (arith, simp length-take at inside) in
    let all : HasNoFeed (start.pending ++ bytes) = subst (λ (r : Reader). HasNoFeed r.pending) is clean in
    all k (omega (arith, length-append start.pending bytes))
    (get_or_append_left start.pending bytes 0 k low ∙ sym (get_or-take start.room start.pending k 0 front)
    ∙ get_or_default (take start.room start.pending) k 0 10 inside ∙ feed)

pub takes_none : (told : Option Source) → Goes told told (λ old new. Takes old new [])
takes_none told old is =
    (old, is, record { files = refl; held = refl; taken = sym (append-nil old.taken); opens = refl; misses = refl })

-- what was taken first, and then behind it
pub takes_both : (old mid new : Source) (xs ys : List ℕ) → Takes old mid xs → Takes mid new ys → Takes old new (xs ++ ys)
takes_both old mid new xs ys first second =
    record {
      files = second.files ∙ first.files;
      held = first.held ∙ ap (λ zs. xs ++ zs) second.held ∙ sym (append_assoc xs ys new.held);
      taken = second.taken ∙ ap (λ zs. zs ++ ys) first.taken ∙ append_assoc old.taken xs ys;
      opens = second.opens ∙ first.opens;
      misses = second.misses ∙ first.misses;
    }

pub takes_on : (before between after : Option Source) (xs ys : List ℕ) → Goes before between (λ old new. Takes old new xs)
    → Goes between after (λ old new. Takes old new ys) → Goes before after (λ old new. Takes old new (xs ++ ys))
takes_on before between after xs ys f g old is =
    let (mid, told, first) = f old is in
    let (new, now, second) = g mid told in
    (new, now, takes_both old mid new xs ys first second)

-- the same, with what is known of the source then
pub takes_then : (before between after : Option Source) (xs ys : List ℕ) (P Q : Source → Type 0) → ((new : Source) → P new → Q new)
    → Goes before between (λ old new. Takes old new xs) → Goes between after (λ old new. Takes old new ys × P new)
    → Goes before after (λ old new. Takes old new (xs ++ ys) × Q new)
takes_then before between after xs ys P Q k f g old is =
    let (mid, told, first) = f old is in
    let (new, now, (second, so)) = g mid told in
    (new, now, (takes_both old mid new xs ys first second, k new so))
