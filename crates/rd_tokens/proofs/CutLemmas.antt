-- Cutting a line into tokens.
use Rattle.std.proofs.Common.{◌≡◌, ◌≢◌, ℕ, zero, suc, ◌+◌, ◌-◌, ◌<◌, ◌≤◌, List, [], ◌∷◌, ◌++◌, length, take, drop, get_or, refl, sym, ◌∙◌, ap, subst, arith, ne_eqb, inl, inr, append_assoc, append-nil, length-append, take_at, drop_at}
use Rattle.std.specs.List.{All, AllPairs, Any}
use Rattle.std.proofs.Math.Seq.{drop-append-add, get_or-append_right}
use Rattle.std.proofs.lemmas.Bool.{cases_lt}
use Rattle.std.proofs.lemmas.Bool.Decides.{eqb_tells}
use Rattle.std.specs.Prelude.{◌==◌, if◌then◌else◌}
use Rattle.std.proofs.lemmas.List.{at_drop_all, drop_more, drop-drop}
use Rattle.rd_tokens.specs.declared.sorts.Sort.{Sort}
use Rattle.rd_tokens.specs.declared.sorts.Token.{Token}
use Rattle.rd_tokens.specs.Tokens.{IsToken, Cuts, AreTokens, LiesIn, HasByte, ComesAfter, bytes_of, bytes_behind}
use Rattle.rd_tokens.specs.Tokens.Cuts.{nothing_left, space_first, token_first}
use Rattle.rd_tokens.specs.ReadingTokens.{first_length, sort_of, token_of}
use Rattle.rd_tokens.proofs.FirstLemmas.{first_token, token_found}

-- the first token, and those behind it
joined : (place n : ℕ) (line bytes behind rest : List ℕ) (sort other : Sort) (tokens : List Token) → IsToken sort bytes behind
    → line ≡ bytes ++ behind → n ≡ length bytes → rest ≡ behind → other ≡ sort → Cuts (place + n) rest tokens
    → Cuts place line (record { place = place; length = n; sort = other } ∷ tokens)
joined place n line bytes behind rest sort other tokens is whole long back same cuts =
    rw (whole, long, same) (token_first sort bytes behind is (rw (long, back) at cuts))

pub next_token : (place : ℕ) (line : List ℕ) (tokens : List Token) → 0 < length line → get_or line 0 0 ≢ 32
    → Cuts (place + first_length line) (drop (first_length line) line) tokens → Cuts place line (token_of place line ∷ tokens)
next_token place line tokens some other cuts =
    let first = first_token line some other in
    let found = token_found first.sort first.bytes first.behind first.is in
    let long : first_length line ≡ length first.bytes = ap first_length first.whole ∙ found.long in
    let front : take (first_length line) line ≡ first.bytes =
    ap (λ xs. take (first_length line) xs) first.whole ∙ take_at first.bytes first.behind (first_length line) (sym long) in
    let back : drop (first_length line) line ≡ first.behind =
    ap (λ xs. drop (first_length line) xs) first.whole ∙ drop_at first.bytes first.behind (first_length line) (sym long) in
    joined place (first_length line) line first.bytes first.behind (drop (first_length line) line) first.sort
    (sort_of (take (first_length line) line)) tokens first.is first.whole long back (ap sort_of front ∙ found.is) cuts

-- each line has tokens
abbrev Cut : ℕ → List ℕ → Type 0
Cut place line = (tokens : List Token) × Cuts place line tokens

some_within : (n place : ℕ) (line : List ℕ) → length line ≤ n → Cut place line
some_within n place [] few = ([], nothing_left)
some_within zero place (b ∷ bytes) few = absurd (omega arith)
some_within (suc n) place (b ∷ bytes) few = elim (eqb_tells b 32) [
  | inl blank ↦
      let more = some_within n (place + 1) bytes (omega arith) in
      subst (λ b. Cut place (b ∷ bytes)) (sym blank.1) (more.0, space_first more.1)
  | inr other ↦
      let first = first_token (b ∷ bytes) (omega arith) other.1 in
      let found = token_found first.sort first.bytes first.behind first.is in
      let less : length first.behind ≤ n =
      omega (arith, found.some, ap length first.whole, length-append first.bytes first.behind) in
      let more = some_within n (place + length first.bytes) first.behind less in
      subst (Cut place) (sym first.whole) (_, token_first first.sort first.bytes first.behind first.is more.1)
]

pub some_tokens : (line : List ℕ) → (tokens : List Token) × AreTokens line tokens
some_tokens line = some_within (length line) 1 line (omega arith)

-- and one list of them: what a cut of so many bytes computes
cut : ℕ → ℕ → List ℕ → List Token
cut zero place line = []
cut (suc n) place [] = []
cut (suc n) place (b ∷ bytes) =
    if b == 32 then cut n (place + 1) bytes
    else token_of place (b ∷ bytes) ∷ cut n (place + first_length (b ∷ bytes)) (drop (first_length (b ∷ bytes)) (b ∷ bytes))

cut_nothing : (n place : ℕ) → cut n place [] ≡ []
unfolding cut
cut_nothing zero place = refl
cut_nothing (suc n) place = refl

cut_token : (n place : ℕ) (line : List ℕ) → 0 < length line → get_or line 0 0 ≢ 32
    → cut (suc n) place line ≡ token_of place line ∷ cut n (place + first_length line) (drop (first_length line) line)
unfolding cut
cut_token n place [] some other = absurd (omega arith)
cut_token n place (b ∷ bytes) some other = rw (ne_eqb b 32 other) refl

cut_found : (n place : ℕ) (line : List ℕ) (tokens : List Token) → Cuts place line tokens → length line ≤ n → cut n place line ≡ tokens
unfolding cut
cut_found n place _ _ nothing_left few = cut_nothing n place
cut_found zero place _ _ (space_first {bytes = bytes} {tokens = tokens} cuts) few = absurd (omega arith)
cut_found (suc n) place _ _ (space_first {bytes = bytes} {tokens = tokens} cuts) few = cut_found n (place + 1) bytes tokens cuts (omega arith)
cut_found zero place _ _ (token_first sort bytes behind {tokens = tokens} is cuts) few =
    let found = token_found sort bytes behind is in
    absurd (omega (arith, found.some, length-append bytes behind))
cut_found (suc n) place _ _ (token_first sort bytes behind {tokens = tokens} is cuts) few =
    let found = token_found sort bytes behind is in
    let more = cut_found n (place + length bytes) behind tokens cuts (omega (arith, found.some, length-append bytes behind)) in
    cut_token n place (bytes ++ behind) (omega (arith, found.some, length-append bytes behind)) found.other
    ∙ rw (found.long, take_at bytes behind (length bytes) refl, drop_at bytes behind (length bytes) refl, found.is, more) refl

pub one_list : (line : List ℕ) (first second : List Token) → AreTokens line first → AreTokens line second → first ≡ second
one_list line first second one other =
    sym (cut_found (length line) 1 line first one (omega arith)) ∙ cut_found (length line) 1 line second other (omega arith)

-- a token of bytes of which the first stands at the place
record Fits (place : ℕ) (line : List ℕ) (t : Token) : Type 0 where
  first : place ≤ t.place
  some : 1 ≤ t.length
  last : t.place + t.length ≤ place + length line
  is : IsToken t.sort (take t.length (drop (t.place - place) line)) (drop (t.place - place + t.length) line)

fits_here : (place : ℕ) (sort : Sort) (bytes behind : List ℕ) → IsToken sort bytes behind
    → Fits place (bytes ++ behind) (record { place = place; length = length bytes; sort = sort })
fits_here place sort bytes behind is =
    let found = token_found sort bytes behind is in
    let none : place - place ≡ 0 = omega arith in
    let one : 0 + length bytes ≡ length bytes = omega arith in
    record {
      first = omega arith;
      some = omega (arith, found.some);
      last = omega (arith, length-append bytes behind);
      is = rw (none, one, take_at bytes behind (length bytes) refl, drop_at bytes behind (length bytes) refl) is;
    }

fits_behind : (place : ℕ) (front line : List ℕ) (t : Token) → Fits (place + length front) line t → Fits place (front ++ line) t
fits_behind place front line t fits =
    let here : t.place - place ≡ length front + (t.place - (place + length front)) = omega (arith, fits.first) in
    let there : length front + (t.place - (place + length front)) + t.length ≡ length front + (t.place - (place + length front) + t.length) =
    omega arith in
    record {
      first = omega (arith, fits.first);
      some = fits.some;
      last = omega (arith, fits.last, length-append front line);
      is = rw (here, there, drop-append-add front line (t.place - (place + length front)), drop-append-add front line (t.place - (place + length front) + t.length)) fits.is;
    }

all_first : (P : Token → Type 0) (t : Token) (tokens : List Token) → P t → All P tokens → All P (t ∷ tokens)
all_first P t tokens here there zero d inside = here
all_first P t tokens here there (suc k) d inside = there k d (omega arith)

each_fits : (place : ℕ) (line : List ℕ) (tokens : List Token) → Cuts place line tokens → All (Fits place line) tokens
each_fits place _ _ nothing_left k d inside = absurd (omega arith)
each_fits place _ _ (space_first {bytes = bytes} {tokens = tokens} cuts) k d inside =
    fits_behind place (32 ∷ []) bytes _ (each_fits (place + 1) bytes tokens cuts k d inside)
each_fits place _ _ (token_first sort bytes behind {tokens = tokens} is cuts) k d inside =
    all_first (Fits place (bytes ++ behind)) _ tokens (fits_here place sort bytes behind is)
    (λ k d inside. fits_behind place bytes behind _ (each_fits (place + length bytes) behind tokens cuts k d inside)) k d inside

pub each_lies : (line : List ℕ) (tokens : List Token) → AreTokens line tokens → All (LiesIn line) tokens
each_lies line tokens are k d inside =
    let fits = each_fits 1 line tokens are k d inside in
    record { first = fits.first; some = fits.some; last = omega (arith, fits.last) }

pub each_is : (line : List ℕ) (tokens : List Token) → AreTokens line tokens
    → All (λ t. IsToken t.sort (bytes_of line t) (bytes_behind line t)) tokens
each_is line tokens are k d inside = (each_fits 1 line tokens are k d inside).is

-- they rise
pairs_first : (t : Token) (tokens : List Token) → All (ComesAfter t) tokens → AllPairs ComesAfter tokens → AllPairs ComesAfter (t ∷ tokens)
pairs_first t tokens here there zero zero d below inside = absurd (omega arith)
pairs_first t tokens here there zero (suc j) d below inside = here j d (omega arith)
pairs_first t tokens here there (suc i) zero d below inside = absurd (omega arith)
pairs_first t tokens here there (suc i) (suc j) d below inside = there i j d (omega arith) (omega arith)

cuts_rise : (place : ℕ) (line : List ℕ) (tokens : List Token) → Cuts place line tokens → AllPairs ComesAfter tokens
cuts_rise place _ _ nothing_left i j d below inside = absurd (omega arith)
cuts_rise place _ _ (space_first {bytes = bytes} {tokens = tokens} cuts) i j d below inside =
    cuts_rise (place + 1) bytes tokens cuts i j d below inside
cuts_rise place _ _ (token_first sort bytes behind {tokens = tokens} is cuts) i j d below inside =
    pairs_first (record { place = place; length = length bytes; sort = sort }) tokens
    (λ k d inside. (each_fits (place + length bytes) behind tokens cuts k d inside).first)
    (cuts_rise (place + length bytes) behind tokens cuts) i j d below inside

pub tokens_rise : (line : List ℕ) (tokens : List Token) → AreTokens line tokens → AllPairs ComesAfter tokens
tokens_rise line tokens are = cuts_rise 1 line tokens are

-- each byte that is no space is in one
any_behind : (P : Token → Type 0) (t : Token) (tokens : List Token) → Any P tokens → Any P (t ∷ tokens)
any_behind P t tokens (k, x, inside, is, has) = (suc k, x, omega arith, is, has)

cuts_whole : (place : ℕ) (line : List ℕ) (tokens : List Token) → Cuts place line tokens → (k : ℕ) → k < length line → get_or line k 0 ≢ 32
    → Any (HasByte (place + k)) tokens
cuts_whole place _ _ nothing_left k within other = absurd (omega arith)
cuts_whole place _ _ (space_first {bytes = bytes} {tokens = tokens} cuts) zero within other = absurd (other refl)
cuts_whole place _ _ (space_first {bytes = bytes} {tokens = tokens} cuts) (suc k) within other =
    let there : place + 1 + k ≡ place + suc k = omega arith in
    subst (λ p. Any (HasByte p) tokens) there (cuts_whole (place + 1) bytes tokens cuts k (omega arith) other)
cuts_whole place _ _ (token_first sort bytes behind {tokens = tokens} is cuts) k within other =
    elim (cases_lt k (length bytes)) [
      | inl here ↦ (0, record { place = place; length = length bytes; sort = sort }, omega arith, refl, (omega arith, omega arith))
      | inr past ↦
          let there : place + length bytes + (k - length bytes) ≡ place + k = omega arith in
          let inside : k - length bytes < length behind = omega (arith, length-append bytes behind) in
          any_behind (HasByte (place + k)) _ tokens
          (subst (λ p. Any (HasByte p) tokens) there
          (cuts_whole (place + length bytes) behind tokens cuts (k - length bytes) inside
          (λ same. other (get_or-append_right bytes behind k 0 past ∙ same))))
    ]

pub tokens_whole : (line : List ℕ) (tokens : List Token) → AreTokens line tokens → (k : ℕ) → k < length line → get_or line k 0 ≢ 32
    → Any (HasByte (k + 1)) tokens
tokens_whole line tokens are k within other =
    let there : 1 + k ≡ k + 1 = omega arith in
    subst (λ p. Any (HasByte p) tokens) there (cuts_whole 1 line tokens are k within other)

-- Steps of the loop.
abbrev pub SoFar : List ℕ → ℕ → List Token → Type 0
SoFar line start tokens = (more : List Token) → Cuts (start + 1) (drop start line) more → AreTokens line (tokens ++ more)

pub so_far_none : (line : List ℕ) → SoFar line 0 []
so_far_none line more cuts = cuts

pub so_far_space : (line : List ℕ) (start : ℕ) (tokens : List Token) → start < length line → get_or line start 0 ≡ 32
    → SoFar line start tokens → SoFar line (start + 1) tokens
so_far_space line start tokens within blank so_far more cuts =
    let rest : drop start line ≡ 32 ∷ drop (start + 1) line =
    drop_more line start 0 within ∙ ap (λ b. b ∷ drop (start + 1) line) blank in
    so_far more (rw rest (space_first cuts))

so_far_token : (line : List ℕ) (start : ℕ) (tokens : List Token) → start < length line → get_or line start 0 ≢ 32
    → SoFar line start tokens
    → SoFar line (start + first_length (drop start line)) (tokens ++ token_of (start + 1) (drop start line) ∷ [])
so_far_token line start tokens within other so_far more cuts =
    let rest = drop_more line start 0 within in
    let some : 0 < length (drop start line) = rw rest (omega arith) in
    let first : get_or (drop start line) 0 0 ≢ 32 = rw rest other in
    let n = first_length (drop start line) in
    let place : start + n + 1 ≡ start + 1 + n = omega arith in
    let next : Cuts (start + 1 + n) (drop n (drop start line)) more = rw (drop-drop n start line, ← place) cuts in
    rw (append_assoc tokens (token_of (start + 1) (drop start line) ∷ []) more)
    (so_far (token_of (start + 1) (drop start line) ∷ more) (next_token (start + 1) (drop start line) more some first next))

pub so_far_push : (line : List ℕ) (start : ℕ) (tokens found : List Token) (t : Token) → start < length line → get_or line start 0 ≢ 32
    → t ≡ token_of (start + 1) (drop start line) → found ≡ tokens ++ t ∷ [] → SoFar line start tokens → SoFar line (start + t.length) found
so_far_push line start tokens found t within other same pushed so_far =
    rw (pushed, same) (so_far_token line start tokens within other so_far)

pub so_far_all : (line : List ℕ) (start : ℕ) (tokens : List Token) → length line ≤ start → SoFar line start tokens → AreTokens line tokens
so_far_all line start tokens all so_far =
    let rest : drop start line ≡ [] = at_drop_all (λ (xs : List ℕ). xs) line start all in
    rw (← append-nil tokens) (so_far [] (rw rest nothing_left))
