-- The threads that share a lock.
use Rattle.std.proofs.Common.{◌≡◌, ℕ, ◌+◌, ◌-◌, ◌<◌, ◌≤◌, ◌==◌, ◌||◌, Bool, true, false, cond, ltb, List, length, set, get_or, Option, Some, None, IfSome, refl, sym, ap, subst, ◌∙◌, arith, true≢false, inl, inr}
use Rattle.std.proofs.lemmas.Bool.{cases_eq, ne_eqb}
use Rattle.std.proofs.lemmas.Bool.Decides.{nat_tests, Decides-eqb, Decides-ltb}
use Rattle.std.specs.Prelude.{slice_get, slice_set}
use Rattle.std.specs.List.{swap_remove}
use Rattle.std.proofs.lemmas.List.Elements.{All-get_or, All-set, All-take}
use Rattle.std.proofs.lemmas.List.Sums.{sum_by-set, sum_by-swap_remove}
use Rattle.std.proofs.lemmas.Option.{same_Some, slice_get-get_or}
use Rattle.rd_tables.specs.declared.sharers.Sharer.{Sharer}
use Rattle.rd_tables.specs.Sharers.{AreDeep, depth_by, depth_among, lesser, IsLeast}

-- ---- the least number that passes a test

-- of tests that say the same
pub least_same : (f g : ℕ → Bool) (o : Option ℕ) → ((n : ℕ) → g n ≡ f n) → IsLeast f o → IsLeast g o
least_same f g None same least = λ n. same n ∙ least n
least_same f g (Some m) same least = (same m ∙ least.0, λ n below. same n ∙ least.1 n below)

or_none : (a b : Bool) → a ≡ false → b ≡ false → (a || b) ≡ false
or_none true b x y = x
or_none false b x y = y

or_first : (a b : Bool) → a ≡ true → (a || b) ≡ true
or_first true b x = refl
or_first false b x = absurd (true≢false (sym x))

or_second : (a b : Bool) → b ≡ true → (a || b) ≡ true
or_second true b x = refl
or_second false b x = x

-- the least that passes one of two tests is the lesser of those that pass each
pub least_or : (f g : ℕ → Bool) (a b : Option ℕ) → IsLeast f a → IsLeast g b → IsLeast (λ n. f n || g n) (lesser a b)
least_or f g None None x y = λ n. or_none (f n) (g n) (x n) (y n)
least_or f g None (Some m) x y = (or_second (f m) (g m) y.0, λ n below. or_none (f n) (g n) (x n) (y.1 n below))
least_or f g (Some k) None x y = (or_first (f k) (g k) x.0, λ n below. or_none (f n) (g n) (x.1 n below) (y n))
least_or f g (Some k) (Some m) x y = by (ltb m k) refl
  where
    Least : Option ℕ → Type 0
    Least = IsLeast (λ n. f n || g n)

    by : (b : Bool) → ltb m k ≡ b → IsLeast (λ n. f n || g n) (cond (ltb m k) (Some m) (Some k))
    by true less =
        let below : m < k = (Decides-ltb m k).0 less in
        subst (λ b. Least (cond b (Some m) (Some k))) (sym less)
        (or_second (f m) (g m) y.0, λ n under. or_none (f n) (g n) (x.1 n (omega arith)) (y.1 n under))
    by false most =
        let below : k < m + 1 = grind (arith, nat_tests) in
        subst (λ b. Least (cond b (Some m) (Some k))) (sym most)
        (or_first (f k) (g k) x.0, λ n under. or_none (f n) (g n) (x.1 n under) (y.1 n (omega arith)))

-- the least number that passes is below what each that passes is below
pub least_within : (test : ℕ → Bool) (o : Option ℕ) (count : ℕ) → IsLeast test o → ((n : ℕ) → test n ≡ true → n < count) → IfSome o (λ n. n < count)
least_within test None count least below = tt
least_within test (Some n) count least below = below n least.0

-- ---- sharers after a change

more_by : (b : Bool) (new old depth : ℕ) → new + cond b depth 0 ≡ old + cond b (depth + 1) 0 → new ≡ old + cond b 1 0
more_by true new old depth e = omega arith
more_by false new old depth e = omega arith

less_by : (b : Bool) (new old depth : ℕ) → 0 < depth → new + cond b depth 0 ≡ old + cond b (depth - 1) 0 → old ≡ new + cond b 1 0
less_by true new old depth some e = omega arith
less_by false new old depth some e = omega arith

module _ (sharers : List Sharer) (at : ℕ) (sharer : Sharer) (thread : ℕ) (below : at < length sharers) (is : sharer ≡ get_or sharers at sharer) (own : sharer.thread ≡ thread) where
  -- where the sharer's depth is written
  written : (depth other : ℕ) → depth_among (slice_set sharers at (record { thread = sharer.thread; depth = depth })) other + cond (other == thread) sharer.depth 0
      ≡ depth_among sharers other + cond (other == thread) depth 0
  written depth other =
      (λ i. depth_among (slice_set sharers at (record { thread = sharer.thread; depth = depth })) other + cond (other == sym own i) sharer.depth 0)
      ∙ ap (λ s. depth_among (slice_set sharers at (record { thread = sharer.thread; depth = depth })) other + depth_by other s) is
      ∙ sum_by-set (depth_by other) sharers at (record { thread = sharer.thread; depth = depth }) sharer below
      ∙ (λ i. depth_among sharers other + cond (other == own i) depth 0)

  pub one_more : (other : ℕ) → depth_among (slice_set sharers at (record { thread = sharer.thread; depth = sharer.depth + 1 })) other ≡ depth_among sharers other + cond (other == thread) 1 0
  one_more other = more_by (other == thread) _ _ sharer.depth (written (sharer.depth + 1) other)

  pub one_less : 0 < sharer.depth → (other : ℕ)
      → depth_among sharers other ≡ depth_among (slice_set sharers at (record { thread = sharer.thread; depth = sharer.depth - 1 })) other + cond (other == thread) 1 0
  one_less some other = less_by (other == thread) _ _ sharer.depth some (written (sharer.depth - 1) other)

  -- where it goes
  pub one_gone : sharer.depth ≡ 1 → (other : ℕ) → depth_among sharers other ≡ depth_among (swap_remove sharers at sharer) other + cond (other == thread) 1 0
  one_gone one other =
      sym (sum_by-swap_remove (depth_by other) sharers at sharer below)
      ∙ ap (λ s. depth_among (swap_remove sharers at sharer) other + depth_by other s) (sym is)
      ∙ (λ i. depth_among (swap_remove sharers at sharer) other + cond (other == own i) (one i) 0)

  -- its own depth is part of the thread's
  pub own_within : sharer.depth ≤ depth_among sharers thread
  own_within =
      let gone : depth_among (swap_remove sharers at sharer) thread + depth_by thread (get_or sharers at sharer) ≡ depth_among sharers thread = sum_by-swap_remove (depth_by thread) sharers at sharer below in
      let here : depth_by thread (get_or sharers at sharer) ≡ sharer.depth = ap (depth_by thread) (sym is) ∙ ap (λ b. cond b sharer.depth 0) ((Decides-eqb thread sharer.thread).1 (sym own)) in
      omega arith

-- no entry without depth is left where one goes
pub deep_gone : (sharers : List Sharer) (at : ℕ) (sharer : Sharer) → at < length sharers → AreDeep sharers → AreDeep (swap_remove sharers at sharer)
deep_gone sharers at sharer below deep =
    let last : Sharer = get_or sharers (length sharers - 1) sharer in
    let own : 1 ≤ last.depth = All-get_or (λ (s : Sharer). 1 ≤ s.depth) sharers (length sharers - 1) sharer (omega (arith, below)) deep in
    All-take (λ (s : Sharer). 1 ≤ s.depth) (length sharers - 1) (set sharers at last) (All-set (λ (s : Sharer). 1 ≤ s.depth) sharers at last own deep)

-- what holds of the sharer at a place
pub at_place : (sharers : List Sharer) (at : ℕ) (sharer : Sharer) (P : Sharer → Type 0) → at < length sharers → sharer ≡ get_or sharers at sharer → IfSome (slice_get sharers at) P → P sharer
at_place sharers at sharer P below is there = subst P (sym is) (subst (λ o. IfSome o P) (slice_get-get_or sharers at sharer below) there)

-- two that are at one place are the same
pub same_at : (sharers : List Sharer) (at : ℕ) (a b : Sharer) → at < length sharers → a ≡ get_or sharers at a → b ≡ get_or sharers at b → a ≡ b
same_at sharers at a b below is also =
    is ∙ same_Some _ _ (sym (slice_get-get_or sharers at a below) ∙ slice_get-get_or sharers at b below) ∙ sym also

-- where one thread has one more, each has few
pub still_few : (old new : ℕ → ℕ) (thread : ℕ) → old thread + 1 < 4294967296 → ((other : ℕ) → old other < 4294967296) → ((other : ℕ) → new other ≡ old other + cond (other == thread) 1 0)
    → (other : ℕ) → new other < 4294967296
still_few old new thread room few more other = elim (cases_eq thread other) [
  | inl same ↦
      let here : old other + 1 < 4294967296 = subst (λ n. old n + 1 < 4294967296) same room in
      let one : new other ≡ old other + 1 = more other ∙ ap (λ b. old other + cond b 1 0) ((Decides-eqb other thread).1 (sym same)) in
      omega arith
  | inr apart ↦
      let none : new other ≡ old other + 0 = more other ∙ ap (λ b. old other + cond b 1 0) (ne_eqb other thread (λ same. apart (sym same))) in
      omega (arith, few other)
]
