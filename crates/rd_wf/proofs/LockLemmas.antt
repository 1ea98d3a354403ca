-- Tables after a write, locks, and what the lines acquire and release.
use Rattle.std.proofs.Common.{◌≡◌, inl, inr, ℕ, zero, suc, ◌+◌, ◌-◌, ◌<◌, ◌≤◌, Bool, true, false, not, cond, ◌==◌, ◌&&◌, ◌||◌, leb, ltb, List, [], ◌∷◌, ◌++◌, Option, Some, None, IfSome, length, refl, sym, ap, subst, ◌∙◌, arith, true≢false}
use Rattle.std.specs.Map.{lookup, keys_of}
use Rattle.std.specs.Cmp.Lexicographic.{bytes_decides}
use Rattle.std.proofs.lemmas.Bool.{cases_eq, cases_lt, ne_eqb}
use Rattle.std.proofs.lemmas.Bool.Decides.{Decides-eqb, Decides-ltb, nat_tests}
use Rattle.std.proofs.lemmas.List.{append-nil}
use Rattle.std.proofs.lemmas.List.Sums.{sum_by_push}
use Rattle.std.proofs.lemmas.Option.{none-some}
use Rattle.indexmap.specs.Layout.{set_value_at}
use Rattle.rd_event.specs.declared.items.Line.{Line}
use Rattle.rd_tables.specs.declared.locks.Lock.{Lock}
use Rattle.rd_rules.specs.MayFollow.{taken_name, same_name, is_among, place, passes, with_lock, with_locks, locks_of, acquires, releases, shares, unshares, is_acquire_of, is_release_of, is_share_of, is_unshare_of}
use Rattle.rd_tables.specs.Tables.{depth_of, is_other_holder, other_holder}
use Rattle.rd_tables.specs.Sharers.{IsLeast}
use Rattle.rd_tables.proofs.NameLemmas.{same_test, place_stays, place_past}

pub and-true : (b : Bool) → (b && true) ≡ b
and-true true = refl
and-true false = refl

pub and-false : (b : Bool) → (b && false) ≡ false
and-false true = refl
and-false false = refl

-- ---- a table after a write

module _ {X : Type 0} (x y : X) where
  same_twice : (b : Bool) (o : Option X) → cond b (Some x) o ≡ cond b (Some x) (cond b (Some y) o)
  same_twice true o = refl
  same_twice false o = refl

  swapped : (a b : Bool) (o : Option X) → (a ≡ true → b ≡ true → ⊥) → cond a (Some y) (cond b (Some x) o) ≡ cond b (Some x) (cond a (Some y) o)
  swapped true true o apart = absurd (apart refl refl)
  swapped true false o apart = refl
  swapped false b o apart = refl

-- no name is the same as two that differ
two_names : (other x name : List ℕ) → same_name name x ≡ false → same_name other x ≡ true → same_name other name ≡ true → ⊥
two_names other x name differ one two =
    true≢false (sym ((bytes_decides name x).1 (sym ((bytes_decides other name).0 two) ∙ (bytes_decides other x).0 one)) ∙ differ)

module _ {X : Type 0} (name other : List ℕ) (value : X) where
  -- what is found where a value was written at the place of a name
  pub found_written : (entries : List (List ℕ × X)) → is_among (keys_of entries) name ≡ true
      → lookup (same_name other) (set_value_at entries (place (keys_of entries) name) value) ≡ cond (same_name other name) (Some value) (lookup (same_name other) entries)
  found_written [] there = absurd (true≢false (sym there))
  found_written (e ∷ es) there = by (same_name name e.0) refl (found_written es)
    where
      Found : ℕ → Type 0
      Found n = lookup (same_name other) (set_value_at (e ∷ es) n value) ≡ cond (same_name other name) (Some value) (lookup (same_name other) (e ∷ es))

      by : (b : Bool) → same_name name e.0 ≡ b
          → (is_among (keys_of es) name ≡ true → lookup (same_name other) (set_value_at es (place (keys_of es) name) value) ≡ cond (same_name other name) (Some value) (lookup (same_name other) es))
          → Found (cond (not (same_name name e.0)) (1 + place (keys_of es) name) 0)
      by true same rest =
          subst (λ b. Found (cond (not b) (1 + place (keys_of es) name) 0)) (sym same)
          (same_twice value e.1 (same_name other e.0) (lookup (same_name other) es)
          ∙ ap (λ n. cond (same_name other n) (Some value) (lookup (same_name other) (e ∷ es))) (sym ((bytes_decides name e.0).0 same)))
      by false differ rest =
          let later = rest (sym (ap (λ b. b || is_among (keys_of es) name) differ) ∙ there) in
          let next : suc (place (keys_of es) name) ≡ 1 + place (keys_of es) name = omega arith in
          subst (λ b. Found (cond (not b) (1 + place (keys_of es) name) 0)) (sym differ)
          (subst Found next
          (ap (cond (same_name other e.0) (Some e.1)) later ∙ swapped value e.1 (same_name other e.0) (same_name other name) _ (two_names other e.0 name differ)))

  -- and where a new name was put last
  pub found_pushed : (entries : List (List ℕ × X)) → is_among (keys_of entries) name ≡ false
      → lookup (same_name other) (entries ++ (name, value) ∷ []) ≡ cond (same_name other name) (Some value) (lookup (same_name other) entries)
  found_pushed [] lacks = refl
  found_pushed (e ∷ es) lacks = by (same_name name e.0) refl (found_pushed es)
    where
      by : (b : Bool) → same_name name e.0 ≡ b
          → (is_among (keys_of es) name ≡ false → lookup (same_name other) (es ++ (name, value) ∷ []) ≡ cond (same_name other name) (Some value) (lookup (same_name other) es))
          → lookup (same_name other) (e ∷ es ++ (name, value) ∷ []) ≡ cond (same_name other name) (Some value) (lookup (same_name other) (e ∷ es))
      by true same rest = absurd (true≢false (sym (ap (λ b. b || is_among (keys_of es) name) same) ∙ lacks))
      by false differ rest =
          let later = rest (sym (ap (λ b. b || is_among (keys_of es) name) differ) ∙ lacks) in
          ap (cond (same_name other e.0) (Some e.1)) later ∙ swapped value e.1 (same_name other e.0) (same_name other name) _ (two_names other e.0 name differ)

-- ---- a lock that a thread has or that is free

-- no thread whose number isn't below the count has a lock whose holder is below it
pub free_past : (lock : Lock) (count n : ℕ) → (0 < lock.depth → lock.holder < count) → count ≤ n → depth_of lock n ≡ 0
free_past lock count n begun past = by (n == lock.holder) refl lock.depth begun
  where
    by : (b : Bool) → (n == lock.holder) ≡ b → (depth : ℕ) → (0 < depth → lock.holder < count) → cond (n == lock.holder) depth 0 ≡ 0
    by b e zero begun = grind (arith, nat_tests)
    by true e (suc depth) begun =
        let at : n ≡ lock.holder = (Decides-eqb _ _).0 e in
        let below : lock.holder < count = begun (omega arith) in absurd (omega arith)
    by false e (suc depth) begun = ap (λ b. cond b (suc depth) 0) e

-- a thread that has the lock is below the count
pub holder_known : (lock : Lock) (count n : ℕ) → (0 < lock.depth → lock.holder < count) → 0 < depth_of lock n → n < count
holder_known lock count n begun some = elim (cases_lt n count) [ inl below ↦ below | inr past ↦ absurd (omega (arith, free_past lock count n begun past)) ]

-- more names change no depth
pub depth_stays : (lock : Lock) (names more : List (List ℕ)) (name : List ℕ) → (0 < lock.depth → lock.holder < length names)
    → depth_of lock (place (names ++ more) name) ≡ depth_of lock (place names name)
depth_stays lock names more name begun = elim (cases_lt (place names name) (length names)) [
  | inl below ↦ ap (depth_of lock) (place_stays names name more below)
  | inr past ↦ free_past lock (length names) _ begun (place_past names name more past) ∙ sym (free_past lock (length names) _ begun past)
]

module _ (lock : Lock) (thread : ℕ) (own : depth_of lock thread ≡ lock.depth) where
  -- once the thread acquires it, it has it once more, and no other has it
  pub deeper : (n : ℕ) → cond (n == thread) (lock.depth + 1) 0 ≡ depth_of lock n + cond (n == thread) 1 0
  deeper n = elim (cases_eq thread lock.holder) [
    | inl same ↦ grind (arith, nat_tests)
    | inr differ ↦ grind (arith, nat_tests)
  ]

  -- once it releases it, it has it once less
  pub shallower : 0 < lock.depth → (n : ℕ) → depth_of lock n ≡ cond (n == thread) (lock.depth - 1) 0 + cond (n == thread) 1 0
  shallower some n = grind (arith, nat_tests)

-- where a thread acquired a lock so often more than it released it, the tests of these counts are tests of the depth
module _ (acquired released depth : ℕ) (e : acquired ≡ released + depth) where
  pub free_test : (acquired == released) ≡ (depth == 0)
  free_test = same_test _ _ (λ h. grind (arith, nat_tests)) (λ h. grind (arith, nat_tests))

  pub not_held_test : leb acquired released ≡ (depth == 0)
  not_held_test = same_test _ _ (λ h. grind (arith, nat_tests)) (λ h. grind (arith, nat_tests))

  pub deep_test : (most : ℕ) → leb (most + released) acquired ≡ leb most depth
  deep_test most = same_test _ _ (λ h. grind (arith, nat_tests)) (λ h. grind (arith, nat_tests))

module _ (lock : Lock) (thread : ℕ) where
  -- the other thread that has the lock is the one whose depth isn't 0
  pub holder_test : (other : ℕ) → (not (thread == other) && not (depth_of lock other == 0)) ≡ passes (other_holder lock thread) (λ holder. holder == other)
  holder_test other = by (other == lock.holder) refl
    where
      held : (own : Bool) (depth : ℕ) → (not own && not (cond (lock.holder == lock.holder) depth 0 == 0))
          ≡ passes (cond (ltb 0 depth && not own) (Some lock.holder) None) (λ holder. holder == lock.holder)
      held true depth = sym (ap (λ b. passes (cond b (Some lock.holder) None) (λ holder. holder == lock.holder)) (and-false (ltb 0 depth)))
      held false zero = grind (arith, nat_tests)
      held false (suc depth) = grind (arith, nat_tests)

      none : (b : Bool) → (lock.holder == other) ≡ false → false ≡ passes (cond b (Some lock.holder) None) (λ holder. holder == other)
      none true differ = sym differ
      none false differ = refl

      by : (b : Bool) → (other == lock.holder) ≡ b → (not (thread == other) && not (depth_of lock other == 0)) ≡ passes (other_holder lock thread) (λ holder. holder == other)
      by true same =
          subst (λ n. (not (thread == n) && not (depth_of lock n == 0)) ≡ passes (other_holder lock thread) (λ holder. holder == n))
          {x = lock.holder} {y = other} (sym ((Decides-eqb _ _).0 same)) (held (thread == lock.holder) lock.depth)
      by false differ =
          let back : (lock.holder == other) ≡ false = grind (arith, nat_tests) in
          ap (λ b. not (thread == other) && not (cond b lock.depth 0 == 0)) differ ∙ and-false (not (thread == other)) ∙ none (ltb 0 lock.depth && not (thread == lock.holder)) back

  -- so it is the least that has it
  pub holder_least : IsLeast (is_other_holder lock thread) (other_holder lock thread)
  holder_least = by (other_holder lock thread) refl
    where
      by : (o : Option ℕ) → other_holder lock thread ≡ o → IsLeast (is_other_holder lock thread) o
      by None e = λ n. holder_test n ∙ ap (λ o. passes o (λ holder. holder == n)) e
      by (Some holder) e = (
        holder_test holder ∙ ap (λ o. passes o (λ h. h == holder)) e ∙ (Decides-eqb holder holder).1 refl,
        λ n below. holder_test n ∙ ap (λ o. passes o (λ h. h == n)) e ∙ ne_eqb holder n (omega arith),
      )

  pub holder_below : (count : ℕ) → (0 < lock.depth → lock.holder < count) → IfSome (other_holder lock thread) (λ holder. holder < count)
  holder_below count begun = by (ltb 0 lock.depth) refl (not (thread == lock.holder))
    where
      by : (b : Bool) → ltb 0 lock.depth ≡ b → (c : Bool) → IfSome (cond (ltb 0 lock.depth && c) (Some lock.holder) None) (λ holder. holder < count)
      by true some true = subst (λ b. IfSome (cond (b && true) (Some lock.holder) None) (λ holder. holder < count)) (sym some) (begun ((Decides-ltb 0 lock.depth).0 some))
      by true some false = subst (λ b. IfSome (cond (b && false) (Some lock.holder) None) (λ holder. holder < count)) (sym some) tt
      by false none c = subst (λ b. IfSome (cond (b && c) (Some lock.holder) None) (λ holder. holder < count)) (sym none) tt

  -- where no other thread has it, its depth is that of the thread
  pub own_depth : other_holder lock thread ≡ None → depth_of lock thread ≡ lock.depth
  own_depth none = by lock.depth (thread == lock.holder) none
    where
      by : (depth : ℕ) (b : Bool) → cond (ltb 0 depth && not b) (Some lock.holder) None ≡ None → cond b depth 0 ≡ depth
      by depth true e = refl
      by zero false e = refl
      by (suc depth) false e = absurd (none-some lock.holder (sym e ∙ ap (λ b. cond (b && true) (Some lock.holder) None) (let some : ltb 0 (suc depth) ≡ true = grind (arith, nat_tests) in some)))

-- ---- what is known by two places

module _ (f : ℕ → ℕ → ℕ) (names others : List (List ℕ)) (known : (n m : ℕ) → 0 < f n m → (n < length names) × (m < length others)) where
  none_past : (n m : ℕ) → length names ≤ n → f n m ≡ 0
  none_past n m past = elim (cases_eq (f n m) 0) [ inl none ↦ none | inr some ↦ (let below : n < length names = (known n m (omega arith)).0 in absurd (omega arith)) ]

  none_past_others : (n m : ℕ) → length others ≤ m → f n m ≡ 0
  none_past_others n m past = elim (cases_eq (f n m) 0) [ inl none ↦ none | inr some ↦ (let below : m < length others = (known n m (omega arith)).1 in absurd (omega arith)) ]

  -- more names change nothing
  pub both_stay : (more more_others : List (List ℕ)) (name other : List ℕ) → f (place (names ++ more) name) (place (others ++ more_others) other) ≡ f (place names name) (place others other)
  both_stay more more_others name other = elim (cases_lt (place names name) (length names)) [
    | inl below ↦ elim (cases_lt (place others other) (length others)) [
      | inl under ↦ λ i. f (place_stays names name more below i) (place_stays others other more_others under i)
      | inr past ↦ none_past_others _ _ (place_past others other more_others past) ∙ sym (none_past_others _ _ past)
    ]
    | inr past ↦ none_past _ _ (place_past names name more past) ∙ sym (none_past _ _ past)
  ]

-- the lock that is added
abbrev pub added : List (List ℕ) → Option (List ℕ) → List (List ℕ)
added locks None = []
added locks (Some lock) = cond (is_among locks lock) [] (lock ∷ [])

pub with_lock_more : (locks : List (List ℕ)) (taken : Option (List ℕ)) → with_lock locks taken ≡ locks ++ added locks taken
with_lock_more locks None = sym (append-nil locks)
with_lock_more locks (Some lock) = by (is_among locks lock)
  where
    by : (b : Bool) → cond b locks (locks ++ lock ∷ []) ≡ locks ++ cond b [] (lock ∷ [])
    by true = sym (append-nil locks)
    by false = refl

-- ---- one line more

pub locks_push : (lines : List Line) (line : Line) → locks_of (lines ++ line ∷ []) ≡ with_lock (locks_of lines) (taken_name line)
locks_push lines line = behind [] lines
  where
    behind : (locks : List (List ℕ)) (lines : List Line) → with_locks locks (lines ++ line ∷ []) ≡ with_lock (with_locks locks lines) (taken_name line)
    behind locks [] = refl
    behind locks (first ∷ lines) = behind (with_lock locks (taken_name first)) lines

module _ (lines : List Line) (line : Line) (thread lock : List ℕ) where
  pub acquires_push : acquires (lines ++ line ∷ []) thread lock ≡ acquires lines thread lock + cond (is_acquire_of thread lock line) 1 0
  unfolding acquires
  acquires_push = sum_by_push _ lines line

  pub releases_push : releases (lines ++ line ∷ []) thread lock ≡ releases lines thread lock + cond (is_release_of thread lock line) 1 0
  unfolding releases
  releases_push = sum_by_push _ lines line

  pub shares_push : shares (lines ++ line ∷ []) thread lock ≡ shares lines thread lock + cond (is_share_of thread lock line) 1 0
  unfolding shares
  shares_push = sum_by_push _ lines line

  pub unshares_push : unshares (lines ++ line ∷ []) thread lock ≡ unshares lines thread lock + cond (is_unshare_of thread lock line) 1 0
  unfolding unshares
  unshares_push = sum_by_push _ lines line
