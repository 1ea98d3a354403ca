-- The tests of the rules tell which rule a line breaks first.
use Rattle.std.proofs.Common.{◌≡◌, ◌≢◌, ◌↔◌, inl, inr, ℕ, zero, suc, ◌+◌, ◌<◌, ◌≤◌, Bool, true, false, not, cond, ◌==◌, ◌&&◌, ltb, leb, List, [], ◌∷◌, ◌++◌, take, Option, Some, None, is_some, IsSome, IfSome, IsSomeAnd, IsTrue, Contains, MatchOption, length, Decides, refl, sym, ap, subst, ◌∙◌, arith, true≢false}
use Rattle.std.specs.Prelude.{All, find, slice_get}
use Rattle.std.specs.Cmp.Lexicographic.{bytes_decides, nat_list_eq_equiv}
use Rattle.std.proofs.lemmas.Bool.Decides.{Decides-and, Decides-or, Decides-not, Decides-eqb, Decides-ltb, Decides-like, not_from_Decides, nat_tests}
use Rattle.std.proofs.lemmas.Bool.{cases_eq, or_parts, false_from_ne_true, not-false}
use Rattle.std.proofs.lemmas.List.Elements.{All-nil, All-cons, All-head, All-tail}
use Rattle.std.proofs.lemmas.Map.Views.{Contains-from_any, list_any-from_Contains}
use Rattle.std.proofs.lemmas.Option.{none-some, same_Some, slice_get-get_or}
use Rattle.std.proofs.lemmas.List.FromFn.{length-map-range_with_len, get_or-map-range_with_len}
use Rattle.rd_base.specs.declared.limits.Limits.{Limits}
use Rattle.rd_base.specs.declared.limits.LimitName.TheVariants.{Events, Threads, Locks, Objects, Depth}
use Rattle.rd_event.specs.declared.items.Line.{Line}
use Rattle.rd_event.specs.declared.items.Line.TheVariants.{Skip, Thread, Object, Event}
use Rattle.rd_event.specs.declared.items.LineEvent.{LineEvent}
use Rattle.rd_event.specs.declared.items.LineEvent.TheVariants.{Fork, Join}
use Rattle.rd_rules.specs.declared.causes.WfCause.{WfCause}
use Rattle.rd_rules.specs.declared.causes.WfCause.TheVariants.{HeaderFirst, LateRoot, NameTaken, UnknownThread, ThreadEnded, OwnThread, UnknownKind, UnknownObject, UnknownMethod, WrongCount, LockHeld, NotHeld, Limit}
use Rattle.rd_ecl.specs.Kinds.{Kind, kind_names, method_names}
use Rattle.rd_rules.specs.MayFollow.{SpelledCall, line_call, methods_of, slot_count_of, is_skip, is_header, is_root, is_event, actor_name, begun_name, acting_name, joined_name, acquired_name, released_name, shared_name, unshared_name, taken_name, declared_name, kind_name, threads_of, joined_of, locks_of, objects_of, acquires, releases, shares, unshares, headers, events, Rule, causes, holders, MayFollow, IsBrokenFirst, same_name, is_among, passes, is_broken, first_broken}

-- ---- tests of names

pub among_decides : (names : List (List ℕ)) (name : List ℕ) → Decides (is_among names name) (Contains names name)
among_decides names name = (
  λ h. Contains-from_any {eq = same_name} (λ x y e. (bytes_decides x y).0 e) name names h,
  λ h. list_any-from_Contains nat_list_eq_equiv name names h,
)

absent_decides : (names : List (List ℕ)) (name : List ℕ) → Decides (not (is_among names name)) (¬ (Contains names name))
absent_decides names name = Decides-not _ (among_decides names name)

passes_decides : {X : Type 0} (o : Option X) (test : X → Bool) (P : X → Type 0) → ((x : X) → Decides (test x) (P x)) → Decides (passes o test) (IsSomeAnd o P)
passes_decides None test P each = (λ h. true≢false (sym h), λ h. absurd h)
passes_decides (Some x) test P each = each x

-- where none passes, the test fails for the one that there may be
none_passes : {X : Type 0} (o : Option X) (test : X → Bool) (Q : X → Type 0) → ((x : X) → test x ≡ false → Q x) → passes o test ≡ false → IfSome o Q
none_passes None test Q each h = tt
none_passes (Some x) test Q each h = each x h

if_some_not : {X : Type 0} (o : Option X) (P Q : X → Type 0) → ((x : X) → Q x → ¬ (P x)) → IfSome o Q → ¬ (IsSomeAnd o P)
if_some_not None P Q apart h k = k
if_some_not (Some x) P Q apart h k = apart x h k

skip_is : (line : Line) → is_skip line ≡ true → line ≡ Skip
skip_is Skip e = refl
skip_is _ e = absurd (true≢false (sym e))

header_apart : (is : Bool) (n : ℕ) → IsTrue is ↔ (n ≡ 0) → ¬ (IsTrue is ↔ (0 < n))
header_apart true n may broken = let none : n ≡ 0 = may.0 refl in let some : 0 < n = broken.0 refl in omega arith
header_apart false zero may broken = true≢false (sym (may.1 refl))
header_apart false (suc n) may broken = true≢false (sym (broken.1 (omega arith)))

-- ---- the first that fails

module _ {X : Type 0} (P : X → Type 0) (test : X → Bool) (holds : (x : X) → test x ≡ false → P x) (fails : (x : X) → test x ≡ true → ¬ (P x)) where
  -- none is found: each holds
  all_hold : (xs : List X) → find test xs ≡ None → All P xs
  all_hold [] e = All-nil P
  all_hold (x ∷ xs) e = by (test x) refl (all_hold xs)
    where
      by : (b : Bool) → test x ≡ b → (find test xs ≡ None → All P xs) → All P (x ∷ xs)
      by true is rest = absurd (none-some x (sym e ∙ ap (λ b. cond b (Some x) (find test xs)) is))
      by false is rest = All-cons P x xs (holds x is) (rest (sym (ap (λ b. cond b (Some x) (find test xs)) is) ∙ e))

  -- one stands at this place, fails, and each in front of it holds
  record IsFirst (xs : List X) (x : X) : Type 0 where
    place : ℕ
    listed : slice_get xs place ≡ Some x
    broken : ¬ (P x)
    others : All P (take place xs)

  found : (xs : List X) (x : X) → find test xs ≡ Some x → IsFirst xs x
  found [] x e = absurd (none-some x e)
  found (y ∷ ys) x e = by (test y) refl (found ys x)
    where
      by : (b : Bool) → test y ≡ b → (find test ys ≡ Some x → IsFirst ys x) → IsFirst (y ∷ ys) x
      by true is rest =
          let same : Some y ≡ Some x = sym (ap (λ b. cond b (Some y) (find test ys)) is) ∙ e in
          record { place = 0; listed = same; broken = subst (λ z. ¬ (P z)) (same_Some y x same) (fails y is); others = All-nil P }
      by false is rest =
          let later = rest (sym (ap (λ b. cond b (Some y) (find test ys)) is) ∙ e) in
          record { place = suc later.place; listed = later.listed; broken = later.broken; others = All-cons P y (take later.place ys) (holds y is) later.others }

  -- so it is the one that is found
  found_is : (xs : List X) (x : X) (place : ℕ) → slice_get xs place ≡ Some x → ¬ (P x) → All P (take place xs) → find test xs ≡ Some x
  found_is [] x place listed broken others = absurd (none-some x listed)
  found_is (y ∷ ys) x zero listed broken others = by (test y) refl
    where
      same : y ≡ x
      same = same_Some y x listed

      by : (b : Bool) → test y ≡ b → find test (y ∷ ys) ≡ Some x
      by true is = ap (λ b. cond b (Some y) (find test ys)) is ∙ ap Some same
      by false is = absurd (broken (subst P same (holds y is)))
  found_is (y ∷ ys) x (suc place) listed broken others = by (test y) refl (found_is ys x place listed broken (All-tail P y (take place ys) others))
    where
      by : (b : Bool) → test y ≡ b → find test ys ≡ Some x → find test (y ∷ ys) ≡ Some x
      by true is rest = absurd (fails y is (All-head P y (take place ys) others))
      by false is rest = ap (λ b. cond b (Some y) (find test ys)) is ∙ rest

  -- where each holds, none at a place fails
  each_holds : (xs : List X) (x : X) (place : ℕ) → All P xs → slice_get xs place ≡ Some x → P x
  each_holds [] x place all listed = absurd (none-some x listed)
  each_holds (y ∷ ys) x zero all listed = subst P (same_Some y x listed) (All-head P y ys all)
  each_holds (y ∷ ys) x (suc place) all listed = each_holds ys x place (All-tail P y ys all) listed

-- ---- each test tells whether its part is broken

header_decides : (is : Bool) (n : ℕ) → Decides (cond is (ltb 0 n) (n == 0)) (IsTrue is ↔ (0 < n))
header_decides true n = (λ h. (λ _. grind (arith, nat_tests), λ _. refl), λ h. grind (arith, nat_tests))
header_decides false n = (λ h. (λ e. absurd (true≢false (sym e)), λ l. absurd (grind (arith, nat_tests))), λ h. grind (arith, nat_tests))

true_decides : (b : Bool) → Decides b (IsTrue b)
true_decides b = (λ h. h, λ h. h)

limit_decides : (raises : Bool) (limit count : ℕ) → Decides (raises && leb limit count) (IsTrue raises × (limit ≤ count) × (limit ≡ limit))
limit_decides raises limit count =
    Decides-like _ (λ h. (h.0, h.1, refl)) (λ h. (h.0, h.1)) (Decides-and _ _ (true_decides raises) (λ h. grind (arith, nat_tests), λ h. grind (arith, nat_tests)))

is_decides : (o : Option (List ℕ)) (name : List ℕ) → Decides (passes o (same_name name)) (o ≡ Some name)
is_decides None name = (λ h. absurd (true≢false (sym h)), λ h. cc)
is_decides (Some other) name = Decides-like _ (λ e. ap Some (sym e)) (λ e. cc) (bytes_decides name other)

own_decides : (line : Line) → Decides (passes (joined_name line) (λ name. passes (acting_name line) (same_name name))) (IsSomeAnd (joined_name line) (λ name. acting_name line ≡ Some name))
own_decides line = passes_decides (joined_name line) _ _ (is_decides (acting_name line))

-- ---- what a failed test says

header_first_from : (is : Bool) (n : ℕ) → cond is (ltb 0 n) (n == 0) ≡ false → IsTrue is ↔ (n ≡ 0)
header_first_from true n h = (λ _. grind (arith, nat_tests), λ _. refl)
header_first_from false n h = (λ e. absurd (true≢false (sym e)), λ e. absurd (grind (arith, nat_tests)))

none_before : (is : Bool) (n : ℕ) → (is && ltb 0 n) ≡ false → IsTrue is → n ≡ 0
none_before true n h e = grind (arith, nat_tests)
none_before false n h e = absurd (true≢false (sym e))

below_limit : (raises : Bool) (limit count : ℕ) → (raises && leb limit count) ≡ false → IsTrue raises → count < limit
below_limit true limit count h e = grind (arith, nat_tests)
below_limit false limit count h e = absurd (true≢false (sym e))

module _ (names : List (List ℕ)) (o : Option (List ℕ)) where
  none_among : passes o (is_among names) ≡ false → IfSome o (λ name. ¬ (Contains names name))
  none_among = none_passes o _ _ (λ name e. not_from_Decides _ (among_decides names name) e)

  is_contained : passes o (λ name. not (is_among names name)) ≡ false → IfSome o (Contains names)
  is_contained = none_passes o _ _ (λ name e. (among_decides names name).0 (not-false _ e))

-- ---- calls

module _ (kinds : List Kind) (before : List Line) where
  object_decides : (call : SpelledCall) → Decides (not (is_among (objects_of before) call.object)) (¬ (Contains (objects_of before) call.object))
  object_decides call = absent_decides (objects_of before) call.object

  method_decides : (call : SpelledCall) → Decides (not (is_among (method_names (methods_of kinds before call.object)) call.method)) (¬ (Contains (method_names (methods_of kinds before call.object)) call.method))
  method_decides call = absent_decides (method_names (methods_of kinds before call.object)) call.method

  count_decides : (call : SpelledCall) → Decides (not (length call.slots == slot_count_of kinds before call)) (length call.slots ≢ slot_count_of kinds before call)
  count_decides call = Decides-not _ (Decides-eqb (length call.slots) (slot_count_of kinds before call))

-- ---- locks

module _ (line : Line) (took gave : List ℕ → ℕ) where
  -- another thread took more often than it gave back
  held_decides : (thread : List ℕ) → Decides (not (passes (acting_name line) (same_name thread)) && not (took thread == gave thread))
      ((acting_name line ≢ Some thread) × (took thread ≢ gave thread))
  held_decides thread = Decides-and _ _ (Decides-not _ (is_decides (acting_name line) thread)) (Decides-not _ (Decides-eqb (took thread) (gave thread)))

  free_from : (thread : List ℕ) → (not (passes (acting_name line) (same_name thread)) && not (took thread == gave thread)) ≡ false
      → acting_name line ≢ Some thread → took thread ≡ gave thread
  free_from thread h other = elim (cases_eq (took thread) (gave thread)) [
    | inl same ↦ same
    | inr differ ↦ absurd (not_from_Decides _ (held_decides thread) h (other, differ))
  ]

leb_decides : (m n : ℕ) → Decides (leb m n) (m ≤ n)
leb_decides m n = (λ h. grind (arith, nat_tests), λ h. grind (arith, nat_tests))

above : (m n : ℕ) → leb m n ≡ false → n < m
above m n h = grind (arith, nat_tests)

-- the parts of the rules on locks
module _ (before : List Line) (line : Line) (o : Option (List ℕ)) where
  module _ (holder : ℕ) (took gave : List ℕ → List ℕ → ℕ) where
    abbrev Against : Type 0
    Against = IsSomeAnd o (λ lock. IsSomeAnd (slice_get (threads_of before) holder) (λ thread. (acting_name line ≢ Some thread) × (took thread lock ≢ gave thread lock)))

    against_decides : Decides
        (passes o (λ lock. passes (slice_get (threads_of before) holder) (λ thread. not (passes (acting_name line) (same_name thread)) && not (took thread lock == gave thread lock))))
        Against
    against_decides = passes_decides o _ _ (λ lock. passes_decides (slice_get (threads_of before) holder) _ _ (held_decides line (λ t. took t lock) (λ t. gave t lock)))

    against_fails : IfSome o (λ lock. IfSome (slice_get (threads_of before) holder) (λ thread. acting_name line ≢ Some thread → took thread lock ≡ gave thread lock)) → ¬ Against
    against_fails = if_some_not o _ _ (λ lock free held. if_some_not (slice_get (threads_of before) holder) _ _ (λ thread same both. both.1 (same both.0)) free held)

  module _ (low high : List ℕ → List ℕ → ℕ) where
    abbrev Most : Type 0
    Most = IsSomeAnd o (λ lock. IsSomeAnd (acting_name line) (λ thread. low thread lock ≤ high thread lock))

    most_decides : Decides (passes o (λ lock. passes (acting_name line) (λ thread. leb (low thread lock) (high thread lock)))) Most
    most_decides = passes_decides o _ _ (λ lock. passes_decides (acting_name line) _ _ (λ thread. leb_decides (low thread lock) (high thread lock)))

    most_fails : IfSome o (λ lock. IfSome (acting_name line) (λ thread. high thread lock < low thread lock)) → ¬ Most
    most_fails = if_some_not o _ _ (λ lock less most. if_some_not (acting_name line) _ _ (λ thread less not_less. omega arith) less most)

-- where a name is counted, its count is below the limit
new_below : (names : List (List ℕ)) (o : Option (List ℕ)) (limit count : ℕ) → (passes o (λ name. not (is_among names name)) && leb limit count) ≡ false
    → IfSome o (λ name. ¬ (Contains names name) → count < limit)
new_below names None limit count h = tt
new_below names (Some name) limit count h = λ lacks. below_limit (not (is_among names name)) limit count h ((absent_decides names name).1 lacks)

module _ (kinds : List Kind) (before : List Line) (line : Line) where
  -- where the test fails, the line meets the rule
  rule_holds : (cause : WfCause) → is_broken kinds before line cause ≡ false → Rule kinds before line cause
  rule_holds HeaderFirst h = header_first_from (is_header line) (headers before) h
  rule_holds LateRoot h = none_before (is_root line) (events before) h
  rule_holds NameTaken h = let taken = or_parts _ _ h in (none_among (threads_of before) (begun_name line) taken.0, none_among (objects_of before) (declared_name line) taken.1)
  rule_holds UnknownThread h = let unknown = or_parts _ _ h in (is_contained (threads_of before) (acting_name line) unknown.0, is_contained (threads_of before) (joined_name line) unknown.1)
  rule_holds ThreadEnded h = none_among (joined_of before) (acting_name line) h
  rule_holds OwnThread h = none_passes (joined_name line) _ _ (λ name e. not_from_Decides _ (is_decides (acting_name line) name) e) h
  rule_holds UnknownKind h = is_contained (kind_names kinds) (kind_name line) h
  rule_holds UnknownObject h = none_passes (line_call line) _ _ (λ call e. (among_decides (objects_of before) call.object).0 (not-false _ e)) h
  rule_holds UnknownMethod h = none_passes (line_call line) _ _ (λ call e. (among_decides (method_names (methods_of kinds before call.object)) call.method).0 (not-false _ e)) h
  rule_holds WrongCount h = none_passes (line_call line) _ _ (λ call e. (Decides-eqb (length call.slots) (slot_count_of kinds before call)).0 (not-false _ e)) h
  rule_holds (LockHeld holder) h =
      let parts = or_parts _ _ h in (
        none_passes (taken_name line) _ _
            (λ lock e. none_passes (slice_get (threads_of before) holder) _ _ (free_from line (λ t. acquires before t lock) (λ t. releases before t lock)) e) parts.0,
        none_passes (acquired_name line) _ _
            (λ lock e. none_passes (slice_get (threads_of before) holder) _ _ (free_from line (λ t. shares before t lock) (λ t. unshares before t lock)) e) parts.1,
      )
  rule_holds NotHeld h =
      let parts = or_parts _ _ h in (
        none_passes (released_name line) _ _ (λ lock e. none_passes (acting_name line) _ _ (λ thread f. above (acquires before thread lock) (releases before thread lock) f) e) parts.0,
        none_passes (unshared_name line) _ _ (λ lock e. none_passes (acting_name line) _ _ (λ thread f. above (shares before thread lock) (unshares before thread lock) f) e) parts.1,
      )
  rule_holds (Limit Events most) h = below_limit (is_event line) most (events before) h
  rule_holds (Limit Threads most) h = below_limit (is_some (begun_name line)) most (length (threads_of before)) h
  rule_holds (Limit Locks most) h = new_below (locks_of before) (taken_name line) most (length (locks_of before)) h
  rule_holds (Limit Objects most) h = below_limit (is_some (declared_name line)) most (length (objects_of before)) h
  rule_holds (Limit Depth most) h =
      let parts = or_parts _ _ h in (
        none_passes (acquired_name line) _ _ (λ lock e. none_passes (acting_name line) _ _ (λ thread f. above (most + releases before thread lock) (acquires before thread lock) f) e) parts.0,
        none_passes (shared_name line) _ _ (λ lock e. none_passes (acting_name line) _ _ (λ thread f. above (most + unshares before thread lock) (shares before thread lock) f) e) parts.1,
      )
  rule_holds (Limit name most) h = tt

  -- and where it passes, the line breaks it
  rule_fails : (cause : WfCause) → is_broken kinds before line cause ≡ true → ¬ (Rule kinds before line cause)
  rule_fails HeaderFirst h rule = header_apart (is_header line) (headers before) rule ((header_decides (is_header line) (headers before)).0 h)
  rule_fails LateRoot h rule =
      let both = (Decides-and _ _ (true_decides (is_root line)) (Decides-ltb 0 (events before))).0 h in
      let none : events before ≡ 0 = rule both.0 in let some : 0 < events before = both.1 in omega arith
  rule_fails NameTaken h rule =
      elim ((Decides-or _ _ (passes_decides (begun_name line) _ _ (among_decides (threads_of before))) (passes_decides (declared_name line) _ _ (among_decides (objects_of before)))).0 h) [
        | inl thread ↦ if_some_not (begun_name line) _ _ (λ name h. h) rule.0 thread
        | inr object ↦ if_some_not (declared_name line) _ _ (λ name h. h) rule.1 object
      ]
  rule_fails UnknownThread h rule =
      elim ((Decides-or _ _ (passes_decides (acting_name line) _ _ (absent_decides (threads_of before))) (passes_decides (joined_name line) _ _ (absent_decides (threads_of before)))).0 h) [
        | inl thread ↦ if_some_not (acting_name line) _ _ (λ name there lacks. lacks there) rule.0 thread
        | inr thread ↦ if_some_not (joined_name line) _ _ (λ name there lacks. lacks there) rule.1 thread
      ]
  rule_fails ThreadEnded h rule = if_some_not (acting_name line) _ _ (λ name h. h) rule ((passes_decides (acting_name line) _ _ (among_decides (joined_of before))).0 h)
  rule_fails OwnThread h rule = if_some_not (joined_name line) _ _ (λ name h. h) rule ((own_decides line).0 h)
  rule_fails UnknownKind h rule = if_some_not (kind_name line) _ _ (λ name there lacks. lacks there) rule ((passes_decides (kind_name line) _ _ (absent_decides (kind_names kinds))).0 h)
  rule_fails UnknownObject h rule = if_some_not (line_call line) _ _ (λ call there lacks. lacks there) rule ((passes_decides (line_call line) _ _ (object_decides kinds before)).0 h)
  rule_fails UnknownMethod h rule = if_some_not (line_call line) _ _ (λ call there lacks. lacks there) rule ((passes_decides (line_call line) _ _ (method_decides kinds before)).0 h)
  rule_fails WrongCount h rule = if_some_not (line_call line) _ _ (λ call same other. other same) rule ((passes_decides (line_call line) _ _ (count_decides kinds before)).0 h)
  rule_fails (LockHeld holder) h rule =
      elim ((Decides-or _ _ (against_decides before line (taken_name line) holder (acquires before) (releases before)) (against_decides before line (acquired_name line) holder (shares before) (unshares before))).0 h) [
        | inl held ↦ against_fails before line (taken_name line) holder (acquires before) (releases before) rule.0 held
        | inr held ↦ against_fails before line (acquired_name line) holder (shares before) (unshares before) rule.1 held
      ]
  rule_fails NotHeld h rule =
      elim ((Decides-or _ _ (most_decides before line (released_name line) (acquires before) (releases before)) (most_decides before line (unshared_name line) (shares before) (unshares before))).0 h) [
        | inl free ↦ most_fails before line (released_name line) (acquires before) (releases before) rule.0 free
        | inr free ↦ most_fails before line (unshared_name line) (shares before) (unshares before) rule.1 free
      ]
  rule_fails (Limit Events most) h rule =
      let both = (limit_decides (is_event line) most (events before)).0 h in
      let few : events before < most = rule both.0 in let many : most ≤ events before = both.1 in omega arith
  rule_fails (Limit Threads most) h rule =
      let both = (limit_decides (is_some (begun_name line)) most (length (threads_of before))).0 h in
      let few : length (threads_of before) < most = rule both.0 in let many : most ≤ length (threads_of before) = both.1 in omega arith
  rule_fails (Limit Locks most) h rule =
      let both = (Decides-and _ _ (passes_decides (taken_name line) _ _ (absent_decides (locks_of before))) (leb_decides most (length (locks_of before)))).0 h in
      let many : most ≤ length (locks_of before) = both.1 in
      if_some_not (taken_name line) _ _ (λ lock below lacks. let few : length (locks_of before) < most = below lacks in omega arith) rule both.0
  rule_fails (Limit Objects most) h rule =
      let both = (limit_decides (is_some (declared_name line)) most (length (objects_of before))).0 h in
      let few : length (objects_of before) < most = rule both.0 in let many : most ≤ length (objects_of before) = both.1 in omega arith
  rule_fails (Limit Depth most) h rule =
      elim ((Decides-or _ _ (most_decides before line (acquired_name line) (λ t l. most + releases before t l) (acquires before)) (most_decides before line (shared_name line) (λ t l. most + unshares before t l) (shares before))).0 h) [
        | inl deep ↦ most_fails before line (acquired_name line) (λ t l. most + releases before t l) (acquires before) rule.0 deep
        | inr deep ↦ most_fails before line (shared_name line) (λ t l. most + unshares before t l) (shares before) rule.1 deep
      ]
  rule_fails (Limit name most) h rule = true≢false (sym h)

module _ (kinds : List Kind) (limits : Limits) (before : List Line) (line : Line) where
  -- the first broken rule is what the tests tell, and where they tell none the line may follow
  pub judged : MatchOption (first_broken kinds limits before line) (MayFollow kinds limits before line) (IsBrokenFirst kinds limits before line)
  unfolding first_broken
  judged = by_skip (is_skip line) refl
    where
      Judged : Option WfCause → Type 0
      Judged r = MatchOption r (MayFollow kinds limits before line) (IsBrokenFirst kinds limits before line)

      by_test : is_skip line ≡ false → (r : Option WfCause) → find (is_broken kinds before line) (causes limits before) ≡ r
          → MatchOption r (MayFollow kinds limits before line) (IsBrokenFirst kinds limits before line)
      by_test counts None e = inr (all_hold (Rule kinds before line) (is_broken kinds before line) (rule_holds kinds before line) (rule_fails kinds before line) (causes limits before) e)
      by_test counts (Some cause) e =
          let first = found (Rule kinds before line) (is_broken kinds before line) (rule_holds kinds before line) (rule_fails kinds before line) (causes limits before) cause e in
          record {
            counted = λ skipped. true≢false (sym (ap is_skip skipped) ∙ counts);
            place = first.place;
            listed = first.listed;
            broken = first.broken;
            others = first.others;
          }

      by_skip : (b : Bool) → is_skip line ≡ b → MatchOption (cond (is_skip line) None (find (is_broken kinds before line) (causes limits before))) (MayFollow kinds limits before line) (IsBrokenFirst kinds limits before line)
      by_skip true skipped = subst (λ b. Judged (cond b None (find (is_broken kinds before line) (causes limits before)))) (sym skipped) (inl (skip_is line skipped))
      by_skip false counts = subst (λ b. Judged (cond b None (find (is_broken kinds before line) (causes limits before)))) (sym counts) (by_test counts _ refl)

  pub follows_apart : MayFollow kinds limits before line → (cause : WfCause) → ¬ (IsBrokenFirst kinds limits before line cause)
  follows_apart follows cause first = elim follows [
    | inl skipped ↦ first.counted skipped
    | inr all ↦ first.broken (each_holds (Rule kinds before line) (is_broken kinds before line) (rule_holds kinds before line) (rule_fails kinds before line) (causes limits before) cause first.place all first.listed)
  ]

  -- what an answer of the test says
  pub follows_from_none : first_broken kinds limits before line ≡ None → MayFollow kinds limits before line
  follows_from_none e = subst (λ r. MatchOption r (MayFollow kinds limits before line) (IsBrokenFirst kinds limits before line)) e judged

  pub broken_from_some : (cause : WfCause) → first_broken kinds limits before line ≡ Some cause → IsBrokenFirst kinds limits before line cause
  broken_from_some cause e = subst (λ r. MatchOption r (MayFollow kinds limits before line) (IsBrokenFirst kinds limits before line)) e judged

  -- a line that isn't skipped and may follow meets each rule
  pub meets : line ≢ Skip → MayFollow kinds limits before line → (place : ℕ) (cause : WfCause) → slice_get (causes limits before) place ≡ Some cause → Rule kinds before line cause
  meets counted follows place cause listed = elim follows [
    | inl skipped ↦ absurd (counted skipped)
    | inr all ↦ each_holds (Rule kinds before line) (is_broken kinds before line) (rule_holds kinds before line) (rule_fails kinds before line) (causes limits before) cause place all listed
  ]

  pub some_from_broken : (cause : WfCause) → IsBrokenFirst kinds limits before line cause → first_broken kinds limits before line ≡ Some cause
  unfolding first_broken
  some_from_broken cause first = by_skip (is_skip line) refl
    where
      by_skip : (b : Bool) → is_skip line ≡ b → cond (is_skip line) None (find (is_broken kinds before line) (causes limits before)) ≡ Some cause
      by_skip true skipped = absurd (first.counted (skip_is line skipped))
      by_skip false counts =
          ap (λ b. cond b None (find (is_broken kinds before line) (causes limits before))) counts
          ∙ found_is (Rule kinds before line) (is_broken kinds before line) (rule_holds kinds before line) (rule_fails kinds before line) (causes limits before) cause first.place first.listed first.broken first.others

-- ---- where the causes stand

-- the causes that are asked before the holders of locks, and those behind them
abbrev early : List WfCause
early = HeaderFirst ∷ LateRoot ∷ NameTaken ∷ UnknownThread ∷ ThreadEnded ∷ OwnThread ∷ UnknownKind ∷ UnknownObject ∷ UnknownMethod ∷ WrongCount ∷ []

abbrev pub late : Limits → List WfCause
late limits =
    NotHeld ∷ Limit Events limits.events ∷ Limit Threads limits.threads ∷ Limit Locks limits.locks ∷ Limit Objects limits.objects ∷ Limit Depth limits.depth ∷ []

got_right : {X : Type 0} (xs ys : List X) (k : ℕ) → slice_get (xs ++ ys) (length xs + k) ≡ slice_get ys k
got_right [] ys k = let none : 0 + k ≡ k = omega arith in ap (slice_get ys) none
got_right (x ∷ xs) ys k =
    let next : length (x ∷ xs) + k ≡ suc (length xs + k) = omega arith in
    ap (slice_get (x ∷ xs ++ ys)) next ∙ got_right xs ys k

got_left : {X : Type 0} (xs ys : List X) (k : ℕ) (x : X) → slice_get xs k ≡ Some x → slice_get (xs ++ ys) k ≡ Some x
got_left [] ys k x at = absurd (none-some x at)
got_left (y ∷ xs) ys zero x at = at
got_left (y ∷ xs) ys (suc k) x at = got_left xs ys k x at

holder_at : (before : List Line) (holder : ℕ) → holder < length (threads_of before) → slice_get (holders before) holder ≡ Some (LockHeld holder)
holder_at before holder below =
    slice_get-get_or (holders before) holder NotHeld (omega (arith, below, length-map-range_with_len LockHeld 0 (length (threads_of before))))
    ∙ ap Some (get_or-map-range_with_len LockHeld 0 (length (threads_of before)) holder holder NotHeld below (omega arith))

-- what a line that isn't skipped and may follow meets, rule by rule
pub record Meets (kinds : List Kind) (limits : Limits) (before : List Line) (line : Line) : Type 0 where
  pub early_root : IsTrue (is_root line) → events before ≡ 0
  pub new_thread : IfSome (begun_name line) (λ name. ¬ (Contains (threads_of before) name))
  pub new_object : IfSome (declared_name line) (λ name. ¬ (Contains (objects_of before) name))
  pub known_actor : IfSome (acting_name line) (Contains (threads_of before))
  pub known_joined : IfSome (joined_name line) (Contains (threads_of before))
  pub running : IfSome (acting_name line) (λ name. ¬ (Contains (joined_of before) name))
  pub other_joined : IfSome (joined_name line) (λ name. acting_name line ≢ Some name)
  pub known_kind : IfSome (kind_name line) (Contains (kind_names kinds))
  pub known_object : IfSome (line_call line) (λ call. Contains (objects_of before) call.object)
  pub known_method : IfSome (line_call line) (λ call. Contains (method_names (methods_of kinds before call.object)) call.method)
  pub right_count : IfSome (line_call line) (λ call. length call.slots ≡ slot_count_of kinds before call)
  pub free : (holder : ℕ) → holder < length (threads_of before) → Rule kinds before line (LockHeld holder)
  pub held : Rule kinds before line NotHeld
  pub few_events : IsTrue (is_event line) → events before < limits.events
  pub few_threads : IsSome (begun_name line) → length (threads_of before) < limits.threads
  pub few_locks : IfSome (taken_name line) (λ lock. ¬ (Contains (locks_of before) lock) → length (locks_of before) < limits.locks)
  pub few_objects : IsSome (declared_name line) → length (objects_of before) < limits.objects
  pub shallow : Rule kinds before line (Limit Depth limits.depth)

pub met : (kinds : List Kind) (limits : Limits) (before : List Line) (line : Line) → line ≢ Skip → MayFollow kinds limits before line → Meets kinds limits before line
met kinds limits before line counted follows =
    let taken : Rule kinds before line NameTaken = meets kinds limits before line counted follows 2 NameTaken refl in
    let known : Rule kinds before line UnknownThread = meets kinds limits before line counted follows 3 UnknownThread refl in
    record {
      early_root = meets kinds limits before line counted follows 1 LateRoot refl;
      new_thread = taken.0;
      new_object = taken.1;
      known_actor = known.0;
      known_joined = known.1;
      running = meets kinds limits before line counted follows 4 ThreadEnded refl;
      other_joined = meets kinds limits before line counted follows 5 OwnThread refl;
      known_kind = meets kinds limits before line counted follows 6 UnknownKind refl;
      known_object = meets kinds limits before line counted follows 7 UnknownObject refl;
      known_method = meets kinds limits before line counted follows 8 UnknownMethod refl;
      right_count = meets kinds limits before line counted follows 9 WrongCount refl;
      free = λ holder below. meets kinds limits before line counted follows (length early + holder) (LockHeld holder)
          (got_right early (holders before ++ late limits) holder ∙ got_left (holders before) (late limits) holder (LockHeld holder) (holder_at before holder below));
      held = behind 0 NotHeld refl;
      few_events = behind 1 (Limit Events limits.events) refl;
      few_threads = behind 2 (Limit Threads limits.threads) refl;
      few_locks = behind 3 (Limit Locks limits.locks) refl;
      few_objects = behind 4 (Limit Objects limits.objects) refl;
      shallow = behind 5 (Limit Depth limits.depth) refl;
    }
  where
    behind : (k : ℕ) (cause : WfCause) → slice_get (late limits) k ≡ Some cause → Rule kinds before line cause
    behind k cause at = meets kinds limits before line counted follows (length (early ++ holders before) + k) cause (got_right (early ++ holders before) (late limits) k ∙ at)

-- ---- what a line that may follow tells of its names

module _ (kinds : List Kind) (limits : Limits) (before : List Line) where
  not_among : (names : List (List ℕ)) (name : List ℕ) → ¬ (Contains names name) → is_among names name ≡ false
  not_among names name lacks = false_from_ne_true _ (λ h. lacks ((among_decides names name).0 h))

  pub fresh_root : (name : List ℕ) → first_broken kinds limits before (Thread name) ≡ None → is_among (threads_of before) name ≡ false
  fresh_root name e = not_among (threads_of before) name (met kinds limits before (Thread name) (λ h. cc) (follows_from_none kinds limits before (Thread name) e)).new_thread

  pub fresh_object : (name kind : List ℕ) → first_broken kinds limits before (Object name kind) ≡ None → is_among (objects_of before) name ≡ false
  fresh_object name kind e = not_among (objects_of before) name (met kinds limits before (Object name kind) (λ h. cc) (follows_from_none kinds limits before (Object name kind) e)).new_object

  pub fresh_child : (thread child : List ℕ) → first_broken kinds limits before (Event (Fork thread child)) ≡ None → is_among (threads_of before) child ≡ false
  fresh_child thread child e = not_among (threads_of before) child (met kinds limits before (Event (Fork thread child)) (λ h. cc) (follows_from_none kinds limits before (Event (Fork thread child)) e)).new_thread

  pub known_child : (thread child : List ℕ) → first_broken kinds limits before (Event (Join thread child)) ≡ None → is_among (threads_of before) child ≡ true
  known_child thread child e = (among_decides (threads_of before) child).1 (met kinds limits before (Event (Join thread child)) (λ h. cc) (follows_from_none kinds limits before (Event (Join thread child)) e)).known_joined

  pub known_thread : (event : LineEvent) → first_broken kinds limits before (Event event) ≡ None → is_among (threads_of before) (actor_name event) ≡ true
  known_thread event e = (among_decides (threads_of before) (actor_name event)).1 (met kinds limits before (Event event) (λ h. cc) (follows_from_none kinds limits before (Event event) e)).known_actor
