-- The lines of a generated trace break no rule but limits.
use Rattle.std.proofs.Common.{◌≡◌, ℕ, zero, suc, ◌<◌, true, false, leb, List, [], ◌∷◌, ◌++◌, Option, Some, None, length, refl, ap, ◌∙◌, eq-eqb, arith}
use Rattle.std.specs.Prelude.{◌==◌, ◌&&◌, ◌||◌, not, codes, cond, slice_get, unwrap_or}
use Rattle.std.proofs.lemmas.Bool.Decides.{nat_tests}
use Rattle.rd_base.specs.declared.limits.Limits.{Limits}
use Rattle.rd_base.specs.declared.values.Value.{Value}
use Rattle.rd_ecl.specs.Kinds.{kind_slots_at, method_names, methods_at}
use Rattle.rd_event.specs.declared.items.Line.{Line}
use Rattle.rd_event.specs.declared.items.Line.TheVariants.{Event}
use Rattle.rd_event.specs.declared.items.LineEvent.TheVariants.{Join, Acquire, Release, Call}
use Rattle.rd_gen.specs.Generated.{arguments_for, dictionary_method, worker_name}
use Rattle.rd_kinds.specs.Shipped.{counter_kind, dictionary_kind, register_kind, set_kind}
use Rattle.rd_gen_laws.proofs.CauseLemmas.{IsFine, fine_causes}
use Rattle.rd_gen_laws.proofs.KnownLemmas.{Knows, acquires_more, and_none, and_true, held_by, kinds, knows_more, nobody, releases_more, threads}
use Rattle.rd_rules.specs.MayFollow.{acquires, first_broken, is_among, is_broken, joined_of, methods_of, object_kinds, passes, place, releases, same_name, shares, threads_of, unshares}

-- ---- names

pub worker_known : (worker : ℕ) → is_among threads (worker_name worker) ≡ true
worker_known zero = refl
worker_known (suc zero) = refl
worker_known (suc (suc zero)) = refl
worker_known (suc (suc (suc worker))) = refl

pub worker_same : (worker : ℕ) → same_name (worker_name worker) (worker_name worker) ≡ true
worker_same zero = refl
worker_same (suc zero) = refl
worker_same (suc (suc zero)) = refl
worker_same (suc (suc (suc worker))) = refl

-- ---- methods

abbrev pub slots_of : ℕ → ℕ
slots_of zero = 3
slots_of (suc zero) = 2
slots_of (suc (suc method)) = 1

pub slots_length : (method key value : ℕ) (result : Value) → length (arguments_for method key value ++ result ∷ []) ≡ slots_of method
slots_length zero key value result = refl
slots_length (suc zero) key value result = refl
slots_length (suc (suc method)) key value result = refl

has_method : (method : ℕ) → not (is_among (method_names (methods_at kinds 3)) (dictionary_method method)) ≡ false
unfolding counter_kind dictionary_kind register_kind set_kind
has_method zero = refl
has_method (suc zero) = refl
has_method (suc (suc method)) = refl

right_count : (method count : ℕ) → count ≡ slots_of method
    → not (count == kind_slots_at (methods_at kinds 3) (place (method_names (methods_at kinds 3)) (dictionary_method method))) ≡ false
unfolding counter_kind dictionary_kind register_kind set_kind
right_count zero count is = ap (λ n. not (n == 3)) is
right_count (suc zero) count is = ap (λ n. not (n == 2)) is
right_count (suc (suc method)) count is = ap (λ n. not (n == 1)) is

module _ (limits : Limits) (before : List Line) (joined : List (List ℕ)) (ahead : List ℕ → ℕ) (k : Knows before joined ahead) where
  pub methods_are : methods_of kinds before (codes "d") ≡ methods_at kinds 3
  methods_are =
      ap (λ os. methods_at kinds (unwrap_or (slice_get (object_kinds kinds before) (place os (codes "d"))) (length kinds))) k.objects_are
      ∙ ap (λ ks. methods_at kinds (unwrap_or (slice_get ks 0) (length kinds))) k.kinds_are

  known : (thread : List ℕ) → is_among threads thread ≡ true → (not (is_among (threads_of before) thread)) ≡ false
  known thread among = ap (λ ts. not (is_among ts thread)) k.threads_are ∙ ap not among

  running : (thread : List ℕ) → is_among joined thread ≡ false → is_among (joined_of before) thread ≡ false
  running thread not_joined = ap (λ js. is_among js thread) k.joined_are ∙ not_joined

  pub call_fine : (thread : List ℕ) (method : ℕ) (slots : List Value) → is_among threads thread ≡ true → is_among joined thread ≡ false → length slots ≡ slots_of method
      → IsFine (first_broken kinds limits before (Event (Call thread (codes "d") (dictionary_method method) slots)))
  unfolding first_broken
  call_fine thread method slots among not_joined count =
      fine_causes (is_broken kinds before (Event (Call thread (codes "d") (dictionary_method method) slots))) limits before
      (ap (λ n. n == 0) k.headers_are) refl refl (ap (λ b. b || false) (known thread among)) (running thread not_joined) refl refl
      (ap (λ os. not (is_among os (codes "d"))) k.objects_are)
      (ap (λ ms. not (is_among (method_names ms) (dictionary_method method))) methods_are ∙ has_method method)
      (ap (λ ms. not (length slots == kind_slots_at ms (place (method_names ms) (dictionary_method method)))) methods_are ∙ right_count method (length slots) count)
      (λ holder. refl) refl

  pub join_fine : (child : List ℕ) → is_among threads child ≡ true → is_among joined (codes "main") ≡ false → same_name child (codes "main") ≡ false
      → IsFine (first_broken kinds limits before (Event (Join (codes "main") child)))
  unfolding first_broken
  join_fine child among not_joined other =
      fine_causes (is_broken kinds before (Event (Join (codes "main") child))) limits before
      (ap (λ n. n == 0) k.headers_are) refl refl
      (ap (λ b. b || not (is_among (threads_of before) child)) (known (codes "main") refl) ∙ known child among)
      (running (codes "main") not_joined) other refl refl refl refl (λ holder. refl) refl

  pub release_fine : (thread : List ℕ) → is_among threads thread ≡ true → is_among joined thread ≡ false → ahead thread ≡ 1
      → IsFine (first_broken kinds limits before (Event (Release thread (codes "l"))))
  unfolding first_broken
  release_fine thread among not_joined one =
      fine_causes (is_broken kinds before (Event (Release thread (codes "l")))) limits before
      (ap (λ n. n == 0) k.headers_are) refl refl (ap (λ b. b || false) (known thread among)) (running thread not_joined) refl refl refl refl refl (λ holder. refl)
      (let is = k.lock_is thread in
      let more : releases before thread (codes "l") < acquires before thread (codes "l") = omega (arith, is, one) in
      let held : leb (acquires before thread (codes "l")) (releases before thread (codes "l")) ≡ false = grind (arith, nat_tests) in
      ap (λ b. b || false) held)

  pub acquire_fine : (thread : List ℕ) → is_among threads thread ≡ true → is_among joined thread ≡ false → ((other : List ℕ) → ahead other ≡ 0)
      → IsFine (first_broken kinds limits before (Event (Acquire thread (codes "l"))))
  unfolding first_broken
  acquire_fine thread among not_joined free =
      fine_causes (is_broken kinds before (Event (Acquire thread (codes "l")))) limits before
      (ap (λ n. n == 0) k.headers_are) refl refl (ap (λ b. b || false) (known thread among)) (running thread not_joined) refl refl refl refl refl
      (λ holder.
      ap (λ b. b || passes (slice_get (threads_of before) holder)
      (λ other. not (same_name other thread) && not (shares before other (codes "l") == unshares before other (codes "l"))))
      (none_against (slice_get (threads_of before) holder) (λ t. acquires before t (codes "l")) (λ t. releases before t (codes "l")) (λ t. omega (arith, k.lock_is t, free t)))
      ∙ none_against (slice_get (threads_of before) holder) (λ t. shares before t (codes "l")) (λ t. unshares before t (codes "l")) k.unshared) refl
    where
      none_against : (found : Option (List ℕ)) (took gave : List ℕ → ℕ) → ((other : List ℕ) → took other ≡ gave other)
          → passes found (λ other. not (same_name other thread) && not (took other == gave other)) ≡ false
      none_against None took gave even = refl
      none_against (Some other) took gave even = ap (λ b. not (same_name other thread) && not b) (eq-eqb _ _ (even other)) ∙ and_none (not (same_name other thread))

  -- ---- and what is known behind them

  pub call_knows : (thread method : List ℕ) (slots : List Value) → Knows (before ++ Event (Call thread (codes "d") method slots) ∷ []) (joined ++ []) ahead
  call_knows thread method slots =
      let line = Event (Call thread (codes "d") method slots) in
      knows_more before joined [] ahead ahead line k refl refl refl refl refl refl refl
      (λ t. let none = ap {B = ℕ} (λ b. cond b 1 0) (and_none (same_name t thread)) in
      omega (arith, acquires_more before line t (codes "l"), releases_more before line t (codes "l"), k.lock_is t, none))

  pub join_knows : (child : List ℕ) → Knows (before ++ Event (Join (codes "main") child) ∷ []) (joined ++ child ∷ []) ahead
  join_knows child =
      let line = Event (Join (codes "main") child) in
      knows_more before joined (child ∷ []) ahead ahead line k refl refl refl refl refl refl refl
      (λ t. let none = ap {B = ℕ} (λ b. cond b 1 0) (and_none (same_name t (codes "main"))) in
      omega (arith, acquires_more before line t (codes "l"), releases_more before line t (codes "l"), k.lock_is t, none))

  pub acquire_knows : (thread : List ℕ) → ((other : List ℕ) → ahead other ≡ 0) → Knows (before ++ Event (Acquire thread (codes "l")) ∷ []) (joined ++ []) (held_by thread)
  acquire_knows thread free =
      let line = Event (Acquire thread (codes "l")) in
      knows_more before joined [] ahead (held_by thread) line k refl refl refl refl refl refl refl
      (λ t. let none = ap {B = ℕ} (λ b. cond b 1 0) (and_none (same_name t thread)) in
      let one = ap {B = ℕ} (λ b. cond b 1 0) (and_true (same_name t thread)) in
      omega (arith, acquires_more before line t (codes "l"), releases_more before line t (codes "l"), k.lock_is t, free t, none, one))

  pub release_knows : (thread : List ℕ) → ((other : List ℕ) → ahead other ≡ held_by thread other) → Knows (before ++ Event (Release thread (codes "l")) ∷ []) (joined ++ []) nobody
  release_knows thread held =
      let line = Event (Release thread (codes "l")) in
      knows_more before joined [] ahead nobody line k refl refl refl refl refl refl refl
      (λ t. let none = ap {B = ℕ} (λ b. cond b 1 0) (and_none (same_name t thread)) in
      let one = ap {B = ℕ} (λ b. cond b 1 0) (and_true (same_name t thread)) in
      omega (arith, acquires_more before line t (codes "l"), releases_more before line t (codes "l"), k.lock_is t, held t, none, one))
