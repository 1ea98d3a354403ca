-- How often the threads of accepted lines take and give back each lock.
use Rattle.std.proofs.Common.{◌≡◌, ◌≢◌, inl, inr, ℕ, ◌+◌, ◌<◌, ◌≤◌, ◌==◌, ◌&&◌, Bool, true, false, cond, List, [], ◌∷◌, ◌++◌, length, Option, Some, None, Contains, slice_get, refl, sym, ap, subst, ◌∙◌, arith}
use Rattle.std.specs.Cmp.Lexicographic.{bytes_decides}
use Rattle.std.proofs.lemmas.Bool.{cases_Bool, ne_eqb, false_from_ne_true}
use Rattle.std.proofs.lemmas.List.{length-append}
use Rattle.std.proofs.lemmas.List.Elements.{Contains-append_left}
use Rattle.std.proofs.lemmas.List.Sums.{sum_by_push}
use Rattle.std.proofs.lemmas.Option.{none-some, same_Some, slice_get_cases}
use Rattle.rd_event.specs.declared.events.Event.{Event as Numbered}
use Rattle.rd_event.specs.declared.events.Event.TheVariants as numbered
use Rattle.rd_order.proofs.HoldLemmas.{giving_cases, taking_cases}
use Rattle.rd_order.specs.EventLists.{givings, is_hold, takings}
use Rattle.rd_order.proofs.EventListLemmas.{exclusive_not_shared}
use Rattle.rd_order.specs.Order.{Hold, exclusive, hold_given, hold_taken, shared, thread_of}
use Rattle.rd_rules.proofs.FollowLemmas.{among_decides}
use Rattle.rd_rules.proofs.PlaceLemmas.{OnePlace, got_push, one_place_more, place_below, place_test, not_known, place_named, place_new, with_lock_has, with_lock_known, with_lock_new, with_lock_place}
use Rattle.rd_rules.specs.Events.{AreHeld, AreUsed, Tally}
use Rattle.rd_rules.specs.MayFollow.{is_among, place, same_name, with_lock}

-- ---- one count

-- 1 where it is so
abbrev pub once : Bool → ℕ
once b = cond b 1 0

-- 1 where both names are these
abbrev pub one_for : List ℕ → List ℕ → List ℕ → List ℕ → ℕ
one_for thread lock t l = once (same_name t thread && same_name l lock)

pub none_and : (a b : Bool) → b ≡ false → once (a && b) ≡ 0
none_and true b none = ap once none
none_and false b none = refl

-- another name isn't this one
apart_name : (names : List (List ℕ)) (name other : List ℕ) → Contains names name → ¬ (Contains names other) → same_name other name ≡ false
apart_name names name other there lacks = false_from_ne_true _ (λ same. lacks (subst (Contains names) (sym ((bytes_decides other name).0 same)) there))

module _ (count : ℕ → ℕ → ℕ) (threads locks : List (List ℕ)) (says : List ℕ → List ℕ → ℕ) (tally : Tally count threads locks says) where
  tally_thread : (name : List ℕ) → ¬ (Contains threads name) → Tally count (threads ++ name ∷ []) locks says
  tally_thread name fresh = record {
    named = λ t l thread lock at lock_at. elim (got_push threads name t thread at) [
      | inl before ↦ tally.named t l thread lock before lock_at
      | inr last ↦
          let past : length threads ≤ t = omega (arith, last.0) in
          tally.no_thread t l past ∙ sym (ap (λ n. says n lock) last.1 ∙ tally.new_thread name lock fresh)
    ];
    no_thread = λ t l past. tally.no_thread t l (omega (arith, past, length-append threads (name ∷ [])));
    no_lock = tally.no_lock;
    new_thread = λ thread lock lacks. tally.new_thread thread lock (λ there. lacks (Contains-append_left threads (name ∷ []) thread there));
    new_lock = tally.new_lock;
  }

  tally_lock : (name : List ℕ) → ¬ (Contains locks name) → Tally count threads (locks ++ name ∷ []) says
  tally_lock name fresh = record {
    named = λ t l thread lock at lock_at. elim (got_push locks name l lock lock_at) [
      | inl before ↦ tally.named t l thread lock at before
      | inr last ↦
          let past : length locks ≤ l = omega (arith, last.0) in
          tally.no_lock t l past ∙ sym (ap (says thread) last.1 ∙ tally.new_lock thread name fresh)
    ];
    no_thread = tally.no_thread;
    no_lock = λ t l past. tally.no_lock t l (omega (arith, past, length-append locks (name ∷ [])));
    new_thread = tally.new_thread;
    new_lock = λ thread lock lacks. tally.new_lock thread lock (λ there. lacks (Contains-append_left locks (name ∷ []) lock there));
  }

  tally_same : (after : ℕ → ℕ → ℕ) → ((t l : ℕ) → after t l ≡ count t l) → Tally after threads locks says
  tally_same after same = subst (λ c. Tally c threads locks says) (λ i t l. sym (same t l) i) tally

  -- one more for a thread and a lock that are among them
  tally_more : (after : ℕ → ℕ → ℕ) (thread lock : List ℕ) → OnePlace threads → OnePlace locks → Contains threads thread → Contains locks lock
      → ((t l : ℕ) → after t l ≡ count t l + cond ((place threads thread == t) && (place locks lock == l)) 1 0)
      → Tally after threads locks (λ t l. says t l + one_for thread lock t l)
  tally_more after thread lock places lock_places there lock_there more = record {
    named = λ t l other other_lock at lock_at.
        more t l ∙ (λ i. tally.named t l other other_lock at lock_at i
        + cond (place_test threads thread other t places there at i && place_test locks lock other_lock l lock_places lock_there lock_at i) 1 0);
    no_thread = λ t l past.
        let below : place threads thread < length threads = place_below threads thread there in
        let none : once ((place threads thread == t) && (place locks lock == l)) ≡ 0 =
        ap (λ b. once (b && (place locks lock == l))) (ne_eqb (place threads thread) t (omega arith)) in
        omega (arith, more t l, tally.no_thread t l past);
    no_lock = λ t l past.
        let below : place locks lock < length locks = place_below locks lock lock_there in
        let none : once ((place threads thread == t) && (place locks lock == l)) ≡ 0 =
        none_and (place threads thread == t) (place locks lock == l) (ne_eqb (place locks lock) l (omega arith)) in
        omega (arith, more t l, tally.no_lock t l past);
    new_thread = λ t l lacks.
        let none : one_for thread lock t l ≡ 0 = ap (λ b. once (b && same_name l lock)) (apart_name threads thread t there lacks) in
        omega (arith, tally.new_thread t l lacks);
    new_lock = λ t l lacks.
        let none : one_for thread lock t l ≡ 0 = none_and (same_name t thread) (same_name l lock) (apart_name locks lock l lock_there lacks) in
        omega (arith, tally.new_lock t l lacks);
  }

-- ---- one event more

takings_kept : (es : List Numbered) (e : Numbered) (t : ℕ) (h : Hold) → ¬ (hold_taken e ≡ Some h) → takings (es ++ e ∷ []) t h ≡ takings es t h
takings_kept es e t h other = elim (taking_cases es e t h) [ inl x ↦ absurd (other x.1) | inr same ↦ same ]

givings_kept : (es : List Numbered) (e : Numbered) (t : ℕ) (h : Hold) → ¬ (hold_given e ≡ Some h) → givings (es ++ e ∷ []) t h ≡ givings es t h
givings_kept es e t h other = elim (giving_cases es e t h) [ inl x ↦ absurd (other x.1) | inr same ↦ same ]

takings_acquire : (es : List Numbered) (thread lock t l : ℕ) → takings (es ++ numbered.Acquire thread lock ∷ []) t (exclusive l) ≡ takings es t (exclusive l) + cond ((thread == t) && (lock == l)) 1 0
unfolding takings
takings_acquire es thread lock t l = sum_by_push (λ e. cond ((thread_of e == t) && is_hold (hold_taken e) (exclusive l)) 1 0) es (numbered.Acquire thread lock)

givings_release : (es : List Numbered) (thread lock t l : ℕ) → givings (es ++ numbered.Release thread lock ∷ []) t (exclusive l) ≡ givings es t (exclusive l) + cond ((thread == t) && (lock == l)) 1 0
unfolding givings
givings_release es thread lock t l = sum_by_push (λ e. cond ((thread_of e == t) && is_hold (hold_given e) (exclusive l)) 1 0) es (numbered.Release thread lock)

takings_share : (es : List Numbered) (thread lock t l : ℕ) → takings (es ++ numbered.Share thread lock ∷ []) t (shared l) ≡ takings es t (shared l) + cond ((thread == t) && (lock == l)) 1 0
unfolding takings
takings_share es thread lock t l = sum_by_push (λ e. cond ((thread_of e == t) && is_hold (hold_taken e) (shared l)) 1 0) es (numbered.Share thread lock)

givings_unshare : (es : List Numbered) (thread lock t l : ℕ) → givings (es ++ numbered.Unshare thread lock ∷ []) t (shared l) ≡ givings es t (shared l) + cond ((thread == t) && (lock == l)) 1 0
unfolding givings
givings_unshare es thread lock t l = sum_by_push (λ e. cond ((thread_of e == t) && is_hold (hold_given e) (shared l)) 1 0) es (numbered.Unshare thread lock)

-- a hold of one sort isn't one of the other
exclusive_apart : (lock other : ℕ) → ¬ (Some (exclusive lock) ≡ Some (shared other))
exclusive_apart lock other same = exclusive_not_shared lock other (same_Some (exclusive lock) (shared other) same)

shared_apart : (lock other : ℕ) → ¬ (Some (shared lock) ≡ Some (exclusive other))
shared_apart lock other same = exclusive_apart other lock (sym same)

none_apart : (hold : ℕ → Hold) (o : Option Hold) → o ≡ None → (l : ℕ) → ¬ (o ≡ Some (hold l))
none_apart hold o none l some = none-some (hold l) (sym none ∙ some)

-- the holds of one sort
module _ (hold : ℕ → Hold) (es : List Numbered) (threads locks : List (List ℕ)) (took gave : List ℕ → List ℕ → ℕ) (held : AreHeld hold es threads locks took gave) where
  abbrev taken_in : List Numbered → ℕ → ℕ → ℕ
  taken_in es t l = takings es t (hold l)

  abbrev given_in : List Numbered → ℕ → ℕ → ℕ
  given_in es t l = givings es t (hold l)

  -- an event that takes no such hold and gives none back
  held_still : (e : Numbered) → ((l : ℕ) → ¬ (hold_taken e ≡ Some (hold l))) → ((l : ℕ) → ¬ (hold_given e ≡ Some (hold l))) → AreHeld hold (es ++ e ∷ []) threads locks took gave
  held_still e takes gives = record {
    taken = tally_same (taken_in es) threads locks took held.taken (taken_in (es ++ e ∷ [])) (λ t l. takings_kept es e t (hold l) (takes l));
    given = tally_same (given_in es) threads locks gave held.given (given_in (es ++ e ∷ [])) (λ t l. givings_kept es e t (hold l) (gives l));
  }

  -- a thread more
  held_thread : (name : List ℕ) → ¬ (Contains threads name) → AreHeld hold es (threads ++ name ∷ []) locks took gave
  held_thread name fresh = record {
    taken = tally_thread (taken_in es) threads locks took held.taken name fresh;
    given = tally_thread (given_in es) threads locks gave held.given name fresh;
  }

  -- a lock more
  held_lock : (name : List ℕ) → ¬ (Contains locks name) → AreHeld hold es threads (locks ++ name ∷ []) took gave
  held_lock name fresh = record {
    taken = tally_lock (taken_in es) threads locks took held.taken name fresh;
    given = tally_lock (given_in es) threads locks gave held.given name fresh;
  }

  module _ (e : Numbered) (thread lock : List ℕ) (places : OnePlace threads) (lock_places : OnePlace locks) (there : Contains threads thread) (lock_there : Contains locks lock) where
    -- the thread takes the lock in this way once more
    held_taken : ((t l : ℕ) → takings (es ++ e ∷ []) t (hold l) ≡ takings es t (hold l) + cond ((place threads thread == t) && (place locks lock == l)) 1 0)
        → hold_given e ≡ None → AreHeld hold (es ++ e ∷ []) threads locks (λ t l. took t l + one_for thread lock t l) gave
    held_taken more none = record {
      taken = tally_more (taken_in es) threads locks took held.taken (taken_in (es ++ e ∷ [])) thread lock places lock_places there lock_there more;
      given = tally_same (given_in es) threads locks gave held.given (given_in (es ++ e ∷ [])) (λ t l. givings_kept es e t (hold l) (none_apart hold (hold_given e) none l));
    }

    -- or gives it back once more
    held_given : ((t l : ℕ) → givings (es ++ e ∷ []) t (hold l) ≡ givings es t (hold l) + cond ((place threads thread == t) && (place locks lock == l)) 1 0)
        → hold_taken e ≡ None → AreHeld hold (es ++ e ∷ []) threads locks took (λ t l. gave t l + one_for thread lock t l)
    held_given more none = record {
      taken = tally_same (taken_in es) threads locks took held.taken (taken_in (es ++ e ∷ [])) (λ t l. takings_kept es e t (hold l) (none_apart hold (hold_taken e) none l));
      given = tally_more (given_in es) threads locks gave held.given (given_in (es ++ e ∷ [])) thread lock places lock_places there lock_there more;
    }

  -- where each other thread gave the lock back as often as it took it, by their names, so it is by numbers
  pub held_free : (thread lock : List ℕ) → OnePlace threads → ((u : ℕ) (other : List ℕ) → slice_get threads u ≡ Some other → other ≢ thread → took other lock ≡ gave other lock)
      → (u : ℕ) → u ≢ place threads thread → takings es u (hold (place locks lock)) ≡ givings es u (hold (place locks lock))
  held_free thread lock places free u apart = elim (cases_Bool (is_among locks lock)) [
    | inl known ↦ elim ((slice_get_cases threads u).1) [
      | inl at ↦
          let lock_at = place_named locks lock ((among_decides locks lock).0 known) in
          held.taken.named u (place locks lock) at.0 lock at.2 lock_at
          ∙ free u at.0 at.2 (λ same. apart (sym (ap (place threads) (sym same) ∙ places u at.0 at.2)))
          ∙ sym (held.given.named u (place locks lock) at.0 lock at.2 lock_at)
      | inr past ↦ held.taken.no_thread u (place locks lock) past.0 ∙ sym (held.given.no_thread u (place locks lock) past.0)
    ]
    | inr fresh ↦
        let last : place locks lock ≡ length locks = place_new locks lock (not_known locks lock fresh) in
        held.taken.no_lock u (place locks lock) (omega arith) ∙ sym (held.given.no_lock u (place locks lock) (omega arith))
  ]

  -- a thread that took the lock more often than it gave it back, by its name, did so by numbers
  pub held_more : (thread lock : List ℕ) → Contains threads thread → gave thread lock < took thread lock
      → Contains locks lock × (givings es (place threads thread) (hold (place locks lock)) < takings es (place threads thread) (hold (place locks lock)))
  held_more thread lock there has = elim (cases_Bool (is_among locks lock)) [
    | inl known ↦
        let lock_there : Contains locks lock = (among_decides locks lock).0 known in
        let at = place_named threads thread there in
        let lock_at = place_named locks lock lock_there in (
          lock_there,
          omega (arith, has, held.taken.named (place threads thread) (place locks lock) thread lock at lock_at, held.given.named (place threads thread) (place locks lock) thread lock at lock_at),
        )
    | inr fresh ↦ absurd (omega (arith, has, held.taken.new_lock thread lock (not_known locks lock fresh)))
  ]

-- the holds of both sorts
module _ (es : List Numbered) (threads locks : List (List ℕ)) (took gave sharing unsharing : List ℕ → List ℕ → ℕ) (used : AreUsed es threads locks took gave sharing unsharing) where
  -- an event that takes no lock and gives none back
  pub used_still : (e : Numbered) → hold_taken e ≡ None → hold_given e ≡ None → AreUsed (es ++ e ∷ []) threads locks took gave sharing unsharing
  used_still e takes gives = record {
    alone = held_still exclusive es threads locks took gave used.alone e (none_apart exclusive (hold_taken e) takes) (none_apart exclusive (hold_given e) gives);
    shares = held_still shared es threads locks sharing unsharing used.shares e (none_apart shared (hold_taken e) takes) (none_apart shared (hold_given e) gives);
    places = used.places;
  }

  -- a thread more
  pub used_thread : (name : List ℕ) → ¬ (Contains threads name) → AreUsed es (threads ++ name ∷ []) locks took gave sharing unsharing
  used_thread name fresh = record {
    alone = held_thread exclusive es threads locks took gave used.alone name fresh;
    shares = held_thread shared es threads locks sharing unsharing used.shares name fresh;
    places = used.places;
  }

  -- a lock more, where it isn't among them
  used_lock : (name : List ℕ) → AreUsed es threads (with_lock locks (Some name)) took gave sharing unsharing
  used_lock name = elim (cases_Bool (is_among locks name)) [
    | inl known ↦ subst (λ names. AreUsed es threads names took gave sharing unsharing) (sym (with_lock_known locks name known)) used
    | inr fresh ↦ subst (λ names. AreUsed es threads names took gave sharing unsharing) (sym (with_lock_new locks name fresh)) (by (not_known locks name fresh))
  ]
    where
      by : ¬ (Contains locks name) → AreUsed es threads (locks ++ name ∷ []) took gave sharing unsharing
      by fresh = record {
        alone = held_lock exclusive es threads locks took gave used.alone name fresh;
        shares = held_lock shared es threads locks sharing unsharing used.shares name fresh;
        places = one_place_more locks name used.places fresh;
      }

  module _ (thread lock : List ℕ) (places : OnePlace threads) (there : Contains threads thread) (lock_there : Contains locks lock) where
    -- the thread gives back a lock that was taken, or a share of it
    pub used_release : AreUsed (es ++ numbered.Release (place threads thread) (place locks lock) ∷ []) threads locks took (λ t l. gave t l + one_for thread lock t l) sharing unsharing
    used_release =
        let event : Numbered = numbered.Release (place threads thread) (place locks lock) in record {
          alone = held_given exclusive es threads locks took gave used.alone event thread lock places used.places there lock_there (givings_release es (place threads thread) (place locks lock)) refl;
          shares = held_still shared es threads locks sharing unsharing used.shares event (none_apart shared (hold_taken event) refl) (exclusive_apart (place locks lock));
          places = used.places;
        }

    pub used_unshare : AreUsed (es ++ numbered.Unshare (place threads thread) (place locks lock) ∷ []) threads locks took gave sharing (λ t l. unsharing t l + one_for thread lock t l)
    used_unshare =
        let event : Numbered = numbered.Unshare (place threads thread) (place locks lock) in record {
          alone = held_still exclusive es threads locks took gave used.alone event (none_apart exclusive (hold_taken event) refl) (shared_apart (place locks lock));
          shares = held_given shared es threads locks sharing unsharing used.shares event thread lock places used.places there lock_there (givings_unshare es (place threads thread) (place locks lock)) refl;
          places = used.places;
        }

    -- or takes it, or a share of it
    acquired_again : AreUsed (es ++ numbered.Acquire (place threads thread) (place locks lock) ∷ []) threads locks (λ t l. took t l + one_for thread lock t l) gave sharing unsharing
    acquired_again =
        let event : Numbered = numbered.Acquire (place threads thread) (place locks lock) in record {
          alone = held_taken exclusive es threads locks took gave used.alone event thread lock places used.places there lock_there (takings_acquire es (place threads thread) (place locks lock)) refl;
          shares = held_still shared es threads locks sharing unsharing used.shares event (exclusive_apart (place locks lock)) (none_apart shared (hold_given event) refl);
          places = used.places;
        }

    shared_again : AreUsed (es ++ numbered.Share (place threads thread) (place locks lock) ∷ []) threads locks took gave (λ t l. sharing t l + one_for thread lock t l) unsharing
    shared_again =
        let event : Numbered = numbered.Share (place threads thread) (place locks lock) in record {
          alone = held_still exclusive es threads locks took gave used.alone event (shared_apart (place locks lock)) (none_apart exclusive (hold_given event) refl);
          shares = held_taken shared es threads locks sharing unsharing used.shares event thread lock places used.places there lock_there (takings_share es (place threads thread) (place locks lock)) refl;
          places = used.places;
        }

-- the thread takes a lock, or a share of it
module _ (es : List Numbered) (threads locks : List (List ℕ)) (took gave sharing unsharing : List ℕ → List ℕ → ℕ) (thread lock : List ℕ) (used : AreUsed es threads locks took gave sharing unsharing)
    (places : OnePlace threads) (there : Contains threads thread) where
  pub used_acquire : AreUsed (es ++ numbered.Acquire (place threads thread) (place locks lock) ∷ []) threads (with_lock locks (Some lock)) (λ t l. took t l + one_for thread lock t l) gave sharing unsharing
  used_acquire =
      subst (λ l. AreUsed (es ++ numbered.Acquire (place threads thread) l ∷ []) threads (with_lock locks (Some lock)) (λ t l. took t l + one_for thread lock t l) gave sharing unsharing)
      (with_lock_place locks lock)
      (acquired_again es threads (with_lock locks (Some lock)) took gave sharing unsharing (used_lock es threads locks took gave sharing unsharing used lock) thread lock places there (with_lock_has locks lock))

  pub used_share : AreUsed (es ++ numbered.Share (place threads thread) (place locks lock) ∷ []) threads (with_lock locks (Some lock)) took gave (λ t l. sharing t l + one_for thread lock t l) unsharing
  used_share =
      subst (λ l. AreUsed (es ++ numbered.Share (place threads thread) l ∷ []) threads (with_lock locks (Some lock)) took gave (λ t l. sharing t l + one_for thread lock t l) unsharing)
      (with_lock_place locks lock)
      (shared_again es threads (with_lock locks (Some lock)) took gave sharing unsharing (used_lock es threads locks took gave sharing unsharing used lock) thread lock places there (with_lock_has locks lock))
