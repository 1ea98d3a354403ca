-- What a roster holds after one line more, and what its public call says.
use Rattle.std.proofs.Common.{◌≡◌, inl, inr, ℕ, suc, ◌+◌, ◌-◌, ◌<◌, ◌≤◌, Bool, true, false, not, cond, ◌==◌, ◌||◌, ◌&&◌, List, [], ◌∷◌, ◌++◌, map, Option, Some, None, Result, Ok, Err, IfOk, IfErr, OnOk, OnErr, Contains, filter_map, length, unwrap_or, refl, sym, ap, subst, ◌∙◌, arith, add-zero, true≢false}
use Rattle.std.specs.List.{IsDistinct, AllByRecursion, cons_option}
use Rattle.std.specs.Map.{lookup, keys_of}
use Rattle.std.specs.Cmp.Lexicographic.{bytes_decides, nat_list_eq_equiv}
use Rattle.std.proofs.lemmas.Bool.{cases_Bool, cases_eq}
use Rattle.std.proofs.lemmas.Bool.Decides.{Decides-and, Decides-eqb}
use Rattle.std.proofs.lemmas.Map.Keys.{IsDistinct-head, IsDistinct-tail, IsDistinct-push}
use Rattle.std.proofs.lemmas.List.{length-map, length-append, map-append, append-nil}
use Rattle.std.proofs.lemmas.List.Sums.{sum_by_push}
use Rattle.std.proofs.lemmas.List.Elements.{filter_map-append, Contains-append_left, Contains-push_cases}
use Rattle.std.proofs.lemmas.List.Folds.{list_any-append}
use Rattle.std.proofs.lemmas.Option.{none-some, same_Some}
use Rattle.indexmap.specs.IndexMap.{insert_entry}
use Rattle.indexmap.specs.Layout.{set_value_at}
use Rattle.indexmap.proofs.CallerLemmas.{keys-with_value_at}
use Rattle.rd_base.specs.declared.limits.Limits.{Limits}
use Rattle.rd_base.specs.declared.values.Value.{Value}
use Rattle.rd_event.specs.declared.items.Line.{Line}
use Rattle.rd_event.specs.declared.items.Line.TheVariants.{Skip, Header, Thread, Object, Event}
use Rattle.rd_event.specs.declared.items.LineEvent.TheVariants.{Fork, Join, Acquire, Release, Share, Unshare, Call}
use Rattle.rd_ecl.specs.Kinds.{Kind, kind_names}
use Rattle.rd_rules.specs.declared.causes.WfCause.{WfCause}
use Rattle.rd_rules.specs.declared.causes.WfRefused.{WfRefused}
use Rattle.rd_rules.specs.declared.causes.WfRefused.TheVariants.{Cause, NoMemory}
use Rattle.rd_rules.specs.declared.causes.Accepted.{Accepted}
use Rattle.rd_tables.specs.declared.locks.Lock.{Lock}
use Rattle.rd_wf.specs.declared.roster.Roster.{Roster}
use Rattle.rd_rules.specs.MayFollow.{begun_name, acting_name, joined_name, acquired_name, released_name, shared_name, unshared_name, taken_name, is_event, passes, threads_of, joined_of, with_lock, locks_of, is_acquire_of, is_release_of, acquires, releases, shares, unshares, header_of, same_name, is_among, place, first_broken, MayFollow, IsBrokenFirst, TakesMemory}
use Rattle.rd_tables.specs.Shares.{share_depth}
use Rattle.rd_tables.specs.Tables.{kind_entry, free_lock, depth_of}
use Rattle.rd_wf.specs.Roster.{RosterStandsFor, kinds_in, thread_entry, object_entry, lock_in, thread_count, lock_count, Accepts, Refuses}
use Rattle.rd_rules.proofs.FollowLemmas.{among_decides, follows_from_none, broken_from_some}
use Rattle.rd_tables.proofs.NameLemmas.{place_known, place_below, same_place}
use Rattle.rd_wf.proofs.LockLemmas.{and-true, and-false, found_written, found_pushed, depth_stays, deeper, shallower, added, both_stay, with_lock_more, locks_push, acquires_push, releases_push, shares_push, unshares_push}
use Rattle.rd_rules.proofs.PlaceLemmas.{with_lock_has, with_lock_place}
use Rattle.rd_tables.proofs.LookupLemmas.{known_in, none_is}
use Rattle.rd_wf.proofs.RosterLemmas.{or-false, or-true, keys-objects, not_joined, inserted_lock}

-- ---- threads and whether each is joined

-- each name with a flag
abbrev flagged : (List ℕ → Bool) → List (List ℕ) → List (List ℕ × Bool)
flagged flag names = map {B = List ℕ × Bool} (λ n. (n, flag n)) names

-- of distinct names, a write at the place of one marks that one alone
module _ (flag : List ℕ → Bool) (child : List ℕ) where
  unmarked_flag : (name : List ℕ) → same_name child name ≡ false → flag name ≡ (flag name || (same_name name child || false))
  unmarked_flag name other = sym (or-false (flag name)) ∙ ap (λ b. flag name || (b || false)) (sym (nat_list_eq_equiv.symm name child ∙ other))

  marked_flag : (name : List ℕ) → same_name child name ≡ true → true ≡ (flag name || (same_name name child || false))
  marked_flag name same = or-true (flag name) ∙ ap (λ b. flag name || (b || false)) (sym (nat_list_eq_equiv.symm name child ∙ same))

  unmarked : (names : List (List ℕ)) → AllByRecursion (λ n. same_name child n ≡ false) names
      → flagged flag names ≡ flagged (λ n. flag n || (same_name n child || false)) names
  unmarked [] h = refl
  unmarked (x ∷ xs) h = λ i. (x, unmarked_flag x h.0 i) ∷ unmarked xs h.1 i

  marked : (names : List (List ℕ)) → IsDistinct same_name names → is_among names child ≡ true
      → set_value_at (flagged flag names) (place names child) true ≡ flagged (λ n. flag n || (same_name n child || false)) names
  marked [] apart there = absurd (true≢false (sym there))
  marked (x ∷ xs) apart there = by (same_name child x) refl (marked xs (IsDistinct-tail same_name x xs apart))
    where
      Flagged : ℕ → Type 0
      Flagged n = set_value_at ((x, flag x) ∷ flagged flag xs) n true ≡ (x, flag x || (same_name x child || false)) ∷ flagged (λ n. flag n || (same_name n child || false)) xs

      by : (b : Bool) → same_name child x ≡ b → (is_among xs child ≡ true → set_value_at (flagged flag xs) (place xs child) true ≡ flagged (λ n. flag n || (same_name n child || false)) xs)
          → set_value_at ((x, flag x) ∷ flagged flag xs) (cond (not (same_name child x)) (1 + place xs child) 0) true
          ≡ (x, flag x || (same_name x child || false)) ∷ flagged (λ n. flag n || (same_name n child || false)) xs
      by true same rest =
          let others : AllByRecursion (λ n. same_name child n ≡ false) xs =
          subst (λ name. AllByRecursion (λ n. same_name name n ≡ false) xs) (sym ((bytes_decides child x).0 same)) (IsDistinct-head same_name x xs apart) in
          subst (λ b. Flagged (cond (not b) (1 + place xs child) 0)) (sym same) (λ i. (x, marked_flag x same i) ∷ unmarked xs others i)
      by false other rest =
          let later : is_among xs child ≡ true = sym (ap (λ b. b || is_among xs child) other) ∙ there in
          let next : 1 + place xs child ≡ suc (place xs child) = omega arith in
          subst (λ b. Flagged (cond (not b) (1 + place xs child) 0)) (sym other)
          (subst Flagged (sym next) (λ i. (x, unmarked_flag x other i) ∷ rest later i))

-- ---- headers

header_kept : (lines : List Line) (line : Line) → header_of (line ∷ []) ≡ None → header_of (lines ++ line ∷ []) ≡ header_of lines
header_kept [] line none = none
header_kept (Header version ∷ lines) line none = refl
header_kept (Skip ∷ lines) line none = header_kept lines line none
header_kept (Thread name ∷ lines) line none = header_kept lines line none
header_kept (Object name kind ∷ lines) line none = header_kept lines line none
header_kept (Event event ∷ lines) line none = header_kept lines line none

header_added : (lines : List Line) (version : ℕ) → header_of lines ≡ None → header_of (lines ++ Header version ∷ []) ≡ Some version
header_added [] version none = refl
header_added (Header other ∷ lines) version none = absurd (none-some other (sym none))
header_added (Skip ∷ lines) version none = header_added lines version none
header_added (Thread name ∷ lines) version none = header_added lines version none
header_added (Object name kind ∷ lines) version none = header_added lines version none
header_added (Event event ∷ lines) version none = header_added lines version none

-- ---- no lines

pub empty_stands : (kinds : List Kind) (roster : Roster) → kinds_in roster ≡ kinds → roster.header ≡ None → roster.events ≡ 0
    → roster.threads.entries ≡ [] → roster.locks.entries ≡ [] → roster.objects.entries ≡ []
    → ((lock thread : ℕ) → share_depth roster.shares lock thread ≡ 0) → RosterStandsFor kinds roster []
unfolding acquires releases shares unshares IsDistinct
empty_stands kinds roster same header none threads locks objects unshared =
    let free : (lock : List ℕ) → lock_in roster lock ≡ free_lock = λ lock. ap (λ entries. unwrap_or (lookup (same_name lock) entries) free_lock) locks in
    record {
      kind_entries = same;
      header_version = header;
      event_count = none;
      thread_entries = threads;
      object_entries = objects;
      lock_names = ap keys_of locks;
      lock_depths = λ lock thread. sym (ap (λ l. 0 + depth_of l 0) (free lock));
      holders_begun = λ lock some. let depth : (lock_in roster lock).depth ≡ 0 = ap (λ (l : Lock). l.depth) (free lock) in absurd (omega arith);
      share_depths = λ lock thread. sym (ap (λ n. 0 + n) (unshared 0 0));
      sharers_begun = λ lock thread some. absurd (omega (arith, unshared lock thread));
      threads_differ = tt;
      joined_begun = λ name there. there;
      thread_total = ap length threads;
      lock_total = ap length locks;
      object_total = ap length objects;
    }

-- ---- the locks after one line more

-- what a roster holds of the locks
record HoldsLocks (roster : Roster) (lines : List Line) : Type 0 where
  names : keys_of roster.locks.entries ≡ locks_of lines
  depths : (lock thread : List ℕ) → acquires lines thread lock ≡ releases lines thread lock + depth_of (lock_in roster lock) (place (threads_of lines) thread)
  begun : (lock : List ℕ) → 0 < (lock_in roster lock).depth → (lock_in roster lock).holder < length (threads_of lines)

module _ (kinds : List Kind) (old new : Roster) (lines : List Line) (stands : RosterStandsFor kinds old lines) where
  -- a line that neither acquires nor releases leaves them, also where it begins a thread
  locks_stay : (line : Line) → ((lock : List ℕ) → lock_in new lock ≡ lock_in old lock) → keys_of new.locks.entries ≡ with_lock (locks_of lines) (taken_name line)
      → acquired_name line ≡ None → released_name line ≡ None → HoldsLocks new (lines ++ line ∷ [])
  locks_stay line locks names no_acquire no_release =
      let more : threads_of (lines ++ line ∷ []) ≡ threads_of lines ++ cons_option (begun_name line) [] = filter_map-append begun_name lines (line ∷ []) in
      let not_acquire : (lock thread : List ℕ) → is_acquire_of thread lock line ≡ false =
      λ lock thread. ap (λ o. passes (acting_name line) (same_name thread) && passes o (same_name lock)) no_acquire ∙ and-false (passes (acting_name line) (same_name thread)) in
      let not_release : (lock thread : List ℕ) → is_release_of thread lock line ≡ false =
      λ lock thread. ap (λ o. passes (acting_name line) (same_name thread) && passes o (same_name lock)) no_release ∙ and-false (passes (acting_name line) (same_name thread)) in
      record {
        names = names ∙ sym (locks_push lines line);
        depths = λ lock thread.
            let before : acquires lines thread lock ≡ releases lines thread lock + depth_of (lock_in old lock) (place (threads_of lines) thread) = stands.lock_depths lock thread in
            let acquired : acquires (lines ++ line ∷ []) thread lock ≡ acquires lines thread lock + 0 =
            acquires_push lines line thread lock ∙ ap (λ b. acquires lines thread lock + cond b 1 0) (not_acquire lock thread) in
            let released : releases (lines ++ line ∷ []) thread lock ≡ releases lines thread lock + 0 =
            releases_push lines line thread lock ∙ ap (λ b. releases lines thread lock + cond b 1 0) (not_release lock thread) in
            let depth : depth_of (lock_in new lock) (place (threads_of (lines ++ line ∷ [])) thread) ≡ depth_of (lock_in old lock) (place (threads_of lines) thread) =
            (λ i. depth_of (locks lock i) (place (more i) thread))
            ∙ depth_stays (lock_in old lock) (threads_of lines) (cons_option (begun_name line) []) thread (stands.holders_begun lock) in
            omega arith;
        begun = λ lock some.
            let was : (lock_in old lock).holder < length (threads_of lines) = stands.holders_begun lock (subst (λ (l : Lock). 0 < l.depth) (locks lock) some) in
            let longer : length (threads_of lines) ≤ length (threads_of (lines ++ line ∷ [])) = omega (arith, ap length more, length-append (threads_of lines) (cons_option (begun_name line) [])) in
            let same_holder : (lock_in new lock).holder ≡ (lock_in old lock).holder = ap (λ (l : Lock). l.holder) (locks lock) in
            omega arith;
      }

  -- so does one that takes no lock
  locks_still : (line : Line) → new.locks.entries ≡ old.locks.entries → taken_name line ≡ None → acquired_name line ≡ None → released_name line ≡ None → HoldsLocks new (lines ++ line ∷ [])
  locks_still line same no_lock = locks_stay line (λ lock. ap (λ entries. unwrap_or (lookup (same_name lock) entries) free_lock) same)
      (ap keys_of same ∙ stands.lock_names ∙ sym (ap (with_lock (locks_of lines)) no_lock))

  module _ (thread lock : List ℕ) (held : Lock) (known : is_among (threads_of lines) thread ≡ true) (holder : held.holder ≡ place (threads_of lines) thread)
      (own : depth_of (lock_in old lock) (place (threads_of lines) thread) ≡ (lock_in old lock).depth)
      (written : (other : List ℕ) → lookup (same_name other) new.locks.entries ≡ cond (same_name other lock) (Some held) (lookup (same_name other) old.locks.entries)) where
    number : ℕ
    number = place (threads_of lines) thread

    below : place (threads_of lines) thread < length (threads_of lines)
    below = place_known (threads_of lines) thread known

    -- the lock's entry is written, and each other lock is as before
    this_lock : (other : List ℕ) → same_name other lock ≡ true → lock_in new other ≡ held
    this_lock other same = ap (λ o. unwrap_or o free_lock) (written other ∙ ap (λ b. cond b (Some held) (lookup (same_name other) old.locks.entries)) same)

    other_lock : (other : List ℕ) → same_name other lock ≡ false → lock_in new other ≡ lock_in old other
    other_lock other differ = ap (λ o. unwrap_or o free_lock) (written other ∙ ap (λ b. cond b (Some held) (lookup (same_name other) old.locks.entries)) differ)

    held_begun : (count : ℕ) → length (threads_of lines) ≡ count → (other : List ℕ) → 0 < (lock_in new other).depth → (lock_in new other).holder < count
    held_begun count same other some = by (same_name other lock) refl
      where
        by : (b : Bool) → same_name other lock ≡ b → (lock_in new other).holder < count
        by true is = let e : (lock_in new other).holder ≡ held.holder = ap (λ (l : Lock). l.holder) (this_lock other is) in omega (arith, below, holder)
        by false is =
            let e : (lock_in new other).holder ≡ (lock_in old other).holder = ap (λ (l : Lock). l.holder) (other_lock other is) in
            let was : (lock_in old other).holder < length (threads_of lines) = stands.holders_begun other (subst (λ (l : Lock). 0 < l.depth) (other_lock other is) some) in
            omega arith

    -- the depth of a lock for a thread, where this one has it
    held_depth : (other actor : List ℕ) → same_name other lock ≡ true → depth_of (lock_in new other) (place (threads_of lines) actor) ≡ cond (same_name actor thread) held.depth 0
    held_depth other actor same =
        ap (λ l. depth_of l (place (threads_of lines) actor)) (this_lock other same)
        ∙ (λ i. cond (place (threads_of lines) actor == holder i) held.depth 0)
        ∙ ap (λ b. cond b held.depth 0) (sym (same_place (threads_of lines) actor thread below))

    same_threads : (line : Line) → begun_name line ≡ None → threads_of (lines ++ line ∷ []) ≡ threads_of lines
    same_threads line none = filter_map-append begun_name lines (line ∷ []) ∙ ap (λ o. threads_of lines ++ cons_option o []) none ∙ append-nil (threads_of lines)

    locks_acquired : keys_of new.locks.entries ≡ with_lock (locks_of lines) (Some lock) → held.depth ≡ (lock_in old lock).depth + 1 → HoldsLocks new (lines ++ Event (Acquire thread lock) ∷ [])
    locks_acquired names deep =
        let line : Line = Event (Acquire thread lock) in
        let threads : threads_of (lines ++ line ∷ []) ≡ threads_of lines = same_threads line refl in
        record {
          names = names ∙ sym (locks_push lines line);
          depths = λ other actor.
              let before : acquires lines actor other ≡ releases lines actor other + depth_of (lock_in old other) (place (threads_of lines) actor) = stands.lock_depths other actor in
              let acquired : acquires (lines ++ line ∷ []) actor other ≡ acquires lines actor other + cond (same_name actor thread && same_name other lock) 1 0 = acquires_push lines line actor other in
              let released : releases (lines ++ line ∷ []) actor other ≡ releases lines actor other + 0 =
              releases_push lines line actor other ∙ ap (λ b. releases lines actor other + cond b 1 0) (and-false (same_name actor thread)) in
              let depth : depth_of (lock_in new other) (place (threads_of lines) actor) ≡ depth_of (lock_in old other) (place (threads_of lines) actor) + cond (same_name actor thread && same_name other lock) 1 0 =
              by other actor (same_name other lock) refl in
              let place_is : depth_of (lock_in new other) (place (threads_of (lines ++ line ∷ [])) actor) ≡ depth_of (lock_in new other) (place (threads_of lines) actor) =
              ap (λ names. depth_of (lock_in new other) (place names actor)) threads in
              omega arith;
          begun = held_begun _ (ap length (sym threads));
        }
      where
        deeper_by : (other actor : List ℕ) → same_name other lock ≡ true
            → cond (same_name actor thread) held.depth 0 ≡ depth_of (lock_in old other) (place (threads_of lines) actor) + cond (same_name actor thread) 1 0
        deeper_by other actor same =
            let at : same_name actor thread ≡ (place (threads_of lines) actor == place (threads_of lines) thread) = same_place (threads_of lines) actor thread below in
            (λ i. cond (at i) (deep i) 0) ∙ deeper (lock_in old lock) (place (threads_of lines) thread) own (place (threads_of lines) actor)
            ∙ (λ i. depth_of (lock_in old ((sym ((bytes_decides other lock).0 same)) i)) (place (threads_of lines) actor) + cond (sym at i) 1 0)

        by : (other actor : List ℕ) (b : Bool) → same_name other lock ≡ b
            → depth_of (lock_in new other) (place (threads_of lines) actor) ≡ depth_of (lock_in old other) (place (threads_of lines) actor) + cond (same_name actor thread && same_name other lock) 1 0
        by other actor true same =
            held_depth other actor same ∙ deeper_by other actor same
            ∙ ap (λ b. depth_of (lock_in old other) (place (threads_of lines) actor) + cond b 1 0) (sym (and-true (same_name actor thread)) ∙ ap (λ b. same_name actor thread && b) (sym same))
        by other actor false differ =
            let none : cond {A = ℕ} (same_name actor thread && same_name other lock) 1 0 ≡ 0 = ap (λ b. cond b 1 0) (ap (λ b. same_name actor thread && b) differ ∙ and-false (same_name actor thread)) in
            let kept : depth_of (lock_in new other) (place (threads_of lines) actor) ≡ depth_of (lock_in old other) (place (threads_of lines) actor) =
            ap (λ l. depth_of l (place (threads_of lines) actor)) (other_lock other differ) in
            omega arith

    locks_released : keys_of new.locks.entries ≡ locks_of lines → 0 < (lock_in old lock).depth → held.depth ≡ (lock_in old lock).depth - 1 → HoldsLocks new (lines ++ Event (Release thread lock) ∷ [])
    locks_released names some less =
        let line : Line = Event (Release thread lock) in
        let threads : threads_of (lines ++ line ∷ []) ≡ threads_of lines = same_threads line refl in
        record {
          names = names ∙ sym (locks_push lines line);
          depths = λ other actor.
              let before : acquires lines actor other ≡ releases lines actor other + depth_of (lock_in old other) (place (threads_of lines) actor) = stands.lock_depths other actor in
              let acquired : acquires (lines ++ line ∷ []) actor other ≡ acquires lines actor other + 0 =
              acquires_push lines line actor other ∙ ap (λ b. acquires lines actor other + cond b 1 0) (and-false (same_name actor thread)) in
              let released : releases (lines ++ line ∷ []) actor other ≡ releases lines actor other + cond (same_name actor thread && same_name other lock) 1 0 = releases_push lines line actor other in
              let depth : depth_of (lock_in old other) (place (threads_of lines) actor) ≡ depth_of (lock_in new other) (place (threads_of lines) actor) + cond (same_name actor thread && same_name other lock) 1 0 =
              by other actor (same_name other lock) refl in
              let place_is : depth_of (lock_in new other) (place (threads_of (lines ++ line ∷ [])) actor) ≡ depth_of (lock_in new other) (place (threads_of lines) actor) =
              ap (λ names. depth_of (lock_in new other) (place names actor)) threads in
              omega arith;
          begun = held_begun _ (ap length (sym threads));
        }
      where
        shallower_by : (other actor : List ℕ) → same_name other lock ≡ true
            → depth_of (lock_in old other) (place (threads_of lines) actor) ≡ cond (same_name actor thread) held.depth 0 + cond (same_name actor thread) 1 0
        shallower_by other actor same =
            let at : same_name actor thread ≡ (place (threads_of lines) actor == place (threads_of lines) thread) = same_place (threads_of lines) actor thread below in
            (λ i. depth_of (lock_in old ((bytes_decides other lock).0 same i)) (place (threads_of lines) actor))
            ∙ shallower (lock_in old lock) (place (threads_of lines) thread) own some (place (threads_of lines) actor)
            ∙ (λ i. cond (sym at i) (sym less i) 0 + cond (sym at i) 1 0)

        by : (other actor : List ℕ) (b : Bool) → same_name other lock ≡ b
            → depth_of (lock_in old other) (place (threads_of lines) actor) ≡ depth_of (lock_in new other) (place (threads_of lines) actor) + cond (same_name actor thread && same_name other lock) 1 0
        by other actor true same =
            shallower_by other actor same
            ∙ (λ i. sym (held_depth other actor same) i + cond ((sym (and-true (same_name actor thread)) ∙ ap (λ b. same_name actor thread && b) (sym same)) i) 1 0)
        by other actor false differ =
            let none : cond {A = ℕ} (same_name actor thread && same_name other lock) 1 0 ≡ 0 = ap (λ b. cond b 1 0) (ap (λ b. same_name actor thread && b) differ ∙ and-false (same_name actor thread)) in
            let kept : depth_of (lock_in new other) (place (threads_of lines) actor) ≡ depth_of (lock_in old other) (place (threads_of lines) actor) =
            ap (λ l. depth_of l (place (threads_of lines) actor)) (other_lock other differ) in
            omega arith

-- ---- the shares after one line more

-- what a roster holds of the shares
record HoldsShares (roster : Roster) (lines : List Line) : Type 0 where
  depths : (lock thread : List ℕ) → shares lines thread lock ≡ unshares lines thread lock + share_depth roster.shares (place (locks_of lines) lock) (place (threads_of lines) thread)
  begun : (lock thread : ℕ) → 0 < share_depth roster.shares lock thread → (lock < length (locks_of lines)) × (thread < length (threads_of lines))

module _ (kinds : List Kind) (old new : Roster) (lines : List Line) (stands : RosterStandsFor kinds old lines) (line : Line) where
  threads_push : threads_of (lines ++ line ∷ []) ≡ threads_of lines ++ cons_option (begun_name line) []
  threads_push = filter_map-append begun_name lines (line ∷ [])

  locks_grow : locks_of (lines ++ line ∷ []) ≡ locks_of lines ++ added (locks_of lines) (taken_name line)
  locks_grow = locks_push lines line ∙ with_lock_more (locks_of lines) (taken_name line)

  -- what was shared before stands at the same places, among more locks and threads
  shared_stays : (lock thread : List ℕ) → share_depth old.shares (place (locks_of (lines ++ line ∷ [])) lock) (place (threads_of (lines ++ line ∷ [])) thread)
      ≡ share_depth old.shares (place (locks_of lines) lock) (place (threads_of lines) thread)
  shared_stays lock thread =
      (λ i. share_depth old.shares (place (locks_grow i) lock) (place (threads_push i) thread))
      ∙ both_stay (share_depth old.shares) (locks_of lines) (threads_of lines) stands.sharers_begun (added (locks_of lines) (taken_name line)) (cons_option (begun_name line) []) lock thread

  still_begun : (lock thread : ℕ) → 0 < share_depth old.shares lock thread → (lock < length (locks_of (lines ++ line ∷ []))) × (thread < length (threads_of (lines ++ line ∷ [])))
  still_begun lock thread some =
      let was = stands.sharers_begun lock thread some in (
        omega (arith, was.0, ap length locks_grow, length-append (locks_of lines) (added (locks_of lines) (taken_name line))),
        omega (arith, was.1, ap length threads_push, length-append (threads_of lines) (cons_option (begun_name line) [])),
      )

  not_share : shared_name line ≡ None → (thread lock : List ℕ) → shares (lines ++ line ∷ []) thread lock ≡ shares lines thread lock + 0
  not_share none thread lock =
      shares_push lines line thread lock
      ∙ ap (λ b. shares lines thread lock + cond b 1 0)
      (ap (λ o. passes (acting_name line) (same_name thread) && passes o (same_name lock)) none ∙ and-false (passes (acting_name line) (same_name thread)))

  not_unshare : unshared_name line ≡ None → (thread lock : List ℕ) → unshares (lines ++ line ∷ []) thread lock ≡ unshares lines thread lock + 0
  not_unshare none thread lock =
      unshares_push lines line thread lock
      ∙ ap (λ b. unshares lines thread lock + cond b 1 0)
      (ap (λ o. passes (acting_name line) (same_name thread) && passes o (same_name lock)) none ∙ and-false (passes (acting_name line) (same_name thread)))

  -- a line that neither shares nor unshares leaves them, also where it takes a lock or begins a thread
  shares_stay : new.shares ≡ old.shares → shared_name line ≡ None → unshared_name line ≡ None → HoldsShares new (lines ++ line ∷ [])
  shares_stay same no_share no_unshare = record {
    depths = λ lock thread.
        let before : shares lines thread lock ≡ unshares lines thread lock + share_depth old.shares (place (locks_of lines) lock) (place (threads_of lines) thread) = stands.share_depths lock thread in
        let depth : share_depth new.shares (place (locks_of (lines ++ line ∷ [])) lock) (place (threads_of (lines ++ line ∷ [])) thread)
        ≡ share_depth old.shares (place (locks_of lines) lock) (place (threads_of lines) thread) =
        ap (λ shares. share_depth shares (place (locks_of (lines ++ line ∷ [])) lock) (place (threads_of (lines ++ line ∷ [])) thread)) same ∙ shared_stays lock thread in
        omega (arith, not_share no_share thread lock, not_unshare no_unshare thread lock);
    begun = λ lock thread some. still_begun lock thread (subst (λ shares. 0 < share_depth shares lock thread) same some);
  }

module _ (kinds : List Kind) (old new : Roster) (lines : List Line) (stands : RosterStandsFor kinds old lines) (thread lock : List ℕ) (known : is_among (threads_of lines) thread ≡ true) where
  -- the numbers are those of the thread and the lock exactly where the names are theirs
  at_names : (locks : List (List ℕ)) → place locks lock < length locks → (other actor : List ℕ)
      → ((place (threads_of lines) actor == place (threads_of lines) thread) && (place locks other == place locks lock)) ≡ (same_name actor thread && same_name other lock)
  at_names locks below other actor = λ i.
      sym (same_place (threads_of lines) actor thread (place_known (threads_of lines) thread known)) i && sym (same_place locks other lock below) i

  -- the thread shares the lock once more
  shares_added : ((l t : ℕ) → share_depth new.shares l t ≡ share_depth old.shares l t + cond ((t == place (threads_of lines) thread) && (l == place (locks_of lines) lock)) 1 0)
      → HoldsShares new (lines ++ Event (Share thread lock) ∷ [])
  shares_added more =
      let line : Line = Event (Share thread lock) in
      let threads : threads_of (lines ++ line ∷ []) ≡ threads_of lines = threads_push kinds old new lines stands line ∙ append-nil (threads_of lines) in
      let locks : locks_of (lines ++ line ∷ []) ≡ with_lock (locks_of lines) (Some lock) = locks_push lines line in
      let number : place (locks_of (lines ++ line ∷ [])) lock ≡ place (locks_of lines) lock = ap (λ names. place names lock) locks ∙ with_lock_place (locks_of lines) lock in
      let there : is_among (locks_of (lines ++ line ∷ [])) lock ≡ true =
      ap (λ names. is_among names lock) locks ∙ (among_decides (with_lock (locks_of lines) (Some lock)) lock).1 (with_lock_has (locks_of lines) lock) in
      let below : place (locks_of (lines ++ line ∷ [])) lock < length (locks_of (lines ++ line ∷ [])) = place_known (locks_of (lines ++ line ∷ [])) lock there in
      record {
        depths = λ other actor.
            let before : shares lines actor other ≡ unshares lines actor other + share_depth old.shares (place (locks_of lines) other) (place (threads_of lines) actor) = stands.share_depths other actor in
            let shared : shares (lines ++ line ∷ []) actor other ≡ shares lines actor other + cond (same_name actor thread && same_name other lock) 1 0 = shares_push lines line actor other in
            let depth : share_depth new.shares (place (locks_of (lines ++ line ∷ [])) other) (place (threads_of (lines ++ line ∷ [])) actor)
            ≡ share_depth old.shares (place (locks_of lines) other) (place (threads_of lines) actor) + cond (same_name actor thread && same_name other lock) 1 0 =
            more _ _
            ∙ (λ i. shared_stays kinds old new lines stands line other actor i
            + cond ((place (threads i) actor == place (threads_of lines) thread) && (place (locks_of (lines ++ line ∷ [])) other == sym number i)) 1 0)
            ∙ ap (λ b. share_depth old.shares (place (locks_of lines) other) (place (threads_of lines) actor) + cond b 1 0) (at_names (locks_of (lines ++ line ∷ [])) below other actor) in
            omega (arith, not_unshare kinds old new lines stands line refl actor other);
        begun = λ l t some. by l t some (more l t) below number (ap length threads) (still_begun kinds old new lines stands line l t);
      }
    where
      After : List Line
      After = lines ++ Event (Share thread lock) ∷ []

      here : (n m : ℕ) → (n == m) ≡ true → n ≡ m
      here n m same = (Decides-eqb n m).0 same

      by : (l t : ℕ) → 0 < share_depth new.shares l t → share_depth new.shares l t ≡ share_depth old.shares l t + cond ((t == place (threads_of lines) thread) && (l == place (locks_of lines) lock)) 1 0
          → place (locks_of (lines ++ Event (Share thread lock) ∷ [])) lock < length (locks_of (lines ++ Event (Share thread lock) ∷ []))
          → place (locks_of (lines ++ Event (Share thread lock) ∷ [])) lock ≡ place (locks_of lines) lock
          → length (threads_of (lines ++ Event (Share thread lock) ∷ [])) ≡ length (threads_of lines)
          → (0 < share_depth old.shares l t → (l < length (locks_of (lines ++ Event (Share thread lock) ∷ []))) × (t < length (threads_of (lines ++ Event (Share thread lock) ∷ []))))
          → (l < length (locks_of (lines ++ Event (Share thread lock) ∷ []))) × (t < length (threads_of (lines ++ Event (Share thread lock) ∷ [])))
      by l t some e below number threads was = elim (cases_eq (share_depth old.shares l t) 0) [
        | inr shared ↦ was (omega arith)
        | inl none ↦ elim (cases_Bool ((t == place (threads_of lines) thread) && (l == place (locks_of lines) lock))) [
          | inl both ↦
              let parts = (Decides-and _ _ (Decides-eqb t (place (threads_of lines) thread)) (Decides-eqb l (place (locks_of lines) lock))).0 both in
              (omega (arith, parts.1), omega (arith, parts.0, place_known (threads_of lines) thread known))
          | inr other ↦
              let nothing : share_depth new.shares l t ≡ share_depth old.shares l t + 0 = e ∙ ap (λ b. share_depth old.shares l t + cond b 1 0) other in
              absurd (omega arith)
        ]
      ]

  -- or once less
  shares_given : is_among (locks_of lines) lock ≡ true
      → ((l t : ℕ) → share_depth old.shares l t ≡ share_depth new.shares l t + cond ((t == place (threads_of lines) thread) && (l == place (locks_of lines) lock)) 1 0)
      → HoldsShares new (lines ++ Event (Unshare thread lock) ∷ [])
  shares_given there less =
      let line : Line = Event (Unshare thread lock) in
      let threads : threads_of (lines ++ line ∷ []) ≡ threads_of lines = threads_push kinds old new lines stands line ∙ append-nil (threads_of lines) in
      let locks : locks_of (lines ++ line ∷ []) ≡ locks_of lines = locks_push lines line in
      record {
        depths = λ other actor.
            let before : shares lines actor other ≡ unshares lines actor other + share_depth old.shares (place (locks_of lines) other) (place (threads_of lines) actor) = stands.share_depths other actor in
            let unshared : unshares (lines ++ line ∷ []) actor other ≡ unshares lines actor other + cond (same_name actor thread && same_name other lock) 1 0 = unshares_push lines line actor other in
            let depth : share_depth old.shares (place (locks_of lines) other) (place (threads_of lines) actor)
            ≡ share_depth new.shares (place (locks_of lines) other) (place (threads_of lines) actor) + cond (same_name actor thread && same_name other lock) 1 0 =
            less _ _
            ∙ ap (λ b. share_depth new.shares (place (locks_of lines) other) (place (threads_of lines) actor) + cond b 1 0)
            (at_names (locks_of lines) (place_known (locks_of lines) lock there) other actor) in
            let place_is : share_depth new.shares (place (locks_of (lines ++ line ∷ [])) other) (place (threads_of (lines ++ line ∷ [])) actor)
            ≡ share_depth new.shares (place (locks_of lines) other) (place (threads_of lines) actor) =
            (λ i. share_depth new.shares (place (locks i) other) (place (threads i) actor)) in
            omega (arith, not_share kinds old new lines stands line refl actor other);
        begun = λ l t some. still_begun kinds old new lines stands line l t (omega (arith, some, less l t));
      }

-- ---- one line more

module _ (kinds : List Kind) (old : Roster) (lines : List Line) (stands : RosterStandsFor kinds old lines) (line : Line) where
  kept_header : (new : Roster) → header_of (line ∷ []) ≡ None → new.header ≡ old.header → new.header ≡ header_of (lines ++ line ∷ [])
  kept_header new none same = same ∙ stands.header_version ∙ sym (header_kept lines line none)

  grown : (new : Roster) → new.kinds.entries ≡ old.kinds.entries → new.header ≡ header_of (lines ++ line ∷ []) → new.events ≡ old.events + cond (is_event line) 1 0
      → new.threads.entries ≡ map (thread_entry (lines ++ line ∷ [])) (threads_of (lines ++ line ∷ []))
      → new.objects.entries ≡ filter_map (object_entry kinds) (lines ++ line ∷ [])
      → HoldsLocks new (lines ++ line ∷ []) → HoldsShares new (lines ++ line ∷ [])
      → IsDistinct same_name (threads_of (lines ++ line ∷ []))
      → ((name : List ℕ) → Contains (joined_of (lines ++ line ∷ [])) name → Contains (threads_of (lines ++ line ∷ [])) name)
      → RosterStandsFor kinds new (lines ++ line ∷ [])
  grown new same_kinds header events threads objects locks shared differ begun = record {
    kind_entries = ap (map kind_entry) same_kinds ∙ stands.kind_entries;
    header_version = header;
    event_count = events ∙ ap (λ n. n + cond (is_event line) 1 0) stands.event_count ∙ sym (sum_by_push _ lines line);
    thread_entries = threads;
    object_entries = objects;
    lock_names = locks.names;
    lock_depths = locks.depths;
    holders_begun = locks.begun;
    share_depths = shared.depths;
    sharers_begun = shared.begun;
    threads_differ = differ;
    joined_begun = begun;
    thread_total = ap length threads ∙ length-map (threads_of (lines ++ line ∷ [])) (thread_entry (lines ++ line ∷ []));
    lock_total = sym (length-map new.locks.entries (λ e. e.0)) ∙ ap length locks.names;
    object_total = sym (length-map new.objects.entries (λ e. e.0)) ∙ ap length (ap keys_of objects ∙ keys-objects kinds (lines ++ line ∷ []));
  }

  -- a begun thread goes last and is not joined, and a declared object goes last
  begun_entries : (begun : Option (List ℕ)) → ((name : List ℕ) → begun ≡ Some name → is_among (threads_of lines) name ≡ false)
      → flagged (is_among (joined_of lines)) (cons_option begun []) ≡ flagged (λ name. false) (cons_option begun [])
  begun_entries None fresh = refl
  begun_entries (Some name) fresh = λ i. (name, not_joined kinds old lines stands name (fresh name refl) i) ∷ []

  differ_more : (begun : Option (List ℕ)) → ((name : List ℕ) → begun ≡ Some name → is_among (threads_of lines) name ≡ false)
      → IsDistinct same_name (threads_of lines ++ cons_option begun [])
  differ_more None fresh = subst (IsDistinct same_name) (sym (append-nil (threads_of lines))) stands.threads_differ
  differ_more (Some name) fresh = IsDistinct-push nat_list_eq_equiv (threads_of lines) name stands.threads_differ (fresh name refl)

  no_join : (new : Roster) → joined_name line ≡ None → ((name : List ℕ) → begun_name line ≡ Some name → is_among (threads_of lines) name ≡ false)
      → new.kinds.entries ≡ old.kinds.entries → HoldsLocks new (lines ++ line ∷ []) → HoldsShares new (lines ++ line ∷ [])
      → new.header ≡ header_of (lines ++ line ∷ []) → new.events ≡ old.events + cond (is_event line) 1 0
      → new.threads.entries ≡ old.threads.entries ++ flagged (λ name. false) (cons_option (begun_name line) [])
      → new.objects.entries ≡ old.objects.entries ++ cons_option (object_entry kinds line) [] → RosterStandsFor kinds new (lines ++ line ∷ [])
  no_join new joins fresh same_kinds locks shared header events threads objects =
      let more : threads_of (lines ++ line ∷ []) ≡ threads_of lines ++ cons_option (begun_name line) [] = filter_map-append begun_name lines (line ∷ []) in
      let same : joined_of (lines ++ line ∷ []) ≡ joined_of lines =
      filter_map-append joined_name lines (line ∷ []) ∙ ap (λ o. joined_of lines ++ cons_option o []) joins ∙ append-nil (joined_of lines) in
      let entries : map (thread_entry (lines ++ line ∷ [])) (threads_of (lines ++ line ∷ []))
      ≡ map (thread_entry lines) (threads_of lines) ++ flagged (λ name. false) (cons_option (begun_name line) []) =
      (λ i. flagged (is_among (same i)) (more i)) ∙ map-append (thread_entry lines) (threads_of lines) (cons_option (begun_name line) [])
      ∙ ap (λ es. map (thread_entry lines) (threads_of lines) ++ es) (begun_entries (begun_name line) fresh) in
      grown new same_kinds header events
      (threads ∙ ap (λ es. es ++ flagged (λ name. false) (cons_option (begun_name line) [])) stands.thread_entries ∙ sym entries)
      (objects ∙ ap (λ es. es ++ cons_option (object_entry kinds line) []) stands.object_entries ∙ sym (filter_map-append (object_entry kinds) lines (line ∷ [])))
      locks
      shared
      (subst (IsDistinct same_name) (sym more) (differ_more (begun_name line) fresh))
      (λ name h. subst (λ names. Contains names name) (sym more)
      (Contains-append_left (threads_of lines) (cons_option (begun_name line) []) name (stands.joined_begun name (subst (λ names. Contains names name) same h))))

-- where a name is new, so is each name that is the same
new_name : (threads : List (List ℕ)) (name : List ℕ) → is_among threads name ≡ false → (other : List ℕ) → Some name ≡ Some other → is_among threads other ≡ false
new_name threads name fresh other e = subst (λ n. is_among threads n ≡ false) (same_Some name other e) fresh

module _ (kinds : List Kind) (old new : Roster) (lines : List Line) (stands : RosterStandsFor kinds old lines) (same_kinds : new.kinds.entries ≡ old.kinds.entries)
    (same_locks : new.locks.entries ≡ old.locks.entries) (same_shares : new.shares ≡ old.shares) where
  pub after_skip : new.header ≡ old.header → new.events ≡ old.events → new.threads.entries ≡ old.threads.entries → new.objects.entries ≡ old.objects.entries
      → RosterStandsFor kinds new (lines ++ Skip ∷ [])
  after_skip header events threads objects =
      no_join kinds old lines stands Skip new refl (λ name e. cc) same_kinds (locks_still kinds old new lines stands Skip same_locks refl refl refl) (shares_stay kinds old new lines stands Skip same_shares refl refl)
      (kept_header kinds old lines stands Skip new refl header) (events ∙ sym (add-zero old.events)) (threads ∙ sym (append-nil _)) (objects ∙ sym (append-nil _))

  pub after_header : (version : ℕ) → old.header ≡ None → new.header ≡ Some version → new.events ≡ old.events → new.threads.entries ≡ old.threads.entries → new.objects.entries ≡ old.objects.entries
      → RosterStandsFor kinds new (lines ++ Header version ∷ [])
  after_header version none header events threads objects =
      no_join kinds old lines stands (Header version) new refl (λ name e. cc) same_kinds (locks_still kinds old new lines stands (Header version) same_locks refl refl refl) (shares_stay kinds old new lines stands (Header version) same_shares refl refl)
      (header ∙ sym (header_added lines version (sym stands.header_version ∙ none))) (events ∙ sym (add-zero old.events)) (threads ∙ sym (append-nil _)) (objects ∙ sym (append-nil _))

  pub after_root : (name : List ℕ) → is_among (threads_of lines) name ≡ false → new.header ≡ old.header → new.events ≡ old.events
      → new.threads.entries ≡ old.threads.entries ++ (name, false) ∷ [] → new.objects.entries ≡ old.objects.entries
      → RosterStandsFor kinds new (lines ++ Thread name ∷ [])
  after_root name fresh header events threads objects =
      no_join kinds old lines stands (Thread name) new refl (new_name (threads_of lines) name fresh) same_kinds (locks_still kinds old new lines stands (Thread name) same_locks refl refl refl) (shares_stay kinds old new lines stands (Thread name) same_shares refl refl)
      (kept_header kinds old lines stands (Thread name) new refl header) (events ∙ sym (add-zero old.events)) threads (objects ∙ sym (append-nil _))

  pub after_object : (name kind : List ℕ) → new.header ≡ old.header → new.events ≡ old.events → new.threads.entries ≡ old.threads.entries
      → new.objects.entries ≡ old.objects.entries ++ (name, place (kind_names kinds) kind) ∷ []
      → RosterStandsFor kinds new (lines ++ Object name kind ∷ [])
  after_object name kind header events threads objects =
      no_join kinds old lines stands (Object name kind) new refl (λ name e. cc) same_kinds (locks_still kinds old new lines stands (Object name kind) same_locks refl refl refl) (shares_stay kinds old new lines stands (Object name kind) same_shares refl refl)
      (kept_header kinds old lines stands (Object name kind) new refl header) (events ∙ sym (add-zero old.events)) (threads ∙ sym (append-nil _)) objects

  pub after_fork : (thread child : List ℕ) → is_among (threads_of lines) child ≡ false → new.header ≡ old.header → new.events ≡ old.events + 1
      → new.threads.entries ≡ old.threads.entries ++ (child, false) ∷ [] → new.objects.entries ≡ old.objects.entries
      → RosterStandsFor kinds new (lines ++ Event (Fork thread child) ∷ [])
  after_fork thread child fresh header events threads objects =
      no_join kinds old lines stands (Event (Fork thread child)) new refl (new_name (threads_of lines) child fresh) same_kinds
      (locks_still kinds old new lines stands (Event (Fork thread child)) same_locks refl refl refl) (shares_stay kinds old new lines stands (Event (Fork thread child)) same_shares refl refl)
      (kept_header kinds old lines stands (Event (Fork thread child)) new refl header) events threads (objects ∙ sym (append-nil _))

  pub after_call : (thread object method : List ℕ) (slots : List Value) → new.header ≡ old.header → new.events ≡ old.events + 1
      → new.threads.entries ≡ old.threads.entries → new.objects.entries ≡ old.objects.entries → RosterStandsFor kinds new (lines ++ Event (Call thread object method slots) ∷ [])
  after_call thread object method slots header events threads objects =
      no_join kinds old lines stands (Event (Call thread object method slots)) new refl (λ name e. cc) same_kinds
      (locks_still kinds old new lines stands (Event (Call thread object method slots)) same_locks refl refl refl) (shares_stay kinds old new lines stands (Event (Call thread object method slots)) same_shares refl refl)
      (kept_header kinds old lines stands (Event (Call thread object method slots)) new refl header) events (threads ∙ sym (append-nil _)) (objects ∙ sym (append-nil _))

  pub after_join : (thread child : List ℕ) → is_among (threads_of lines) child ≡ true → new.header ≡ old.header → new.events ≡ old.events + 1
      → new.threads.entries ≡ set_value_at old.threads.entries (place (threads_of lines) child) true → new.objects.entries ≡ old.objects.entries
      → RosterStandsFor kinds new (lines ++ Event (Join thread child) ∷ [])
  after_join thread child known header events threads objects =
      let line : Line = Event (Join thread child) in
      let more : joined_of (lines ++ line ∷ []) ≡ joined_of lines ++ child ∷ [] = filter_map-append joined_name lines (line ∷ []) in
      let same : threads_of (lines ++ line ∷ []) ≡ threads_of lines = filter_map-append begun_name lines (line ∷ []) ∙ append-nil (threads_of lines) in
      let entries : map (thread_entry (lines ++ line ∷ [])) (threads_of (lines ++ line ∷ [])) ≡ flagged (λ n. is_among (joined_of lines) n || (same_name n child || false)) (threads_of lines) =
      (λ i. flagged (is_among (more i)) (same i)) ∙ (λ i. flagged (λ n. list_any-append (same_name n) (joined_of lines) (child ∷ []) i) (threads_of lines)) in
      grown kinds old lines stands line new same_kinds (kept_header kinds old lines stands line new refl header) events
      (threads ∙ ap (λ es. set_value_at es (place (threads_of lines) child) true) stands.thread_entries
      ∙ marked (is_among (joined_of lines)) child (threads_of lines) stands.threads_differ known ∙ sym entries)
      (objects ∙ stands.object_entries ∙ sym (filter_map-append (object_entry kinds) lines (line ∷ []) ∙ append-nil _))
      (locks_still kinds old new lines stands line same_locks refl refl refl)
      (shares_stay kinds old new lines stands line same_shares refl refl)
      (subst (IsDistinct same_name) (sym same) stands.threads_differ)
      (λ name there. subst (λ names. Contains names name) (sym same)
      (elim (Contains-push_cases (joined_of lines) child name (subst (λ names. Contains names name) more there)) [
        | inl before ↦ stands.joined_begun name before
        | inr here ↦ subst (Contains (threads_of lines)) here ((among_decides (threads_of lines) child).0 known)
      ]))

-- a line that takes or gives back a lock leaves the rest
module _ (kinds : List Kind) (old new : Roster) (lines : List Line) (stands : RosterStandsFor kinds old lines) (same_kinds : new.kinds.entries ≡ old.kinds.entries)
    (same_shares : new.shares ≡ old.shares) (thread lock : List ℕ) (held : Lock) (header : new.header ≡ old.header) (events : new.events ≡ old.events + 1) (threads : new.threads.entries ≡ old.threads.entries)
    (objects : new.objects.entries ≡ old.objects.entries) (known : is_among (threads_of lines) thread ≡ true) (holder : held.holder ≡ place (threads_of lines) thread)
    (own : depth_of (lock_in old lock) (place (threads_of lines) thread) ≡ (lock_in old lock).depth)
    (written : (other : List ℕ) → lookup (same_name other) new.locks.entries ≡ cond (same_name other lock) (Some held) (lookup (same_name other) old.locks.entries)) where
  pub after_acquire : keys_of new.locks.entries ≡ with_lock (locks_of lines) (Some lock) → held.depth ≡ (lock_in old lock).depth + 1 → RosterStandsFor kinds new (lines ++ Event (Acquire thread lock) ∷ [])
  after_acquire names deep =
      no_join kinds old lines stands (Event (Acquire thread lock)) new refl (λ name e. cc) same_kinds
      (locks_acquired kinds old new lines stands thread lock held known holder own written names deep)
      (shares_stay kinds old new lines stands (Event (Acquire thread lock)) same_shares refl refl)
      (kept_header kinds old lines stands (Event (Acquire thread lock)) new refl header) events (threads ∙ sym (append-nil _)) (objects ∙ sym (append-nil _))

  pub after_release : keys_of new.locks.entries ≡ locks_of lines → 0 < (lock_in old lock).depth → held.depth ≡ (lock_in old lock).depth - 1 → RosterStandsFor kinds new (lines ++ Event (Release thread lock) ∷ [])
  after_release names some less =
      no_join kinds old lines stands (Event (Release thread lock)) new refl (λ name e. cc) same_kinds
      (locks_released kinds old new lines stands thread lock held known holder own written names some less)
      (shares_stay kinds old new lines stands (Event (Release thread lock)) same_shares refl refl)
      (kept_header kinds old lines stands (Event (Release thread lock)) new refl header) events (threads ∙ sym (append-nil _)) (objects ∙ sym (append-nil _))

-- a line that shares or unshares a lock leaves the rest
module _ (kinds : List Kind) (old new : Roster) (lines : List Line) (stands : RosterStandsFor kinds old lines) (same_kinds : new.kinds.entries ≡ old.kinds.entries)
    (thread lock : List ℕ) (header : new.header ≡ old.header) (events : new.events ≡ old.events + 1) (threads : new.threads.entries ≡ old.threads.entries)
    (objects : new.objects.entries ≡ old.objects.entries) (known : is_among (threads_of lines) thread ≡ true) where
  pub after_share : ((other : List ℕ) → lock_in new other ≡ lock_in old other) → keys_of new.locks.entries ≡ with_lock (locks_of lines) (Some lock)
      → ((l t : ℕ) → share_depth new.shares l t ≡ share_depth old.shares l t + cond ((t == place (threads_of lines) thread) && (l == place (locks_of lines) lock)) 1 0)
      → RosterStandsFor kinds new (lines ++ Event (Share thread lock) ∷ [])
  after_share locks names more =
      no_join kinds old lines stands (Event (Share thread lock)) new refl (λ name e. cc) same_kinds
      (locks_stay kinds old new lines stands (Event (Share thread lock)) locks names refl refl)
      (shares_added kinds old new lines stands thread lock known more)
      (kept_header kinds old lines stands (Event (Share thread lock)) new refl header) events (threads ∙ sym (append-nil _)) (objects ∙ sym (append-nil _))

  pub after_unshare : new.locks.entries ≡ old.locks.entries → is_among (locks_of lines) lock ≡ true
      → ((l t : ℕ) → share_depth old.shares l t ≡ share_depth new.shares l t + cond ((t == place (threads_of lines) thread) && (l == place (locks_of lines) lock)) 1 0)
      → RosterStandsFor kinds new (lines ++ Event (Unshare thread lock) ∷ [])
  after_unshare locks there less =
      no_join kinds old lines stands (Event (Unshare thread lock)) new refl (λ name e. cc) same_kinds
      (locks_still kinds old new lines stands (Event (Unshare thread lock)) locks refl refl refl)
      (shares_given kinds old new lines stands thread lock known there less)
      (kept_header kinds old lines stands (Event (Unshare thread lock)) new refl header) events (threads ∙ sym (append-nil _)) (objects ∙ sym (append-nil _))

-- a table of locks after a write: what it finds by a name, and its names
module _ (kinds : List Kind) (old : Roster) (lines : List Line) (stands : RosterStandsFor kinds old lines) (lock : List ℕ) (held : Lock) where
  abbrev pub IsWritten : List (List ℕ × Lock) → Type 0
  IsWritten entries =
      ((other : List ℕ) → lookup (same_name other) entries ≡ cond (same_name other lock) (Some held) (lookup (same_name other) old.locks.entries))
      × (keys_of entries ≡ with_lock (locks_of lines) (Some lock))

  pub written_new : is_among (locks_of lines) lock ≡ false → IsWritten (insert_entry same_name old.locks.entries lock held)
  written_new fresh =
      let absent : is_among (keys_of old.locks.entries) lock ≡ false = ap (λ names. is_among names lock) stands.lock_names ∙ fresh in
      let entries = inserted_lock kinds old lines stands lock held fresh in (
        λ other. ap (lookup (same_name other)) entries ∙ found_pushed lock other held old.locks.entries absent,
        ap keys_of entries ∙ map-append (λ e. e.0) old.locks.entries ((lock, held) ∷ []) ∙ ap (λ names. names ++ lock ∷ []) stands.lock_names
            ∙ ap (λ b. cond b (locks_of lines) (locks_of lines ++ lock ∷ [])) (sym fresh),
      )

  pub written_known : is_among (locks_of lines) lock ≡ true → IsWritten (set_value_at old.locks.entries (place (locks_of lines) lock) held)
  written_known known =
      let there : is_among (keys_of old.locks.entries) lock ≡ true = ap (λ names. is_among names lock) stands.lock_names ∙ known in (
        λ other. ap (λ names. lookup (same_name other) (set_value_at old.locks.entries (place names lock) held)) (sym stands.lock_names)
            ∙ found_written lock other held old.locks.entries there,
        keys-with_value_at old.locks (place (locks_of lines) lock) held ∙ stands.lock_names
            ∙ ap (λ b. cond b (locks_of lines) (locks_of lines ++ lock ∷ [])) (sym known),
      )

  -- a new lock that no thread has
  pub free_as_before : held ≡ free_lock → is_among (locks_of lines) lock ≡ false → (entries : List (List ℕ × Lock)) → IsWritten entries
      → (other : List ℕ) → unwrap_or (lookup (same_name other) entries) free_lock ≡ lock_in old other
  free_as_before free fresh entries written other = ap (λ o. unwrap_or o free_lock) (written.0 other) ∙ by (same_name other lock) refl
    where
      none : (name : List ℕ) → name ≡ lock → lookup (same_name name) old.locks.entries ≡ None
      none name same = none_is _ (known_in old.locks.entries (locks_of lines) stands.lock_names name ∙ ap (is_among (locks_of lines)) same ∙ fresh)

      by : (b : Bool) → same_name other lock ≡ b → unwrap_or (cond (same_name other lock) (Some held) (lookup (same_name other) old.locks.entries)) free_lock ≡ lock_in old other
      by true is =
          ap (λ b. unwrap_or (cond b (Some held) (lookup (same_name other) old.locks.entries)) free_lock) is ∙ free
          ∙ ap (λ o. unwrap_or o free_lock) (sym (none other ((bytes_decides other lock).0 is)))
      by false differ = ap (λ b. unwrap_or (cond b (Some held) (lookup (same_name other) old.locks.entries)) free_lock) differ

  -- a lock whose number is below the count is known
  pub lock_below : (number : ℕ) → number ≡ place (locks_of lines) lock → number < lock_count old → is_among (locks_of lines) lock ≡ true
  lock_below number at below = place_below (locks_of lines) lock (omega (arith, stands.lock_total))

  pub same_locks : is_among (locks_of lines) lock ≡ true → with_lock (locks_of lines) (Some lock) ≡ locks_of lines
  same_locks known = ap (λ b. cond b (locks_of lines) (locks_of lines ++ lock ∷ [])) known

-- ---- what the public call says by the law

pub ok_follows : (old new : Roster) (limits : Limits) (line : Line) (r : Result Accepted WfRefused) → IfOk r (Accepts old new limits line)
    → OnOk r ((kinds : List Kind) (lines : List Line) → RosterStandsFor kinds old lines → MayFollow kinds limits lines line)
ok_follows old new limits line (Ok accepted) takes = λ kinds lines stands. follows_from_none kinds limits lines line (takes kinds lines stands).0
ok_follows old new limits line (Err e) takes = tt

pub err_broken : (old new : Roster) (limits : Limits) (line : Line) (r : Result Accepted WfRefused) → IfErr r (Refuses old new limits line)
    → IfErr r (λ e. (kinds : List Kind) (lines : List Line) → RosterStandsFor kinds old lines → (cause : WfCause) → e ≡ Cause cause →
    (first_broken kinds limits lines line ≡ Some cause) × IsBrokenFirst kinds limits lines line cause)
err_broken old new limits line (Ok accepted) refuses = tt
err_broken old new limits line (Err e) refuses = λ kinds lines stands cause same.
    let refused : Refuses old new limits line (Cause cause) = subst (Refuses old new limits line) same refuses in
    (refused.0 kinds lines stands, broken_from_some kinds limits lines line cause (refused.0 kinds lines stands))

pub err_memory : (old new : Roster) (limits : Limits) (line : Line) (r : Result Accepted WfRefused) → IfErr r (Refuses old new limits line)
    → IfErr r (λ e. e ≡ NoMemory → (kinds : List Kind) (lines : List Line) → RosterStandsFor kinds old lines → MayFollow kinds limits lines line × TakesMemory lines line)
err_memory old new limits line (Ok accepted) refuses = tt
err_memory old new limits line (Err e) refuses = λ same kinds lines stands.
    let refused : Refuses old new limits line NoMemory = subst (Refuses old new limits line) same refuses in
    let told = refused kinds lines stands in (follows_from_none kinds limits lines line told.0, told.1)

pub err_stands : (old new : Roster) (limits : Limits) (line : Line) (r : Result Accepted WfRefused) → IfErr r (Refuses old new limits line)
    → OnErr r ((kinds : List Kind) (lines : List Line) → RosterStandsFor kinds old lines → RosterStandsFor kinds new lines)
err_stands old new limits line (Ok accepted) refuses = tt
err_stands old new limits line (Err (Cause cause)) refuses = λ kinds lines stands. subst (λ roster. RosterStandsFor kinds roster lines) (sym refuses.1) stands
err_stands old new limits line (Err NoMemory) refuses = λ kinds lines stands. (refuses kinds lines stands).2

pub ok_few : (old new : Roster) (limits : Limits) (line : Line) (r : Result Accepted WfRefused) → IfOk r (Accepts old new limits line) → thread_count new < 4294967296
    → OnOk r ((kinds : List Kind) (lines : List Line) → RosterStandsFor kinds old lines → length (threads_of (lines ++ line ∷ [])) ≤ 4294967295)
ok_few old new limits line (Ok accepted) accepts few = λ kinds lines stands.
    let now : RosterStandsFor kinds new (lines ++ line ∷ []) = (accepts kinds lines stands).2 in omega (arith, now.thread_total)
ok_few old new limits line (Err e) accepts few = tt
