-- What stands at a number of a roster is what its name is looked up to.
use Rattle.std.proofs.Common.{◌≡◌, ℕ, Bool, true, false, not, cond, List, [], ◌∷◌, ◌++◌, slice_get, Option, Some, None, option_map, refl, sym, ap, ◌∙◌}
use Rattle.std.specs.List.{IsDistinct}
use Rattle.std.specs.Cmp.Lexicographic.{nat_list_eq_equiv}
use Rattle.std.proofs.lemmas.Map.Keys.{IsDistinct-push}
use Rattle.std.proofs.lemmas.Option.{same_Some, slice_get-map}
use Rattle.rd_event.specs.declared.items.Line.{Line}
use Rattle.rd_ecl.specs.Kinds.{Kind}
use Rattle.rd_rules.specs.MayFollow.{taken_name, threads_of, locks_of, same_name, is_among, place, with_lock, with_locks}
use Rattle.rd_wf.specs.Roster.{RosterStandsFor, thread_entry, found_thread}
use Rattle.rd_tables.specs.declared.locks.Lock.{Lock}
use Rattle.rd_wf.specs.declared.roster.Roster.{Roster}
use Rattle.rd_rules.proofs.PlaceLemmas.{got_contained}
use Rattle.rd_wf.proofs.RosterLemmas.{lock_at, thread_keys}
use Rattle.rd_tables.proofs.LookupLemmas.{place_of}

-- no two locks have one name
lock_differs : (locks : List (List ℕ)) (acquired : Option (List ℕ)) → IsDistinct same_name locks → IsDistinct same_name (with_lock locks acquired)
lock_differs locks None differ = differ
lock_differs locks (Some lock) differ = by (is_among locks lock) refl
  where
    by : (b : Bool) → is_among locks lock ≡ b → IsDistinct same_name (cond b locks (locks ++ lock ∷ []))
    by true there = differ
    by false fresh = IsDistinct-push nat_list_eq_equiv locks lock differ fresh

locks_from_differ : (locks : List (List ℕ)) (lines : List Line) → IsDistinct same_name locks → IsDistinct same_name (with_locks locks lines)
locks_from_differ locks [] differ = differ
locks_from_differ locks (line ∷ lines) differ = locks_from_differ (with_lock locks (taken_name line)) lines (lock_differs locks (taken_name line) differ)

locks_differ : (lines : List Line) → IsDistinct same_name (locks_of lines)
unfolding IsDistinct
locks_differ lines = locks_from_differ [] lines tt

-- ---- what stands at a number

module _ (kinds : List Kind) (roster : Roster) (lines : List Line) (stands : RosterStandsFor kinds roster lines) where
  thread_at : (i : ℕ) (e : List ℕ × Bool) → slice_get roster.threads.entries i ≡ Some e → slice_get (threads_of lines) i ≡ Some e.0
  thread_at i e at =
      ap (λ names. slice_get names i) (sym (thread_keys kinds roster lines stands))
      ∙ slice_get-map (λ entry. entry.0) roster.threads.entries i ∙ ap (option_map (λ entry. entry.0)) at

  pub thread_near : (i : ℕ) (name : List ℕ) (joined : Bool) → slice_get roster.threads.entries i ≡ Some (name, joined)
      → found_thread lines name ≡ record { number = i; unknown = false; joined = joined }
  thread_near i name joined at =
      let there : slice_get (threads_of lines) i ≡ Some name = thread_at i (name, joined) at in
      let entry : Some (thread_entry lines name) ≡ Some (name, joined) =
      sym (ap (λ entries. slice_get entries i) stands.thread_entries ∙ slice_get-map (thread_entry lines) (threads_of lines) i ∙ ap (option_map (thread_entry lines)) there) ∙ at in
      λ j. record {
        number = place_of (threads_of lines) stands.threads_differ i name there j;
        unknown = not (got_contained (threads_of lines) i name there j);
        joined = (same_Some (thread_entry lines name) (name, joined) entry j).1;
      }

  pub lock_near : (i : ℕ) (name : List ℕ) (lock : Lock) → slice_get roster.locks.entries i ≡ Some (name, lock)
      → (i ≡ place (locks_of lines) name) × (false ≡ not (is_among (locks_of lines) name))
  lock_near i name lock at =
      let there : slice_get (locks_of lines) i ≡ Some name = lock_at kinds roster lines stands i (name, lock) at in (
        sym (place_of (locks_of lines) (locks_differ lines) i name there),
        ap not (sym (got_contained (locks_of lines) i name there)),
      )
