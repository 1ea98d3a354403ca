-- What a roster holds after a line that acquires or releases a lock which it knows, by the numbers that were found.
use Rattle.std.proofs.Common.{◌≡◌, ℕ, ◌+◌, ◌-◌, ◌<◌, List, [], ◌∷◌, ◌++◌, None, sym, ap, subst, ◌∙◌}
use Rattle.indexmap.specs.Layout.{set_value_at}
use Rattle.rd_base.specs.declared.limits.Limits.{Limits}
use Rattle.rd_ecl.specs.Kinds.{Kind}
use Rattle.rd_event.specs.declared.events.Event.{Event as Numbered}
use Rattle.rd_event.specs.declared.events.Event.TheVariants as numbered
use Rattle.rd_event.specs.declared.items.Line.{Line}
use Rattle.rd_event.specs.declared.items.Line.TheVariants.{Event}
use Rattle.rd_event.specs.declared.items.LineEvent.{LineEvent}
use Rattle.rd_event.specs.declared.items.LineEvent.TheVariants.{Release}
use Rattle.rd_rules.specs.declared.causes.Accepted.TheVariants as accepted
use Rattle.rd_tables.specs.declared.locks.Lock.{Lock}
use Rattle.rd_wf.specs.declared.roster.Roster.{Roster}
use Rattle.rd_tables.specs.declared.found.FoundLock.{FoundLock}
use Rattle.rd_rules.specs.MayFollow.{accepted_of, first_broken, place, threads_of}
use Rattle.rd_tables.specs.Tables.{depth_of}
use Rattle.rd_wf.specs.Roster.{IsFoundLock, RosterStandsFor, lock_count, lock_in}
use Rattle.rd_rules.proofs.FollowLemmas.{known_thread}
use Rattle.rd_wf.proofs.NextLemmas.{IsWritten, after_release, lock_below, same_locks, written_known}

module _ (kinds : List Kind) (limits : Limits) (old new : Roster) (lines : List Line) (stands : RosterStandsFor kinds old lines)
    (same_kinds : new.kinds.entries ≡ old.kinds.entries) (same_shares : new.shares ≡ old.shares) (header : new.header ≡ old.header) (events : new.events ≡ old.events + 1)
    (threads : new.threads.entries ≡ old.threads.entries) (objects : new.objects.entries ≡ old.objects.entries)
    (thread lock : List ℕ) (actor : ℕ) (found : FoundLock) (is : IsFoundLock old lock found) (below : found.number < lock_count old)
    (depth : ℕ) (deep : depth ≡ found.lock.depth) (own : depth_of found.lock actor ≡ depth) where
  -- the event may follow, and is this in numbers
  abbrev pub IsTold : LineEvent → Numbered → Type 0
  IsTold event number = (first_broken kinds limits lines (Event event) ≡ None) × (accepted.Event number ≡ accepted_of kinds lines (Event event))

  held_before : depth ≡ (lock_in old lock).depth
  held_before = deep ∙ ap (λ held. held.depth) is.lock

  held_alone : actor ≡ place (threads_of lines) thread → depth_of (lock_in old lock) (place (threads_of lines) thread) ≡ (lock_in old lock).depth
  held_alone at = (λ i. depth_of (sym is.lock i) (sym at i)) ∙ own ∙ held_before

  written : (held : Lock) → new.locks.entries ≡ set_value_at old.locks.entries found.number held → IsWritten kinds old lines stands lock held new.locks.entries
  written held e =
      let number = (is.numbers kinds lines stands).0 in
      subst (IsWritten kinds old lines stands lock held) (sym (e ∙ ap (λ i. set_value_at old.locks.entries i held) number))
      (written_known kinds old lines stands lock held (lock_below kinds old lines stands lock held found.number number below))

  pub released_known : IsTold (Release thread lock) (numbered.Release actor found.number)
      → new.locks.entries ≡ set_value_at old.locks.entries found.number (record { holder = actor; depth = depth - 1 }) → 0 < depth
      → RosterStandsFor kinds new (lines ++ Event (Release thread lock) ∷ [])
  unfolding accepted_of
  released_known told e some =
      let held : Lock = record { holder = actor; depth = depth - 1 } in
      let at : actor ≡ place (threads_of lines) thread = cc told.1 in
      let there = lock_below kinds old lines stands lock held found.number (is.numbers kinds lines stands).0 below in
      let put = written held e in
      after_release kinds old new lines stands same_kinds same_shares thread lock held header events threads objects (known_thread kinds limits lines (Release thread lock) told.0) at
      (held_alone at) put.0 (put.1 ∙ same_locks kinds old lines stands lock held there) (subst (λ n. 0 < n) held_before some) (ap (λ n. n - 1) held_before)
