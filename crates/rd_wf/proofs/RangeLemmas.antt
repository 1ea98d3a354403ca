-- The numbers of accepted lines have their bits.
use Rattle.std.proofs.Common.{◌≡◌, ℕ, zero, suc, ◌<◌, ◌≤◌, List, [], ◌∷◌, Option, Some, None, Result, Ok, Err, IfOk, length, slice_get, unwrap_or, refl, sym, subst, arith}
use Rattle.std.proofs.lemmas.List.{length-map}
use Rattle.std.proofs.lemmas.List.Sums.{prefix_len-le-length}
use Rattle.indexmap.specs.IndexMap.{index_map_len}
use Rattle.rd_base.specs.declared.limits.Limits.{Limits}
use Rattle.rd_event.specs.Events.{EventInRange}
use Rattle.rd_event.specs.Items.{IsEvent, LineInRange}
use Rattle.rd_event.specs.declared.items.Line.{Line}
use Rattle.rd_event.specs.declared.items.Line.TheVariants.{Skip, Header, Thread, Object, Event}
use Rattle.rd_event.specs.declared.items.LineEvent.{LineEvent}
use Rattle.rd_event.specs.declared.items.LineEvent.TheVariants.{Fork, Join, Acquire, Release, Share, Unshare, Call}
use Rattle.rd_ecl.specs.Kinds.{Kind, kind_names, method_names, methods_at}
use Rattle.rd_rules.specs.declared.causes.Accepted.{Accepted}
use Rattle.rd_rules.specs.declared.causes.WfRefused.{WfRefused}
use Rattle.rd_tables.specs.declared.methods.Methods.{Methods}
use Rattle.rd_wf.specs.declared.roster.Roster.{Roster}
use Rattle.rd_rules.specs.Events.{AcceptedInRange}
use Rattle.rd_rules.specs.MayFollow.{accepted_of, kind_number, method_number, numbered_event, object_kinds, objects_of, place, threads_of, locks_of, methods_of}
use Rattle.rd_tables.specs.Tables.{method_entry, methods_in}
use Rattle.rd_wf.specs.Roster.{Accepts, RosterStandsFor}
use Rattle.rd_wf.proofs.RosterLemmas.{kind_methods, kinds_total, no_methods}

place_le : (names : List (List ℕ)) (name : List ℕ) → place names name ≤ length names
place_le names name = prefix_len-le-length _ names

-- the number of an object's kind is at most that of the kinds
kind_le : (kinds : List Kind) (lines : List Line) (i : ℕ) → unwrap_or (slice_get (object_kinds kinds lines) i) (length kinds) ≤ length kinds
kind_le kinds [] i = omega arith
kind_le kinds (Object name kind ∷ lines) zero = subst (λ n. place (kind_names kinds) kind ≤ n) (length-map kinds (λ k. k.name)) (place_le (kind_names kinds) kind)
kind_le kinds (Object name kind ∷ lines) (suc i) = kind_le kinds lines i
kind_le kinds (Skip ∷ lines) i = kind_le kinds lines i
kind_le kinds (Header version ∷ lines) i = kind_le kinds lines i
kind_le kinds (Thread thread ∷ lines) i = kind_le kinds lines i
kind_le kinds (Event event ∷ lines) i = kind_le kinds lines i

module _ (kinds : List Kind) (roster : Roster) (lines : List Line) (stands : RosterStandsFor kinds roster lines) where
  few_kinds : length kinds < 4294967296
  few_kinds = let few = roster.few_kinds in omega (arith, kinds_total kinds roster lines stands)

  few_methods : (number : ℕ) → length (methods_at kinds number) < 256
  few_methods number = by (slice_get roster.kinds.entries number) refl
    where
      by : (o : Option (List ℕ × Methods)) → slice_get roster.kinds.entries number ≡ o → length (methods_at kinds number) < 256
      by None none = subst (λ ms. length ms < 256) (sym (no_methods kinds roster lines stands number none)) (omega arith)
      by (Some entry) at =
          let size : length (methods_in entry.1) ≡ index_map_len entry.1.slots = length-map entry.1.slots.entries method_entry in
          let few = entry.1.few in
          subst (λ ms. length ms < 256) (kind_methods kinds roster lines stands number entry at) (omega (arith, size))

  thread_fits : (thread : List ℕ) → place (threads_of lines) thread < 4294967296
  thread_fits thread = let few = roster.few_threads in omega (arith, place_le (threads_of lines) thread, stands.thread_total)

  lock_fits : (lock : List ℕ) → place (locks_of lines) lock < 4294967296
  lock_fits lock = let few = roster.few_locks in omega (arith, place_le (locks_of lines) lock, stands.lock_total)

  object_fits : (object : List ℕ) → place (objects_of lines) object < 4294967296
  object_fits object = let few = roster.few_objects in omega (arith, place_le (objects_of lines) object, stands.object_total)

  kind_fits : (object : List ℕ) → kind_number kinds lines object < 4294967296
  kind_fits object = omega (arith, kind_le kinds lines (place (objects_of lines) object), few_kinds)

  method_fits : (object method : List ℕ) → method_number kinds lines object method < 256
  method_fits object method =
      let names = method_names (methods_of kinds lines object) in
      let size : length names ≡ length (methods_of kinds lines object) = length-map (methods_of kinds lines object) (λ m. m.name) in
      omega (arith, place_le names method, size, few_methods (kind_number kinds lines object))

  event_fits : (event : LineEvent) → IsEvent event → EventInRange (numbered_event kinds lines event)
  event_fits (Fork thread child) is = (thread_fits thread, let few = roster.few_threads in omega (arith, stands.thread_total))
  event_fits (Join thread child) is = (thread_fits thread, thread_fits child)
  event_fits (Acquire thread lock) is = (thread_fits thread, lock_fits lock)
  event_fits (Release thread lock) is = (thread_fits thread, lock_fits lock)
  event_fits (Share thread lock) is = (thread_fits thread, lock_fits lock)
  event_fits (Unshare thread lock) is = (thread_fits thread, lock_fits lock)
  event_fits (Call thread object method slots) is = record {
    thread = thread_fits thread;
    object = object_fits object;
    kind = kind_fits object;
    method = method_fits object method;
    slots = is.3;
  }

  accepted_fits : (line : Line) → LineInRange line → AcceptedInRange (accepted_of kinds lines line)
  unfolding accepted_of
  accepted_fits Skip is = tt
  accepted_fits (Header version) is = tt
  accepted_fits (Thread thread) is = let few = roster.few_threads in omega (arith, stands.thread_total)
  accepted_fits (Object name kind) is = (
    let few = roster.few_objects in omega (arith, stands.object_total),
    let size : length (kind_names kinds) ≡ length kinds = length-map kinds (λ k. k.name) in
        omega (arith, place_le (kind_names kinds) kind, size, few_kinds),
  )
  accepted_fits (Event event) is = event_fits event is

pub ok_range : (old new : Roster) (limits : Limits) (line : Line) (r : Result Accepted WfRefused) → IfOk r (Accepts old new limits line)
    → IfOk r (λ accepted. (kinds : List Kind) (lines : List Line) → RosterStandsFor kinds old lines → LineInRange line → AcceptedInRange accepted)
ok_range old new limits line (Ok accepted) accepts = λ kinds lines stands is.
    let told = accepts kinds lines stands in subst AcceptedInRange (sym told.1) (accepted_fits kinds old lines stands line is)
ok_range old new limits line (Err e) accepts = tt
