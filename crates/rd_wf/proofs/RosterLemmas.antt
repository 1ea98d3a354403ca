-- What a roster tells of the accepted lines that it stands for.
use Rattle.std.proofs.Common.{◌≡◌, ℕ, zero, suc, ◌+◌, ◌<◌, Bool, true, false, not, cond, ◌==◌, ◌||◌, ◌&&◌, ltb, leb, List, [], ◌∷◌, ◌++◌, map, Option, Some, None, is_some, IfSome, filter_map, length, get_or, slice_get, option_map, unwrap_or, if◌then◌else◌, nat_lt, nat_le, refl, sym, ap, subst, ◌∙◌, arith, true≢false}
use Rattle.std.specs.Map.{lookup, keys_of}
use Rattle.std.specs.Cmp.Lexicographic.{bytes_decides, nat_list_eq_equiv}
use Rattle.std.proofs.lemmas.Bool.Decides.{Decides-ltb, nat_tests}
use Rattle.std.proofs.lemmas.List.{length-map}
use Rattle.std.proofs.lemmas.List.Sums.{sum_by-cons}
use Rattle.std.proofs.lemmas.Bool.{false_from_ne_true, or_parts}
use Rattle.std.proofs.Math.Bool.{not-not}
use Rattle.indexmap.specs.IndexMap.{get_by, index_map_len, index_of_by, insert_entry}
use Rattle.indexmap.proofs.CallerLemmas.{insert_entry-new}
use Rattle.std.proofs.lemmas.Option.{slice_get-map, slice_get-get_or}
use Rattle.rd_base.specs.declared.limits.Limits.{Limits}
use Rattle.rd_base.specs.declared.values.Value.{Value}
use Rattle.rd_base.specs.declared.limits.LimitName.TheVariants.{Events, Threads, Locks, Objects, Depth}
use Rattle.rd_event.specs.declared.items.Line.{Line}
use Rattle.rd_event.specs.declared.items.Line.TheVariants.{Skip, Header, Thread, Object, Event}
use Rattle.rd_event.specs.declared.items.LineEvent.TheVariants.{Fork, Join, Acquire, Release, Share, Unshare, Call}
use Rattle.rd_rules.specs.declared.causes.WfCause.TheVariants.{HeaderFirst, LateRoot, NameTaken, UnknownThread, ThreadEnded, OwnThread, UnknownKind, UnknownObject, UnknownMethod, WrongCount, LockHeld, NotHeld, Limit}
use Rattle.rd_wf.specs.declared.roster.Roster.{Roster}
use Rattle.rd_tables.specs.declared.methods.FoundMethod.{FoundMethod}
use Rattle.rd_tables.specs.declared.methods.Methods.{Methods}
use Rattle.rd_tables.specs.declared.found.FoundObject.{FoundObject}
use Rattle.rd_tables.specs.declared.found.FoundThread.{FoundThread}
use Rattle.rd_rules.proofs.FollowLemmas.{among_decides, late}
use Rattle.std.specs.Prelude.{find}
use Rattle.rd_tables.specs.declared.locks.Lock.{Lock}
use Rattle.rd_rules.specs.declared.broken.Broken.{Broken}
use Rattle.rd_tables.specs.declared.found.FoundLock.{FoundLock}
use Rattle.rd_rules.proofs.CauseLemmas.{none_holds}
use Rattle.rd_wf.proofs.CauseLemmas.{least_found, same_found}
use Rattle.rd_tables.proofs.NameLemmas.{same_place, place_at, place_known, place_unknown}
use Rattle.rd_wf.proofs.LockLemmas.{and-false, free_test, not_held_test, deep_test, holder_below, holder_known, holder_least}
use Rattle.rd_tables.proofs.ShareLemmas.{least_within}
use Rattle.rd_rules.specs.MayFollow.{threads_of, joined_of, locks_of, objects_of, acquires, releases, shares, unshares, header_of, headers, is_header, events, same_name, is_among, passes, place, methods_of, object_kinds, holders, causes, is_broken, first_broken}
use Rattle.rd_ecl.specs.Kinds.{Kind, kind_names, methods_at}
use Rattle.rd_tables.specs.Shares.{is_other_sharer, share_depth}
use Rattle.rd_tables.specs.Sharers.{IsLeast}
use Rattle.rd_rules.specs.Broken.{flag, nothing_broken}
use Rattle.rd_tables.specs.Tables.{kind_entry, methods_in, depth_of, is_other_holder, other_holder, found_method}
use Rattle.rd_wf.specs.Roster.{RosterStandsFor, thread_entry, object_entry, thread_count, lock_count, object_count, lock_in, found_thread, found_object}
use Rattle.rd_tables.proofs.LookupLemmas.{known_in, unknown_in, place_in, entry_in, none_is}

-- where a part in front holds, what holds behind it isn't told
behind_unknown : {X : Type 0} (unknown ended own other : Bool) (x y z w : Option X) → (unknown ≡ false → own ≡ other)
    → cond unknown x (cond ended y (cond own z w)) ≡ cond unknown x (cond ended y (cond other z w))
behind_unknown true ended own other x y z w same = refl
behind_unknown false ended own other x y z w same = ap (λ b. cond ended y (cond b z w)) (same refl)

-- ---- look-ups

pub or-false : (b : Bool) → (b || false) ≡ b
or-false true = refl
or-false false = refl

pub or-true : (b : Bool) → true ≡ (b || true)
or-true true = refl
or-true false = refl

module _ {X : Type 0} (entry : List ℕ → List ℕ × X) (named : (name : List ℕ) → (entry name).0 ≡ name) where
  keys-entries : (names : List (List ℕ)) → keys_of (map entry names) ≡ names
  keys-entries [] = refl
  keys-entries (x ∷ xs) = λ i. named x i ∷ keys-entries xs i

-- what a look-up finds is the entry of the name
lookup-entries : (lines : List Line) (name : List ℕ) (names : List (List ℕ)) (joined : Bool) → lookup (same_name name) (map (thread_entry lines) names) ≡ Some joined
    → joined ≡ is_among (joined_of lines) name
lookup-entries lines name [] joined e = cc
lookup-entries lines name (x ∷ xs) joined e = by (same_name name x) refl (lookup-entries lines name xs joined)
  where
    Rest : Type 0
    Rest = lookup (same_name name) (map (thread_entry lines) xs) ≡ Some joined → joined ≡ is_among (joined_of lines) name

    by : (b : Bool) → same_name name x ≡ b → (lookup (same_name name) (map (thread_entry lines) xs) ≡ Some joined → joined ≡ is_among (joined_of lines) name) → joined ≡ is_among (joined_of lines) name
    by true same rest =
        let here : Some (is_among (joined_of lines) x) ≡ Some joined =
        sym (ap (λ b. cond b (Some (is_among (joined_of lines) x)) (lookup (same_name name) (map (thread_entry lines) xs))) same) ∙ e in
        let named : name ≡ x = (bytes_decides name x).0 same in
        cc
    by false other rest =
        rest (sym (ap (λ b. cond b (Some (is_among (joined_of lines) x)) (lookup (same_name name) (map (thread_entry lines) xs))) other) ∙ e)

pub keys-objects : (kinds : List Kind) (lines : List Line) → keys_of (filter_map (object_entry kinds) lines) ≡ objects_of lines
keys-objects kinds [] = refl
keys-objects kinds (Skip ∷ lines) = keys-objects kinds lines
keys-objects kinds (Header version ∷ lines) = keys-objects kinds lines
keys-objects kinds (Thread name ∷ lines) = keys-objects kinds lines
keys-objects kinds (Object name kind ∷ lines) = ap (λ names. name ∷ names) (keys-objects kinds lines)
keys-objects kinds (Event event ∷ lines) = keys-objects kinds lines

kinds-objects : (kinds : List Kind) (lines : List Line) → map (λ (e : List ℕ × ℕ). e.1) (filter_map (object_entry kinds) lines) ≡ object_kinds kinds lines
kinds-objects kinds [] = refl
kinds-objects kinds (Skip ∷ lines) = kinds-objects kinds lines
kinds-objects kinds (Header version ∷ lines) = kinds-objects kinds lines
kinds-objects kinds (Thread name ∷ lines) = kinds-objects kinds lines
kinds-objects kinds (Object name kind ∷ lines) = ap (λ numbers. place (kind_names kinds) kind ∷ numbers) (kinds-objects kinds lines)
kinds-objects kinds (Event event ∷ lines) = kinds-objects kinds lines

names-kinds : (entries : List (List ℕ × Methods)) → keys_of entries ≡ kind_names (map kind_entry entries)
names-kinds [] = refl
names-kinds (e ∷ es) = ap (λ names. e.0 ∷ names) (names-kinds es)

-- ---- headers

-- there is a version exactly where there is a header
pub header_test : (lines : List Line) → is_some (header_of lines) ≡ nat_lt 0 (headers lines)
header_test [] = refl
header_test (Header version ∷ lines) =
    let more : headers (Header version ∷ lines) ≡ 1 + headers lines = sum_by-cons (λ line. cond (is_header line) 1 0) (Header version) lines in
    sym ((Decides-ltb 0 (headers (Header version ∷ lines))).1 (omega arith))
header_test (Skip ∷ lines) = header_test lines
header_test (Thread name ∷ lines) = header_test lines
header_test (Object name kind ∷ lines) = header_test lines
header_test (Event event ∷ lines) = header_test lines

-- ---- the flags that a line's look-ups set

module _ (roster : Roster) (limits : Limits) (first : Bool) where
  abbrev pub root_flags : Bool → ℕ → Broken
  root_flags taken count =
      record nothing_broken { header_first = first; late_root = nat_lt 0 roster.events; name_taken = taken; threads = nat_le limits.threads count }

  abbrev pub object_flags : Bool → Bool → ℕ → Broken
  object_flags taken unknown count = record nothing_broken { header_first = first; name_taken = taken; unknown_kind = unknown; objects = nat_le limits.objects count }

  -- those that each event sets
  abbrev pub event_flags : FoundThread → Broken
  event_flags actor =
      record nothing_broken { header_first = first; unknown_thread = actor.unknown; thread_ended = actor.joined; events = nat_le limits.events roster.events }

  abbrev pub fork_flags : FoundThread → Bool → ℕ → Broken
  fork_flags actor taken count = record (event_flags actor) { name_taken = taken; threads = nat_le limits.threads count }

  abbrev pub join_flags : FoundThread → FoundThread → Bool → Broken
  join_flags actor awaited own = record (event_flags actor) { unknown_thread = actor.unknown || awaited.unknown; own_thread = own }

  abbrev pub call_flags : FoundThread → FoundObject → FoundMethod → ℕ → ℕ → Broken
  call_flags actor found method slots count = record (event_flags actor) { unknown_object = found.unknown; unknown_method = method.unknown; wrong_count = not (slots == count) }

  abbrev pub acquire_flags : FoundThread → FoundLock → Option ℕ → ℕ → Broken
  acquire_flags actor found held_by depth =
      record (event_flags actor) { held_by = held_by; locks = found.unknown && nat_le limits.locks found.number; depth = nat_le limits.depth depth }

  abbrev pub release_flags : FoundThread → ℕ → Broken
  release_flags actor depth = record (event_flags actor) { not_held = depth == 0 }

-- where a name is taken by none before, it is not joined
pub not_joined : (kinds : List Kind) (roster : Roster) (lines : List Line) → RosterStandsFor kinds roster lines → (name : List ℕ) → is_among (threads_of lines) name ≡ false → is_among (joined_of lines) name ≡ false
not_joined kinds roster lines stands name fresh = false_from_ne_true _ (λ joined.
    true≢false (sym ((among_decides (threads_of lines) name).1 (stands.joined_begun name ((among_decides (joined_of lines) name).0 joined))) ∙ fresh))

module _ (kinds : List Kind) (roster : Roster) (lines : List Line) (stands : RosterStandsFor kinds roster lines) where
  pub thread_keys : keys_of roster.threads.entries ≡ threads_of lines
  thread_keys = ap keys_of stands.thread_entries ∙ keys-entries (thread_entry lines) (λ name. refl) (threads_of lines)

  pub object_keys : keys_of roster.objects.entries ≡ objects_of lines
  object_keys = ap keys_of stands.object_entries ∙ keys-objects kinds lines

  -- whether a name is known
  thread_known : (name : List ℕ) → is_some (get_by (same_name name) roster.threads) ≡ is_among (threads_of lines) name
  thread_known name = known_in roster.threads.entries (threads_of lines) thread_keys name

  pub object_known : (name : List ℕ) → is_some (get_by (same_name name) roster.objects) ≡ is_among (objects_of lines) name
  object_known name = known_in roster.objects.entries (objects_of lines) object_keys name

  joined_is : (name : List ℕ) (joined : Option Bool) → get_by (same_name name) roster.threads ≡ joined → is_among (joined_of lines) name ≡ unwrap_or joined false
  joined_is name None e = not_joined kinds roster lines stands name (sym (thread_known name) ∙ ap is_some e)
  joined_is name (Some joined) e = sym (lookup-entries lines name (threads_of lines) joined (sym (ap (lookup (same_name name)) stands.thread_entries) ∙ e))

  -- what a look-up of a thread finds
  pub thread_found : (name : List ℕ) (index : Option ℕ) (joined : Option Bool) → index_of_by (same_name name) roster.threads ≡ index → get_by (same_name name) roster.threads ≡ joined
      → found_thread lines name ≡ record { number = unwrap_or index (thread_count roster); unknown = not (is_some joined); joined = unwrap_or joined false }
  thread_found name index joined at value =
      λ i. record {
        number = place_in roster.threads.entries (threads_of lines) thread_keys name index at i;
        unknown = unknown_in roster.threads.entries (threads_of lines) thread_keys name joined value i;
        joined = joined_is name joined value i;
      }

  names_are : keys_of roster.kinds.entries ≡ kind_names kinds
  names_are = names-kinds roster.kinds.entries ∙ ap kind_names stands.kind_entries

  pub kinds_total : index_map_len roster.kinds ≡ length kinds
  kinds_total = sym (length-map roster.kinds.entries kind_entry) ∙ ap length stands.kind_entries

  pub kind_place : (kind : List ℕ) (o : Option ℕ) → o ≡ index_of_by (same_name kind) roster.kinds → unwrap_or o (index_map_len roster.kinds) ≡ place (kind_names kinds) kind
  kind_place kind o e = sym (place_in roster.kinds.entries (kind_names kinds) names_are kind o (sym e))

  kind_known : (kind : List ℕ) → is_some (get_by (same_name kind) roster.kinds) ≡ is_among (kind_names kinds) kind
  kind_known kind = known_in roster.kinds.entries (kind_names kinds) names_are kind

  -- the methods of a kind, by its number
  kind_at : (i : ℕ) → slice_get kinds i ≡ option_map kind_entry (slice_get roster.kinds.entries i)
  kind_at i = ap (λ ks. slice_get ks i) (sym stands.kind_entries) ∙ slice_get-map kind_entry roster.kinds.entries i

  pub kind_methods : (i : ℕ) (e : List ℕ × Methods) → slice_get roster.kinds.entries i ≡ Some e → methods_in e.1 ≡ methods_at kinds i
  kind_methods i e at = sym (ap (λ o. unwrap_or (option_map (λ (kind : Kind). kind.methods) o) []) (kind_at i ∙ ap (option_map kind_entry) at))

  pub no_methods : (i : ℕ) → slice_get roster.kinds.entries i ≡ None → methods_at kinds i ≡ []
  no_methods i none = ap (λ o. unwrap_or (option_map (λ (kind : Kind). kind.methods) o) []) (kind_at i ∙ ap (option_map kind_entry) none)

  -- what a look-up of an object finds
  object_kind : (i : ℕ) → slice_get (object_kinds kinds lines) i ≡ option_map (λ e. e.1) (slice_get roster.objects.entries i)
  object_kind i =
      ap (λ numbers. slice_get numbers i) (sym (ap (map (λ (e : List ℕ × ℕ). e.1)) stands.object_entries ∙ kinds-objects kinds lines))
      ∙ slice_get-map (λ (e : List ℕ × ℕ). e.1) roster.objects.entries i

  pub object_found : (name : List ℕ) (index kind : Option ℕ) → index_of_by (same_name name) roster.objects ≡ index → get_by (same_name name) roster.objects ≡ kind
      → found_object kinds lines name ≡ record { number = unwrap_or index (object_count roster); unknown = not (is_some kind); kind = unwrap_or kind (index_map_len roster.kinds) }
  object_found name index kind at value =
      let number : option_map (λ e. e.1) (slice_get roster.objects.entries (place (objects_of lines) name)) ≡ kind =
      entry_in roster.objects.entries (objects_of lines) object_keys name kind value in
      λ i. record {
        number = place_in roster.objects.entries (objects_of lines) object_keys name index at i;
        unknown = unknown_in roster.objects.entries (objects_of lines) object_keys name kind value i;
        kind = unwrap_or ((object_kind (place (objects_of lines) name) ∙ number) i) (sym kinds_total i);
      }

  -- the name of an object
  pub object_at : (i : ℕ) (e : List ℕ × ℕ) → slice_get roster.objects.entries i ≡ Some e → slice_get (objects_of lines) i ≡ Some e.0
  object_at i e at = ap (λ names. slice_get names i) (sym object_keys) ∙ slice_get-map (λ e. e.0) roster.objects.entries i ∙ ap (option_map (λ e. e.0)) at

  -- what a look-up of a lock finds
  lock_keys : keys_of roster.locks.entries ≡ locks_of lines
  lock_keys = stands.lock_names

  pub lock_number : (name : List ℕ) (index : Option ℕ) → index_of_by (same_name name) roster.locks ≡ index → unwrap_or index (lock_count roster) ≡ place (locks_of lines) name
  lock_number name index at = sym (place_in roster.locks.entries (locks_of lines) lock_keys name index at)

  pub lock_unknown : (name : List ℕ) (lock : Option Lock) → get_by (same_name name) roster.locks ≡ lock → not (is_some lock) ≡ not (is_among (locks_of lines) name)
  lock_unknown name lock value = sym (unknown_in roster.locks.entries (locks_of lines) lock_keys name lock value)

  -- the name of a lock
  pub lock_at : (i : ℕ) (e : List ℕ × Lock) → slice_get roster.locks.entries i ≡ Some e → slice_get (locks_of lines) i ≡ Some e.0
  lock_at i e at = ap (λ names. slice_get names i) (sym lock_keys) ∙ slice_get-map (λ e. e.0) roster.locks.entries i ∙ ap (option_map (λ e. e.0)) at

  -- a new name goes last
  pub inserted_lock : (name : List ℕ) (lock : Lock) → is_among (locks_of lines) name ≡ false
      → insert_entry same_name roster.locks.entries name lock ≡ roster.locks.entries ++ (name, lock) ∷ []
  inserted_lock name lock fresh = insert_entry-new same_name roster.locks name lock (none_is _ (known_in roster.locks.entries (locks_of lines) lock_keys name ∙ fresh))

  pub inserted_thread : (name : List ℕ) (joined : Bool) → is_among (threads_of lines) name ≡ false
      → insert_entry same_name roster.threads.entries name joined ≡ roster.threads.entries ++ (name, joined) ∷ []
  inserted_thread name joined fresh = insert_entry-new same_name roster.threads name joined (none_is _ (thread_known name ∙ fresh))

  pub inserted_object : (name : List ℕ) (kind : ℕ) → is_among (objects_of lines) name ≡ false
      → insert_entry same_name roster.objects.entries name kind ≡ roster.objects.entries ++ (name, kind) ∷ []
  inserted_object name kind fresh = insert_entry-new same_name roster.objects name kind (none_is _ (object_known name ∙ fresh))

  -- ---- what each line breaks first, by the roster

  -- the search goes the same way among the holders and behind them
  behind : (limits : Limits) (line : Line) (broken : Broken) → find (is_broken kinds lines line) (late limits) ≡ find (flag broken) (late limits)
      → ((holder : ℕ) → holder < length (threads_of lines) → is_broken kinds lines line (LockHeld holder) ≡ flag broken (LockHeld holder))
      → find (is_broken kinds lines line) (holders lines ++ late limits) ≡ find (flag broken) (holders lines ++ late limits)
  behind limits line broken same agree =
      same_found (is_broken kinds lines line) (flag broken) (late limits) same 0 (length (threads_of lines)) (λ holder below. agree holder (omega arith))

  has_header : nat_lt 0 (headers lines) ≡ is_some roster.header
  has_header = sym (header_test lines) ∙ ap is_some (sym stands.header_version)

  unknown_thread : (name : List ℕ) (found : FoundThread) → found ≡ found_thread lines name → (not (is_among (threads_of lines) name) || false) ≡ found.unknown
  unknown_thread name found is = or-false _ ∙ ap (λ found. found.unknown) (sym is)

  pub header_judged : (limits : Limits) (version : ℕ) → first_broken kinds limits lines (Header version) ≡ (if is_some roster.header then Some HeaderFirst else None)
  unfolding first_broken
  header_judged limits version =
      λ i. cond (has_header i) (Some HeaderFirst)
      ((behind limits (Header version) nothing_broken refl (λ holder below. refl) ∙ none_holds nothing_broken (late limits) refl 0 (length (threads_of lines))) i)

  -- a thread with the lock, or with a share of it, was begun
  pub holder_within : (lock : List ℕ) (held : Lock) (held_by : Option ℕ) (thread : ℕ) → held ≡ lock_in roster lock → held_by ≡ other_holder held thread
      → IfSome held_by (λ holder. holder < length (threads_of lines))
  holder_within lock held held_by thread is holds =
      subst (λ o. IfSome o (λ holder. holder < length (threads_of lines))) (sym (holds ∙ ap (λ lock. other_holder lock thread) is))
      (holder_below (lock_in roster lock) thread (length (threads_of lines)) (stands.holders_begun lock))

  -- what stands against an acquire of the lock that was found
  abbrev pub stands_against : FoundLock → ℕ → ℕ → Bool
  stands_against found thread other = is_other_holder found.lock thread other || is_other_sharer roster.shares found.number thread other

  pub against_within : (lock : List ℕ) (found : FoundLock) (thread : ℕ) (held_by : Option ℕ) → found.lock ≡ lock_in roster lock
      → IsLeast (stands_against found thread) held_by → IfSome held_by (λ holder. holder < length (threads_of lines))
  against_within lock found thread held_by is least = least_within (stands_against found thread) held_by (length (threads_of lines)) least below
    where
      has : (own : Bool) (depth : ℕ) → (not own && not (depth == 0)) ≡ true → 0 < depth
      has own zero h = absurd (true≢false (sym h ∙ and-false (not own)))
      has own (suc depth) h = omega arith

      begun : 0 < found.lock.depth → found.lock.holder < length (threads_of lines)
      begun = subst (λ (l : Lock). 0 < l.depth → l.holder < length (threads_of lines)) (sym is) (stands.holders_begun lock)

      below : (n : ℕ) → stands_against found thread n ≡ true → n < length (threads_of lines)
      below n h = by (is_other_holder found.lock thread n) refl
        where
          by : (b : Bool) → is_other_holder found.lock thread n ≡ b → n < length (threads_of lines)
          by true holds = holder_known found.lock (length (threads_of lines)) n begun (has (thread == n) (depth_of found.lock n) holds)
          by false lacks =
              let shares_it : is_other_sharer roster.shares found.number thread n ≡ true = sym (ap (λ b. b || is_other_sharer roster.shares found.number thread n) lacks) ∙ h in
              (stands.sharers_begun found.number n (has (thread == n) (share_depth roster.shares found.number n) shares_it)).1

  -- the part of the search that looks at the limit of events alone
  events_alone : (limits : Limits) → cond (leb limits.events (events lines)) (Some (Limit Events limits.events)) None ≡ cond (leb limits.events roster.events) (Some (Limit Events limits.events)) None
  events_alone limits = λ i. cond (leb limits.events (sym stands.event_count i)) (Some (Limit Events limits.events)) None

  pub called_method : (object method : List ℕ) (found : FoundObject) (m : FoundMethod) → found ≡ found_object kinds lines object
      → m ≡ found_method (methods_at kinds found.kind) method → m ≡ found_method (methods_of kinds lines object) method
  called_method object method found m declared is = is ∙ ap (λ found. found_method (methods_at kinds found.kind) method) declared

  -- a thread stands against a line by what it took and didn't give back
  part_judged : (took gave : List ℕ → ℕ) (depth : ℕ → ℕ) → ((name : List ℕ) → took name ≡ gave name + depth (place (threads_of lines) name))
      → (thread : List ℕ) (holder : ℕ) → holder < length (threads_of lines)
      → passes (slice_get (threads_of lines) holder) (λ other. not (same_name other thread) && not (took other == gave other))
      ≡ (not (place (threads_of lines) thread == holder) && not (depth holder == 0))
  part_judged took gave depth so thread holder below =
      let threads = threads_of lines in
      let name : List ℕ = get_or threads holder [] in
      let at : place threads name ≡ holder = place_at threads stands.threads_differ holder below in
      let known : place threads name < length threads = omega arith in
      let same : same_name name thread ≡ (place threads thread == holder) =
      nat_list_eq_equiv.symm name thread ∙ same_place threads thread name known ∙ ap (λ n. place threads thread == n) at in
      let free : (took name == gave name) ≡ (depth holder == 0) = free_test _ _ _ (so name) ∙ ap (λ n. depth n == 0) at in
      ap (λ o. passes o (λ other. not (same_name other thread) && not (took other == gave other))) (slice_get-get_or threads holder [] below) ∙ (λ i. not (same i) && not (free i))

  -- whether a thread has the lock, or a share of it
  holder_judged : (thread lock : List ℕ) (holder : ℕ) → holder < length (threads_of lines)
      → passes (slice_get (threads_of lines) holder) (λ other. not (same_name other thread) && not (acquires lines other lock == releases lines other lock))
      ≡ is_other_holder (lock_in roster lock) (place (threads_of lines) thread) holder
  holder_judged thread lock = part_judged (λ t. acquires lines t lock) (λ t. releases lines t lock) (depth_of (lock_in roster lock)) (stands.lock_depths lock) thread

  sharer_judged : (thread lock : List ℕ) (holder : ℕ) → holder < length (threads_of lines)
      → passes (slice_get (threads_of lines) holder) (λ other. not (same_name other thread) && not (shares lines other lock == unshares lines other lock))
      ≡ is_other_sharer roster.shares (place (locks_of lines) lock) (place (threads_of lines) thread) holder
  sharer_judged thread lock =
      part_judged (λ t. shares lines t lock) (λ t. unshares lines t lock) (share_depth roster.shares (place (locks_of lines) lock)) (stands.share_depths lock) thread

  -- a lock is counted where it is new
  counted : (most : ℕ) (lock : List ℕ) (b : Bool) → is_among (locks_of lines) lock ≡ b
      → (not (is_among (locks_of lines) lock) && leb most (length (locks_of lines))) ≡ (not (is_among (locks_of lines) lock) && leb most (place (locks_of lines) lock))
  counted most lock true there = (λ i. not (there i) && leb most (length (locks_of lines))) ∙ (λ i. not (sym there i) && leb most (place (locks_of lines) lock))
  counted most lock false lacks = ap (λ n. not (is_among (locks_of lines) lock) && leb most n) (sym (place_unknown (locks_of lines) lock lacks))

  -- the search goes the same way among the threads where the one that is told is the least that stands against the line
  behind_least : (limits : Limits) (line : Line) (broken : Broken) (test : ℕ → Bool) → find (is_broken kinds lines line) (late limits) ≡ find (flag broken) (late limits)
      → ((n : ℕ) → n < length (threads_of lines) → is_broken kinds lines line (LockHeld n) ≡ test n)
      → IsLeast test broken.held_by → IfSome broken.held_by (λ holder. holder < length (threads_of lines))
      → find (is_broken kinds lines line) (holders lines ++ late limits) ≡ find (flag broken) (holders lines ++ late limits)
  behind_least limits line broken test same = least_found (is_broken kinds lines line) broken (late limits) (length (threads_of lines)) same test

  module _ (first : Bool) (lacks : is_some roster.header ≡ not first) where
    no_header : (headers lines == 0) ≡ first
    no_header = by (headers lines) ∙ ap not (has_header ∙ lacks) ∙ not-not first
      where
        by : (n : ℕ) → (n == 0) ≡ not (nat_lt 0 n)
        by zero = refl
        by (suc n) = grind (arith, nat_tests)

    pub root_judged : (limits : Limits) (name : List ℕ) (taken : Bool) (count : ℕ) → taken ≡ is_some (get_by (same_name name) roster.threads)
        → count ≡ thread_count roster → first_broken kinds limits lines (Thread name) ≡ find (flag (root_flags roster limits first taken count)) (causes limits lines)
    unfolding first_broken
    root_judged limits name taken count is counts =
        let test : (is_among (threads_of lines) name || false) ≡ taken = or-false _ ∙ sym (is ∙ thread_known name) in
        let rest = behind limits (Thread name) (root_flags roster limits first taken count)
        (λ i. cond (leb limits.threads (sym (counts ∙ stands.thread_total) i)) (Some (Limit Threads limits.threads)) None) (λ holder below. refl) in
        λ i. cond (no_header i) (Some HeaderFirst) (cond (ltb 0 (sym stands.event_count i)) (Some LateRoot) (cond (test i) (Some NameTaken) (rest i)))

    pub object_judged : (limits : Limits) (name kind : List ℕ) (taken unknown : Bool) (count : ℕ) → taken ≡ is_some (get_by (same_name name) roster.objects)
        → not unknown ≡ is_some (get_by (same_name kind) roster.kinds) → count ≡ object_count roster
        → first_broken kinds limits lines (Object name kind) ≡ find (flag (object_flags roster limits first taken unknown count)) (causes limits lines)
    unfolding first_broken
    object_judged limits name kind taken unknown count is known counts =
        let test : is_among (objects_of lines) name ≡ taken = sym (is ∙ object_known name) in
        let lacks : not (is_among (kind_names kinds) kind) ≡ unknown = ap not (sym (known ∙ kind_known kind)) ∙ not-not unknown in
        let rest = behind limits (Object name kind) (object_flags roster limits first taken unknown count)
        (λ i. cond (leb limits.objects (sym (counts ∙ stands.object_total) i)) (Some (Limit Objects limits.objects)) None) (λ holder below. refl) in
        λ i. cond (no_header i) (Some HeaderFirst) (cond (test i) (Some NameTaken) (cond (lacks i) (Some UnknownKind) (rest i)))

    pub fork_judged : (limits : Limits) (thread child : List ℕ) (actor : FoundThread) (taken : Bool) (count : ℕ) → actor ≡ found_thread lines thread
        → taken ≡ is_some (get_by (same_name child) roster.threads) → count ≡ thread_count roster
        → first_broken kinds limits lines (Event (Fork thread child)) ≡ find (flag (fork_flags roster limits first actor taken count)) (causes limits lines)
    unfolding first_broken
    fork_judged limits thread child actor taken count acts is counts =
        let test : (is_among (threads_of lines) child || false) ≡ taken = or-false _ ∙ sym (is ∙ thread_known child) in
        let rest = behind limits (Event (Fork thread child)) (fork_flags roster limits first actor taken count)
        (λ i. cond (leb limits.events (sym stands.event_count i)) (Some (Limit Events limits.events))
        (cond (leb limits.threads (sym (counts ∙ stands.thread_total) i)) (Some (Limit Threads limits.threads)) None)) (λ holder below. refl) in
        λ i. cond (no_header i) (Some HeaderFirst) (cond (test i) (Some NameTaken) (cond (unknown_thread thread actor acts i) (Some UnknownThread)
        (cond (sym acts i).joined (Some ThreadEnded) (rest i))))

    -- a thread joins itself where the numbers are the same, if both are known
    own_judged : (thread child : List ℕ) (actor awaited : FoundThread) → actor ≡ found_thread lines thread → awaited ≡ found_thread lines child
        → (actor.unknown || awaited.unknown) ≡ false → same_name child thread ≡ (awaited.number == actor.number)
    own_judged thread child actor awaited acts waits known =
        let there : is_among (threads_of lines) thread ≡ true =
        sym (not-not _) ∙ ap not (ap (λ found. found.unknown) (sym acts) ∙ (or_parts _ _ known).0) in
        same_place (threads_of lines) child thread (place_known (threads_of lines) thread there) ∙ (λ i. (sym waits i).number == (sym acts i).number)

    pub join_judged : (limits : Limits) (thread child : List ℕ) (actor awaited : FoundThread) → actor ≡ found_thread lines thread → awaited ≡ found_thread lines child
        → first_broken kinds limits lines (Event (Join thread child)) ≡ find (flag (join_flags roster limits first actor awaited (awaited.number == actor.number))) (causes limits lines)
    unfolding first_broken
    join_judged limits thread child actor awaited acts waits =
        let own = awaited.number == actor.number in
        let rest = behind limits (Event (Join thread child)) (join_flags roster limits first actor awaited own) (events_alone limits) (λ holder below. refl) in
        (λ i. cond (no_header i) (Some HeaderFirst) (cond ((sym acts i).unknown || (sym waits i).unknown) (Some UnknownThread)
        (cond (sym acts i).joined (Some ThreadEnded) (cond (same_name child thread) (Some OwnThread) (rest i)))))
        ∙ ap (λ told. cond first (Some HeaderFirst) told)
        (behind_unknown (actor.unknown || awaited.unknown) actor.joined (same_name child thread) own (Some UnknownThread) (Some ThreadEnded) (Some OwnThread)
        (find (flag (join_flags roster limits first actor awaited own)) (holders lines ++ late limits)) (own_judged thread child actor awaited acts waits))

    pub call_judged : (limits : Limits) (thread object method : List ℕ) (slots : List Value) (actor : FoundThread) (found : FoundObject) (m : FoundMethod) (given count : ℕ)
        → actor ≡ found_thread lines thread → found ≡ found_object kinds lines object → m ≡ found_method (methods_at kinds found.kind) method → length slots ≡ given → count ≡ m.slots
        → first_broken kinds limits lines (Event (Call thread object method slots)) ≡ find (flag (call_flags roster limits first actor found m given count)) (causes limits lines)
    unfolding first_broken
    call_judged limits thread object method slots actor found m given count acts declared finds same counts =
        let is = called_method object method found m declared finds in
        let rest = behind limits (Event (Call thread object method slots)) (call_flags roster limits first actor found m given count) (events_alone limits) (λ holder below. refl) in
        λ i. cond (no_header i) (Some HeaderFirst) (cond (unknown_thread thread actor acts i) (Some UnknownThread) (cond (sym acts i).joined (Some ThreadEnded)
        (cond (sym declared i).unknown (Some UnknownObject) (cond (sym is i).unknown (Some UnknownMethod)
        (cond (not (same i == (sym (counts ∙ ap (λ m. m.slots) is) i))) (Some WrongCount) (rest i))))))

    pub acquire_judged : (limits : Limits) (thread lock : List ℕ) (actor : FoundThread) (found : FoundLock) (held_by : Option ℕ) (depth : ℕ) → actor ≡ found_thread lines thread
        → (found.number ≡ place (locks_of lines) lock) × (found.unknown ≡ not (is_among (locks_of lines) lock)) → found.lock ≡ lock_in roster lock
        → IsLeast (stands_against found actor.number) held_by → depth ≡ depth_of found.lock actor.number
        → first_broken kinds limits lines (Event (Acquire thread lock)) ≡ find (flag (acquire_flags roster limits first actor found held_by depth)) (causes limits lines)
    unfolding first_broken
    acquire_judged limits thread lock actor found held_by depth acts numbers is least counts =
        let n : place (threads_of lines) thread ≡ actor.number = ap (λ found. found.number) (sym acts) in
        let raised : (not (is_among (locks_of lines) lock) && leb limits.locks (length (locks_of lines))) ≡ (found.unknown && leb limits.locks found.number) =
        counted limits.locks lock (is_among (locks_of lines) lock) refl ∙ (λ i. sym numbers.1 i && leb limits.locks (sym numbers.0 i)) in
        let deep : (leb (limits.depth + releases lines thread lock) (acquires lines thread lock) || false) ≡ leb limits.depth depth =
        or-false _ ∙ deep_test _ _ _ (stands.lock_depths lock thread) limits.depth ∙ (λ i. leb limits.depth (depth_of (sym is i) (n i))) ∙ ap (leb limits.depth) (sym counts) in
        let rest = behind_least limits (Event (Acquire thread lock)) (acquire_flags roster limits first actor found held_by depth) (stands_against found actor.number)
        (λ i. cond (leb limits.events (sym stands.event_count i)) (Some (Limit Events limits.events))
        (cond (raised i) (Some (Limit Locks limits.locks)) (cond (deep i) (Some (Limit Depth limits.depth)) None)))
        (λ holder below. (λ i. holder_judged thread lock holder below i || sharer_judged thread lock holder below i)
        ∙ (λ i. is_other_holder (sym is i) (n i) holder || is_other_sharer roster.shares (sym numbers.0 i) (n i) holder))
        least (against_within lock found actor.number held_by is least) in
        λ i. cond (no_header i) (Some HeaderFirst) (cond (unknown_thread thread actor acts i) (Some UnknownThread) (cond (sym acts i).joined (Some ThreadEnded) (rest i)))

    pub share_judged : (limits : Limits) (thread lock : List ℕ) (actor : FoundThread) (found : FoundLock) (held_by : Option ℕ) (depth : ℕ) → actor ≡ found_thread lines thread
        → (found.number ≡ place (locks_of lines) lock) × (found.unknown ≡ not (is_among (locks_of lines) lock)) → found.lock ≡ lock_in roster lock
        → held_by ≡ other_holder found.lock actor.number → depth ≡ share_depth roster.shares found.number actor.number
        → first_broken kinds limits lines (Event (Share thread lock)) ≡ find (flag (acquire_flags roster limits first actor found held_by depth)) (causes limits lines)
    unfolding first_broken
    share_judged limits thread lock actor found held_by depth acts numbers is holds counts =
        let n : place (threads_of lines) thread ≡ actor.number = ap (λ found. found.number) (sym acts) in
        let raised : (not (is_among (locks_of lines) lock) && leb limits.locks (length (locks_of lines))) ≡ (found.unknown && leb limits.locks found.number) =
        counted limits.locks lock (is_among (locks_of lines) lock) refl ∙ (λ i. sym numbers.1 i && leb limits.locks (sym numbers.0 i)) in
        let deep : leb (limits.depth + unshares lines thread lock) (shares lines thread lock) ≡ leb limits.depth depth =
        deep_test _ _ _ (stands.share_depths lock thread) limits.depth ∙ (λ i. leb limits.depth (share_depth roster.shares (sym numbers.0 i) (n i))) ∙ ap (leb limits.depth) (sym counts) in
        let rest = behind_least limits (Event (Share thread lock)) (acquire_flags roster limits first actor found held_by depth) (is_other_holder found.lock actor.number)
        (λ i. cond (leb limits.events (sym stands.event_count i)) (Some (Limit Events limits.events))
        (cond (raised i) (Some (Limit Locks limits.locks)) (cond (deep i) (Some (Limit Depth limits.depth)) None)))
        (λ holder below. or-false _ ∙ holder_judged thread lock holder below ∙ (λ i. is_other_holder (sym is i) (n i) holder))
        (subst (IsLeast (is_other_holder found.lock actor.number)) (sym holds) (holder_least found.lock actor.number))
        (holder_within lock found.lock held_by actor.number is holds) in
        λ i. cond (no_header i) (Some HeaderFirst) (cond (unknown_thread thread actor acts i) (Some UnknownThread) (cond (sym acts i).joined (Some ThreadEnded) (rest i)))

    pub release_judged : (limits : Limits) (thread lock : List ℕ) (actor : FoundThread) (held : Lock) (depth : ℕ) → actor ≡ found_thread lines thread → held ≡ lock_in roster lock
        → depth ≡ depth_of held actor.number
        → first_broken kinds limits lines (Event (Release thread lock)) ≡ find (flag (release_flags roster limits first actor depth)) (causes limits lines)
    unfolding first_broken
    release_judged limits thread lock actor held depth acts is counts =
        let n : place (threads_of lines) thread ≡ actor.number = ap (λ found. found.number) (sym acts) in
        let lacks : (leb (acquires lines thread lock) (releases lines thread lock) || false) ≡ (depth == 0) =
        or-false _ ∙ not_held_test _ _ _ (stands.lock_depths lock thread) ∙ (λ i. depth_of (sym is i) (n i) == 0) ∙ ap (λ n. n == 0) (sym counts) in
        let rest = behind limits (Event (Release thread lock)) (release_flags roster limits first actor depth)
        (λ i. cond (lacks i) (Some NotHeld) (events_alone limits i)) (λ holder below. refl) in
        λ i. cond (no_header i) (Some HeaderFirst) (cond (unknown_thread thread actor acts i) (Some UnknownThread) (cond (sym acts i).joined (Some ThreadEnded) (rest i)))

    pub unshare_judged : (limits : Limits) (thread lock : List ℕ) (actor : FoundThread) (number depth : ℕ) → actor ≡ found_thread lines thread → number ≡ place (locks_of lines) lock
        → depth ≡ share_depth roster.shares number actor.number
        → first_broken kinds limits lines (Event (Unshare thread lock)) ≡ find (flag (release_flags roster limits first actor depth)) (causes limits lines)
    unfolding first_broken
    unshare_judged limits thread lock actor number depth acts is counts =
        let n : place (threads_of lines) thread ≡ actor.number = ap (λ found. found.number) (sym acts) in
        let lacks : leb (shares lines thread lock) (unshares lines thread lock) ≡ (depth == 0) =
        not_held_test _ _ _ (stands.share_depths lock thread) ∙ (λ i. share_depth roster.shares (sym is i) (n i) == 0) ∙ ap (λ n. n == 0) (sym counts) in
        let rest = behind limits (Event (Unshare thread lock)) (release_flags roster limits first actor depth)
        (λ i. cond (lacks i) (Some NotHeld) (events_alone limits i)) (λ holder below. refl) in
        λ i. cond (no_header i) (Some HeaderFirst) (cond (unknown_thread thread actor acts i) (Some UnknownThread) (cond (sym acts i).joined (Some ThreadEnded) (rest i)))
