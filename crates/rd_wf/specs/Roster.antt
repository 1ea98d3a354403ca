-- What a roster holds of the accepted lines of a trace: this project's profile.
use Rattle.std.specs.Prelude.{◌≡◌, ◌⊎◌, ℕ, ◌+◌, ◌<◌, Bool, true, ◌≤◌, not, List, [], ◌∷◌, ◌++◌, map, length, Contains, filter_map, Option, Some, None, unwrap_or, Result, Ok, Err, IsTrue}
use Rattle.std.specs.List.{IsDistinct, before_first}
use Rattle.indexmap.specs.IndexMap.{get_by, index_map_len}
use Rattle.rd_base.specs.declared.limits.Limits.{Limits}
use Rattle.rd_base.specs.Bytes.{is_space}
use Rattle.rd_base.specs.declared.values.Value.{Value}
use Rattle.rd_event.specs.declared.events.Call.{Call}
use Rattle.rd_event.specs.declared.events.Event.TheVariants as numbered
use Rattle.rd_event.specs.Reading.{call_read, is_call_keyword, item_of}
use Rattle.rd_event.specs.declared.items.Line.{Line}
use Rattle.rd_event.specs.declared.items.Line.TheVariants.{Event, Object}
use Rattle.rd_event.specs.declared.items.LineEvent.{LineEvent}
use Rattle.rd_rules.specs.declared.causes.Accepted.{Accepted}
use Rattle.rd_rules.specs.declared.causes.Accepted.TheVariants as accepted
use Rattle.rd_rules.specs.declared.causes.WfCause.{WfCause}
use Rattle.rd_rules.specs.declared.causes.WfRefused.{WfRefused}
use Rattle.rd_rules.specs.declared.causes.WfRefused.TheVariants.{Cause, NoMemory}
use Rattle.rd_wf.specs.declared.roster.Roster.{Roster}
use Rattle.rd_wf.specs.declared.roster.lines.CallNumbers.{CallNumbers}
use Rattle.rd_rules.specs.declared.causes.BytesRefused.{BytesRefused}
use Rattle.rd_rules.specs.declared.causes.BytesRefused.TheVariants as refused
use Rattle.rd_tables.specs.declared.locks.Lock.{Lock}
use Rattle.rd_tables.specs.declared.found.FoundLock.{FoundLock}
use Rattle.rd_tables.specs.declared.found.FoundObject.{FoundObject}
use Rattle.rd_tables.specs.declared.found.FoundThread.{FoundThread}
use Rattle.rd_rules.specs.Events.{AcceptedInRange}
use Rattle.rd_tables.specs.Shares.{share_depth}
use Rattle.rd_tables.specs.Tables.{depth_of, found_method, free_lock, kind_entry}
use Rattle.rd_tables.specs.declared.methods.FoundMethod.{FoundMethod}
use Rattle.rd_rules.specs.MayFollow.{threads_of, joined_of, locks_of, objects_of, acquires, releases, shares, unshares, header_of, events, is_among, same_name, kind_number, place, version_of, first_broken, accepted_of, MayFollow, TakesMemory}
use Rattle.rd_ecl.specs.Kinds.{Kind, kind_names, methods_at}

-- how many threads, locks and objects the roster numbers
abbrev pub thread_count : Roster → ℕ
thread_count roster = index_map_len roster.threads

abbrev pub lock_count : Roster → ℕ
lock_count roster = index_map_len roster.locks

abbrev pub object_count : Roster → ℕ
object_count roster = index_map_len roster.objects

-- a thread's name, with whether the lines join it
abbrev pub thread_entry : List Line → List ℕ → List ℕ × Bool
thread_entry lines name = (name, is_among (joined_of lines) name)

-- a declared object's name, with the number of its kind
abbrev pub object_entry : List Kind → Line → Option (List ℕ × ℕ)
object_entry kinds (Object name kind) = Some (name, place (kind_names kinds) kind)
object_entry kinds _ = None

-- the names of the threads that the roster numbers, in their order
abbrev pub names_in : Roster → List (List ℕ)
names_in roster = map (λ entry. entry.0) roster.threads.entries

-- the names of the objects that it numbers, in their order
abbrev pub object_names_in : Roster → List (List ℕ)
object_names_in roster = map (λ entry. entry.0) roster.objects.entries

-- what the roster holds of the lock of that name
abbrev pub lock_in : Roster → List ℕ → Lock
lock_in roster name = unwrap_or (get_by (same_name name) roster.locks) free_lock

-- ---- what look-ups find

-- the thread of that name: its number, which is the next one where it was not begun, and whether the lines join it
abbrev pub found_thread : List Line → List ℕ → FoundThread
found_thread lines name = record {
  number = place (threads_of lines) name;
  unknown = not (is_among (threads_of lines) name);
  joined = is_among (joined_of lines) name;
}

-- the object of that name: its number, which is the next one where it was not declared, and that of its kind
abbrev pub found_object : List Kind → List Line → List ℕ → FoundObject
found_object kinds lines name = record {
  number = place (objects_of lines) name;
  unknown = not (is_among (objects_of lines) name);
  kind = kind_number kinds lines name;
}

-- ---- what a roster holds

-- the kinds that the roster holds
abbrev pub kinds_in : Roster → List Kind
kinds_in roster = map kind_entry roster.kinds.entries

-- the roster holds these kinds, and what these accepted lines say
pub record RosterStandsFor (kinds : List Kind) (roster : Roster) (lines : List Line) : Type 0 where
  -- its kinds, each with its methods
  pub kind_entries : kinds_in roster ≡ kinds
  -- the version of the header, if there is one, and how many events there are
  pub header_version : roster.header ≡ header_of lines
  pub event_count : roster.events ≡ events lines
  -- the threads in their order, each with whether it is joined, and the objects in theirs, each with its kind
  pub thread_entries : roster.threads.entries ≡ map (thread_entry lines) (threads_of lines)
  pub object_entries : roster.objects.entries ≡ filter_map (object_entry kinds) lines
  -- the locks in their order; each, and none that isn't among them, with how often threads acquired it and didn't release it,
  -- and how often they shared it and didn't unshare it
  pub lock_names : map (λ entry. entry.0) roster.locks.entries ≡ locks_of lines
  pub lock_depths : (lock thread : List ℕ) → acquires lines thread lock ≡ releases lines thread lock + depth_of (lock_in roster lock) (place (threads_of lines) thread)
  pub holders_begun : (lock : List ℕ) → 0 < (lock_in roster lock).depth → (lock_in roster lock).holder < length (threads_of lines)
  pub share_depths : (lock thread : List ℕ) → shares lines thread lock ≡ unshares lines thread lock + share_depth roster.shares (place (locks_of lines) lock) (place (threads_of lines) thread)
  pub sharers_begun : (lock thread : ℕ) → 0 < share_depth roster.shares lock thread → (lock < length (locks_of lines)) × (thread < length (threads_of lines))
  -- no two threads have one name, and each joined thread was begun
  pub threads_differ : IsDistinct same_name (threads_of lines)
  pub joined_begun : (name : List ℕ) → Contains (joined_of lines) name → Contains (threads_of lines) name
  -- so the numbers go up to these counts
  pub thread_total : thread_count roster ≡ length (threads_of lines)
  pub lock_total : lock_count roster ≡ length (locks_of lines)
  pub object_total : object_count roster ≡ length (objects_of lines)

-- ---- what was found of a name

-- what a look-up of a thread by this name finds
abbrev pub IsFoundThread : Roster → List ℕ → FoundThread → Type 0
IsFoundThread roster name found = (kinds : List Kind) (lines : List Line) → RosterStandsFor kinds roster lines → found ≡ found_thread lines name

-- what a look-up of an object by this name finds, and what one of a method of this kind
abbrev pub IsFoundObject : Roster → List ℕ → FoundObject → Type 0
IsFoundObject roster name found = (kinds : List Kind) (lines : List Line) → RosterStandsFor kinds roster lines → found ≡ found_object kinds lines name

abbrev pub IsFoundMethod : Roster → ℕ → List ℕ → FoundMethod → Type 0
IsFoundMethod roster kind name found =
    (kinds : List Kind) (lines : List Line) → RosterStandsFor kinds roster lines → found ≡ found_method (methods_at kinds kind) name

-- what a look-up of a lock by this name finds
pub record IsFoundLock (roster : Roster) (name : List ℕ) (found : FoundLock) : Type 0 where
  -- its number, which is the next one where it was neither acquired nor shared, and whether that is so
  pub numbers : (kinds : List Kind) (lines : List Line) → RosterStandsFor kinds roster lines
      → (found.number ≡ place (locks_of lines) name) × (found.unknown ≡ not (is_among (locks_of lines) name))
  -- and what the roster holds of it
  pub lock : found.lock ≡ lock_in roster name

-- ---- what a roster says of a line

-- after any lines that the roster stands for, this line may follow, and is this in numbers
abbrev pub Permits : Roster → Limits → Line → Accepted → Type 0
Permits roster limits line accepted = (kinds : List Kind) (lines : List Line) → RosterStandsFor kinds roster lines →
    (first_broken kinds limits lines line ≡ None) × (accepted ≡ accepted_of kinds lines line)

-- after any lines that it stands for, this line may not follow, for this cause
abbrev pub Forbids : Roster → Limits → Line → WfCause → Type 0
Forbids roster limits line cause = (kinds : List Kind) (lines : List Line) → RosterStandsFor kinds roster lines →
    first_broken kinds limits lines line ≡ Some cause

-- the old roster permits the line, and the new one stands for one line more
abbrev pub Accepts : Roster → Roster → Limits → Line → Accepted → Type 0
Accepts old new limits line accepted = (kinds : List Kind) (lines : List Line) → RosterStandsFor kinds old lines →
    (first_broken kinds limits lines line ≡ None) × (accepted ≡ accepted_of kinds lines line)
    × RosterStandsFor kinds new (lines ++ line ∷ [])

-- Behind the lines the bytes say, in the version of these, this item. It may follow them within the limits, and is this in numbers, each
-- in its range. The roster then stands for it too, and the threads fit 32 bits.
pub record AcceptsAs (kinds : List Kind) (limits : Limits) (lines : List Line) (bytes : List ℕ) (item : Line) (accepted : Accepted) (roster : Roster) : Type 0 where
  pub says : item_of (version_of lines) bytes ≡ Some item
  pub unbroken : first_broken kinds limits lines item ≡ None
  pub follows : MayFollow kinds limits lines item
  pub numbers : accepted ≡ accepted_of kinds lines item
  pub range : AcceptedInRange accepted
  pub stands : RosterStandsFor kinds roster (lines ++ item ∷ [])
  pub few : length (threads_of (lines ++ item ∷ [])) ≤ 4294967295

-- A refusal by a cause changes nothing. Want of memory comes only for a line that may follow and may take memory, and the roster then
-- stands for the same lines.
abbrev pub Refuses : Roster → Roster → Limits → Line → WfRefused → Type 0
Refuses old new limits line (Cause cause) = Forbids old limits line cause × (new ≡ old)
Refuses old new limits line NoMemory = (kinds : List Kind) (lines : List Line) → RosterStandsFor kinds old lines →
    (first_broken kinds limits lines line ≡ None) × TakesMemory lines line × RosterStandsFor kinds new lines

-- ---- what becomes of a line's bytes

-- the bytes begin with this one
abbrev pub BeginsWith : ℕ → List ℕ → Type 0
BeginsWith first bytes = (rest : List ℕ) × (bytes ≡ first ∷ rest)

-- the bytes begin as a call
abbrev pub IsCallLine : List ℕ → Type 0
IsCallLine bytes = IsTrue (is_call_keyword (before_first is_space bytes))

-- The line is accepted, whose words are names; or not, since they aren't, which an answer says where it is complete, or by a cause, and nothing
-- changes; or memory runs out.
abbrev pub TakesNames : Bool → Type 0 → Roster → Roster → Limits → Line → Result Accepted BytesRefused → Type 0
TakesNames complete named old new limits line (Ok accepted) = named × Accepts old new limits line accepted
TakesNames complete named old new limits line (Err refused.BadLine) = (complete ≡ true → ¬ named) × (new ≡ old)
TakesNames complete named old new limits line (Err (refused.Cause cause)) = named × Refuses old new limits line (Cause cause)
TakesNames complete named old new limits line (Err refused.NoMemory) = named × Refuses old new limits line NoMemory

-- the call with these numbers and values, and what becomes of it
abbrev pub call_with : CallNumbers → List Value → Call
call_with numbers slots = record { thread = numbers.thread; object = numbers.object; kind = numbers.kind; method = numbers.method; slots = slots }

abbrev pub with_values : List Value → Result CallNumbers BytesRefused → Result Accepted BytesRefused
with_values slots (Ok numbers) = Ok (accepted.Event (numbered.Call (call_with numbers slots)))
with_values slots (Err refused) = Err refused

-- the same of the call with these words behind its keyword, whose values are read before it is judged
abbrev pub TakesCall : Bool → List ℕ → Roster → Roster → Limits → Result Accepted BytesRefused → Type 0
TakesCall complete words old new limits (Ok accepted) = (event : LineEvent) × (call_read words ≡ Some event) × Accepts old new limits (Event event) accepted
TakesCall complete words old new limits (Err refused.BadLine) = (complete ≡ true → call_read words ≡ None) × (new ≡ old)
TakesCall complete words old new limits (Err (refused.Cause cause)) =
    (event : LineEvent) × (call_read words ≡ Some event) × Refuses old new limits (Event event) (Cause cause)
TakesCall complete words old new limits (Err refused.NoMemory) = (event : LineEvent) × (call_read words ≡ Some event) × (new ≡ old)

-- Behind the lines the bytes say, in the version of these, an item that may follow and is accepted; or none, which an answer says where it is
-- complete; or one that breaks the rule of the cause, as the first; or memory runs out, for a call or for an item that may follow.
abbrev pub TakesBytes : Type 0 → List Kind → Limits → List Line → List ℕ → Roster → Roster → Result Accepted BytesRefused → Type 0
TakesBytes complete kinds limits lines bytes old new (Ok accepted) = (item : Line) × AcceptsAs kinds limits lines bytes item accepted new
TakesBytes complete kinds limits lines bytes old new (Err refused.BadLine) = (complete → item_of (version_of lines) bytes ≡ None) × (new ≡ old)
TakesBytes complete kinds limits lines bytes old new (Err (refused.Cause cause)) =
    (item : Line) × (item_of (version_of lines) bytes ≡ Some item) × (first_broken kinds limits lines item ≡ Some cause) × (new ≡ old)
TakesBytes complete kinds limits lines bytes old new (Err refused.NoMemory) =
    (item : Line) × (item_of (version_of lines) bytes ≡ Some item) × (IsCallLine bytes ⊎ MayFollow kinds limits lines item) × RosterStandsFor kinds new lines
