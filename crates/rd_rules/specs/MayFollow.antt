-- Which line may follow the accepted lines of a trace: this project's profile. What was accepted is
-- told by lists and counts over the lines.
use Rattle.std.specs.Prelude.{◌≡◌, ◌≢◌, ◌↔◌, ◌⊎◌, ℕ, ◌+◌, ◌<◌, nat_eq, nat_lt, nat_le, ◌==◌, Bool, true, false, ◌&&◌, ◌||◌, not, if◌then◌else◌, List, [], ◌∷◌, ◌++◌, map, take, find, All, length, Option, Some, None, is_some, IsSome, IfSome, IsTrue, Contains, filter_map, count_by, slice_get, unwrap_or}
use Rattle.std.specs.List.{list_any, position_or_len, range_with_len}
use Rattle.std.specs.Cmp.Lexicographic.{pointwise}
use Rattle.rd_base.specs.declared.limits.Limits.{Limits}
use Rattle.rd_base.specs.declared.values.Value.{Value}
use Rattle.rd_base.specs.declared.limits.LimitName.TheVariants.{Events, Threads, Locks, Objects, Depth}
use Rattle.rd_event.specs.declared.items.Line.{Line}
use Rattle.rd_event.specs.declared.items.Line.TheVariants.{Skip, Header, Thread, Object, Event}
use Rattle.rd_event.specs.declared.items.LineEvent.{LineEvent}
use Rattle.rd_event.specs.declared.items.LineEvent.TheVariants.{Fork, Join, Acquire, Release, Share, Unshare, Call}
use Rattle.rd_event.specs.declared.events.Event as event
use Rattle.rd_event.specs.declared.events.Event.TheVariants as numbered
use Rattle.rd_ecl.specs.Kinds.{Kind, KindMethod, kind_names, method_names, methods_at, kind_slots_at}
use Rattle.rd_rules.specs.declared.causes.WfCause.{WfCause}
use Rattle.rd_rules.specs.declared.causes.WfCause.TheVariants.{HeaderFirst, LateRoot, NameTaken, UnknownThread, ThreadEnded, OwnThread, UnknownKind, UnknownObject, UnknownMethod, WrongCount, LockHeld, NotHeld, Limit}
use Rattle.rd_rules.specs.declared.causes.Accepted.{Accepted}
use Rattle.rd_rules.specs.declared.causes.Accepted.TheVariants as accepted

-- ---- what a line says

-- the line is skipped
abbrev pub is_skip : Line → Bool
is_skip Skip = true
is_skip _ = false

-- it is the header
abbrev pub is_header : Line → Bool
is_header (Header version) = true
is_header _ = false

-- it names a thread that no other begins
abbrev pub is_root : Line → Bool
is_root (Thread thread) = true
is_root _ = false

-- it is an event
abbrev pub is_event : Line → Bool
is_event (Event event) = true
is_event _ = false

-- the thread that an event begins
abbrev pub forked_name : LineEvent → Option (List ℕ)
forked_name (Fork thread child) = Some child
forked_name _ = None

-- the thread for whose end an event waits
abbrev pub awaited_name : LineEvent → Option (List ℕ)
awaited_name (Join thread child) = Some child
awaited_name _ = None

-- the thread that acts in an event
abbrev pub actor_name : LineEvent → List ℕ
actor_name (Fork thread child) = thread
actor_name (Join thread child) = thread
actor_name (Acquire thread lock) = thread
actor_name (Release thread lock) = thread
actor_name (Share thread lock) = thread
actor_name (Unshare thread lock) = thread
actor_name (Call thread object method slots) = thread

-- the lock that an event acquires
abbrev pub acquired_lock : LineEvent → Option (List ℕ)
acquired_lock (Acquire thread lock) = Some lock
acquired_lock _ = None

-- the lock that an event releases
abbrev pub released_lock : LineEvent → Option (List ℕ)
released_lock (Release thread lock) = Some lock
released_lock _ = None

-- the lock that an event shares
abbrev pub shared_lock : LineEvent → Option (List ℕ)
shared_lock (Share thread lock) = Some lock
shared_lock _ = None

-- the lock that an event unshares
abbrev pub unshared_lock : LineEvent → Option (List ℕ)
unshared_lock (Unshare thread lock) = Some lock
unshared_lock _ = None

-- the lock that an event acquires or shares
abbrev pub taken_lock : LineEvent → Option (List ℕ)
taken_lock (Acquire thread lock) = Some lock
taken_lock (Share thread lock) = Some lock
taken_lock _ = None

-- a call, by the names of its object and method, and with its arguments and result
pub record SpelledCall : Type 0 where
  pub object : List ℕ
  pub method : List ℕ
  pub slots : List Value

-- the call that an event is
abbrev pub event_call : LineEvent → Option SpelledCall
event_call (Call thread object method slots) = Some (record { object = object; method = method; slots = slots })
event_call _ = None

-- the thread that the line begins
abbrev pub begun_name : Line → Option (List ℕ)
begun_name (Thread thread) = Some thread
begun_name (Event event) = forked_name event
begun_name _ = None

-- the thread that acts
abbrev pub acting_name : Line → Option (List ℕ)
acting_name (Event event) = Some (actor_name event)
acting_name _ = None

-- the thread that the line joins
abbrev pub joined_name : Line → Option (List ℕ)
joined_name (Event event) = awaited_name event
joined_name _ = None

-- the lock that it acquires
abbrev pub acquired_name : Line → Option (List ℕ)
acquired_name (Event event) = acquired_lock event
acquired_name _ = None

-- the lock that it releases
abbrev pub released_name : Line → Option (List ℕ)
released_name (Event event) = released_lock event
released_name _ = None

-- the lock that it shares
abbrev pub shared_name : Line → Option (List ℕ)
shared_name (Event event) = shared_lock event
shared_name _ = None

-- the lock that it unshares
abbrev pub unshared_name : Line → Option (List ℕ)
unshared_name (Event event) = unshared_lock event
unshared_name _ = None

-- the lock that it acquires or shares
abbrev pub taken_name : Line → Option (List ℕ)
taken_name (Event event) = taken_lock event
taken_name _ = None

-- the object that it declares
abbrev pub declared_name : Line → Option (List ℕ)
declared_name (Object name kind) = Some name
declared_name _ = None

-- and that object's kind
abbrev pub kind_name : Line → Option (List ℕ)
kind_name (Object name kind) = Some kind
kind_name _ = None

-- the call that it is
abbrev pub line_call : Line → Option SpelledCall
line_call (Event event) = event_call event
line_call _ = None

-- it is a call
abbrev pub is_call : Line → Bool
is_call line = is_some (line_call line)

-- ---- names and their places

-- two names are the same
abbrev pub same_name : List ℕ → List ℕ → Bool
same_name = pointwise nat_eq

-- the name is among these
abbrev pub is_among : List (List ℕ) → List ℕ → Bool
is_among names name = list_any (same_name name) names

-- there is one, and it passes the test
abbrev pub passes : {X : Type 0} → Option X → (X → Bool) → Bool
passes None test = false
passes (Some x) test = test x

-- the place of a name, from 0: the number of those before it
abbrev pub place : List (List ℕ) → List ℕ → ℕ
place names name = position_or_len (same_name name) names

-- ---- what the accepted lines say

-- the threads, in the order of the lines that began them
abbrev pub threads_of : List Line → List (List ℕ)
threads_of before = filter_map begun_name before

-- the threads that were joined, in the order of the joins
abbrev pub joined_of : List Line → List (List ℕ)
joined_of before = filter_map joined_name before

-- these locks, and the one that the line takes where it isn't among them
abbrev pub with_lock : List (List ℕ) → Option (List ℕ) → List (List ℕ)
with_lock locks None = locks
with_lock locks (Some lock) = if is_among locks lock then locks else locks ++ lock ∷ []

-- these locks, and those that lines acquire or share, in the order in which each is taken first
abbrev pub with_locks : List (List ℕ) → List Line → List (List ℕ)
with_locks locks [] = locks
with_locks locks (line ∷ lines) = with_locks (with_lock locks (taken_name line)) lines

-- the locks, in the order of the lines that acquired or shared each first
abbrev pub locks_of : List Line → List (List ℕ)
locks_of before = with_locks [] before

-- a line of this thread that acquires this lock, and one that releases it
abbrev pub is_acquire_of : List ℕ → List ℕ → Line → Bool
is_acquire_of thread lock line = passes (acting_name line) (same_name thread) && passes (acquired_name line) (same_name lock)

abbrev pub is_release_of : List ℕ → List ℕ → Line → Bool
is_release_of thread lock line = passes (acting_name line) (same_name thread) && passes (released_name line) (same_name lock)

-- how often the thread acquired the lock, and how often it released it
unfoldable pub acquires : List Line → List ℕ → List ℕ → ℕ
acquires before thread lock = count_by (is_acquire_of thread lock) before

unfoldable pub releases : List Line → List ℕ → List ℕ → ℕ
releases before thread lock = count_by (is_release_of thread lock) before

-- a line of this thread that shares this lock, and one that unshares it
abbrev pub is_share_of : List ℕ → List ℕ → Line → Bool
is_share_of thread lock line = passes (acting_name line) (same_name thread) && passes (shared_name line) (same_name lock)

abbrev pub is_unshare_of : List ℕ → List ℕ → Line → Bool
is_unshare_of thread lock line = passes (acting_name line) (same_name thread) && passes (unshared_name line) (same_name lock)

-- how often the thread shared the lock, and how often it unshared it
unfoldable pub shares : List Line → List ℕ → List ℕ → ℕ
shares before thread lock = count_by (is_share_of thread lock) before

unfoldable pub unshares : List Line → List ℕ → List ℕ → ℕ
unshares before thread lock = count_by (is_unshare_of thread lock) before

-- the objects, in the order of their lines
abbrev pub objects_of : List Line → List (List ℕ)
objects_of before = filter_map declared_name before

-- the number of the kind that an object is declared with
abbrev pub declared_kind : List Kind → Line → Option ℕ
declared_kind kinds (Object name kind) = Some (place (kind_names kinds) kind)
declared_kind kinds _ = None

-- so for each object, in the order of their lines
abbrev pub object_kinds : List Kind → List Line → List ℕ
object_kinds kinds before = filter_map (declared_kind kinds) before

-- the number of an object's kind; for an object that isn't declared, one that no kind has
abbrev pub kind_number : List Kind → List Line → List ℕ → ℕ
kind_number kinds before object = unwrap_or (slice_get (object_kinds kinds before) (place (objects_of before) object)) (length kinds)

-- the methods of its kind
abbrev pub methods_of : List Kind → List Line → List ℕ → List KindMethod
methods_of kinds before object = methods_at kinds (kind_number kinds before object)

-- the number of a method of an object
abbrev pub method_number : List Kind → List Line → List ℕ → List ℕ → ℕ
method_number kinds before object method = place (method_names (methods_of kinds before object)) method

-- how many slots the method of a call has
abbrev pub slot_count_of : List Kind → List Line → SpelledCall → ℕ
slot_count_of kinds before call = kind_slots_at (methods_of kinds before call.object) (method_number kinds before call.object call.method)

-- how many headers there are
abbrev pub headers : List Line → ℕ
headers before = count_by is_header before

-- the version of the first header
abbrev pub header_of : List Line → Option ℕ
header_of [] = None
header_of (Header version ∷ lines) = Some version
header_of (_ ∷ lines) = header_of lines

-- the version that the lines are of: that of the first header, 0 where there is none
abbrev pub version_of : List Line → ℕ
version_of before = unwrap_or (header_of before) 0

-- how many events there are
abbrev pub events : List Line → ℕ
events before = count_by is_event before

-- how many calls there are
abbrev pub call_count : List Line → ℕ
call_count before = count_by is_call before

-- ---- the rules

-- What each cause names: a rule that a line has to meet behind the accepted lines, if it isn't skipped. A limit's cause has the
-- number that a count may not pass.
abbrev pub Rule : List Kind → List Line → Line → WfCause → Type 0
-- it is a header exactly if none came before
Rule kinds before line HeaderFirst = IsTrue (is_header line) ↔ (headers before ≡ 0)
-- a root comes before every event
Rule kinds before line LateRoot = IsTrue (is_root line) → events before ≡ 0
-- no thread has the name of the new thread, and no object that of the new object
Rule kinds before line NameTaken =
    IfSome (begun_name line) (λ name. ¬ (Contains (threads_of before) name)) × IfSome (declared_name line) (λ name. ¬ (Contains (objects_of before) name))
-- the acting thread was begun, and so was the joined one
Rule kinds before line UnknownThread = IfSome (acting_name line) (Contains (threads_of before)) × IfSome (joined_name line) (Contains (threads_of before))
-- the acting thread was not joined
Rule kinds before line ThreadEnded = IfSome (acting_name line) (λ name. ¬ (Contains (joined_of before) name))
-- no thread joins itself
Rule kinds before line OwnThread = IfSome (joined_name line) (λ name. acting_name line ≢ Some name)
-- the kind is a kind
Rule kinds before line UnknownKind = IfSome (kind_name line) (Contains (kind_names kinds))
-- the called object was declared, its kind has the method, and the call has as many slots as the method
Rule kinds before line UnknownObject = IfSome (line_call line) (λ call. Contains (objects_of before) call.object)
Rule kinds before line UnknownMethod = IfSome (line_call line) (λ call. Contains (method_names (methods_of kinds before call.object)) call.method)
Rule kinds before line WrongCount = IfSome (line_call line) (λ call. length call.slots ≡ slot_count_of kinds before call)
-- the thread with this number isn't another one that stands against the line: it released the lock that the line acquires or shares
-- as often as it acquired it, and unshared the lock that the line acquires as often as it shared it
Rule kinds before line (LockHeld holder) =
    IfSome (taken_name line) (λ lock. IfSome (slice_get (threads_of before) holder) (λ thread.
    acting_name line ≢ Some thread → acquires before thread lock ≡ releases before thread lock))
    × IfSome (acquired_name line) (λ lock. IfSome (slice_get (threads_of before) holder) (λ thread.
    acting_name line ≢ Some thread → shares before thread lock ≡ unshares before thread lock))
-- the acting thread has what the line gives back: it acquired the released lock more often than it released it, and shared the
-- unshared lock more often than it unshared it
Rule kinds before line NotHeld =
    IfSome (released_name line) (λ lock. IfSome (acting_name line) (λ thread. releases before thread lock < acquires before thread lock))
    × IfSome (unshared_name line) (λ lock. IfSome (acting_name line) (λ thread. unshares before thread lock < shares before thread lock))
-- no count that the line raises passes its limit. A lock is counted where it is first acquired or shared. Depth is how often the
-- acting thread has acquired the lock and not released it, and by itself how often it has shared it and not unshared it
Rule kinds before line (Limit Events most) = IsTrue (is_event line) → events before < most
Rule kinds before line (Limit Threads most) = IsSome (begun_name line) → length (threads_of before) < most
Rule kinds before line (Limit Locks most) = IfSome (taken_name line) (λ lock. ¬ (Contains (locks_of before) lock) → length (locks_of before) < most)
Rule kinds before line (Limit Objects most) = IsSome (declared_name line) → length (objects_of before) < most
Rule kinds before line (Limit Depth most) =
    IfSome (acquired_name line) (λ lock. IfSome (acting_name line) (λ thread. acquires before thread lock < most + releases before thread lock))
    × IfSome (shared_name line) (λ lock. IfSome (acting_name line) (λ thread. shares before thread lock < most + unshares before thread lock))
Rule kinds before line (Limit name most) = Unit {0}

-- that a thread stands against the line, for each thread, in the order of their numbers
abbrev pub holders : List Line → List WfCause
holders before = map LockHeld (range_with_len 0 (length (threads_of before)))

-- the causes in the order in which they are told
abbrev pub causes : Limits → List Line → List WfCause
causes limits before =
    HeaderFirst ∷ LateRoot ∷ NameTaken ∷ UnknownThread ∷ ThreadEnded ∷ OwnThread ∷ UnknownKind ∷ UnknownObject ∷ UnknownMethod ∷ WrongCount
    ∷ holders before ++ NotHeld
    ∷ Limit Events limits.events ∷ Limit Threads limits.threads ∷ Limit Locks limits.locks ∷ Limit Objects limits.objects ∷ Limit Depth limits.depth ∷ []

-- the line may follow: it is skipped, or it meets the rule of each cause
abbrev pub MayFollow : List Kind → Limits → List Line → Line → Type 0
MayFollow kinds limits before line = (line ≡ Skip) ⊎ All (Rule kinds before line) (causes limits before)

-- the line isn't skipped, it breaks the rule of this cause, and it meets those of the causes in front of it
pub record IsBrokenFirst (kinds : List Kind) (limits : Limits) (before : List Line) (line : Line) (cause : WfCause) : Type 0 where
  pub counted : line ≢ Skip
  pub place : ℕ
  pub listed : slice_get (causes limits before) place ≡ Some cause
  pub broken : ¬ (Rule kinds before line cause)
  pub others : All (Rule kinds before line) (take place (causes limits before))

-- ---- the same by tests, for what has to be computed

-- the line breaks the rule of the cause
abbrev pub is_broken : List Kind → List Line → Line → WfCause → Bool
is_broken kinds before line HeaderFirst = if is_header line then nat_lt 0 (headers before) else headers before == 0
is_broken kinds before line LateRoot = is_root line && nat_lt 0 (events before)
is_broken kinds before line NameTaken = passes (begun_name line) (is_among (threads_of before)) || passes (declared_name line) (is_among (objects_of before))
is_broken kinds before line UnknownThread =
    passes (acting_name line) (λ name. not (is_among (threads_of before) name)) || passes (joined_name line) (λ name. not (is_among (threads_of before) name))
is_broken kinds before line ThreadEnded = passes (acting_name line) (is_among (joined_of before))
is_broken kinds before line OwnThread = passes (joined_name line) (λ name. passes (acting_name line) (same_name name))
is_broken kinds before line UnknownKind = passes (kind_name line) (λ kind. not (is_among (kind_names kinds) kind))
is_broken kinds before line UnknownObject = passes (line_call line) (λ call. not (is_among (objects_of before) call.object))
is_broken kinds before line UnknownMethod = passes (line_call line) (λ call. not (is_among (method_names (methods_of kinds before call.object)) call.method))
is_broken kinds before line WrongCount = passes (line_call line) (λ call. not (length call.slots == slot_count_of kinds before call))
is_broken kinds before line (LockHeld holder) =
    passes (taken_name line) (λ lock. passes (slice_get (threads_of before) holder) (λ thread.
    not (passes (acting_name line) (same_name thread)) && not (acquires before thread lock == releases before thread lock)))
    || passes (acquired_name line) (λ lock. passes (slice_get (threads_of before) holder) (λ thread.
    not (passes (acting_name line) (same_name thread)) && not (shares before thread lock == unshares before thread lock)))
is_broken kinds before line NotHeld =
    passes (released_name line) (λ lock. passes (acting_name line) (λ thread. nat_le (acquires before thread lock) (releases before thread lock)))
    || passes (unshared_name line) (λ lock. passes (acting_name line) (λ thread. nat_le (shares before thread lock) (unshares before thread lock)))
is_broken kinds before line (Limit Events most) = is_event line && nat_le most (events before)
is_broken kinds before line (Limit Threads most) = is_some (begun_name line) && nat_le most (length (threads_of before))
is_broken kinds before line (Limit Locks most) = passes (taken_name line) (λ lock. not (is_among (locks_of before) lock)) && nat_le most (length (locks_of before))
is_broken kinds before line (Limit Objects most) = is_some (declared_name line) && nat_le most (length (objects_of before))
is_broken kinds before line (Limit Depth most) =
    passes (acquired_name line) (λ lock. passes (acting_name line) (λ thread. nat_le (most + releases before thread lock) (acquires before thread lock)))
    || passes (shared_name line) (λ lock. passes (acting_name line) (λ thread. nat_le (most + unshares before thread lock) (shares before thread lock)))
is_broken kinds before line (Limit name most) = false

-- the first cause whose rule the line breaks, if it breaks any
unfoldable pub first_broken : List Kind → Limits → List Line → Line → Option WfCause
first_broken kinds limits before line = if is_skip line then None else find (is_broken kinds before line) (causes limits before)

-- ---- numbers

-- an event by numbers. The thread that it begins has the next one, and so has a lock that is acquired or shared for the first time
abbrev pub numbered_event : List Kind → List Line → LineEvent → event.Event
numbered_event kinds before (Fork thread child) = numbered.Fork (place (threads_of before) thread) (length (threads_of before))
numbered_event kinds before (Join thread child) = numbered.Join (place (threads_of before) thread) (place (threads_of before) child)
numbered_event kinds before (Acquire thread lock) = numbered.Acquire (place (threads_of before) thread) (place (locks_of before) lock)
numbered_event kinds before (Release thread lock) = numbered.Release (place (threads_of before) thread) (place (locks_of before) lock)
numbered_event kinds before (Share thread lock) = numbered.Share (place (threads_of before) thread) (place (locks_of before) lock)
numbered_event kinds before (Unshare thread lock) = numbered.Unshare (place (threads_of before) thread) (place (locks_of before) lock)
numbered_event kinds before (Call thread object method slots) =
    numbered.Call (record {
      thread = place (threads_of before) thread;
      object = place (objects_of before) object;
      kind = kind_number kinds before object;
      method = method_number kinds before object method;
      slots = slots;
    })

-- what an accepted line is in numbers. The thread or object that it begins has the next one
unfoldable pub accepted_of : List Kind → List Line → Line → Accepted
accepted_of kinds before Skip = accepted.Nothing
accepted_of kinds before (Header version) = accepted.Nothing
accepted_of kinds before (Thread thread) = accepted.Root (length (threads_of before))
accepted_of kinds before (Object name kind) = accepted.Object (length (objects_of before)) (place (kind_names kinds) kind)
accepted_of kinds before (Event event) = accepted.Event (numbered_event kinds before event)

-- ---- memory

-- to accept the event behind these lines may take memory: it begins a thread, acquires a lock for the first time, shares one, or is a
-- call with slots
abbrev pub EventTakesMemory : List Line → LineEvent → Type 0
EventTakesMemory before (Fork thread child) = Unit {0}
EventTakesMemory before (Acquire thread lock) = ¬ (Contains (locks_of before) lock)
EventTakesMemory before (Share thread lock) = Unit {0}
EventTakesMemory before (Call thread object method slots) = slots ≢ []
EventTakesMemory before _ = ⊥

-- to accept the line may take memory: it names a thread, declares an object, or is such an event
abbrev pub TakesMemory : List Line → Line → Type 0
TakesMemory before (Thread thread) = Unit {0}
TakesMemory before (Object name kind) = Unit {0}
TakesMemory before (Event event) = EventTakesMemory before event
TakesMemory before _ = ⊥
