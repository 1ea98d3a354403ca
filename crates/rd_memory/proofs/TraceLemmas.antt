-- What lines of reads and writes stand for, and what bytes with a keyword in front say.
use Rattle.std.proofs.Common.{◌≡◌, ◌≢◌, ℕ, Bool, true, false, if◌then◌else◌, List, [], ◌∷◌, ◌++◌, refl, sym, ◌∙◌, ap, subst, arith, codes, Option, Some, None, All, inl, inr}
use Rattle.std.specs.List.{AllByRecursion}
use Rattle.std.specs.Option.{option_map, option_and_then}
use Rattle.std.specs.Cmp.Lexicographic.{bytes_decides}
use Rattle.std.proofs.lemmas.Bool.{or_cases, true≢false}
use Rattle.rd_base.specs.declared.values.Value.TheVariants.{Nil}
use Rattle.rd_base.specs.Names.{IsName, is_name}
use Rattle.rd_base.specs.Spelling.{IsValue}
use Rattle.rd_base.proofs.FoundLemmas.{each_from_recursion}
use Rattle.rd_base.proofs.NameLemmas.{is_name_decides}
use Rattle.rd_event.specs.declared.items.Line.{Line}
use Rattle.rd_event.specs.declared.items.Line.TheVariants as item
use Rattle.rd_event.specs.declared.items.LineEvent.{LineEvent}
use Rattle.rd_event.specs.declared.items.LineEvent.TheVariants.{Fork, Join, Acquire, Release, Share, Unshare, Call}
use Rattle.rd_event.specs.Items.{AreSlots, HasItem, LineInRange, is_skipped, words_apart}
use Rattle.rd_event.specs.Reading.{item_of, item_with, event_with, name_read, names_read}
use Rattle.rd_rules.specs.MayFollow.{is_among, objects_of}
use Rattle.rd_memory.specs.declared.lines.MemLine.{MemLine}
use Rattle.rd_memory.specs.declared.lines.MemLine.TheVariants.{Skip, Header, Thread, Event, Access}
use Rattle.rd_memory.specs.MemoryLines.{MemLineInRange, SaysMemory, access_keyword, access_of, common_keywords, common_line, memory_line_of}
use Rattle.rd_memory.specs.MemoryTraces.{access_call, items_said, memory_says}
use Rattle.rd_memory.proofs.MemoryLemmas.{line_found, none_from_unsaid}

-- ---- items in their ranges

variable_named : IsName (codes "variable")
unfolding is_name
variable_named = (is_name_decides (codes "variable")).0 refl

access_named : (write : Bool) → IsName (access_keyword write)
unfolding is_name
access_named false = (is_name_decides (codes "read")).0 refl
access_named true = (is_name_decides (codes "write")).0 refl

nil_slots : AreSlots (Nil ∷ [])
nil_slots = record { some = omega arith; few = omega arith; each = each_from_recursion IsValue (Nil ∷ []) (tt, tt) }

one : (P : Line → Type 0) (x : Line) → P x → All P (x ∷ [])
one P x holds = each_from_recursion P (x ∷ []) (holds, tt)

call_in_range : (thread variable : List ℕ) (write : Bool) → IsName thread → IsName variable → LineInRange (access_call thread variable write)
call_in_range thread variable write thread_is variable_is = (thread_is, variable_is, access_named write, nil_slots)

-- an access is its call, with a declaration in front or none
with_declaration : (P : Line → Type 0) (declared : Bool) (object call : Line) → P object → P call
    → All P ((if declared then [] else object ∷ []) ++ call ∷ [])
with_declaration P true object call first second = one P call second
with_declaration P false object call first second = each_from_recursion P (object ∷ call ∷ []) (first, (second, tt))

pub items_in_range : (before : List Line) (line : MemLine) → MemLineInRange line → All LineInRange (items_said before line)
items_in_range before Skip range = one LineInRange item.Skip tt
items_in_range before Header range = one LineInRange (item.Header 1) (inl refl)
items_in_range before (Thread thread) range = one LineInRange (item.Thread thread) range
items_in_range before (Event event) range = one LineInRange (item.Event event) range.1
items_in_range before (Access thread variable write) range =
    with_declaration LineInRange (is_among (objects_of before) variable) (item.Object variable (codes "variable")) (access_call thread variable write)
    (range.1, variable_named) (call_in_range thread variable write range.0 range.1)

common_has : (event : LineEvent) → MemLineInRange (Event event) → HasItem 1 (item.Event event)
common_has (Fork thread child) range = tt
common_has (Join thread child) range = tt
common_has (Acquire thread lock) range = tt
common_has (Release thread lock) range = tt
common_has (Share thread lock) range = absurd (true≢false (sym range.0))
common_has (Unshare thread lock) range = absurd (true≢false (sym range.0))
common_has (Call thread object method slots) range = tt

pub items_of_version : (before : List Line) (line : MemLine) → MemLineInRange line → All (HasItem 1) (items_said before line)
items_of_version before Skip range = one (HasItem 1) item.Skip tt
items_of_version before Header range = one (HasItem 1) (item.Header 1) tt
items_of_version before (Thread thread) range = one (HasItem 1) (item.Thread thread) tt
items_of_version before (Event event) range = one (HasItem 1) (item.Event event) (common_has event range)
items_of_version before (Access thread variable write) range =
    with_declaration (HasItem 1) (is_among (objects_of before) variable) (item.Object variable (codes "variable")) (access_call thread variable write) tt tt

-- ---- keywords

pub read_behind : (names : List ℕ) → memory_line_of (codes "read " ++ names) ≡ option_map (access_of false) (names_read names)
unfolding memory_line_of
read_behind names = refl

pub write_behind : (names : List ℕ) → memory_line_of (codes "write " ++ names) ≡ option_map (access_of true) (names_read names)
unfolding memory_line_of
write_behind names = refl

-- what bytes stand for says the same as what they say in a trace
abbrev SaysTheSame : List Line → ℕ → List ℕ → Type 0
SaysTheSame before version bytes = memory_says before bytes ≡ option_map (λ found. found ∷ []) (item_of version bytes)

-- the same of names that are read, or not
pair_common : (before : List Line) (event : List ℕ × List ℕ → LineEvent)
    → ((names : List ℕ × List ℕ) → common_line (item.Event (event names)) ≡ Some (Event (event names))) → (found : Option (List ℕ × List ℕ))
    → option_map (items_said before) (option_and_then common_line (option_map (λ made. item.Event made) (option_map event found)))
    ≡ option_map (λ item. item ∷ []) (option_map (λ made. item.Event made) (option_map event found))
pair_common before event is None = refl
pair_common before event is (Some names) = ap (option_map (items_said before)) (is names)

name_common : (before : List Line) (found : Option (List ℕ))
    → option_map (items_said before) (option_and_then common_line (option_map (λ name. item.Thread name) found))
    ≡ option_map (λ item. item ∷ []) (option_map (λ name. item.Thread name) found)
name_common before None = refl
name_common before (Some name) = refl

thread_behind : (before : List Line) (version : ℕ) (rest : List ℕ) → SaysTheSame before version (codes "thread " ++ rest)
unfolding memory_line_of item_of item_with
thread_behind before version rest = name_common before (name_read rest)

fork_behind : (before : List Line) (version : ℕ) (rest : List ℕ) → SaysTheSame before version (codes "fork " ++ rest)
unfolding memory_line_of item_of item_with event_with
fork_behind before version rest = pair_common before (λ names. Fork names.0 names.1) (λ names. refl) (names_read rest)

join_behind : (before : List Line) (version : ℕ) (rest : List ℕ) → SaysTheSame before version (codes "join " ++ rest)
unfolding memory_line_of item_of item_with event_with
join_behind before version rest = pair_common before (λ names. Join names.0 names.1) (λ names. refl) (names_read rest)

acquire_behind : (before : List Line) (version : ℕ) (rest : List ℕ) → SaysTheSame before version (codes "acquire " ++ rest)
unfolding memory_line_of item_of item_with event_with
acquire_behind before version rest = pair_common before (λ names. Acquire names.0 names.1) (λ names. refl) (names_read rest)

release_behind : (before : List Line) (version : ℕ) (rest : List ℕ) → SaysTheSame before version (codes "release " ++ rest)
unfolding memory_line_of item_of item_with event_with
release_behind before version rest = pair_common before (λ names. Release names.0 names.1) (λ names. refl) (names_read rest)

-- a keyword among these is one of them
each_keyword : (P : List ℕ → Type 0) (keyword : List ℕ) (keywords : List (List ℕ)) → AllByRecursion P keywords → is_among keywords keyword ≡ true → P keyword
each_keyword P keyword [] each among = absurd (true≢false (sym among))
each_keyword P keyword (first ∷ keywords) each among = elim (or_cases _ _ among) [
  | inl same ↦ subst P (sym ((bytes_decides keyword first).0 same)) each.0
  | inr later ↦ each_keyword P keyword keywords each.1 later
]

pub keyword_common : (keyword : List ℕ) → is_among common_keywords keyword ≡ true → (before : List Line) (version : ℕ) (rest : List ℕ)
    → SaysTheSame before version (keyword ++ rest)
keyword_common keyword among before version rest =
    each_keyword (λ text. SaysTheSame before version (text ++ rest)) keyword common_keywords (
      thread_behind before version rest,
      (fork_behind before version rest, (join_behind before version rest, (acquire_behind before version rest, (release_behind before version rest, tt)))),
    )
    among

pub skipped_said : (before : List Line) (bytes : List ℕ) → is_skipped bytes ≡ true → memory_says before bytes ≡ Some (item.Skip ∷ [])
skipped_said before bytes skipped = ap (option_map (items_said before)) (line_found bytes Skip tt skipped)

-- bytes that begin with none of the keywords, are no header and aren't skipped
record BeginsOtherwise (bytes : List ℕ) : Type 0 where
  read : (rest : List ℕ) → bytes ≢ codes "read " ++ rest
  write : (rest : List ℕ) → bytes ≢ codes "write " ++ rest
  acquire : (rest : List ℕ) → bytes ≢ codes "acquire " ++ rest
  release : (rest : List ℕ) → bytes ≢ codes "release " ++ rest
  join : (rest : List ℕ) → bytes ≢ codes "join " ++ rest
  fork : (rest : List ℕ) → bytes ≢ codes "fork " ++ rest
  thread : (rest : List ℕ) → bytes ≢ codes "thread " ++ rest
  header : bytes ≢ codes "rdmem 1"
  counted : is_skipped bytes ≡ false

unsaid : (bytes : List ℕ) → BeginsOtherwise bytes → (line : MemLine) → MemLineInRange line → SaysMemory bytes line → ⊥
unsaid bytes begins Skip range says = true≢false (sym says ∙ begins.counted)
unsaid bytes begins Header range says = begins.header says
unsaid bytes begins (Thread name) range says = begins.thread name says
unsaid bytes begins (Event (Fork actor child)) range says = begins.fork (words_apart actor child) says
unsaid bytes begins (Event (Join actor child)) range says = begins.join (words_apart actor child) says
unsaid bytes begins (Event (Acquire actor lock)) range says = begins.acquire (words_apart actor lock) says
unsaid bytes begins (Event (Release actor lock)) range says = begins.release (words_apart actor lock) says
unsaid bytes begins (Event (Share actor lock)) range says = true≢false (sym range.0)
unsaid bytes begins (Event (Unshare actor lock)) range says = true≢false (sym range.0)
unsaid bytes begins (Event (Call actor object method slots)) range says = true≢false (sym range.0)
unsaid bytes begins (Access actor variable false) range says = begins.read (words_apart actor variable) says
unsaid bytes begins (Access actor variable true) range says = begins.write (words_apart actor variable) says

pub other_none : (bytes : List ℕ)
    → ((rest : List ℕ) → bytes ≢ codes "read " ++ rest) → ((rest : List ℕ) → bytes ≢ codes "write " ++ rest)
    → ((rest : List ℕ) → bytes ≢ codes "acquire " ++ rest) → ((rest : List ℕ) → bytes ≢ codes "release " ++ rest)
    → ((rest : List ℕ) → bytes ≢ codes "join " ++ rest) → ((rest : List ℕ) → bytes ≢ codes "fork " ++ rest)
    → ((rest : List ℕ) → bytes ≢ codes "thread " ++ rest)
    → bytes ≢ codes "rdmem 1" → is_skipped bytes ≡ false → memory_line_of bytes ≡ None
other_none bytes no_read no_write no_acquire no_release no_join no_fork no_thread no_header counted_is =
    none_from_unsaid bytes (unsaid bytes (record {
      read = no_read;
      write = no_write;
      acquire = no_acquire;
      release = no_release;
      join = no_join;
      fork = no_fork;
      thread = no_thread;
      header = no_header;
      counted = counted_is;
    }))
