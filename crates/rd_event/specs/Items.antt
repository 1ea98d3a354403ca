-- What a line of a trace says, and its spelling: this project's profile.
use Rattle.std.specs.Prelude.{◌≡◌, ◌⊎◌, ℕ, ◌≤◌, Bool, true, ◌==◌, List, [], ◌∷◌, ◌++◌, length, codes, decimal, flat_map}
use Rattle.std.specs.List.{All}
use Rattle.rd_base.specs.declared.values.Value.{Value}
use Rattle.rd_base.specs.Names.{IsName}
use Rattle.rd_base.specs.Spelling.{IsValue, value_spelling}
use Rattle.rd_event.specs.declared.items.Line.{Line}
use Rattle.rd_event.specs.declared.items.Line.TheVariants.{Skip, Header, Thread, Object, Event}
use Rattle.rd_event.specs.declared.items.LineEvent.{LineEvent}
use Rattle.rd_event.specs.declared.items.LineEvent.TheVariants.{Fork, Join, Acquire, Release, Share, Unshare, Call}
use Rattle.rd_base.specs.Bytes.{hash, space}

-- the arguments of a call, at most 6, then its result
pub record AreSlots (slots : List Value) : Type 0 where
  pub some : 1 ≤ length slots
  pub few : length slots ≤ 7
  pub each : All IsValue slots

-- an item of a trace: its names are names, its values are values, and its version is 1 or 2
abbrev pub IsEvent : LineEvent → Type 0
IsEvent (Fork thread child) = IsName thread × IsName child
IsEvent (Join thread child) = IsName thread × IsName child
IsEvent (Acquire thread lock) = IsName thread × IsName lock
IsEvent (Release thread lock) = IsName thread × IsName lock
IsEvent (Share thread lock) = IsName thread × IsName lock
IsEvent (Unshare thread lock) = IsName thread × IsName lock
IsEvent (Call thread object method slots) = IsName thread × IsName object × IsName method × AreSlots slots

-- the versions of the text of a trace
abbrev pub IsVersion : ℕ → Type 0
IsVersion version = (version ≡ 1) ⊎ (version ≡ 2)

abbrev pub LineInRange : Line → Type 0
LineInRange Skip = Unit {0}
LineInRange (Header version) = IsVersion version
LineInRange (Thread thread) = IsName thread
LineInRange (Object name kind) = IsName name × IsName kind
LineInRange (Event event) = IsEvent event

-- what a line must be to have a spelling: its version is 1 or 2, and a call has 1 to 7 slots
abbrev pub HasFewSlots : LineEvent → Type 0
HasFewSlots (Fork thread child) = Unit {0}
HasFewSlots (Join thread child) = Unit {0}
HasFewSlots (Acquire thread lock) = Unit {0}
HasFewSlots (Release thread lock) = Unit {0}
HasFewSlots (Share thread lock) = Unit {0}
HasFewSlots (Unshare thread lock) = Unit {0}
HasFewSlots (Call thread object method slots) = (1 ≤ length slots) × (length slots ≤ 7)

abbrev pub IsSpellable : Line → Type 0
IsSpellable Skip = Unit {0}
IsSpellable (Header version) = IsVersion version
IsSpellable (Thread thread) = Unit {0}
IsSpellable (Object name kind) = Unit {0}
IsSpellable (Event event) = HasFewSlots event

-- two names or other words, one space apart
abbrev pub words_apart : List ℕ → List ℕ → List ℕ
words_apart first second = first ++ space ∷ second

-- each argument and a space, then an arrow, a space and the result
abbrev pub slots_spelling : List Value → List ℕ
slots_spelling [] = []
slots_spelling (result ∷ []) = words_apart (codes "->") (value_spelling result)
slots_spelling (argument ∷ slot ∷ slots) = words_apart (value_spelling argument) (slots_spelling (slot ∷ slots))

-- a call, as its line has it behind `call`
abbrev pub call_text : List ℕ → List ℕ → List ℕ → List Value → List ℕ
call_text thread object method slots = words_apart thread (words_apart object (words_apart method (slots_spelling slots)))

abbrev pub event_spelling : LineEvent → List ℕ
event_spelling (Fork thread child) = codes "fork " ++ words_apart thread child
event_spelling (Join thread child) = codes "join " ++ words_apart thread child
event_spelling (Acquire thread lock) = codes "acquire " ++ words_apart thread lock
event_spelling (Release thread lock) = codes "release " ++ words_apart thread lock
event_spelling (Share thread lock) = codes "share " ++ words_apart thread lock
event_spelling (Unshare thread lock) = codes "unshare " ++ words_apart thread lock
event_spelling (Call thread object method slots) = codes "call " ++ call_text thread object method slots

-- the one spelling of each item that isn't skipped
abbrev pub line_spelling : Line → List ℕ
line_spelling Skip = []
line_spelling (Header version) = codes "rdtrace " ++ decimal version
line_spelling (Thread thread) = codes "thread " ++ thread
line_spelling (Object name kind) = codes "object " ++ words_apart name kind
line_spelling (Event event) = event_spelling event

-- an empty line, or one whose first byte is #
abbrev pub is_skipped : List ℕ → Bool
is_skipped [] = true
is_skipped (byte ∷ bytes) = byte == hash

-- the version has the event: version 2 alone has shares. In front of the header the version is 0
abbrev pub HasEvent : ℕ → LineEvent → Type 0
HasEvent version (Share thread lock) = version ≡ 2
HasEvent version (Unshare thread lock) = version ≡ 2
HasEvent version _ = Unit {0}

-- the version has the item: each has both headers
abbrev pub HasItem : ℕ → Line → Type 0
HasItem version (Event event) = HasEvent version event
HasItem version _ = Unit {0}

-- the version has the item, and the bytes are a spelling of it
abbrev pub Says : ℕ → List ℕ → Line → Type 0
Says version bytes Skip = is_skipped bytes ≡ true
Says version bytes (Header number) = bytes ≡ line_spelling (Header number)
Says version bytes (Thread thread) = bytes ≡ line_spelling (Thread thread)
Says version bytes (Object name kind) = bytes ≡ line_spelling (Object name kind)
Says version bytes (Event event) = HasEvent version event × (bytes ≡ line_spelling (Event event))

-- a line with its line feed, and lines
abbrev pub line_text : Line → List ℕ
line_text line = line_spelling line ++ codes "\n"

abbrev pub lines_text : List Line → List ℕ
lines_text lines = flat_map line_text lines
