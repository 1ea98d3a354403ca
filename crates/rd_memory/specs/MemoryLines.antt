-- What a line of a trace of reads and writes says, and its spelling: this project's profile.
use Rattle.std.specs.Prelude.{◌≡◌, ℕ, Bool, true, false, if◌then◌else◌, List, [], ◌∷◌, ◌++◌, codes, Option, Some, None, IsTrue}
use Rattle.std.specs.List.{before_first, after_first}
use Rattle.std.specs.Option.{option_map, option_and_then}
use Rattle.std.specs.Str.{bytes_eq}
use Rattle.rd_base.specs.Bytes.{is_space}
use Rattle.rd_base.specs.Names.{IsName}
use Rattle.rd_event.specs.declared.items.Line.{Line}
use Rattle.rd_event.specs.declared.items.Line.TheVariants as item
use Rattle.rd_event.specs.declared.items.LineEvent.{LineEvent}
use Rattle.rd_event.specs.declared.items.LineEvent.TheVariants.{Fork, Join, Acquire, Release}
use Rattle.rd_event.specs.Items.{IsEvent, event_spelling, is_skipped, words_apart}
use Rattle.rd_event.specs.Reading.{item_of, names_read}
use Rattle.rd_memory.specs.declared.lines.MemLine.{MemLine}
use Rattle.rd_memory.specs.declared.lines.MemLine.TheVariants.{Skip, Header, Thread, Event, Access}

-- a fork, a join, an acquire or a release
abbrev pub is_common_event : LineEvent → Bool
is_common_event (Fork thread child) = true
is_common_event (Join thread child) = true
is_common_event (Acquire thread lock) = true
is_common_event (Release thread lock) = true
is_common_event _ = false

-- the names of the line are names, and its event is one of these
abbrev pub MemLineInRange : MemLine → Type 0
MemLineInRange Skip = Unit {0}
MemLineInRange Header = Unit {0}
MemLineInRange (Thread thread) = IsName thread
MemLineInRange (Event event) = IsTrue (is_common_event event) × IsEvent event
MemLineInRange (Access thread variable write) = IsName thread × IsName variable

-- the keyword of an access
abbrev pub access_keyword : Bool → List ℕ
access_keyword write = if write then codes "write" else codes "read"

-- the one spelling of each line that isn't skipped
abbrev pub memory_spelling : MemLine → List ℕ
memory_spelling Skip = []
memory_spelling Header = codes "rdmem 1"
memory_spelling (Thread thread) = codes "thread " ++ thread
memory_spelling (Event event) = event_spelling event
memory_spelling (Access thread variable write) = words_apart (access_keyword write) (words_apart thread variable)

-- the bytes are a spelling of the line
abbrev pub SaysMemory : List ℕ → MemLine → Type 0
SaysMemory bytes Skip = is_skipped bytes ≡ true
SaysMemory bytes line = bytes ≡ memory_spelling line

-- the line that says the same as this item of a trace, if there is one
abbrev pub common_line : Line → Option MemLine
common_line item.Skip = Some Skip
common_line (item.Thread thread) = Some (Thread thread)
common_line (item.Event event) = if is_common_event event then Some (Event event) else None
common_line _ = None

-- the access of a thread and a variable
abbrev pub access_of : Bool → List ℕ × List ℕ → MemLine
access_of write names = Access names.0 names.1 write

-- the line that the bytes spell
unfoldable pub memory_line_of : List ℕ → Option MemLine
memory_line_of bytes =
    let keyword = before_first is_space bytes in
    let names = names_read (after_first is_space bytes) in
    if bytes_eq keyword (codes "read") then option_map (access_of false) names
    else if bytes_eq keyword (codes "write") then option_map (access_of true) names
    else if bytes_eq bytes (codes "rdmem 1") then Some Header
    else option_and_then common_line (item_of 1 bytes)

-- the keywords, each with its space, of the lines that say the same in both texts
abbrev pub common_keywords : List (List ℕ)
common_keywords = codes "thread " ∷ codes "fork " ∷ codes "join " ∷ codes "acquire " ∷ codes "release " ∷ []
