-- What a line of a thread's log says, and its spelling: this project's profile.
use Rattle.std.specs.Prelude.{take, drop, ◌≡◌, ℕ, ◌≤◌, ◌==◌, Bool, true, false, if◌then◌else◌, List, [], ◌++◌, codes, decimal, Option, Some, None, IsTrue}
use Rattle.std.specs.List.{before_first, after_first}
use Rattle.std.specs.Option.{option_map, option_and_then}
use Rattle.std.specs.Str.{bytes_eq}
use Rattle.rd_base.specs.Bytes.{is_space}
use Rattle.rd_base.specs.Names.{IsName}
use Rattle.rd_decimals.specs.Decimals.{number_read}
use Rattle.rd_event.specs.declared.items.LineEvent.{LineEvent}
use Rattle.rd_event.specs.declared.items.LineEvent.TheVariants.{Fork, Join, Release, Call}
use Rattle.rd_event.specs.Items.{IsEvent, is_skipped, slots_spelling, words_apart}
use Rattle.rd_event.specs.Reading.{call_read, name_read, names_read}
use Rattle.rd_logs.specs.declared.lines.LogLine.{LogLine}
use Rattle.rd_logs.specs.declared.lines.LogLine.TheVariants.{Skip, Object, Event, Acquire}
use Rattle.rd_rules.specs.MayFollow.{actor_name}

-- an event that a log has without a number: a fork, a join, a release or a call
abbrev pub is_plain_event : LineEvent → Bool
is_plain_event (Fork thread child) = true
is_plain_event (Join thread child) = true
is_plain_event (Release thread lock) = true
is_plain_event (Call thread object method slots) = true
is_plain_event _ = false

-- the greatest number of an acquire
abbrev pub most_acquires : ℕ
most_acquires = 4294967295

-- the names of the line are names, its event is one of these and of the log's thread, and its number is one of an acquire
abbrev pub LogLineInRange : List ℕ → LogLine → Type 0
LogLineInRange thread Skip = Unit {0}
LogLineInRange thread (Object name kind) = IsName name × IsName kind
LogLineInRange thread (Event event) = IsTrue (is_plain_event event) × IsEvent event × (actor_name event ≡ thread)
LogLineInRange thread (Acquire lock number) = IsName lock × (1 ≤ number) × (number ≤ most_acquires)

-- an event without its thread
abbrev pub plain_spelling : LineEvent → List ℕ
plain_spelling (Fork thread child) = codes "fork " ++ child
plain_spelling (Join thread child) = codes "join " ++ child
plain_spelling (Release thread lock) = codes "release " ++ lock
plain_spelling (Call thread object method slots) = codes "call " ++ words_apart object (words_apart method (slots_spelling slots))
plain_spelling _ = []

-- the one spelling of each line that isn't skipped
abbrev pub log_spelling : LogLine → List ℕ
log_spelling Skip = []
log_spelling (Object name kind) = codes "object " ++ words_apart name kind
log_spelling (Event event) = plain_spelling event
log_spelling (Acquire lock number) = codes "acquire " ++ words_apart lock (decimal number)

-- the bytes are a spelling of the line
abbrev pub SaysInLog : List ℕ → LogLine → Type 0
SaysInLog bytes Skip = is_skipped bytes ≡ true
SaysInLog bytes line = bytes ≡ log_spelling line

-- the header of a thread's log
abbrev pub header_spelling : List ℕ → List ℕ
header_spelling thread = codes "rdlog 1 " ++ thread

-- ---- the same, computed

-- the number of an acquire that the bytes spell
abbrev pub some_number : ℕ → Option ℕ
some_number number = if number == 0 then None else Some number

-- the acquire of a line with these bytes behind its keyword
unfoldable pub acquire_read : List ℕ → Option LogLine
acquire_read rest =
    option_and_then (λ lock. option_map (λ number. Acquire lock number) (option_and_then some_number (number_read most_acquires (after_first is_space rest)))) (name_read (before_first is_space rest))

-- the line of a thread's log with this keyword and these bytes after the space behind it. A call is read with the thread put in front
unfoldable pub log_line_with : List ℕ → List ℕ → List ℕ → Option LogLine
log_line_with thread keyword rest =
    if bytes_eq keyword (codes "object") then option_map (λ names. Object names.0 names.1) (names_read rest)
    else if bytes_eq keyword (codes "fork") then option_map (λ child. Event (Fork thread child)) (name_read rest)
    else if bytes_eq keyword (codes "join") then option_map (λ child. Event (Join thread child)) (name_read rest)
    else if bytes_eq keyword (codes "release") then option_map (λ lock. Event (Release thread lock)) (name_read rest)
    else if bytes_eq keyword (codes "acquire") then acquire_read rest
    else if bytes_eq keyword (codes "call") then option_map (λ event. Event event) (call_read (words_apart thread rest))
    else None

-- the line that the bytes spell
unfoldable pub log_line_of : List ℕ → List ℕ → Option LogLine
log_line_of thread bytes = if is_skipped bytes then Some Skip else log_line_with thread (before_first is_space bytes) (after_first is_space bytes)

-- the thread of the header that they spell
unfoldable pub log_header_of : List ℕ → Option (List ℕ)
log_header_of bytes = if bytes_eq (take 8 bytes) (codes "rdlog 1 ") then name_read (drop 8 bytes) else None
