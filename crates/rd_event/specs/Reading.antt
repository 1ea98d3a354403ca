-- The item that bytes spell, computed: this project's profile.
use Rattle.std.specs.Prelude.{ℕ, Bool, ◌==◌, if◌then◌else◌, List, codes, Option, Some, None}
use Rattle.std.specs.List.{before_first, after_first}
use Rattle.std.specs.Option.{option_map, option_and_then}
use Rattle.std.specs.Str.{bytes_eq}
use Rattle.rd_base.specs.Names.{is_name}
use Rattle.rd_event.specs.declared.items.Line.{Line}
use Rattle.rd_event.specs.declared.items.Line.TheVariants.{Skip, Header, Thread, Object, Event}
use Rattle.rd_event.specs.declared.items.LineEvent.{LineEvent}
use Rattle.rd_event.specs.declared.items.LineEvent.TheVariants.{Fork, Join, Acquire, Release, Share, Unshare, Call}
use Rattle.rd_event.specs.declared.reading.Pair.{Pair}
use Rattle.rd_event.specs.declared.reading.Pair.TheVariants.{Object as ObjectPair, Fork as ForkPair, Join as JoinPair, Acquire as AcquirePair, Release as ReleasePair}
use Rattle.rd_event.specs.Items.{is_skipped}
use Rattle.rd_event.specs.ReadingSlots.{slots_read}
use Rattle.rd_base.specs.Bytes.{is_space}

-- the bytes, if they are a name
unfoldable pub name_read : List ℕ → Option (List ℕ)
name_read bytes = if is_name bytes then Some bytes else None

-- what stands before and after the first space, if both are names
unfoldable pub names_read : List ℕ → Option (List ℕ × List ℕ)
names_read bytes =
    let found_first = name_read (before_first is_space bytes) in
    let found_second = name_read (after_first is_space bytes) in
    option_and_then (λ first. option_map (λ second. (first, second)) found_second) found_first

-- the call of a line with these bytes behind its keyword: three names and the slots, a space apart
unfoldable pub call_read : List ℕ → Option LineEvent
call_read rest =
    let names = after_first is_space rest in
    let words = after_first is_space names in
    let found_thread = name_read (before_first is_space rest) in
    let found_object = name_read (before_first is_space names) in
    let found_method = name_read (before_first is_space words) in
    let found_slots = slots_read 7 (after_first is_space words) in
    option_and_then (λ thread. option_and_then (λ object. option_and_then (λ method.
    option_map (λ slots. Call thread object method slots) found_slots) found_method) found_object) found_thread

-- the item of a line with two names
abbrev pub pair_item : Pair → List ℕ × List ℕ → Line
pair_item ObjectPair names = Object names.0 names.1
pair_item ForkPair names = Event (Fork names.0 names.1)
pair_item JoinPair names = Event (Join names.0 names.1)
pair_item AcquirePair names = Event (Acquire names.0 names.1)
pair_item ReleasePair names = Event (Release names.0 names.1)

-- the share that is spelled like an acquire, and the unshare that is spelled like a release
abbrev pub shared_event : LineEvent → LineEvent
shared_event (Acquire thread lock) = Share thread lock
shared_event (Release thread lock) = Unshare thread lock
shared_event event = event

abbrev pub shared_item : Line → Line
shared_item (Event event) = Event (shared_event event)
shared_item item = item

-- the keyword of a call
abbrev pub is_call_keyword : List ℕ → Bool
is_call_keyword keyword = bytes_eq keyword (codes "call")

-- the header with these bytes behind its keyword
abbrev pub header_read : List ℕ → Option Line
header_read rest = if bytes_eq rest (codes "1") then Some (Header 1) else if bytes_eq rest (codes "2") then Some (Header 2) else None

-- the events that version 2 has besides
unfoldable pub share_with : List ℕ → List ℕ → Option LineEvent
share_with keyword rest =
    if bytes_eq keyword (codes "share") then option_map (λ names. Share names.0 names.1) (names_read rest)
    else if bytes_eq keyword (codes "unshare") then option_map (λ names. Unshare names.0 names.1) (names_read rest)
    else None

-- the event of a line of this version with this keyword and these bytes after the space behind it
unfoldable pub event_with : ℕ → List ℕ → List ℕ → Option LineEvent
event_with version keyword rest =
    if bytes_eq keyword (codes "fork") then option_map (λ names. Fork names.0 names.1) (names_read rest)
    else if bytes_eq keyword (codes "join") then option_map (λ names. Join names.0 names.1) (names_read rest)
    else if bytes_eq keyword (codes "acquire") then option_map (λ names. Acquire names.0 names.1) (names_read rest)
    else if bytes_eq keyword (codes "release") then option_map (λ names. Release names.0 names.1) (names_read rest)
    else if is_call_keyword keyword then call_read rest
    else if version == 2 then share_with keyword rest
    else None

-- the item of such a line
unfoldable pub item_with : ℕ → List ℕ → List ℕ → Option Line
item_with version keyword rest =
    if bytes_eq keyword (codes "rdtrace") then header_read rest
    else if bytes_eq keyword (codes "thread") then option_map (λ name. Thread name) (name_read rest)
    else if bytes_eq keyword (codes "object") then option_map (λ names. Object names.0 names.1) (names_read rest)
    else option_map (λ event. Event event) (event_with version keyword rest)

-- the item of a version that the bytes spell
unfoldable pub item_of : ℕ → List ℕ → Option Line
item_of version bytes =
    if is_skipped bytes then Some Skip
    else item_with version (before_first is_space bytes) (after_first is_space bytes)
