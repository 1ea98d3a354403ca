-- The reader of lines, as contracts see it.
use Rattle.std.specs.List.{Contains}
use Rattle.std.specs.Prelude.{◌≡◌, ◌≢◌, Bool, true, false, ℕ, ◌+◌, ◌-◌, ◌*◌, ◌^◌, ◌<◌, ◌≤◌, List, [], ◌∷◌, ◌++◌, Option, None, Some, take, length, slice_index, EachIndex, MatchOption, Result, Ok, Err}
use Rattle.rd_io.specs.Lines.{Stop, Reading, reading}
use Rattle.rd_io.specs.Lines.Stop.{end, fault}
use Rattle.rd_io.specs.Lines.LinesEnding.{at_end, no_final_newline, line_too_long, bytes_limit, faulted}
use Rattle.rd_io.specs.Lines.Reading.{stops, line}
use Rattle.rd_base.specs.declared.limits.Limits.{Limits}
use Rattle.rd_io.specs.declared.lines.Look.{Look}
use Rattle.rd_io.specs.declared.lines.Next.{Next}
use Rattle.rd_io.specs.declared.lines.ReadEnd.{ReadEnd}
use Rattle.rd_io.specs.declared.lines.Found.{Found}
use Rattle.rd_io.specs.declared.lines.Found.TheVariants as found
use Rattle.rd_io.specs.declared.lines.Look.TheVariants as look
use Rattle.rd_io.specs.declared.lines.Next.TheVariants as next
use Rattle.rd_io.specs.declared.lines.ReadEnd.TheVariants as read_end
use Rattle.rd_base.specs.Bytes.{line_feed}

-- no byte is a line feed
abbrev pub HasNoFeed : List ℕ → Type 0
HasNoFeed bytes = EachIndex bytes (λ k. slice_index bytes k ≢ line_feed)

-- the first line feed of the bytes stands there
pub record IsFirstFeed (bytes : List ℕ) (at : ℕ) : Type 0 where
  pub within : at < length bytes
  pub feed : slice_index bytes at ≡ line_feed
  pub before : HasNoFeed (take at bytes)

abbrev pub FindsFeed : List ℕ → Option ℕ → Type 0
FindsFeed bytes found = MatchOption found (HasNoFeed bytes) (IsFirstFeed bytes)

-- What was taken of the input and not yet given (`pending`), how many bytes from there on the limit on bytes lets through
-- (`room`), the limit on the bytes of a line with its line feed, the last line and its number, and the answer that each
-- further call gives once the lines have ended.
pub record Reader : Type 0 where
  pub pending : List ℕ
  pub room : ℕ
  pub limit : ℕ
  pub line : List ℕ
  pub number : ℕ
  pub ended : Option (Result Next ReadEnd)

-- a reader that has taken nothing
abbrev pub fresh : Limits → Reader
fresh limits = record { pending = []; room = limits.bytes; limit = limits.line; line = []; number = 0; ended = None }

-- the greatest number that a line may have, and one more for a line that is refused
abbrev pub last_number : Option (Result Next ReadEnd) → ℕ
last_number None = 2 ^ 64 - 2
last_number (Some (Ok next)) = 2 ^ 64 - 2
last_number (Some (Err refused)) = 2 ^ 64 - 1

-- How a reader lies in memory: the line stands before the pending bytes, and both lie near enough to one another for
-- the buffer, which is twice as long as a line may be, to hold them and a whole further line.
pub record IsLaidOut (size limit start held line_start line_len room number : ℕ) (ended : Option (Result Next ReadEnd)) : Type 0 where
  pub size_is : size ≡ 2 * limit
  pub some : 1 ≤ limit
  pub small : limit < 2 ^ 32
  pub behind : line_start + line_len ≤ start
  pub near : start ≤ line_start + limit
  pub within : start + held ≤ 2 * limit
  pub fits : held ≤ limit
  pub ahead : held ≤ room + 1
  pub few : number + room ≤ last_number ended

-- the lines that are still to come, where these bytes are still to be taken
abbrev pub lines_left : Reader → Stop → List ℕ → Reading
lines_left r stop bytes = reading r.limit r.room stop (r.pending ++ bytes)

-- a line was cut off the front of the pending bytes
pub record GivesLine (old new : Reader) : Type 0 where
  pub pending : old.pending ≡ new.line ++ line_feed ∷ new.pending
  pub clean : HasNoFeed new.line
  pub short : length new.line < old.limit
  pub room : old.room ≡ length new.line + 1 + new.room
  pub limit : new.limit ≡ old.limit
  pub number : new.number ≡ old.number + 1
  pub ended : new.ended ≡ old.ended

-- there is no line yet in the pending bytes, which are as many as a line may have
pub record IsTooLong (r : Reader) : Type 0 where
  pub clean : HasNoFeed r.pending
  pub long : length r.pending ≡ r.limit
  pub within : r.limit ≤ r.room

-- there is no line in the bytes within the limit, and one byte was taken past it
pub record IsPast (r : Reader) : Type 0 where
  pub clean : HasNoFeed (take r.room r.pending)
  pub past : length r.pending ≡ r.room + 1
  pub short : r.room < r.limit

-- there is no line yet, and more bytes may be taken
pub record IsShort (r : Reader) : Type 0 where
  pub clean : HasNoFeed r.pending
  pub short : length r.pending < r.limit
  pub within : length r.pending ≤ r.room

-- what a look at the pending bytes finds
abbrev pub Looks : Reader → Reader → Look → Type 0
Looks old new look.Line = GivesLine old new
Looks old new look.TooLong = (new ≡ old) × IsTooLong old
Looks old new look.Past = (new ≡ old) × IsPast old
Looks old new look.Short = (new ≡ old) × IsShort old

-- these bytes came behind the pending ones, and nothing else changed
abbrev pub with_more : Reader → List ℕ → Reader
with_more r bytes =
    record { pending = r.pending ++ bytes; room = r.room; limit = r.limit; line = r.line; number = r.number; ended = r.ended }

-- the lines ended well
abbrev pub with_end : Reader → Reader
with_end r = record r { ended = Some (Ok next.End) }

-- the line that is being read is refused, for good
abbrev pub with_refusal : Reader → ReadEnd → Reader
with_refusal r refused = record r { number = r.number + 1; ended = Some (Err refused) }

-- the pending bytes are a rest that no line feed ends, which is refused, for good
abbrev pub with_rest : Reader → Reader
with_rest r = record r {
  pending = [];
  line = r.pending;
  number = r.number + 1;
  ended = Some (Err read_end.NoFinalNewline);
}

-- what a search for the next line finds, with all that it took pending
abbrev pub Finds : Reader → Reader → Found → Type 0
Finds old new found.Line = GivesLine old new
Finds old new found.TooLong = (new ≡ old) × IsTooLong old
Finds old new found.Past = (new ≡ old) × IsPast old
Finds old new found.Ended = (new ≡ old) × IsShort old
Finds old new found.Faulted = (new ≡ old) × IsShort old

-- the pending bytes hold a further whole line within the limit on bytes
abbrev pub HasLine : Reader → Type 0
HasLine r = Contains (take r.room r.pending) line_feed

-- What an answer says of the lines that were still to come, where these bytes were taken in the call. A line is the next of
-- them and leaves the others to come, whatever comes behind the bytes; so do bytes that hold no line when a read fails.
abbrev pub TellsNext : Reader → List ℕ → Reader → Result Next ReadEnd → Type 0
TellsNext old bytes new (Ok next.Line) =
    (stop : Stop) (more : List ℕ) → lines_left old stop (bytes ++ more) ≡ line new.line (lines_left new stop more)
TellsNext old bytes new (Ok next.End) = lines_left old end bytes ≡ stops at_end
TellsNext old bytes new (Err read_end.ReadFault) =
    ((stop : Stop) (more : List ℕ) → lines_left old stop (bytes ++ more) ≡ lines_left new stop more)
    × (lines_left old fault bytes ≡ stops faulted)
TellsNext old bytes new (Err read_end.LineTooLong) = (stop : Stop) (more : List ℕ) → lines_left old stop (bytes ++ more) ≡ stops line_too_long
TellsNext old bytes new (Err read_end.BytesLimit) = (stop : Stop) (more : List ℕ) → lines_left old stop (bytes ++ more) ≡ stops bytes_limit
TellsNext old bytes new (Err read_end.NoFinalNewline) = (lines_left old end bytes ≡ stops no_final_newline) × (new.line ≡ old.pending ++ bytes)

-- where the reader stands after an answer, where these bytes were taken in the call
abbrev pub Leaves : Reader → List ℕ → Reader → Result Next ReadEnd → Type 0
Leaves old bytes new (Ok next.Line) = GivesLine (with_more old bytes) new
Leaves old bytes new (Ok next.End) = new ≡ with_end (with_more old bytes)
Leaves old bytes new (Err read_end.ReadFault) = new ≡ with_more old bytes
Leaves old bytes new (Err read_end.LineTooLong) = new ≡ with_refusal (with_more old bytes) read_end.LineTooLong
Leaves old bytes new (Err read_end.BytesLimit) = new ≡ with_refusal (with_more old bytes) read_end.BytesLimit
Leaves old bytes new (Err read_end.NoFinalNewline) = new ≡ with_rest (with_more old bytes)

-- What an answer says of the lines to come and where it leaves the reader, where these bytes were taken in the call: no
-- more than one past the limit on bytes, and with the pending ones no more than a line may have.
pub record IsAnswered (old : Reader) (bytes : List ℕ) (new : Reader) (result : Result Next ReadEnd) : Type 0 where
  pub tells : TellsNext old bytes new result
  pub leaves : Leaves old bytes new result
  pub past : length (old.pending ++ bytes) ≤ old.room + 1
  pub fits : length (old.pending ++ bytes) ≤ old.limit

-- the input has ended
abbrev pub IsAtEnd : Result Next ReadEnd → Type 0
IsAtEnd (Ok next.Line) = ⊥
IsAtEnd (Ok next.End) = Unit {0}
IsAtEnd (Err read_end.ReadFault) = ⊥
IsAtEnd (Err read_end.LineTooLong) = ⊥
IsAtEnd (Err read_end.BytesLimit) = ⊥
IsAtEnd (Err read_end.NoFinalNewline) = Unit {0}

-- a read failed
abbrev pub IsFault : Result Next ReadEnd → Type 0
IsFault result = result ≡ Err read_end.ReadFault

-- whether the line stays the former one
abbrev pub keeps_line : Result Next ReadEnd → Bool
keeps_line (Ok next.Line) = false
keeps_line (Ok next.End) = true
keeps_line (Err read_end.ReadFault) = true
keeps_line (Err read_end.LineTooLong) = true
keeps_line (Err read_end.BytesLimit) = true
keeps_line (Err read_end.NoFinalNewline) = false

-- a line and a refused line are counted
abbrev pub number_after : ℕ → Result Next ReadEnd → ℕ
number_after number (Ok next.Line) = number + 1
number_after number (Ok next.End) = number
number_after number (Err read_end.ReadFault) = number
number_after number (Err read_end.LineTooLong) = number + 1
number_after number (Err read_end.BytesLimit) = number + 1
number_after number (Err read_end.NoFinalNewline) = number + 1

-- a line with its line feed takes at least one byte of the room
abbrev pub room_taken : Result Next ReadEnd → ℕ
room_taken (Ok next.Line) = 1
room_taken (Ok next.End) = 0
room_taken (Err refused) = 0

-- the answer that each further call gives: any but a line and a fault
abbrev pub ended_by : Result Next ReadEnd → Option (Result Next ReadEnd)
ended_by (Ok next.Line) = None
ended_by (Ok next.End) = Some (Ok next.End)
ended_by (Err read_end.ReadFault) = None
ended_by (Err read_end.LineTooLong) = Some (Err read_end.LineTooLong)
ended_by (Err read_end.BytesLimit) = Some (Err read_end.BytesLimit)
ended_by (Err read_end.NoFinalNewline) = Some (Err read_end.NoFinalNewline)

-- how an answer moves the reader on, whatever was taken
pub record Moves (old new : Reader) (result : Result Next ReadEnd) : Type 0 where
  pub limit : new.limit ≡ old.limit
  pub line : keeps_line result ≡ true → new.line ≡ old.line
  pub number : new.number ≡ number_after old.number result
  pub less : new.room + room_taken result ≤ old.room
  pub ended : new.ended ≡ ended_by result
