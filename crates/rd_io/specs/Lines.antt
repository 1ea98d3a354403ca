-- The lines of bytes, and how they end. This project's profile.
use Rattle.std.specs.Prelude.{◌≡◌, ℕ, Bool, ◌==◌, nat_lt, nat_le, List, [], ◌∷◌, take, length, if◌then◌else◌}
use Rattle.rd_base.specs.Bytes.{line_feed}

-- why the bytes go no further: the input ended, or a read of it failed
pub data Stop : Type 0 where
  end : Stop
  fault : Stop

-- how the lines end
pub data LinesEnding : Type 0 where
  at_end : LinesEnding
  no_final_newline : LinesEnding
  line_too_long : LinesEnding
  bytes_limit : LinesEnding
  faulted : LinesEnding

-- the lines, one after another, and how they end
pub data Reading : Type 0 where
  stops : LinesEnding → Reading
  line : List ℕ → Reading → Reading

-- bytes cut at their line feeds: the parts that a line feed ends, and the rest behind them
pub data Parts : Type 0 where
  rest : List ℕ → Parts
  part : List ℕ → Parts → Parts

-- the parts with one byte more at the front of the first
abbrev pub with_byte : ℕ → Parts → Parts
with_byte byte (rest bytes) = rest (byte ∷ bytes)
with_byte byte (part bytes more) = part (byte ∷ bytes) more

abbrev pub parts_of : List ℕ → Parts
parts_of [] = rest []
parts_of (byte ∷ bytes) = if byte == line_feed then part [] (parts_of bytes) else with_byte byte (parts_of bytes)

-- how lines end behind which this rest is left, where no limit is passed
abbrev pub rest_ending : Stop → List ℕ → LinesEnding
rest_ending fault bytes = faulted
rest_ending end [] = at_end
rest_ending end (byte ∷ bytes) = no_final_newline

-- The lines are the parts up to the first that has, without its line feed, as many bytes as the limit on a line
-- (`limit`) or more. Behind them the first of these holds: a part or a rest is so long; there are bytes past the limit
-- on bytes (`past`); the stop is a fault; a rest is left; the input is at its end.
unfoldable pub lines_of : ℕ → Stop → Bool → Parts → Reading
lines_of limit stop past (part bytes more) =
    if nat_le limit (length bytes) then stops line_too_long else line bytes (lines_of limit stop past more)
lines_of limit stop past (rest bytes) =
    if nat_le limit (length bytes) then stops line_too_long else (if past then stops bytes_limit else stops (rest_ending stop bytes))

-- the lines of bytes with a limit on the bytes of a line and one on all bytes (`room`)
unfoldable pub reading : ℕ → ℕ → Stop → List ℕ → Reading
reading limit room stop bytes = lines_of limit stop (nat_lt room (length bytes)) (parts_of (take room bytes))

-- the lines are the first of the whole's: they stop by a fault before the end of these, or else as these do
abbrev pub IsFrontOfReading : Reading → Reading → Type 0
IsFrontOfReading (stops faulted) whole = Unit {0}
IsFrontOfReading (stops ending) whole = whole ≡ stops ending
IsFrontOfReading (line bytes more) whole = (later : Reading) × (whole ≡ line bytes later) × IsFrontOfReading more later
