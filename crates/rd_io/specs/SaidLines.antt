-- What the lines of bytes are, as a relation. This project's profile.
use Rattle.std.specs.Prelude.{◌≡◌, ◌≢◌, ℕ, ◌+◌, ◌<◌, ◌≤◌, List, [], ◌∷◌, ◌++◌, take, length}
use Rattle.rd_base.specs.Bytes.{line_feed}
use Rattle.rd_io.specs.LineReader.{HasNoFeed}
use Rattle.rd_io.specs.Lines.{LinesEnding, Reading, Stop}
use Rattle.rd_io.specs.Lines.Stop.{end, fault}
use Rattle.rd_io.specs.Lines.LinesEnding.{at_end, no_final_newline, line_too_long, bytes_limit, faulted}
use Rattle.rd_io.specs.Lines.Reading.{stops, line}

-- the bytes are a rest that no line feed ends, shorter than a line may be, and within the limit on bytes
pub record IsRest (limit room : ℕ) (bytes : List ℕ) : Type 0 where
  pub clean : HasNoFeed bytes
  pub short : length bytes < limit
  pub within : length bytes ≤ room

-- The bytes hold no further line, and end so. Without a line feed there are as many bytes as the limit on a line (`limit`), within the
-- limit on bytes (`room`); or there is a byte past the limit on bytes, and no line feed before it; or there is a rest, behind which a read
-- failed; or the input ended, inside a line or not.
abbrev pub EndsLines : ℕ → ℕ → Stop → List ℕ → LinesEnding → Type 0
EndsLines limit room stop bytes line_too_long = (limit ≤ room) × (limit ≤ length bytes) × HasNoFeed (take limit bytes)
EndsLines limit room stop bytes bytes_limit = (room < limit) × (room < length bytes) × HasNoFeed (take room bytes)
EndsLines limit room stop bytes faulted = IsRest limit room bytes × (stop ≡ fault)
EndsLines limit room stop bytes no_final_newline = IsRest limit room bytes × (stop ≡ end) × (bytes ≢ [])
EndsLines limit room stop bytes at_end = IsRest limit room bytes × (stop ≡ end) × (bytes ≡ [])

-- The bytes say these lines and their ending. They begin with the first line and its line feed, which are no more than the limits let
-- through, and the bytes behind it say the others; or they hold no further line.
abbrev pub SaysLines : ℕ → ℕ → Stop → List ℕ → Reading → Type 0
SaysLines limit room stop bytes (line first others) =
    (behind : List ℕ) × (left : ℕ) × (bytes ≡ first ++ line_feed ∷ behind) × HasNoFeed first × (length first < limit)
    × (room ≡ length first + 1 + left) × SaysLines limit left stop behind others
SaysLines limit room stop bytes (stops ending) = EndsLines limit room stop bytes ending
