-- Inputs in memory. This project's profile.
use Rattle.std.specs.Prelude.{◌≡◌, Bool, ℕ, ◌<◌, ◌≤◌, ◌⊎◌, min, All, option_and_then, option_map, unwrap_or, slice_get, List, [], ◌∷◌, ◌++◌, map, find, take, drop, length, Option, None, is_some, if◌then◌else◌}
use Rattle.std.specs.Option.{ForSome}
use Rattle.std.specs.Str.{bytes_eq}
use Rattle.rd_io.specs.Calls.{CallCount, FailsNext, no_calls, with_call, with_fault}
use Rattle.rd_io.specs.Inputs.{Source, next_count}

-- a file in memory: its name, its bytes, and how many of them each read gives at most
pub record StoredFile : Type 0 where
  pub name : List ℕ
  pub bytes : List ℕ
  pub piece : ℕ

-- the files in order of adding; what is left of the current one, what was taken of it since it was opened, and its
-- piece, which are nothing before any was opened; how many calls opened a file and how many named one that isn't
-- there; and the calls of open and read
pub record InputsState : Type 0 where
  pub files : List StoredFile
  pub held : List ℕ
  pub taken : List ℕ
  pub piece : ℕ
  pub opens : ℕ
  pub misses : ℕ
  pub calls : CallCount

-- inputs without a file
abbrev pub no_files : List ℕ → InputsState
no_files failing =
    record { files = []; held = []; taken = []; piece = 0; opens = 0; misses = 0; calls = no_calls failing }

-- a file's name and its bytes
abbrev pub name_and_bytes : StoredFile → List ℕ × List ℕ
name_and_bytes file = (file.name, file.bytes)

-- what the inputs tell
abbrev pub source_of : InputsState → Source
source_of inputs = record {
  files = map name_and_bytes inputs.files;
  held = inputs.held;
  taken = inputs.taken;
  opens = inputs.opens;
  misses = inputs.misses;
}

-- the file has this name
abbrev pub is_named : List ℕ → StoredFile → Bool
is_named name file = bytes_eq file.name name

-- the first file with this name
abbrev pub file_named : List StoredFile → List ℕ → Option StoredFile
file_named files name = find (is_named name) files

-- this file stands last, and all else is as before
abbrev pub with_file : InputsState → StoredFile → InputsState
with_file inputs file = record inputs { files = inputs.files ++ file ∷ [] }

-- the next call is named among those that are to fail, or no file has the name
abbrev pub RefusesName : InputsState → List ℕ → Type 0
RefusesName inputs name = FailsNext inputs.calls ⊎ (file_named inputs.files name ≡ None)

-- one more call, which made this file the current one
abbrev pub with_opened : InputsState → StoredFile → InputsState
with_opened inputs file = record inputs {
  held = file.bytes;
  taken = [];
  piece = file.piece;
  opens = next_count inputs.opens;
  calls = with_call inputs.calls;
}

-- one more call, which failed to open a file of this name
abbrev pub with_failed_open : InputsState → List ℕ → InputsState
with_failed_open inputs name = record inputs {
  misses = if is_some (file_named inputs.files name) then inputs.misses else next_count inputs.misses;
  calls = with_fault (with_call inputs.calls);
}

-- how many bytes a read into a buffer of so many bytes takes: the least of these, of the piece and of what is left
abbrev pub taken_by_read : InputsState → ℕ → ℕ
taken_by_read inputs size = min size (min inputs.piece (length inputs.held))

-- one more call, which took so many bytes
abbrev pub with_taken : InputsState → ℕ → InputsState
with_taken inputs count = record inputs {
  held = drop count inputs.held;
  taken = inputs.taken ++ take count inputs.held;
  calls = with_call inputs.calls;
}

-- one more call, which failed to read
abbrev pub with_failed_read : InputsState → InputsState
with_failed_read inputs = record inputs { calls = with_fault (with_call inputs.calls) }

-- the file at a place, where there is one
abbrev pub file_at : List StoredFile → Option ℕ → Option StoredFile
file_at files place = option_and_then (slice_get files) place

-- its bytes, and its piece
abbrev pub bytes_at : List StoredFile → Option ℕ → List ℕ
bytes_at files place = unwrap_or (option_map (λ file. file.bytes) (file_at files place)) []

abbrev pub piece_at : List StoredFile → Option ℕ → ℕ
piece_at files place = unwrap_or (option_map (λ file. file.piece) (file_at files place)) 0

-- a file stands there, and has so many bytes; before any was opened there is no such place
pub record IsPlace (files : List StoredFile) (place : Option ℕ) (position opens : ℕ) : Type 0 where
  pub file : ForSome place (λ index. index < length files)
  pub within : position ≤ length (bytes_at files place)
  pub pieces : All (λ file. 1 ≤ file.piece) files
  pub opened : opens ≡ 0 → place ≡ None
