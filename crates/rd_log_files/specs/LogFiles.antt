-- What reading logs from files leaves: what is opened and taken, and what it is. This project's profile.
use Rattle.std.specs.Prelude.{◌≡◌, ◌≢◌, ℕ, ◌+◌, ◌≤◌, List, [], ◌∷◌, ◌++◌, map, take, length, Some, Err}
use Rattle.rd_base.specs.declared.limits.Limits.{Limits}
use Rattle.rd_io.specs.Inputs.{Source, file_of}
use Rattle.rd_io.specs.Lines.{LinesEnding}
use Rattle.rd_io.specs.Lines.LinesEnding.{no_final_newline, line_too_long, bytes_limit, faulted}
use Rattle.rd_io.specs.declared.lines.ReadEnd.{ReadEnd}
use Rattle.rd_io.specs.declared.lines.ReadEnd.TheVariants.{ReadFault, LineTooLong, BytesLimit, NoFinalNewline}
use Rattle.rd_walk.specs.Progress.{IsTakenOfTrace}
use Rattle.rd_walk.specs.Traces.{IsUntaken, OpensOnly}
use Rattle.rd_log_files.specs.Gathered.{counted_log, first_limit}
use Rattle.rd_log_files.specs.declared.unread.LogLimit.{LogLimit}

-- the files with these names are there, and have these bytes
abbrev pub FilesHold : List (List ℕ × List ℕ) → List (List ℕ) → List (List ℕ) → Type 0
FilesHold files names logs = map (λ name. file_of files name) names ≡ map Some logs

-- ---- one log

-- how the lines of an input end where the reader refuses one
abbrev pub ending_by : ReadEnd → LinesEnding
ending_by ReadFault = faulted
ending_by LineTooLong = line_too_long
ending_by BytesLimit = bytes_limit
ending_by NoFinalNewline = no_final_newline

-- What was taken of the log with this number, behind so many lines that aren't skipped in those before it: no more than may be by how many of its
-- lines were begun, and none was begun behind a line that passes a limit, whatever comes behind these bytes.
pub record TakesLines (limits : Limits) (log events : ℕ) (taken : List ℕ) : Type 0 where
  pub begun : ℕ
  pub read : IsTakenOfTrace limits taken begun
  pub stops : (held : List ℕ) (passed : LogLimit) → counted_log limits log events (taken ++ held) ≡ Err passed → begun ≤ passed.line

-- what reading that log from a file leaves
pub record LeavesFile (limits : Limits) (log events : ℕ) (file : List ℕ) (old new : Source) : Type 0 where
  pub opened : OpensOnly (file ∷ []) old new
  pub unopened : new.opens ≡ old.opens → IsUntaken old new
  pub whole : new.opens ≡ old.opens + 1 → file_of old.files file ≡ Some (new.taken ++ new.held)
  pub taken : new.opens ≡ old.opens + 1 → TakesLines limits log events new.taken

-- and where it was read: these are its bytes
pub record ReadsFile (file : List ℕ) (old new : Source) (bytes : List ℕ) : Type 0 where
  pub opens : new.opens ≡ old.opens + 1
  pub misses : new.misses ≡ old.misses
  pub text : file_of old.files file ≡ Some bytes
  pub none_left : new.held ≡ []

-- and where it passes a limit
pub record PassesIn (limits : Limits) (log events : ℕ) (file : List ℕ) (old new : Source) (passed : LogLimit) : Type 0 where
  pub opens : new.opens ≡ old.opens + 1
  pub misses : new.misses ≡ old.misses
  pub bytes : List ℕ
  pub text : file_of old.files file ≡ Some bytes
  pub passes : counted_log limits log events bytes ≡ Err passed

-- ---- all logs

-- What was taken where the files with these names were opened, and the last of them is the current input: what was taken of it and what is left are
-- its bytes; no more was taken than may be by how many of its lines were begun; and no file was opened and no line begun behind a line that passes a
-- limit.
pub record TakesLogs (limits : Limits) (names : List (List ℕ)) (old new : Source) : Type 0 where
  -- the logs before it
  pub before : List (List ℕ)
  pub whole : FilesHold old.files names (before ++ (new.taken ++ new.held) ∷ [])
  pub begun : ℕ
  pub read : IsTakenOfTrace limits new.taken begun
  pub last : (passed : LogLimit) → first_limit limits (before ++ (new.taken ++ new.held) ∷ []) ≡ Some passed → passed.log ≡ length names
  pub stops : (passed : LogLimit) → first_limit limits (before ++ (new.taken ++ new.held) ∷ []) ≡ Some passed → begun ≤ passed.line

-- what reading logs from files with these names leaves: the first of them are opened, in their order
pub record LeavesLogs (limits : Limits) (names : List (List ℕ)) (old new : Source) : Type 0 where
  pub opened : OpensOnly names old new
  pub unopened : new.opens ≡ old.opens → IsUntaken old new
  pub taken : (count : ℕ) → 1 ≤ count → new.opens ≡ old.opens + count → TakesLogs limits (take count names) old new

-- and where all were read: these are their bytes
pub record ReadsLogs (names : List (List ℕ)) (old new : Source) (logs : List (List ℕ)) : Type 0 where
  pub opens : new.opens ≡ old.opens + length names
  pub misses : new.misses ≡ old.misses
  pub whole : FilesHold old.files names logs
  pub none_left : names ≢ [] → new.held ≡ []

-- and where a limit is passed: the files up to that log are there and were opened, and it is the first limit that they pass, and so whatever files
-- come behind them
pub record PassesLimit (limits : Limits) (names : List (List ℕ)) (old new : Source) (passed : LogLimit) : Type 0 where
  pub opens : new.opens ≡ old.opens + passed.log
  pub misses : new.misses ≡ old.misses
  pub front : List (List ℕ)
  pub whole : FilesHold old.files (take passed.log names) front
  pub first : first_limit limits front ≡ Some passed
  pub all : (logs : List (List ℕ)) → FilesHold old.files names logs → first_limit limits logs ≡ Some passed
