-- What a command writes, and its status, and how far it is written. This project's profile.
use Rattle.rd_base.specs.Bytes.{IsFront}
use Rattle.rd_io.specs.Inputs.{Rose, fault_line}
use Rattle.rd_walk.specs.declared.analysis.Halt.TheVariants as halt
use Rattle.rd_walk.specs.declared.analysis.Halt.{Halt}
use Rattle.rd_walk.specs.declared.status.Status.TheVariants.{Clean, Raced, Usage, SpecRefused, TraceRefused, ReplayDiffers, InputFault, OutputFault, NoMemory, LimitReached, NotACall, LogRefused}
use Rattle.rd_walk.specs.declared.status.Status.{Status}
use Rattle.rd_walk.specs.declared.status.Ended.TheVariants as ended
use Rattle.rd_walk.specs.declared.status.Ended.{Ended}
use Rattle.std.specs.Prelude.{◌≡◌, ◌⊎◌, ℕ, List, Option, [], Result, Ok, Err, ⊤}

-- the number of a status
abbrev pub code_of : Status → ℕ
code_of Clean = 0
code_of Raced = 1
code_of Usage = 2
code_of SpecRefused = 3
code_of TraceRefused = 4
code_of ReplayDiffers = 5
code_of InputFault = 6
code_of OutputFault = 7
code_of NoMemory = 8
code_of LimitReached = 9
code_of NotACall = 10
code_of LogRefused = 11

-- what is written, and the status
pub record Outcome : Type 0 where
  pub text : List ℕ
  pub status : Status

-- the status says that a trace was read to its end
abbrev pub IsWell : Status → Type 0
IsWell Clean = ⊤
IsWell Raced = ⊤
IsWell ReplayDiffers = ⊤
IsWell NotACall = ⊤
IsWell _ = ⊥

-- a run that ends with this status and wrote these bytes has this outcome, or was cut short in it by a write fault or want of memory
abbrev pub IsOutput : Status → List ℕ → Outcome → Type 0
IsOutput OutputFault bytes outcome = IsFront bytes outcome.text
IsOutput NoMemory bytes outcome = IsFront bytes outcome.text
IsOutput status bytes outcome = (bytes ≡ outcome.text) × (status ≡ outcome.status)

-- A run that ends with this status and wrote these bytes has such an outcome, or was cut short in it by a write fault or want of memory.
-- Memory may run out before it is known which outcome it has; nothing is written then.
abbrev pub HasOutcome : (Outcome → Type 0) → Status → List ℕ → Type 0
HasOutcome Is NoMemory bytes = (bytes ≡ []) ⊎ ((outcome : Outcome) × Is outcome × IsOutput NoMemory bytes outcome)
HasOutcome Is status bytes = (outcome : Outcome) × Is outcome × IsOutput status bytes outcome

-- A failed write is told as one: the sink's count of faults rose exactly where the status says so, and nothing was written behind the
-- point where the write failed.
abbrev pub StatusTellsFault : ℕ → ℕ → Option (List ℕ) → Option (List ℕ) → Status → Type 0
StatusTellsFault before now point written OutputFault = Rose before now × (point ≡ written)
StatusTellsFault before now point written status = now ≡ before

-- the status of a run that was cut short
abbrev pub halted_with : Halt → Status
halted_with halt.OutputFault = OutputFault
halted_with halt.NoMemory = NoMemory

-- the status of a command that ended so, or was cut short
abbrev pub ended_status : Result Ended Halt → Status
ended_status (Ok ended.Clean) = Clean
ended_status (Ok ended.Raced) = Raced
ended_status (Ok ended.Usage) = Usage
ended_status (Ok ended.SpecRefused) = SpecRefused
ended_status (Ok ended.TraceRefused) = TraceRefused
ended_status (Ok ended.ReplayDiffers) = ReplayDiffers
ended_status (Ok ended.InputFault) = InputFault
ended_status (Ok ended.LimitReached) = LimitReached
ended_status (Ok ended.NotACall) = NotACall
ended_status (Ok ended.LogRefused) = LogRefused
ended_status (Err halt) = halted_with halt

-- which ends a command on a trace may have, and one that writes a text of a specification
abbrev pub IsTraceEnd : Ended → Type 0
IsTraceEnd ended.Usage = ⊥
IsTraceEnd ended.SpecRefused = ⊥
IsTraceEnd ended.LogRefused = ⊥
IsTraceEnd _ = ⊤

abbrev pub IsSpecEnd : Ended → Type 0
IsSpecEnd ended.Clean = ⊤
IsSpecEnd ended.SpecRefused = ⊤
IsSpecEnd ended.InputFault = ⊤
IsSpecEnd ended.LimitReached = ⊤
IsSpecEnd _ = ⊥

-- a status of such an end, or that memory ran out
abbrev pub EndsAs : (Ended → Type 0) → Status → Type 0
EndsAs Is status = (status ≡ NoMemory) ⊎ ((end : Ended) × Is end × (status ≡ ended_status (Ok end)))

-- the text was written, or memory ran out
abbrev pub IsTextStatus : Status → Type 0
IsTextStatus status = (status ≡ Clean) ⊎ (status ≡ NoMemory)

-- where a file could not be opened, or not be read, and this is what is written then
abbrev pub unopened_outcome : List ℕ → Outcome
unopened_outcome text = record { text = text; status = InputFault }

abbrev pub fault_outcome : Outcome
fault_outcome = unopened_outcome fault_line
