-- What `weave` means. This project's profile.
use Rattle.std.specs.Prelude.{◌≡◌, ◌⊎◌, ℕ, ◌+◌, ◌≤◌, Bool, true, false, List, take, None}
use Rattle.rd_base.specs.declared.limits.Limits.{Limits}
use Rattle.rd_io.specs.Inputs.{Source}
use Rattle.rd_log_files.specs.Gathered.{first_limit}
use Rattle.rd_log_files.specs.LogFiles.{FilesHold, PassesLimit, ReadsLogs, TakesLogs}
use Rattle.rd_log_files.specs.declared.unread.LogLimit.{LogLimit}
use Rattle.rd_walk.specs.Meanings.{Meaning}
use Rattle.rd_walk.specs.Output.{EndsAs, Outcome, fault_outcome}
use Rattle.rd_walk.specs.Traces.{IsUntaken}
use Rattle.rd_walk.specs.declared.status.Status.TheVariants.{NoMemory}
use Rattle.rd_walk.specs.declared.status.Status.{Status}
use Rattle.rd_weave.specs.Answers.{weave_answer}
use Rattle.rd_weave_command.specs.Outcomes.{IsWeaveEnd, answer_outcome, limit_outcome, weave_outcome}

-- where a file could not be opened or read
pub record HasUnreadLog (rose : Bool) (outcome : Outcome) : Type 0 where
  pub risen : rose ≡ true
  pub is : outcome ≡ fault_outcome

-- where a limit is passed by the files that were opened, in the last of them
pub record HasPassedLimit (names : List (List ℕ)) (limits : Limits) (rose : Bool) (old new : Source) (outcome : Outcome) : Type 0 where
  pub calm : rose ≡ false
  pub passed : LogLimit
  pub passes : PassesLimit limits names old new passed
  pub is : outcome ≡ limit_outcome passed

-- where all files were read and pass no limit
pub record HasAnswer (names : List (List ℕ)) (limits : Limits) (rose : Bool) (old new : Source) (outcome : Outcome) : Type 0 where
  pub calm : rose ≡ false
  pub logs : List (List ℕ)
  pub reads : ReadsLogs names old new logs
  pub within : first_limit limits logs ≡ None
  pub is : outcome ≡ answer_outcome (weave_answer logs)

abbrev pub IsWeaveOutcome : List (List ℕ) → Limits → Bool → Source → Source → Outcome → Type 0
IsWeaveOutcome names limits rose old new outcome =
    HasUnreadLog rose outcome ⊎ (HasPassedLimit names limits rose old new outcome ⊎ HasAnswer names limits rose old new outcome)

-- what was taken of the last file that was opened, and else nothing; no step is counted
abbrev pub TakesWoven : List (List ℕ) → Limits → Bool → Source → Source → List ℕ → ℕ → ℕ → Type 0
TakesWoven names limits rose old new part before after =
    ((count : ℕ) → 1 ≤ count → new.opens ≡ old.opens + count → TakesLogs limits (take count names) old new)
    × (new.opens ≡ old.opens → IsUntaken old new) × (after ≡ before)

-- where a weaving was written, all files were read to their ends, and pass no limit
abbrev pub ReadsAllLogs : List (List ℕ) → Limits → Source → Source → Type 0
ReadsAllLogs names limits old new = (logs : List (List ℕ)) × ReadsLogs names old new logs × (first_limit limits logs ≡ None)

-- nothing is left out
abbrev pub WritesWoven : List (List ℕ) → Limits → Source → List ℕ → Status → Type 0
WritesWoven names limits old part status =
    (logs : List (List ℕ)) → FilesHold old.files names logs
    → (status ≡ NoMemory) ⊎ ((part ≡ (weave_outcome limits logs).text) × (status ≡ (weave_outcome limits logs).status))

-- `weave` with these files
abbrev pub weave_meaning : List (List ℕ) → Meaning
weave_meaning names = record {
  files = names;
  counts = false;
  statuses = EndsAs IsWeaveEnd;
  outcome = IsWeaveOutcome names;
  takes = TakesWoven names;
  reads = ReadsAllLogs names;
  writes = WritesWoven names;
}
