-- What a report leaves of a trace: what it walks over, opens and takes, and writes. This project's profile.
use Rattle.rd_walk.specs.Output.{halted_with, IsWell, Outcome, IsOutput, unopened_outcome}
use Rattle.rd_base.specs.declared.limits.Limits.{Limits}
use Rattle.rd_ecl.specs.Kinds.{Kind}
use Rattle.rd_event.specs.declared.items.Line.{Line}
use Rattle.rd_io.specs.Inputs.{Rose, Source, file_of}
use Rattle.rd_io.specs.Lines.Stop.{end, fault}
use Rattle.rd_io.specs.Lines.{Stop}
use Rattle.rd_walk.specs.Progress.{IsBegun, IsTakenOfTrace, WalksOn, WalksTo}
use Rattle.rd_walk.specs.Walk.{Entry, Saying, Walked, after, ends, ending_of, entries_of, lines_begun, step_bound, trace_by}
use Rattle.rd_walk.specs.declared.analysis.Halt.{Halt}
use Rattle.rd_walk.specs.declared.status.Status.{Status}
use Rattle.rd_walk.specs.declared.walk.WalkEnd.TheVariants.{End, Fault}
use Rattle.rd_walk.specs.declared.walk.WalkEnd.{WalkEnd}
use Rattle.std.specs.Prelude.{◌≡◌, ◌≢◌, ◌⊎◌, ℕ, List, ◌++◌, Option, Some, None, option_map, if◌then◌else◌, ◌+◌, ◌<◌, ◌≤◌, Bool, true, [], length, count_by, is_none}

-- what a report reads and writes, and the bound on its steps
pub record ReportTexts : Type 0 where
  -- what lines say
  pub says : Saying
  -- for accepted lines
  pub lines : List Entry → List ℕ
  -- in all, and its status
  pub outcome : Walked → Outcome
  -- the bound on the steps of a line behind others
  pub bound : List Line → Line → ℕ
  -- where the trace can't be opened
  pub unopened : List ℕ

-- those of a report with these ghost members, from its first state on
abbrev pub texts_of : {A : Type 0} → Saying → (List Kind → A → List Entry → List ℕ) → (List Kind → A → Walked → Outcome) → (List Kind → A → List Line → Line → ℕ) → (A → List ℕ) → List Kind → A → ReportTexts
texts_of says text outcome bound unopened kinds start =
    record { says = says; lines = text kinds start; outcome = outcome kinds start; bound = bound kinds start; unopened = unopened start }

-- What a report has done when it ends, which writes these texts: all was written, or it was cut short behind
-- the lines or in their text. These bytes were taken of the input and `held` is left of it, and the count of the inputs' faults rose where a
-- read failed.
abbrev pub HasReported : ReportTexts → List Kind → Limits → List ℕ → List ℕ → List Entry → List ℕ → Status → ℕ → ℕ → Type 0
HasReported texts kinds limits taken held entries part status before now =
    ((ending : WalkEnd) × WalksTo texts.says kinds limits taken held entries ending × IsOutput status part (texts.outcome (after entries (ends ending)))
    × (ending ≡ Fault → Rose before now) × (ending ≢ Fault → now ≡ before))
    ⊎ ((halt : Halt) × (rest : List ℕ) × WalksOn texts.says kinds limits taken entries × (texts.lines entries ≡ part ++ rest)
    × (status ≡ halted_with halt) × (now ≡ before))

-- what is walked over: where the count of the inputs' faults rose (`rose`) what was taken before a read failed, and else the whole file
abbrev pub input_of : List ℕ → Bool → Source → Source → Option (Stop × List ℕ)
input_of trace rose old new =
    if rose then Some (fault, new.taken) else option_map (λ bytes. (end, bytes)) (file_of old.files trace)

abbrev pub walk_on : Saying → List Kind → Limits → Option (Stop × List ℕ) → Walked
walk_on says kinds limits None = ends Fault
walk_on says kinds limits (Some input) = trace_by says kinds limits input.0 input.1

-- the walk over the lines of a trace whose objects are of these kinds
abbrev pub walk_of : Saying → List Kind → List ℕ → Limits → Bool → Source → Source → Walked
walk_of says kinds trace limits rose old new = walk_on says kinds limits (input_of trace rose old new)

-- where a file could not be opened, or a specification not be read: not all of so many files were opened, and this text is written
pub record IsFaulted (text : List ℕ) (files : ℕ) (rose : Bool) (old new : Source) (outcome : Outcome) : Type 0 where
  pub risen : rose ≡ true
  pub some_unopened : new.opens < old.opens + files
  pub is : outcome ≡ unopened_outcome text

-- The outcome of a report on a trace whose objects are of these kinds: that of its walk, where it was opened.
abbrev pub IsTraceOutcome : ReportTexts → List Kind → List ℕ → Limits → Bool → Source → Source → Outcome → Type 0
IsTraceOutcome texts kinds trace limits rose old new outcome =
    IsFaulted texts.unopened 1 rose old new outcome
    ⊎ ((new.opens ≡ old.opens + 1) × (outcome ≡ texts.outcome (walk_of texts.says kinds trace limits rose old new)))

-- The files are as before. No more opens were counted than files are named, and no more opens of a missing file than named ones are missing.
pub record OpensOnly (names : List (List ℕ)) (old new : Source) : Type 0 where
  pub files : new.files ≡ old.files
  pub later : old.opens ≤ new.opens
  pub opens : new.opens ≤ old.opens + length names
  pub misses : new.misses ≤ old.misses + count_by (λ name. is_none (file_of old.files name)) names

-- nothing was taken: the current input is as before
abbrev pub IsUntaken : Source → Source → Type 0
IsUntaken old new = (new.taken ≡ old.taken) × (new.held ≡ old.held)

-- What was taken of a trace that was opened, and the steps that were counted, where `part` was written: what was taken and what is left are
-- the file's bytes; the accepted lines that were begun are the first of the file; no more was taken than may be by how many they are; and the
-- steps are those of these lines.
pub record TakesTrace (texts : ReportTexts) (kinds : List Kind) (trace : List ℕ) (limits : Limits) (rose : Bool) (old new : Source) (part : List ℕ) (before after : ℕ) : Type 0 where
  pub whole : file_of old.files trace ≡ Some (new.taken ++ new.held)
  pub begun : List Entry
  pub first : (rest : List Entry) × (entries_of (walk_of texts.says kinds trace limits rose old new) ≡ begun ++ rest)
  pub is_begun : IsBegun texts.lines part begun
  pub read : IsTakenOfTrace limits new.taken (lines_begun begun)
  pub cost : after ≤ before + step_bound texts.bound begun

-- all of a trace was taken, and in the walk over it no line is refused
pub record IsReadWhole (says : Saying) (kinds : List Kind) (trace : List ℕ) (limits : Limits) (old new : Source) : Type 0 where
  pub none_left : new.held ≡ []
  pub whole : file_of old.files trace ≡ Some new.taken
  pub well : ending_of (trace_by says kinds limits end new.taken) ≡ End

-- what was written and answered is the whole of an outcome over a trace that was read to its end
pub record IsWholeOutput (outcome : Outcome) (part : List ℕ) (status : Status) : Type 0 where
  pub text : part ≡ outcome.text
  pub told : status ≡ outcome.status
  pub well : IsWell status
