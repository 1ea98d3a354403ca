-- What a command means, and what a run of it leaves. This project's profile.
use Rattle.std.specs.Prelude.{◌≡◌, ◌≢◌, ◌⊎◌, ◌+◌, ◌<◌, ◌^◌, ℕ, nat_lt, Bool, true, false, List, [], ◌∷◌, Option, Some, ⊤}
use Rattle.rd_base.specs.declared.limits.Limits.{Limits}
use Rattle.rd_ecl.specs.Kinds.{Kind}
use Rattle.rd_io.specs.Inputs.{Rose, Source, file_of}
use Rattle.rd_io.specs.Lines.Stop.{end}
use Rattle.rd_io.specs.Sinks.{Appends}
use Rattle.rd_walk.specs.Output.{EndsAs, HasOutcome, IsTraceEnd, IsWell, Outcome, StatusTellsFault}
use Rattle.rd_walk.specs.Traces.{IsReadWhole, IsTraceOutcome, IsUntaken, IsWholeOutput, OpensOnly, ReportTexts, TakesTrace}
use Rattle.rd_walk.specs.Walk.{ending_of, trace_by}
use Rattle.rd_walk.specs.declared.status.Status.TheVariants.{InputFault, OutputFault, NoMemory}
use Rattle.rd_walk.specs.declared.status.Status.{Status}
use Rattle.rd_walk.specs.declared.walk.WalkEnd.TheVariants.{End}

-- What a command means. It is said over inputs that told the first before it and the second after it; the truth value says whether the
-- count of their faults rose.
pub record Meaning : Type 1 where
  -- the files that it names, in the order in which they are opened
  pub files : List (List ℕ)
  -- whether it counts steps
  pub counts : Bool
  -- the statuses that it may end with, where no write failed
  pub statuses : Status → Type 0
  -- what it writes, and its status
  pub outcome : Limits → Bool → Source → Source → Outcome → Type 0
  -- what was taken of the last file that was opened, by what was written, and the steps that were counted, before it and after it
  pub takes : Limits → Bool → Source → Source → List ℕ → ℕ → ℕ → Type 0
  -- the trace was read to its end
  pub reads : Limits → Source → Source → Type 0
  -- Nothing is left out: where all files are there and nothing is refused, the whole is written, unless memory ran out. It is said of runs
  -- in which no read and no write failed.
  pub writes : Limits → Source → List ℕ → Status → Type 0

-- what a run leaves of inputs that told `old` before it and of the output, to which `part` was added
pub record Runs (meaning : Meaning) (limits : Limits) (rose : Bool) (old new : Source) (part : List ℕ) (status : Status) (before after : ℕ) : Type 0 where
  -- what was written, and the status
  pub output : HasOutcome (meaning.outcome limits rose old new) status part
  -- the files that were opened
  pub opened : OpensOnly meaning.files old new
  -- what was taken of them, and the steps that were counted
  pub taken : meaning.takes limits rose old new part before after
  -- the trace was read to its end, where the status says so
  pub read : IsWell status → meaning.reads limits old new

-- ---- a run, whatever its inputs and its output tell

-- inputs, what they, a sink and a counter of steps tell at one moment, and how often reading and writing has failed by then
pub record Seen (I : Type 0) : Type 0 where
  pub inputs : I
  pub told : Option Source
  pub input_faults : ℕ
  pub written : Option (List ℕ)
  pub output_faults : ℕ
  pub at_fault : Option (List ℕ)
  pub steps : ℕ

abbrev pub seen : {I S : Type 0} → (I → Option Source) → (I → ℕ) → I → (S → Option (List ℕ)) → (S → ℕ) → (S → Option (List ℕ)) → S → ℕ → Seen I
seen told input_faults inputs written output_faults at_fault out steps =
    record {
      inputs = inputs;
      told = told inputs;
      input_faults = input_faults inputs;
      written = written out;
      output_faults = output_faults out;
      at_fault = at_fault out;
      steps = steps;
    }

-- without inputs: what others tell meanwhile stays
abbrev pub seen_alone : {S : Type 0} → Option Source → ℕ → (S → Option (List ℕ)) → (S → ℕ) → (S → Option (List ℕ)) → S → ℕ → Seen (Unit {0})
seen_alone told input_faults written output_faults at_fault out steps =
    seen (λ _. told) (λ _. input_faults) tt written output_faults at_fault out steps

-- What a run leaves of a command that means this.
pub record Ran {I : Type 0} (meaning : Meaning) (limits : Limits) (before after : Seen I) (status : Status) : Type 0 where
  -- Where the inputs tell their files: what is written and the status are the defined ones, only the named files are opened, no more of them is
  -- taken than may be, the steps are bounded, and a trace was read to its end where the status says so.
  pub runs : (old : Source) → before.told ≡ Some old → before.input_faults < 2 ^ 63 → old.opens < 2 ^ 63
      → (new : Source) × (part : List ℕ) × (after.told ≡ Some new) × Appends before.written after.written part
      × Runs meaning limits (nat_lt before.input_faults after.input_faults) old new part status before.steps after.steps
  -- Nothing is left out: where no read and no write failed, all files are there and nothing is refused, the whole is written, unless memory ran
  -- out.
  pub whole : (old : Source) → before.told ≡ Some old → before.input_faults < 2 ^ 63 → old.opens < 2 ^ 63 → before.output_faults < 2 ^ 63
      → after.input_faults ≡ before.input_faults → after.output_faults ≡ before.output_faults
      → (part : List ℕ) × Appends before.written after.written part × meaning.writes limits old part status
  -- Without a file the text is written whatever the inputs tell, and they are left alone.
  pub alone : meaning.files ≡ [] → (part : List ℕ) × Appends before.written after.written part
      × ((rose : Bool) (old new : Source) → HasOutcome (meaning.outcome limits rose old new) status part)
  pub untouched : meaning.files ≡ [] → after.inputs ≡ before.inputs
  -- no step is counted, where it counts none
  pub uncounted : meaning.counts ≡ false → after.steps ≡ before.steps
  -- each status has its cause
  pub ends : status ≢ OutputFault → meaning.statuses status
  pub input_fault : status ≡ InputFault → Rose before.input_faults after.input_faults
  pub calm : status ≢ InputFault → status ≢ OutputFault → status ≢ NoMemory → after.input_faults ≡ before.input_faults
  -- a failed write is told as one, and nothing is written behind it
  pub output_fault : StatusTellsFault before.output_faults after.output_faults after.at_fault after.written status

-- ---- what most commands mean

-- this is written, whatever the inputs tell, and so the command ends: no file is named, and no step is counted
abbrev pub text_meaning : (Status → Type 0) → Outcome → Meaning
text_meaning statuses written = record {
  files = [];
  counts = false;
  statuses = statuses;
  outcome = λ limits rose old new outcome. outcome ≡ written;
  takes = λ limits rose old new part before after. (new ≡ old) × (after ≡ before);
  reads = λ limits old new. ⊤;
  writes = λ limits old part status. (status ≡ NoMemory) ⊎ ((part ≡ written.text) × (status ≡ written.status));
}

-- what was taken of a trace, where it was opened, and else nothing, and the steps that were counted
abbrev pub TakesReported : ReportTexts → List Kind → List ℕ → Limits → Bool → Source → Source → List ℕ → ℕ → ℕ → Type 0
TakesReported texts kinds trace limits rose old new part before after =
    (new.opens ≡ old.opens + 1 → TakesTrace texts kinds trace limits rose old new part before after)
    × (new.opens ≡ old.opens → IsUntaken old new × (after ≡ before))

-- nothing is left out
abbrev pub WritesReported : ReportTexts → List Kind → List ℕ → Limits → Source → List ℕ → Status → Type 0
WritesReported texts kinds trace limits old part status =
    (bytes : List ℕ) → file_of old.files trace ≡ Some bytes → ending_of (trace_by texts.says kinds limits end bytes) ≡ End
    → (status ≡ NoMemory) ⊎ IsWholeOutput (texts.outcome (trace_by texts.says kinds limits end bytes)) part status

-- a report that writes these texts on a trace whose objects are of these kinds
abbrev pub report_meaning : ReportTexts → List Kind → List ℕ → Meaning
report_meaning texts kinds trace = record {
  files = trace ∷ [];
  counts = true;
  statuses = EndsAs IsTraceEnd;
  outcome = IsTraceOutcome texts kinds trace;
  takes = TakesReported texts kinds trace;
  reads = IsReadWhole texts.says kinds trace;
  writes = WritesReported texts kinds trace;
}
