-- What `check` means. This project's profile.
use Rattle.rd_walk.specs.Traces.{IsFaulted, IsReadWhole, IsUntaken, IsWholeOutput, TakesTrace, walk_of}
use Rattle.rd_spec_command.specs.Meanings.{IsSpecFileRefused, IsSpecText, TakesSpec}
use Rattle.rd_walk.specs.Meanings.{Meaning}
use Rattle.rd_base.specs.declared.limits.Limits.{Limits}
use Rattle.rd_ecl.specs.Kinds.{kinds_of}
use Rattle.rd_ecl.specs.Specified.{SpecifiedKind}
use Rattle.rd_io.specs.Inputs.{Source, file_of}
use Rattle.rd_io.specs.Lines.Stop.{end}
use Rattle.rd_json.specs.Forms.{fault_in}
use Rattle.rd_json.specs.declared.forms.Form.{Form}
use Rattle.rd_kinds.specs.Shipped.{reserved_names, shipped_kinds}
use Rattle.rd_walk.specs.Output.{EndsAs, IsSpecEnd, IsTraceEnd, Outcome}
use Rattle.rd_check_command.specs.Checked.{check_outcome, check_texts}
use Rattle.rd_check_command.specs.Reports.{IsChecked}
use Rattle.rd_walk.specs.Walk.{ending_of, trace_of, trace_says}
use Rattle.rd_walk.specs.declared.status.Status.TheVariants.{NoMemory}
use Rattle.rd_walk.specs.declared.status.Status.{Status}
use Rattle.rd_walk.specs.declared.walk.WalkEnd.TheVariants.{End}
use Rattle.rd_reading.specs.Texts.{SpecSays}
use Rattle.std.specs.Prelude.{◌≡◌, ◌⊎◌, ℕ, ◌+◌, Bool, true, List, [], ◌∷◌, ◌++◌, Option, Some, None}

-- the kinds of a trace's objects: the shipped ones, then those of the specification, where one is named
abbrev pub AreKinds : Source → Option (List ℕ) → List SpecifiedKind → Type 0
AreKinds old None kinds = kinds ≡ shipped_kinds
AreKinds old (Some file) kinds =
    (bytes : List ℕ) × (said : List SpecifiedKind) × IsSpecText old file bytes × SpecSays bytes reserved_names said × (kinds ≡ shipped_kinds ++ said)

-- where all of so many files were opened: the trace is checked
pub record IsCheckedWith (form : Form) (trace : List ℕ) (file : Option (List ℕ)) (files : ℕ) (limits : Limits) (rose : Bool) (old new : Source) (outcome : Outcome) : Type 0 where
  pub all_opened : new.opens ≡ old.opens + files
  pub kinds : List SpecifiedKind
  pub are : AreKinds old file kinds
  pub is : outcome ≡ check_outcome form kinds (walk_of trace_says (kinds_of kinds) trace limits rose old new)

abbrev pub IsCheckOutcome : Form → List ℕ → Option (List ℕ) → Limits → Bool → Source → Source → Outcome → Type 0
IsCheckOutcome form trace None limits rose old new outcome = IsFaulted (fault_in form) 1 rose old new outcome ⊎ IsCheckedWith form trace None 1 limits rose old new outcome
IsCheckOutcome form trace (Some file) limits rose old new outcome =
    IsFaulted (fault_in form) 2 rose old new outcome
    ⊎ (IsSpecFileRefused form file rose old new outcome ⊎ IsCheckedWith form trace (Some file) 2 limits rose old new outcome)

-- so it is with the kinds of its objects
abbrev pub TakesKnown : Form → Option (List ℕ) → List ℕ → Limits → Bool → Source → Source → List ℕ → ℕ → ℕ → Type 0
TakesKnown form file trace limits rose old new part before after =
    (kinds : List SpecifiedKind) × AreKinds old file kinds × TakesTrace (check_texts form kinds) (kinds_of kinds) trace limits rose old new part before after

-- what was taken of the last file that was opened, and nothing where none was, and the steps that were counted
abbrev pub TakesChecked : Form → List ℕ → Option (List ℕ) → Limits → Bool → Source → Source → List ℕ → ℕ → ℕ → Type 0
TakesChecked form trace None limits rose old new part before after =
    (new.opens ≡ old.opens + 1 → TakesKnown form None trace limits rose old new part before after)
    × (new.opens ≡ old.opens → IsUntaken old new × (after ≡ before))
TakesChecked form trace (Some file) limits rose old new part before after =
    (new.opens ≡ old.opens + 2 → TakesKnown form (Some file) trace limits rose old new part before after)
    × (new.opens ≡ old.opens + 1 → TakesSpec file old new × (after ≡ before))
    × (new.opens ≡ old.opens → IsUntaken old new × (after ≡ before))

-- the trace was read to its end
abbrev pub ReadsChecked : List ℕ → Option (List ℕ) → Limits → Source → Source → Type 0
ReadsChecked trace file limits old new =
    (kinds : List SpecifiedKind) × AreKinds old file kinds × IsReadWhole trace_says (kinds_of kinds) trace limits old new

-- The headline holds of what was written and the status; and where the walk comes to the end of the trace, nothing is left out.
pub record IsWrittenWhole (form : Form) (kinds : List SpecifiedKind) (limits : Limits) (bytes : List ℕ) (part : List ℕ) (status : Status) : Type 0 where
  pub headline : IsChecked form kinds limits end bytes (record { text = part; status = status })
  pub whole : ending_of (trace_of (kinds_of kinds) limits end bytes) ≡ End
      → IsWholeOutput (check_outcome form kinds (trace_of (kinds_of kinds) limits end bytes)) part status

-- nothing is left out
abbrev pub WritesChecked : Form → List ℕ → Option (List ℕ) → Limits → Source → List ℕ → Status → Type 0
WritesChecked form trace file limits old part status =
    (kinds : List SpecifiedKind) (bytes : List ℕ) → AreKinds old file kinds → file_of old.files trace ≡ Some bytes
    → (status ≡ NoMemory) ⊎ IsWrittenWhole form kinds limits bytes part status

-- the statuses: that a specification is refused only where one is named
abbrev pub checked_statuses : Option (List ℕ) → Status → Type 0
checked_statuses None status = EndsAs IsTraceEnd status
checked_statuses (Some file) status = EndsAs IsTraceEnd status ⊎ EndsAs IsSpecEnd status

-- the files, in the order in which they are opened
abbrev pub checked_files : List ℕ → Option (List ℕ) → List (List ℕ)
checked_files trace None = trace ∷ []
checked_files trace (Some file) = file ∷ trace ∷ []

-- `check TRACE` and `check TRACE SPEC`, in this form
abbrev pub check_meaning : Form → List ℕ → Option (List ℕ) → Meaning
check_meaning form trace file = record {
  files = checked_files trace file;
  counts = true;
  statuses = checked_statuses file;
  outcome = IsCheckOutcome form trace file;
  takes = TakesChecked form trace file;
  reads = ReadsChecked trace file;
  writes = WritesChecked form trace file;
}
