-- What a command means that writes a text of the kinds that a specification says, and what `kind` means. This project's profile.
use Rattle.rd_walk.specs.Traces.{IsUntaken, OpensOnly}
use Rattle.rd_walk.specs.Meanings.{Meaning, text_meaning}
use Rattle.rd_base.specs.declared.limits.Limits.{Limits}
use Rattle.rd_ecl.specs.Specified.{SpecifiedKind}
use Rattle.rd_io.specs.Inputs.{Source, file_of}
use Rattle.rd_json.specs.declared.forms.Form.{Form}
use Rattle.rd_kinds.specs.Shipped.{reserved_names}
use Rattle.rd_print.specs.Printed.{spec_text}
use Rattle.rd_walk.specs.Output.{EndsAs, IsSpecEnd, IsTextStatus, Outcome, fault_outcome}
use Rattle.rd_spec_command.specs.Specifications.{IsSpecOutcome, most_bytes, refused_outcome}
use Rattle.rd_walk.specs.declared.status.Status.TheVariants.{Clean, NoMemory}
use Rattle.rd_walk.specs.declared.status.Status.{Status}
use Rattle.rd_reading.specs.Texts.{IsSpecRefused, SpecSays}
use Rattle.rd_reading.specs.declared.parsing.SpecRefused.{SpecRefused as Refusal}
use Rattle.std.specs.Prelude.{◌≡◌, ◌⊎◌, ℕ, ◌+◌, ◌≤◌, Bool, true, false, List, [], ◌∷◌, ◌++◌, ⊤, length, take, Some}

-- these are the bytes of a specification that are judged: the first of its file's
pub record IsSpecText (old : Source) (file bytes : List ℕ) : Type 0 where
  pub whole : List ℕ
  pub held : file_of old.files file ≡ Some whole
  pub front : bytes ≡ take most_bytes whole

-- where the specification is refused, as it is told in this form: the trace isn't opened
pub record IsSpecFileRefused (form : Form) (file : List ℕ) (rose : Bool) (old new : Source) (outcome : Outcome) : Type 0 where
  pub calm : rose ≡ false
  pub one_opened : new.opens ≡ old.opens + 1
  pub bytes : List ℕ
  pub text : IsSpecText old file bytes
  pub refused : Refusal
  pub refuses : IsSpecRefused bytes reserved_names refused
  pub is : outcome ≡ refused_outcome form refused

-- where the specification was read: it is judged
pub record IsJudged (of_kinds : List SpecifiedKind → List ℕ) (file : List ℕ) (rose : Bool) (old new : Source) (outcome : Outcome) : Type 0 where
  pub calm : rose ≡ false
  pub one_opened : new.opens ≡ old.opens + 1
  pub bytes : List ℕ
  pub text : IsSpecText old file bytes
  pub is : IsSpecOutcome of_kinds bytes outcome

-- where it could not be opened, or not be read
pub record IsUnread (rose : Bool) (outcome : Outcome) : Type 0 where
  pub risen : rose ≡ true
  pub is : outcome ≡ fault_outcome

-- the canonical text of a kind that is built in
abbrev pub kind_outcome : SpecifiedKind → Outcome
kind_outcome built_in = record { text = spec_text (built_in ∷ []); status = Clean }

-- What was taken of a specification that is the current input: what was taken and what is left are its file's bytes, and no more was
-- taken than may be.
pub record TakesSpec (file : List ℕ) (old new : Source) : Type 0 where
  pub whole : file_of old.files file ≡ Some (new.taken ++ new.held)
  pub few : length new.taken ≤ most_bytes

-- what reading a specification leaves
pub record LeavesSpec (file : List ℕ) (old new : Source) : Type 0 where
  pub opened : OpensOnly (file ∷ []) old new
  pub taken : new.opens ≡ old.opens + 1 → TakesSpec file old new
  pub unopened : new.opens ≡ old.opens → IsUntaken old new

-- and where these are the bytes that are judged
pub record ReadsSpec (file : List ℕ) (old new : Source) (bytes : List ℕ) : Type 0 where
  pub opens : new.opens ≡ old.opens + 1
  pub misses : new.misses ≡ old.misses
  pub text : IsSpecText old file bytes

-- what is written where this is the text of the kinds
abbrev pub IsSaidOutcome : (List SpecifiedKind → List ℕ) → List ℕ → Limits → Bool → Source → Source → Outcome → Type 0
IsSaidOutcome text file limits rose old new outcome = IsUnread rose outcome ⊎ IsJudged text file rose old new outcome

-- what was taken of the specification, where it was opened, and else nothing; no step is counted
abbrev pub TakesSaid : List ℕ → Limits → Bool → Source → Source → List ℕ → ℕ → ℕ → Type 0
TakesSaid file limits rose old new part before after =
    (new.opens ≡ old.opens + 1 → TakesSpec file old new) × (new.opens ≡ old.opens → IsUntaken old new) × (after ≡ before)

-- nothing is left out
abbrev pub WritesSaid : (List SpecifiedKind → List ℕ) → List ℕ → Limits → Source → List ℕ → Status → Type 0
WritesSaid text file limits old part status =
    (kinds : List SpecifiedKind) (bytes : List ℕ) → IsSpecText old file bytes → SpecSays bytes reserved_names kinds
    → (status ≡ NoMemory) ⊎ ((part ≡ text kinds) × (status ≡ Clean))

-- a command that writes this text of the kinds
abbrev pub said_meaning : (List SpecifiedKind → List ℕ) → List ℕ → Meaning
said_meaning text file = record {
  files = file ∷ [];
  counts = false;
  statuses = EndsAs IsSpecEnd;
  outcome = IsSaidOutcome text file;
  takes = TakesSaid file;
  reads = λ limits old new. ⊤;
  writes = WritesSaid text file;
}

-- `kind NAME`, for the kind with that name: no file is named
abbrev pub kind_meaning : SpecifiedKind → Meaning
kind_meaning built_in = text_meaning IsTextStatus (kind_outcome built_in)
