-- What a command writes of the specification that some bytes say, and its status. This project's profile.
use Rattle.std.specs.Prelude.{◌≡◌, ◌⊎◌, ◌+◌, ℕ, List, []}
use Rattle.rd_pairs.specs.declared.spec_causes.SpecCause.{SpecCause}
use Rattle.rd_pairs.specs.declared.spec_causes.SpecCause.TheVariants.{Limit}
use Rattle.rd_ecl.specs.Specified.{SpecifiedKind}
use Rattle.rd_kinds.specs.Shipped.{reserved_names}
use Rattle.rd_reading.specs.Texts.{IsSpecRefused, SpecSays}
use Rattle.rd_reading.specs.declared.parsing.SpecRefused.{SpecRefused as Refusal}
use Rattle.rd_json.specs.Forms.{fault_in, refused_in}
use Rattle.rd_json.specs.declared.forms.Form.{Form}
use Rattle.rd_json.specs.declared.forms.Form.TheVariants.{Text}
use Rattle.rd_walk.specs.Output.{IsOutput, Outcome, unopened_outcome}
use Rattle.rd_spec_command.specs.declared.specifications.Unread.{Unread}
use Rattle.rd_spec_command.specs.declared.specifications.Unread.TheVariants.{Fault, Refused, NoMemory}
use Rattle.rd_walk.specs.declared.status.Status.{Status}
use Rattle.rd_walk.specs.declared.status.Status.TheVariants.{Clean, SpecRefused, InputFault, OutputFault, LimitReached, NoMemory as MemoryRanOut}
use Rattle.rd_base.specs.declared.limits.TheConstants.{MOST_SPEC_BYTES}

-- ---- the outcome

-- the status of a refusal, by its cause
abbrev pub spec_status : SpecCause → Status
spec_status (Limit name number) = LimitReached
spec_status _ = SpecRefused

-- where these kinds are said, of which this is the text
abbrev pub accepted_outcome : (List SpecifiedKind → List ℕ) → List SpecifiedKind → Outcome
accepted_outcome text kinds = record { text = text kinds; status = Clean }

-- where a line is refused, as it is told in this form
abbrev pub refused_outcome : Form → Refusal → Outcome
refused_outcome form refused = record { text = refused_in form refused; status = spec_status refused.cause }

-- the outcome for these bytes: they say kinds, or they are refused
abbrev pub IsSpecOutcome : (List SpecifiedKind → List ℕ) → List ℕ → Outcome → Type 0
IsSpecOutcome text bytes outcome =
    ((kinds : List SpecifiedKind) × SpecSays bytes reserved_names kinds × (outcome ≡ accepted_outcome text kinds))
    ⊎ ((refused : Refusal) × IsSpecRefused bytes reserved_names refused × (outcome ≡ refused_outcome Text refused))

-- how many bytes of a file are read at most: one more than a text may have
abbrev pub most_bytes : ℕ
most_bytes = MOST_SPEC_BYTES + 1

-- ---- a specification that isn't there

-- what is written in this form where a specification isn't there, and the status
abbrev pub TellsUnread : Form → Unread → Status → List ℕ → Type 0
TellsUnread form Fault status part = IsOutput status part (unopened_outcome (fault_in form)) × ((status ≡ InputFault) ⊎ (status ≡ OutputFault))
TellsUnread form (Refused refused) status part = IsOutput status part (refused_outcome form refused)
TellsUnread form NoMemory status part = (status ≡ MemoryRanOut) × (part ≡ [])
