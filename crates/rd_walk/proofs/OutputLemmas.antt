-- What is written, and the status.
use Rattle.rd_walk.specs.Output.{halted_with, HasOutcome, IsOutput, IsWell, Outcome, ended_status}
use Rattle.rd_walk.specs.declared.analysis.Halt.TheVariants as halt
use Rattle.rd_walk.specs.declared.analysis.Halt.{Halt}
use Rattle.rd_walk.specs.declared.status.Status.TheVariants.{Clean, Raced, Usage, SpecRefused, TraceRefused, ReplayDiffers, InputFault, OutputFault, NoMemory, LimitReached, NotACall, LogRefused}
use Rattle.rd_walk.specs.declared.status.Status.{Status}
use Rattle.rd_walk.specs.declared.status.Ended.{Ended}
use Rattle.std.specs.Result.{IsErr, IsErrAnd}
use Rattle.std.proofs.Common.{◌≡◌, ℕ, List, [], ◌++◌, Result, Ok, Err, OnOk, OnErr, refl, sym, ap, subst, ◌∙◌, inl, inr}
use Rattle.std.proofs.lemmas.List.{append_assoc, append-nil}

-- all was written
pub whole : (status : Status) (text : List ℕ) → IsOutput status text (record { text = text; status = status })
whole Clean text = (refl, refl)
whole Raced text = (refl, refl)
whole Usage text = (refl, refl)
whole SpecRefused text = (refl, refl)
whole TraceRefused text = (refl, refl)
whole ReplayDiffers text = (refl, refl)
whole InputFault text = (refl, refl)
whole OutputFault text = ([], sym (append-nil text))
whole NoMemory text = ([], sym (append-nil text))
whole LimitReached text = (refl, refl)
whole NotACall text = (refl, refl)
whole LogRefused text = (refl, refl)

-- a front was written, and then it was cut short
pub front_only : (halt : Halt) (part rest : List ℕ) (outcome : Outcome) → outcome.text ≡ part ++ rest → IsOutput (halted_with halt) part outcome
front_only halt.OutputFault part rest outcome is = (rest, is)
front_only halt.NoMemory part rest outcome is = (rest, is)

-- what is written of an outcome is written of one of these
pub has_outcome : (Is : Outcome → Type 0) (status : Status) (part : List ℕ) (outcome : Outcome) → Is outcome → IsOutput status part outcome
    → HasOutcome Is status part
has_outcome Is Clean part outcome is output = (outcome, is, output)
has_outcome Is Raced part outcome is output = (outcome, is, output)
has_outcome Is Usage part outcome is output = (outcome, is, output)
has_outcome Is SpecRefused part outcome is output = (outcome, is, output)
has_outcome Is TraceRefused part outcome is output = (outcome, is, output)
has_outcome Is ReplayDiffers part outcome is output = (outcome, is, output)
has_outcome Is InputFault part outcome is output = (outcome, is, output)
has_outcome Is OutputFault part outcome is output = (outcome, is, output)
has_outcome Is NoMemory part outcome is output = inr (outcome, is, output)
has_outcome Is LimitReached part outcome is output = (outcome, is, output)
has_outcome Is NotACall part outcome is output = (outcome, is, output)
has_outcome Is LogRefused part outcome is output = (outcome, is, output)

-- what is written of one of these is written of one of those
pub outcome_of : (Is Also : Outcome → Type 0) → ((outcome : Outcome) → Is outcome → Also outcome) → (status : Status) (part : List ℕ)
    → HasOutcome Is status part → HasOutcome Also status part
outcome_of Is Also all Clean part has = (has.0, all has.0 has.1, has.2)
outcome_of Is Also all Raced part has = (has.0, all has.0 has.1, has.2)
outcome_of Is Also all Usage part has = (has.0, all has.0 has.1, has.2)
outcome_of Is Also all SpecRefused part has = (has.0, all has.0 has.1, has.2)
outcome_of Is Also all TraceRefused part has = (has.0, all has.0 has.1, has.2)
outcome_of Is Also all ReplayDiffers part has = (has.0, all has.0 has.1, has.2)
outcome_of Is Also all InputFault part has = (has.0, all has.0 has.1, has.2)
outcome_of Is Also all OutputFault part has = (has.0, all has.0 has.1, has.2)
outcome_of Is Also all NoMemory part (inl none) = inl none
outcome_of Is Also all NoMemory part (inr has) = inr (has.0, all has.0 has.1, has.2)
outcome_of Is Also all LimitReached part has = (has.0, all has.0 has.1, has.2)
outcome_of Is Also all NotACall part has = (has.0, all has.0 has.1, has.2)
outcome_of Is Also all LogRefused part has = (has.0, all has.0 has.1, has.2)

-- a text was written before
pub behind : (status : Status) (front part text : List ℕ) (given : Status) → IsOutput status part (record { text = text; status = given })
    → IsOutput status (front ++ part) (record { text = front ++ text; status = given })
behind Clean front part text given is = (ap (λ t. front ++ t) is.0, is.1)
behind Raced front part text given is = (ap (λ t. front ++ t) is.0, is.1)
behind Usage front part text given is = (ap (λ t. front ++ t) is.0, is.1)
behind SpecRefused front part text given is = (ap (λ t. front ++ t) is.0, is.1)
behind TraceRefused front part text given is = (ap (λ t. front ++ t) is.0, is.1)
behind ReplayDiffers front part text given is = (ap (λ t. front ++ t) is.0, is.1)
behind InputFault front part text given is = (ap (λ t. front ++ t) is.0, is.1)
behind OutputFault front part text given is = (is.0, ap (λ t. front ++ t) is.1 ∙ sym (append_assoc front part is.0))
behind NoMemory front part text given is = (is.0, ap (λ t. front ++ t) is.1 ∙ sym (append_assoc front part is.0))
behind LimitReached front part text given is = (ap (λ t. front ++ t) is.0, is.1)
behind NotACall front part text given is = (ap (λ t. front ++ t) is.0, is.1)
behind LogRefused front part text given is = (ap (λ t. front ++ t) is.0, is.1)

-- no fault is such a status, nor is want of memory
pub well_written : (status : Status) (part : List ℕ) (outcome : Outcome) → IsWell status → IsOutput status part outcome → IsWell outcome.status
well_written Clean part outcome well output = subst IsWell output.1 tt
well_written Raced part outcome well output = subst IsWell output.1 tt
well_written ReplayDiffers part outcome well output = subst IsWell output.1 tt
well_written NotACall part outcome well output = subst IsWell output.1 tt
well_written Usage part outcome well output = absurd well
well_written SpecRefused part outcome well output = absurd well
well_written TraceRefused part outcome well output = absurd well
well_written InputFault part outcome well output = absurd well
well_written OutputFault part outcome well output = absurd well
well_written NoMemory part outcome well output = absurd well
well_written LimitReached part outcome well output = absurd well
well_written LogRefused part outcome well output = absurd well

pub halted_no_well : (halt : Halt) → ¬ (IsWell (halted_with halt))
halted_no_well halt.OutputFault well = well
halted_no_well halt.NoMemory well = well

pub fault_no_well : ¬ (IsWell InputFault)
fault_no_well well = well

-- what holds whatever a function answers
pub always_ok : {T E : Type 0} (P : Type 0) (r : Result T E) → P → OnOk r P
always_ok P (Ok x) p = p
always_ok P (Err e) p = tt

pub always_err : {T E : Type 0} (P : Type 0) (r : Result T E) → P → OnErr r P
always_err P (Ok x) p = tt
always_err P (Err e) p = p

-- what `?` hands on
pub failed_with : {T E : Type 0} (r : Result T E) (P : E → Type 0) → IsErr r × IsErrAnd r P → (e : E) × (r ≡ Err e) × P e
failed_with (Ok x) P is = absurd is.1
failed_with (Err e) P is = (e, refl, is.1)

-- a report for which memory ran out, or which was cut short in this text
pub report_without : (report : Result Ended Halt) → IsErr report × IsErrAnd report (λ e. e ≡ halt.NoMemory) → ended_status report ≡ NoMemory
report_without report is = let (e, same, ran_out) = failed_with report (λ e. e ≡ halt.NoMemory) is in ap ended_status (same ∙ ap Err ran_out)

pub report_cut : (report : Result Ended Halt) (P : Halt → Type 0) → IsErr report × IsErrAnd report P → (part rest : List ℕ) (outcome : Outcome) → outcome.text ≡ part ++ rest
    → IsOutput (ended_status report) part outcome
report_cut report P is part rest outcome whole =
    let (e, same, gives) = failed_with report P is in subst (λ r. IsOutput (ended_status r) part outcome) (sym same) (front_only e part rest outcome whole)
