-- The status of a command, by how it ended.
use Rattle.rd_walk.specs.Analysis.{TellsFault, TellsFaults}
use Rattle.rd_walk.specs.Output.{EndsAs, IsTextStatus, StatusTellsFault, ended_status}
use Rattle.rd_walk.specs.declared.analysis.Halt.TheVariants as halt
use Rattle.rd_walk.specs.declared.analysis.Halt.{Halt}
use Rattle.rd_walk.specs.declared.status.Ended.TheVariants as ended
use Rattle.rd_walk.specs.declared.status.Ended.{Ended}
use Rattle.rd_walk.specs.declared.status.Status.TheVariants.{InputFault, OutputFault, NoMemory}
use Rattle.std.proofs.Common.{◌≡◌, ◌≢◌, ℕ, List, Option, Result, Ok, Err, IfOk, refl, ap, inl, inr}

-- a failed write is told as one
pub status_wrote : (before now : ℕ) (point written : Option (List ℕ)) (result : Result Ended Halt) → TellsFault before now point written result
    → StatusTellsFault before now point written (ended_status result)
status_wrote before now point written (Ok ended.Clean) tells = tells
status_wrote before now point written (Ok ended.Raced) tells = tells
status_wrote before now point written (Ok ended.Usage) tells = tells
status_wrote before now point written (Ok ended.SpecRefused) tells = tells
status_wrote before now point written (Ok ended.TraceRefused) tells = tells
status_wrote before now point written (Ok ended.ReplayDiffers) tells = tells
status_wrote before now point written (Ok ended.InputFault) tells = tells
status_wrote before now point written (Ok ended.LimitReached) tells = tells
status_wrote before now point written (Ok ended.NotACall) tells = tells
status_wrote before now point written (Ok ended.LogRefused) tells = tells
status_wrote before now point written (Err halt.OutputFault) tells = tells
status_wrote before now point written (Err halt.NoMemory) tells = tells

-- where it says that the input failed, the command did
pub status_failed : (result : Result Ended Halt) → ended_status result ≡ InputFault → result ≡ Ok ended.InputFault
status_failed (Ok ended.Clean) e = cc
status_failed (Ok ended.Raced) e = cc
status_failed (Ok ended.Usage) e = cc
status_failed (Ok ended.SpecRefused) e = cc
status_failed (Ok ended.TraceRefused) e = cc
status_failed (Ok ended.ReplayDiffers) e = cc
status_failed (Ok ended.InputFault) e = refl
status_failed (Ok ended.LimitReached) e = cc
status_failed (Ok ended.NotACall) e = cc
status_failed (Ok ended.LogRefused) e = cc
status_failed (Err halt.OutputFault) e = cc
status_failed (Err halt.NoMemory) e = cc

-- the count of the inputs' faults stays where it says another thing
pub status_calm : {inputs_before inputs_now before now : ℕ} {point written : Option (List ℕ)} (result : Result Ended Halt)
    → TellsFaults ended.InputFault inputs_before inputs_now before now point written result → ended_status result ≢ InputFault → ended_status result ≢ OutputFault
    → ended_status result ≢ NoMemory → inputs_now ≡ inputs_before
status_calm (Ok ended.Clean) tells input output memory = tells.calm (λ e. cc)
status_calm (Ok ended.Raced) tells input output memory = tells.calm (λ e. cc)
status_calm (Ok ended.Usage) tells input output memory = tells.calm (λ e. cc)
status_calm (Ok ended.SpecRefused) tells input output memory = tells.calm (λ e. cc)
status_calm (Ok ended.TraceRefused) tells input output memory = tells.calm (λ e. cc)
status_calm (Ok ended.ReplayDiffers) tells input output memory = tells.calm (λ e. cc)
status_calm (Ok ended.InputFault) tells input output memory = absurd (input refl)
status_calm (Ok ended.LimitReached) tells input output memory = tells.calm (λ e. cc)
status_calm (Ok ended.NotACall) tells input output memory = tells.calm (λ e. cc)
status_calm (Ok ended.LogRefused) tells input output memory = tells.calm (λ e. cc)
status_calm (Err halt.OutputFault) tells input output memory = absurd (output refl)
status_calm (Err halt.NoMemory) tells input output memory = absurd (memory refl)

-- it is one of these ends
pub status_ends : (Is : Ended → Type 0) (result : Result Ended Halt) → IfOk result Is → ended_status result ≢ OutputFault → EndsAs Is (ended_status result)
status_ends Is (Ok end) is other = inr (end, is, refl)
status_ends Is (Err halt.OutputFault) is other = absurd (other refl)
status_ends Is (Err halt.NoMemory) is other = inl refl

-- a text that was written is no fault of the input, and has a text's status
pub clean_no_fault : (result : Result Ended Halt) → IfOk result (λ end. end ≡ ended.Clean) → result ≢ Ok ended.InputFault
clean_no_fault (Ok end) clean e = cc
clean_no_fault (Err halt) clean e = cc

pub clean_ends : (result : Result Ended Halt) → IfOk result (λ end. end ≡ ended.Clean) → ended_status result ≢ OutputFault → IsTextStatus (ended_status result)
clean_ends (Ok end) clean other = inl (ap (λ e. ended_status (Ok e)) clean)
clean_ends (Err halt.OutputFault) clean other = absurd (other refl)
clean_ends (Err halt.NoMemory) clean other = inr refl
