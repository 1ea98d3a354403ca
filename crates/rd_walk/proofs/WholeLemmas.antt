-- A run in which nothing failed writes all.
use Rattle.rd_io.specs.Inputs.{Rose}
use Rattle.rd_walk.specs.Output.{HasOutcome, IsWell, Outcome, StatusTellsFault}
use Rattle.rd_walk.specs.Traces.{IsWholeOutput}
use Rattle.rd_walk.specs.declared.status.Status.TheVariants.{Clean, Raced, Usage, SpecRefused, TraceRefused, ReplayDiffers, InputFault, OutputFault, NoMemory, LimitReached, NotACall, LogRefused}
use Rattle.rd_walk.specs.declared.status.Status.{Status}
use Rattle.std.proofs.Common.{◌≡◌, ◌≢◌, ◌⊎◌, ◌<◌, ◌^◌, ℕ, false, arith, List, Option, refl, sym, ap, ◌∙◌, subst, inl, inr}
use Rattle.std.proofs.lemmas.Bool.{le-ltb}
use Rattle.std.specs.Prelude.{nat_lt}

-- all of an outcome was written, unless a write failed or memory ran out
pub record IsAll (Is : Outcome → Type 0) (status : Status) (part : List ℕ) : Type 0 where
  pub outcome : Outcome
  pub is : Is outcome
  pub text : part ≡ outcome.text
  pub told : status ≡ outcome.status

pub all_written : (Is : Outcome → Type 0) (status : Status) (part : List ℕ) → HasOutcome Is status part → status ≢ OutputFault → (status ≡ NoMemory) ⊎ IsAll Is status part
all_written Is Clean part has other = inr (record { outcome = has.0; is = has.1; text = has.2.0; told = has.2.1 })
all_written Is Raced part has other = inr (record { outcome = has.0; is = has.1; text = has.2.0; told = has.2.1 })
all_written Is Usage part has other = inr (record { outcome = has.0; is = has.1; text = has.2.0; told = has.2.1 })
all_written Is SpecRefused part has other = inr (record { outcome = has.0; is = has.1; text = has.2.0; told = has.2.1 })
all_written Is TraceRefused part has other = inr (record { outcome = has.0; is = has.1; text = has.2.0; told = has.2.1 })
all_written Is ReplayDiffers part has other = inr (record { outcome = has.0; is = has.1; text = has.2.0; told = has.2.1 })
all_written Is InputFault part has other = inr (record { outcome = has.0; is = has.1; text = has.2.0; told = has.2.1 })
all_written Is OutputFault part has other = absurd (other refl)
all_written Is NoMemory part has other = inl refl
all_written Is LimitReached part has other = inr (record { outcome = has.0; is = has.1; text = has.2.0; told = has.2.1 })
all_written Is NotACall part has other = inr (record { outcome = has.0; is = has.1; text = has.2.0; told = has.2.1 })
all_written Is LogRefused part has other = inr (record { outcome = has.0; is = has.1; text = has.2.0; told = has.2.1 })

pub whole_from : (whole outcome : Outcome) (part : List ℕ) (status : Status) → IsWell whole.status → outcome ≡ whole → part ≡ outcome.text → status ≡ outcome.status
    → IsWholeOutput whole part status
whole_from whole outcome part status well is text told =
    let same : status ≡ whole.status = told ∙ ap (λ o. o.status) is in record {
      text = text ∙ ap (λ o. o.text) is;
      told = same;
      well = subst IsWell (sym same) well;
    }

-- where the count of the faults of the output stays, no write failed
pub none_failed : (before now : ℕ) (point written : Option (List ℕ)) (status : Status) → StatusTellsFault before now point written status → before < 2 ^ 63
    → now ≡ before → status ≢ OutputFault
none_failed before now point written status tells few same failed =
    let risen : Rose before now = (subst (λ s. StatusTellsFault before now point written s) failed tells).0 in omega arith

-- a count that stays doesn't rise
pub not_risen : (before now : ℕ) → now ≡ before → nat_lt before now ≡ false
not_risen before now same = le-ltb before now (omega arith)
