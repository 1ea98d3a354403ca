-- The status of a refused specification.
use Rattle.rd_pairs.specs.declared.spec_causes.SpecCause.TheVariants as cause
use Rattle.rd_pairs.specs.declared.spec_causes.SpecCause.{SpecCause}
use Rattle.rd_walk.specs.Output.{IsWell}
use Rattle.rd_spec_command.specs.Specifications.{spec_status}
use Rattle.rd_walk.specs.declared.status.Status.TheVariants.{SpecRefused, LimitReached}
use Rattle.std.proofs.Common.{◌≡◌, ◌⊎◌, refl, subst, inl, inr}

-- nor is a refusal of a specification
spec_no_well : ¬ (IsWell SpecRefused)
spec_no_well well = well

limit_no_well : ¬ (IsWell LimitReached)
limit_no_well well = well

refusal_status : (cause : SpecCause) → (spec_status cause ≡ SpecRefused) ⊎ (spec_status cause ≡ LimitReached)
refusal_status cause.Header = inl refl
refusal_status cause.Syntax = inl refl
refusal_status cause.UnknownMethod = inl refl
refusal_status cause.UnknownVariable = inl refl
refusal_status cause.NoVariable = inl refl
refusal_status (cause.OutsideFragment reason) = inl refl
refusal_status cause.Duplicate = inl refl
refusal_status (cause.MissingPair first second) = inl refl
refusal_status cause.KindTaken = inl refl
refusal_status (cause.Limit name number) = inr refl

pub refusal_no_well : (cause : SpecCause) → ¬ (IsWell (spec_status cause))
refusal_no_well cause well =
    elim (refusal_status cause) [
      | inl refused ↦ spec_no_well (subst IsWell refused well)
      | inr limit ↦ limit_no_well (subst IsWell limit well)
    ]
