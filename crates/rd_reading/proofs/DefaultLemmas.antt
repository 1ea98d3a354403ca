-- The first thing that is wrong with the line of a default.
use Rattle.std.proofs.Common.{◌≡◌, ◌≢◌, ◌≤◌, ℕ, List, refl, arith, ◌⊎◌, inl, inr}
use Rattle.rd_lines.specs.declared.forms.Stage.{Stage}
use Rattle.rd_lines.specs.declared.forms.Stage.TheVariants.{Outside, Methods, Definitions, Defaulted, Pairs}
use Rattle.rd_pairs.specs.declared.spec_causes.SpecCause.{SpecCause}
use Rattle.rd_pairs.specs.declared.spec_causes.SpecCause.TheVariants.{Duplicate}
use Rattle.rd_pairs.specs.Causes.{HasNone, IsFirstOf, place_at, rank}
use Rattle.rd_reading.specs.declared.known.Known.{Known}
use Rattle.rd_reading.specs.Causes.{DefaultHas}
use Rattle.rd_reading.specs.Known.{stage_of}
use Rattle.rd_tokens.specs.declared.sorts.Token.{Token}

where_defaulted : (stage : Stage) → (stage ≡ Defaulted) ⊎ (stage ≢ Defaulted)
where_defaulted Outside = inr (λ e. cc)
where_defaulted Methods = inr (λ e. cc)
where_defaulted Definitions = inr (λ e. cc)
where_defaulted Defaulted = inl refl
where_defaulted Pairs = inr (λ e. cc)

module _ (known : Known) (line : List ℕ) (tokens : List Token) where
  -- the line has the cause at the place
  abbrev Wrong : SpecCause → ℕ → Type 0
  Wrong cause place = DefaultHas known line tokens cause place

  least_default : (cause : SpecCause) (place : ℕ) → Wrong cause place → 7 ≤ rank cause
  least_default Duplicate place has = omega arith
  least_default cause place has = absurd has

  -- a default that is there already
  pub second_default : (place : ℕ) → place ≡ place_at line tokens 0 → stage_of known ≡ Defaulted → IsFirstOf Wrong Duplicate place
  second_default place at stands = record { has = (stands, at); first = least_default }

  pub right_default : stage_of known ≢ Defaulted → HasNone Wrong
  right_default elsewhere Duplicate place has = elsewhere has.0
  right_default elsewhere cause place has = has

  pub judged_default : ((cause : SpecCause) × (place : ℕ) × IsFirstOf Wrong cause place) ⊎ HasNone Wrong
  judged_default = elim (where_defaulted (stage_of known)) [
    | inl stands ↦ inl (Duplicate, place_at line tokens 0, second_default (place_at line tokens 0) refl stands)
    | inr elsewhere ↦ inr (right_default elsewhere)
  ]
