-- What a specification says is written whole.
use Rattle.rd_walk.proofs.WholeLemmas.{all_written}
use Rattle.rd_spec_command.specs.Meanings.{said_meaning, IsJudged, IsSpecText, IsUnread}
use Rattle.rd_base.specs.declared.limits.Limits.{Limits}
use Rattle.rd_ecl.specs.Specified.{SpecifiedKind}
use Rattle.rd_io.specs.Inputs.{Source}
use Rattle.rd_kinds.specs.Shipped.{reserved_names}
use Rattle.rd_walk.specs.Output.{HasOutcome, Outcome}
use Rattle.rd_spec_command.specs.Specifications.{IsSpecOutcome, most_bytes}
use Rattle.rd_walk.specs.declared.status.Status.TheVariants.{Clean, OutputFault}
use Rattle.rd_walk.specs.declared.status.Status.{Status}
use Rattle.rd_reading.proofs.OneLemmas.{never_refused, one_said}
use Rattle.rd_reading.specs.Texts.{SpecSays}
use Rattle.std.proofs.Common.{◌≡◌, ℕ, false, List, sym, ap, ◌∙◌, subst, ◌≢◌, ◌⊎◌, inl, inr, true≢false}
use Rattle.std.proofs.lemmas.Option.{same_Some}
use Rattle.std.specs.Prelude.{take}

-- one text of a file is judged
pub one_text : (old : Source) (file x y : List ℕ) → IsSpecText old file x → IsSpecText old file y → x ≡ y
one_text old file x y one other =
    one.front ∙ ap (take most_bytes) (same_Some one.whole other.whole (sym one.held ∙ other.held)) ∙ sym other.front

-- what a specification says is written
said_whole : (text : List SpecifiedKind → List ℕ) (bytes : List ℕ) (kinds : List SpecifiedKind) (outcome : Outcome) (part : List ℕ) (status : Status) → SpecSays bytes reserved_names kinds
    → IsSpecOutcome text bytes outcome → part ≡ outcome.text → status ≡ outcome.status → (part ≡ text kinds) × (status ≡ Clean)
said_whole text bytes kinds outcome part status says (inl (others, also, is)) wrote told =
    let same = one_said bytes reserved_names others kinds also says in
    (wrote ∙ ap (λ o. o.text) is ∙ ap text same, told ∙ ap (λ o. o.status) is)
said_whole text bytes kinds outcome part status says (inr (refused, refuses, is)) wrote told =
    absurd (never_refused bytes reserved_names kinds refused says refuses)

pub whole_said : (text : List SpecifiedKind → List ℕ) (file : List ℕ) (limits : Limits) (old new : Source) (part : List ℕ) (status : Status)
    → HasOutcome (λ outcome. IsUnread false outcome ⊎ IsJudged text file false old new outcome) status part → status ≢ OutputFault
    → (said_meaning text file).writes limits old part status
whole_said text file limits old new part status has other kinds bytes is says =
    elim (all_written (λ outcome. IsUnread false outcome ⊎ IsJudged text file false old new outcome) status part has other) [
      | inl none ↦ inl none
      | inr all ↦ inr (by all.outcome all.is all.text all.told)
    ]
  where
    by : (outcome : Outcome) → IsUnread false outcome ⊎ IsJudged text file false old new outcome → part ≡ outcome.text → status ≡ outcome.status
        → (part ≡ text kinds) × (status ≡ Clean)
    by outcome (inl unread) wrote told = absurd (true≢false (sym unread.risen))
    by outcome (inr judged) wrote told =
        said_whole text judged.bytes kinds outcome part status
        (subst (λ b. SpecSays b reserved_names kinds) (one_text old file bytes judged.bytes is judged.text) says) judged.is wrote told
