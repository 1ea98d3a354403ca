-- The headline of a run of `check`.
use Rattle.rd_base.specs.declared.limits.Limits.{Limits}
use Rattle.rd_check_command.proofs.WholeLemmas.{one_kinds}
use Rattle.rd_check_command.specs.Checked.{check_bound}
use Rattle.rd_check_command.specs.Meanings.{AreKinds, TakesKnown, check_meaning}
use Rattle.rd_check_command.specs.Reports.{IsChecked}
use Rattle.rd_ecl.specs.Kinds.{kinds_of}
use Rattle.rd_ecl.specs.Specified.{SpecifiedKind}
use Rattle.rd_io.specs.Inputs.{Source, file_of}
use Rattle.rd_io.specs.Lines.Stop.{end}
use Rattle.rd_io.specs.Sinks.{Appends}
use Rattle.rd_json.specs.declared.forms.Form.{Form}
use Rattle.rd_walk.proofs.WalkLemmas.{bound_front}
use Rattle.rd_walk.proofs.WholeLemmas.{not_risen}
use Rattle.rd_walk.specs.Meanings.{Ran, Runs, Seen}
use Rattle.rd_walk.specs.Traces.{walk_on}
use Rattle.rd_walk.specs.Walk.{entries_of, step_bound, trace_of, trace_says}
use Rattle.rd_walk.specs.declared.status.Status.TheVariants.{NoMemory}
use Rattle.rd_walk.specs.declared.status.Status.{Status}
use Rattle.std.proofs.Common.{◌≡◌, ◌⊎◌, ◌+◌, ◌<◌, ◌≤◌, ◌^◌, ℕ, false, List, [], Option, Some, None, sym, ap, ◌∙◌, subst, inl, inr, arith}
use Rattle.std.proofs.lemmas.Bool.{cases_eq}
use Rattle.std.specs.Prelude.{option_map}

module _ (form : Form) (trace : List ℕ) (limits : Limits) (old new : Source) (part : List ℕ) (status : Status) (before after : ℕ)
    (kinds : List SpecifiedKind) (bytes : List ℕ) (at : file_of old.files trace ≡ Some bytes) where
  abbrev IsBounded : Type 0
  IsBounded = after ≤ before + step_bound (check_bound kinds) (entries_of (trace_of (kinds_of kinds) limits end bytes))

  -- of a trace that was opened
  known_bounded : (file : Option (List ℕ)) → AreKinds old file kinds → TakesKnown form file trace limits false old new part before after → IsBounded
  known_bounded file are (others, also, takes) =
      let (rest, first) = takes.first in
      let same = one_kinds old file others kinds also are in
      let all = sym first ∙ ap (λ o. entries_of (walk_on trace_says (kinds_of others) limits (option_map (λ b. (end, b)) o))) at in
      let cost : after ≤ before + step_bound (check_bound others) (entries_of (trace_of (kinds_of others) limits end bytes))
      = subst (λ es. after ≤ before + step_bound (check_bound others) es) all (omega (arith, takes.cost, bound_front (check_bound others) [] takes.begun rest)) in
      subst (λ k. after ≤ before + step_bound (check_bound k) (entries_of (trace_of (kinds_of k) limits end bytes))) same cost

  -- whatever was opened
  steps_bounded : (file : Option (List ℕ)) → AreKinds old file kinds → Runs (check_meaning form trace file) limits false old new part status before after → IsBounded
  steps_bounded None are runs = elim (cases_eq new.opens old.opens) [
    | inl same ↦ let (left, calm) = runs.taken.1 same in omega (arith, calm)
    | inr other ↦ known_bounded None are (runs.taken.0 (omega (arith, other, runs.opened.later, runs.opened.opens)))
  ]
  steps_bounded (Some file) are runs = elim (cases_eq new.opens old.opens) [
    | inl same ↦ let (left, calm) = runs.taken.2 same in omega (arith, calm)
    | inr other ↦ elim (cases_eq new.opens (old.opens + 1)) [
      | inl one ↦ let (left, calm) = runs.taken.1 one in omega (arith, calm)
      | inr more ↦ known_bounded (Some file) are (runs.taken.0 (omega (arith, other, more, runs.opened.later, runs.opened.opens)))
    ]
  ]

pub headline_of : (form : Form) (trace : List ℕ) (file : Option (List ℕ)) {I : Type 0} (limits : Limits) (before after : Seen I) (status : Status)
    → Ran (check_meaning form trace file) limits before after status
    → (old : Source) → before.told ≡ Some old → before.input_faults < 2 ^ 63 → old.opens < 2 ^ 63 → before.output_faults < 2 ^ 63
    → after.input_faults ≡ before.input_faults → after.output_faults ≡ before.output_faults
    → (kinds : List SpecifiedKind) (bytes : List ℕ) → AreKinds old file kinds → file_of old.files trace ≡ Some bytes
    → (part : List ℕ) × Appends before.written after.written part
    × ((status ≡ NoMemory) ⊎ IsChecked form kinds limits end bytes (record { text = part; status = status }))
    × (after.steps ≤ before.steps + step_bound (check_bound kinds) (entries_of (trace_of (kinds_of kinds) limits end bytes)))
headline_of form trace file limits before after status ran old told few few_opens few_faults calm silent kinds bytes are at =
    let (part, writes, whole) = ran.whole old told few few_opens few_faults calm silent in
    let (new, other, now, wrote, runs) = ran.runs old told few few_opens in (
      part,
      writes,
      elim (whole kinds bytes are at) [
        | inl none ↦ inl none
        | inr written ↦ inr written.headline
      ],
      steps_bounded form trace limits old new other status before.steps after.steps kinds bytes at file are
          (subst (λ rose. Runs (check_meaning form trace file) limits rose old new other status before.steps after.steps) (not_risen before.input_faults after.input_faults calm) runs),
    )
