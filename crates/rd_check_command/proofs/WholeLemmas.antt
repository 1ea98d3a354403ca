-- A check in which nothing failed and nothing is refused writes all.
use Rattle.rd_walk.proofs.WholeLemmas.{all_written, whole_from}
use Rattle.rd_check_command.proofs.OutcomeLemmas.{check_well}
use Rattle.rd_spec_command.proofs.WholeLemmas.{one_text}
use Rattle.rd_base.specs.Limits.{AreUsable}
use Rattle.rd_check_command.proofs.HeadlineLemmas.{checked as headline}
use Rattle.rd_check_command.specs.Meanings.{check_meaning, AreKinds, IsCheckOutcome, IsCheckedWith, IsWrittenWhole}
use Rattle.rd_check_command.specs.Reports.{IsChecked}
use Rattle.rd_base.specs.declared.limits.Limits.{Limits}
use Rattle.rd_ecl.specs.Kinds.{kinds_of}
use Rattle.rd_ecl.specs.Specified.{SpecifiedKind}
use Rattle.rd_io.specs.Inputs.{Source, file_of}
use Rattle.rd_io.specs.Lines.Stop.{end}
use Rattle.rd_kinds.specs.Shipped.{reserved_names, shipped_kinds}
use Rattle.rd_walk.specs.Output.{HasOutcome, Outcome}
use Rattle.rd_check_command.specs.Checked.{check_outcome}
use Rattle.rd_json.specs.declared.forms.Form.{Form}
use Rattle.rd_spec_command.specs.Meanings.{IsSpecFileRefused}
use Rattle.rd_walk.specs.Traces.{walk_on}
use Rattle.rd_walk.specs.Walk.{trace_of, trace_says}
use Rattle.rd_walk.specs.declared.status.Status.TheVariants.{OutputFault}
use Rattle.rd_walk.specs.declared.status.Status.{Status}
use Rattle.rd_reading.proofs.OneLemmas.{never_refused, one_said}
use Rattle.rd_reading.specs.Texts.{IsSpecRefused, SpecSays}
use Rattle.std.proofs.Common.{◌≡◌, ◌≢◌, ◌<◌, ◌^◌, ℕ, false, List, ◌++◌, Option, Some, None, sym, ap, ◌∙◌, subst, inl, inr, true≢false}
use Rattle.std.specs.Prelude.{option_map}

-- the kinds are these alone
pub one_kinds : (old : Source) (file : Option (List ℕ)) (x y : List SpecifiedKind) → AreKinds old file x → AreKinds old file y → x ≡ y
one_kinds old None x y one other = one ∙ sym other
one_kinds old (Some file) x y (bytes, said, text, says, is) (others, also, text_too, says_too, is_too) =
    let same = one_text old file bytes others text text_too in
    is ∙ ap (λ kinds. shipped_kinds ++ kinds) (one_said others reserved_names said also (subst (λ b. SpecSays b reserved_names said) same says) says_too) ∙ sym is_too

-- no specification is accepted and refused
not_refused : (form : Form) (old new : Source) (file : List ℕ) (kinds : List SpecifiedKind) (outcome : Outcome) → AreKinds old (Some file) kinds → ¬ (IsSpecFileRefused form file false old new outcome)
not_refused form old new file kinds outcome (bytes, said, text, says, is) refused =
    never_refused bytes reserved_names said refused.refused says
    (subst (λ b. IsSpecRefused b reserved_names refused.refused) (one_text old file refused.bytes bytes refused.text text) refused.refuses)

module _ (form : Form) (trace : List ℕ) (limits : Limits) (old new : Source) (kinds : List SpecifiedKind) (bytes : List ℕ) (at : file_of old.files trace ≡ Some bytes)
    (usable : AreUsable limits) (range : limits.threads < 2 ^ 32) (part : List ℕ) (status : Status) where
  abbrev whole_outcome : Outcome
  whole_outcome = check_outcome form kinds (trace_of (kinds_of kinds) limits end bytes)

  whole_checked : (file : Option (List ℕ)) (files : ℕ) (outcome : Outcome) → AreKinds old file kinds → IsCheckedWith form trace file files limits false old new outcome
      → part ≡ outcome.text → status ≡ outcome.status → IsWrittenWhole form kinds limits bytes part status
  whole_checked file files outcome are checked text told =
      let same = one_kinds old file checked.kinds kinds checked.are are in
      let is = checked.is ∙ (λ i. check_outcome form (same i) (walk_on trace_says (kinds_of (same i)) limits (option_map (λ b. (end, b)) (at i)))) in
      record {
        headline = subst (IsChecked form kinds limits end bytes)
            (λ i. let o : Outcome = record { text = (ap (λ o. o.text) (sym is) ∙ sym text) i; status = (ap (λ o. o.status) (sym is) ∙ sym told) i } in o)
            (headline kinds form limits usable range end bytes);
        whole = λ well. whole_from whole_outcome outcome part status ((check_well form kinds (trace_of (kinds_of kinds) limits end bytes)).1 well) is text told;
      }

  whole_of : (file : Option (List ℕ)) (outcome : Outcome) → AreKinds old file kinds → IsCheckOutcome form trace file limits false old new outcome
      → part ≡ outcome.text → status ≡ outcome.status → IsWrittenWhole form kinds limits bytes part status
  whole_of None outcome are (inl faulted) text told = absurd (true≢false (sym faulted.risen))
  whole_of None outcome are (inr checked) text told = whole_checked None 1 outcome are checked text told
  whole_of (Some file) outcome are (inl faulted) text told = absurd (true≢false (sym faulted.risen))
  whole_of (Some file) outcome are (inr (inl refused)) text told = absurd (not_refused form old new file kinds outcome are refused)
  whole_of (Some file) outcome are (inr (inr checked)) text told = whole_checked (Some file) 2 outcome are checked text told

pub whole_check : (form : Form) (trace : List ℕ) (file : Option (List ℕ)) (limits : Limits) (old new : Source) (part : List ℕ) (status : Status)
    → AreUsable limits → limits.threads < 2 ^ 32 → HasOutcome (IsCheckOutcome form trace file limits false old new) status part → status ≢ OutputFault
    → (check_meaning form trace file).writes limits old part status
whole_check form trace file limits old new part status usable range has other kinds bytes are at =
    elim (all_written (IsCheckOutcome form trace file limits false old new) status part has other) [
      | inl none ↦ inl none
      | inr all ↦ inr (whole_of form trace limits old new kinds bytes at usable range part status file all.outcome are all.is all.text all.told)
    ]
