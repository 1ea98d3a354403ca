-- A run of `check`, with and without a specification.
use Rattle.rd_check_command.specs.Meanings.{check_meaning, AreKinds, IsCheckOutcome}
use Rattle.rd_base.specs.declared.limits.Limits.{Limits}
use Rattle.rd_ecl.specs.Kinds.{kinds_of}
use Rattle.rd_ecl.specs.Specified.{SpecifiedKind}
use Rattle.rd_io.specs.Inputs.{Source, Rose, file_of}
use Rattle.rd_kinds.specs.Shipped.{reserved_names, shipped_kinds}
use Rattle.rd_walk.proofs.OutputLemmas.{fault_no_well, halted_no_well, has_outcome, outcome_of, well_written}
use Rattle.rd_spec_command.proofs.RefusalLemmas.{refusal_no_well}
use Rattle.rd_walk.specs.Output.{HasOutcome, IsOutput, IsWell, Outcome, unopened_outcome}
use Rattle.rd_check_command.specs.Checked.{check_texts}
use Rattle.rd_json.specs.Forms.{fault_in}
use Rattle.rd_json.specs.declared.forms.Form.{Form}
use Rattle.rd_replay_command.specs.States.{built_in_kinds}
use Rattle.rd_walk.specs.Traces.{IsTraceOutcome, OpensOnly, TakesTrace}
use Rattle.rd_spec_command.specs.Meanings.{LeavesSpec, ReadsSpec}
use Rattle.rd_walk.specs.Meanings.{Runs, report_meaning}
use Rattle.rd_spec_command.specs.Specifications.{TellsUnread, most_bytes, refused_outcome}
use Rattle.rd_walk.specs.declared.analysis.Halt.TheVariants as halt
use Rattle.rd_spec_command.specs.declared.specifications.Unread.TheVariants.{Fault, Refused, NoMemory as OutOfMemory}
use Rattle.rd_spec_command.specs.declared.specifications.Unread.{Unread}
use Rattle.rd_walk.specs.declared.status.Status.TheVariants.{NoMemory}
use Rattle.rd_walk.specs.declared.status.Status.{Status}
use Rattle.rd_reading.specs.Texts.{IsSpecRefused, SpecSays}
use Rattle.rd_reading.specs.declared.parsing.SpecRefused.{SpecRefused as Refusal}
use Rattle.std.proofs.Common.{◌≡◌, ◌≢◌, ℕ, ◌+◌, ◌^◌, ◌<◌, ◌≤◌, Bool, true, false, cond, ltb, List, [], ◌∷◌, ◌++◌, length, Some, None, refl, sym, ◌∙◌, subst, arith, inl, inr}
use Rattle.std.proofs.lemmas.Bool.Decides.{nat_tests}
use Rattle.std.specs.Prelude.{is_none}

pub runs_shipped : (form : Form) (trace : List ℕ) (limits : Limits) (rose : Bool) (old new : Source) (part : List ℕ) (status : Status) (before after : ℕ)
    → Runs (report_meaning (check_texts form shipped_kinds) built_in_kinds trace) limits rose old new part status before after → Runs (check_meaning form trace None) limits rose old new part status before after
runs_shipped form trace limits rose old new part status before after checks = record {
  output = outcome_of (IsTraceOutcome (check_texts form shipped_kinds) built_in_kinds trace limits rose old new) (IsCheckOutcome form trace None limits rose old new)
      (λ outcome is. elim is [
        | inl fault ↦ inl fault
        | inr checked ↦ inr (record { all_opened = checked.0; kinds = shipped_kinds; are = refl; is = checked.1 })
      ]) status part checks.output;
  opened = checks.opened;
  taken = (λ more. (shipped_kinds, refl, checks.taken.0 more), checks.taken.1);
  read = λ well. (shipped_kinds, refl, checks.read well);
}

-- a file more may be opened
more_files : (file trace : List ℕ) (old new : Source) → OpensOnly (file ∷ []) old new → OpensOnly (file ∷ trace ∷ []) old new
more_files file trace old new opened = record {
  files = opened.files;
  later = opened.later;
  opens = omega (arith, opened.opens);
  misses = omega (arith, opened.misses);
}

module _ (form : Form) (trace file : List ℕ) (limits : Limits) (before now : ℕ) (old new : Source) (part : List ℕ) (status : Status) (steps : ℕ) (few : before < 2 ^ 63)
    (leaves : LeavesSpec file old new) where
  -- with that outcome
  unread_with : HasOutcome (IsCheckOutcome form trace (Some file) limits (ltb before now) old new) status part → ¬ (IsWell status)
      → Runs (check_meaning form trace (Some file)) limits (ltb before now) old new part status steps steps
  unread_with output other = record {
    output = output;
    opened = more_files file trace old new leaves.opened;
    taken = (
      λ more. absurd (omega (arith, more, leaves.opened.opens)),
      λ more. (leaves.taken more, refl),
      λ same. (leaves.unopened same, refl),
    );
    read = λ well. absurd (other well);
  }

  pub unread_faulted : Rose before now → IsOutput status part (unopened_outcome (fault_in form))
      → Runs (check_meaning form trace (Some file)) limits (ltb before now) old new part status steps steps
  unread_faulted risen output =
      let rose : ltb before now ≡ true = grind (arith, nat_tests) in
      unread_with (has_outcome (IsCheckOutcome form trace (Some file) limits (ltb before now) old new) status part (unopened_outcome (fault_in form))
      (inl (record { risen = rose; some_unopened = omega (arith, leaves.opened.opens); is = refl })) output)
      (λ well. fault_no_well (well_written status part (unopened_outcome (fault_in form)) well output))

  pub unread_refused : now ≡ before → (bytes : List ℕ) (refused : Refusal) → ReadsSpec file old new bytes → IsSpecRefused bytes reserved_names refused
      → IsOutput status part (refused_outcome form refused) → Runs (check_meaning form trace (Some file)) limits (ltb before now) old new part status steps steps
  unread_refused same bytes refused reads refuses output =
      let quiet : ltb before now ≡ false = grind (arith, nat_tests) in
      unread_with (has_outcome (IsCheckOutcome form trace (Some file) limits (ltb before now) old new) status part (refused_outcome form refused)
      (inr (inl (record { calm = quiet; one_opened = reads.opens; bytes = bytes; text = reads.text; refused = refused; refuses = refuses; is = refl }))) output)
      (λ well. refusal_no_well refused.cause (well_written status part (refused_outcome form refused) well output))

  pub unread_without : status ≡ NoMemory → part ≡ [] → Runs (check_meaning form trace (Some file)) limits (ltb before now) old new part status steps steps
  unread_without is none =
      unread_with (subst (λ s. HasOutcome (IsCheckOutcome form trace (Some file) limits (ltb before now) old new) s part) (sym is) (inl none))
      (λ well. halted_no_well halt.NoMemory (subst IsWell is well))

  -- as it is told why the specification isn't there
  pub unread_told : (unread : Unread) → TellsUnread form unread status part → (unread ≡ Fault → Rose before now) → (unread ≢ Fault → now ≡ before)
      → ((refused : Refusal) → unread ≡ Refused refused → (bytes : List ℕ) × ReadsSpec file old new bytes × IsSpecRefused bytes reserved_names refused)
      → Runs (check_meaning form trace (Some file)) limits (ltb before now) old new part status steps steps
  unread_told Fault tells risen calm refuses = unread_faulted (risen refl) tells.0
  unread_told (Refused refused) tells risen calm refuses =
      let (bytes, reads, is) = refuses refused refl in unread_refused (calm (λ e. cc)) bytes refused reads is tells
  unread_told OutOfMemory tells risen calm refuses = unread_without tells.0 tells.1

module _ (form : Form) (trace file : List ℕ) (limits : Limits) (rose : Bool) (old mid new : Source) (part : List ℕ) (status : Status) (before after : ℕ)
    (leaves : LeavesSpec file old mid) (bytes : List ℕ) (said : List SpecifiedKind) (reads : ReadsSpec file old mid bytes) (says : SpecSays bytes reserved_names said)
    (checks : Runs (report_meaning (check_texts form (shipped_kinds ++ said)) (kinds_of (shipped_kinds ++ said)) trace) limits rose mid new part status before after) where
  abbrev kinds : List SpecifiedKind
  kinds = shipped_kinds ++ said

  are : AreKinds old (Some file) kinds
  are = (bytes, said, reads.text, says, refl)

  abbrev Traced : List (List ℕ × List ℕ) → Type 0
  Traced files = (outcome : Outcome) → IsTraceOutcome (check_texts form kinds) (kinds_of kinds) trace limits rose (record mid { files = files }) new outcome → IsCheckOutcome form trace (Some file) limits rose old new outcome

  traced : (outcome : Outcome) → IsTraceOutcome (check_texts form kinds) (kinds_of kinds) trace limits rose (record mid { files = old.files }) new outcome → IsCheckOutcome form trace (Some file) limits rose old new outcome
  traced outcome (inl fault) = inl (record { risen = fault.risen; some_unopened = omega (arith, fault.some_unopened, reads.opens); is = fault.is })
  traced outcome (inr checked) = inr (inr (record { all_opened = omega (arith, checked.0, reads.opens); kinds = kinds; are = are; is = checked.1 }))

  took : TakesTrace (check_texts form kinds) (kinds_of kinds) trace limits rose (record mid { files = old.files }) new part before after → TakesTrace (check_texts form kinds) (kinds_of kinds) trace limits rose old new part before after
  took takes = record { whole = takes.whole; begun = takes.begun; first = takes.first; is_begun = takes.is_begun; read = takes.read; cost = takes.cost }

  pub runs_said : Runs (check_meaning form trace (Some file)) limits rose old new part status before after
  runs_said = record {
    output = outcome_of (IsTraceOutcome (check_texts form kinds) (kinds_of kinds) trace limits rose mid new) (IsCheckOutcome form trace (Some file) limits rose old new)
        (subst Traced (sym leaves.opened.files) traced) status part checks.output;
    opened = record {
      files = checks.opened.files ∙ leaves.opened.files;
      later = omega (arith, checks.opened.later, leaves.opened.later);
      opens = omega (arith, checks.opened.opens, reads.opens);
      misses =
          let few = subst (λ files. new.misses ≤ mid.misses + cond (is_none (file_of files trace)) 1 0) leaves.opened.files (omega (arith, checks.opened.misses)) in
          omega (arith, few, reads.misses);
    };
    taken = (
      λ more. (
        kinds,
        are,
        took (subst (λ files. TakesTrace (check_texts form kinds) (kinds_of kinds) trace limits rose (record mid { files = files }) new part before after) leaves.opened.files (checks.taken.0 (omega (arith, more, reads.opens)))),
      ),
      λ more.
          let ((taken, held), cost) = checks.taken.1 (omega (arith, more, reads.opens)) in
          let was = leaves.taken reads.opens in (
            record {
              whole = was.whole ∙ (λ i. Some (sym taken i ++ sym held i));
              few = subst (λ xs. length xs ≤ most_bytes) (sym taken) was.few;
            },
            cost,
          ),
      λ same. absurd (omega (arith, same, reads.opens, checks.opened.later)),
    );
    read = λ well.
        let whole = checks.read well in (
          kinds,
          are,
          record { none_left = whole.none_left; whole = subst (λ files. file_of files trace ≡ Some new.taken) leaves.opened.files whole.whole; well = whole.well },
        );
  }
