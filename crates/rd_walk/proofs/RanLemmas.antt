-- What a run leaves, from what its parts say.
use Rattle.rd_base.specs.declared.limits.Limits.{Limits}
use Rattle.rd_ecl.specs.Kinds.{Kind}
use Rattle.rd_io.specs.Inputs.{Source}
use Rattle.rd_io.specs.Lines.Stop.{end}
use Rattle.rd_io.specs.Sinks.{Appends}
use Rattle.rd_io.proofs.SinkLemmas.{appends_none}
use Rattle.rd_walk.proofs.OutputLemmas.{has_outcome, report_without}
use Rattle.rd_walk.proofs.TraceLemmas.{reports_without}
use Rattle.rd_walk.proofs.StatusLemmas.{status_calm, status_failed, status_wrote, status_ends}
use Rattle.rd_walk.proofs.WholeLemmas.{all_written, none_failed, not_risen, whole_from}
use Rattle.rd_walk.specs.Analysis.{TellsFault, TellsFaults}
use Rattle.rd_walk.specs.Meanings.{Meaning, Ran, Runs, Seen, report_meaning, text_meaning}
use Rattle.rd_walk.specs.Output.{HasOutcome, IsOutput, IsTraceEnd, IsWell, Outcome, ended_status}
use Rattle.rd_walk.specs.Traces.{IsTraceOutcome, OpensOnly, ReportTexts, walk_on}
use Rattle.rd_walk.specs.Walk.{Walked, ending_of, trace_by}
use Rattle.rd_walk.specs.declared.analysis.Halt.TheVariants as halt
use Rattle.rd_walk.specs.declared.analysis.Halt.{Halt}
use Rattle.rd_walk.specs.declared.status.Ended.TheVariants.{InputFault}
use Rattle.rd_walk.specs.declared.status.Ended.{Ended}
use Rattle.rd_walk.specs.declared.status.Status.TheVariants.{OutputFault, NoMemory}
use Rattle.rd_walk.specs.declared.status.Status.{Status}
use Rattle.rd_walk.specs.declared.walk.WalkEnd.TheVariants.{End}
use Rattle.std.proofs.Common.{◌≡◌, ◌≢◌, ◌⊎◌, ◌<◌, ◌^◌, ℕ, Bool, false, List, [], ◌∷◌, Option, Some, Result, Ok, Err, IfOk, refl, sym, ap, ◌∙◌, subst, inl, inr, arith, true≢false}
use Rattle.std.specs.Prelude.{nat_lt, option_map}
use Rattle.std.specs.Result.{IsErr, IsErrAnd}

-- what a run leaves where the inputs tell their files
abbrev pub TellsRuns : {I : Type 0} → Meaning → Limits → Seen I → Seen I → Status → Type 0
TellsRuns meaning limits before after status = (old : Source) → before.told ≡ Some old → before.input_faults < 2 ^ 63 → old.opens < 2 ^ 63
    → (new : Source) × (part : List ℕ) × (after.told ≡ Some new) × Appends before.written after.written part
    × Runs meaning limits (nat_lt before.input_faults after.input_faults) old new part status before.steps after.steps

-- where no read and no write failed, what was written is the whole
abbrev pub IsWholeWhere : Meaning → Limits → Status → Type 0
IsWholeWhere meaning limits status = (old new : Source) (part : List ℕ) → HasOutcome (meaning.outcome limits false old new) status part → status ≢ OutputFault
    → meaning.writes limits old part status

-- a command that names a file
pub ran_over : {I : Type 0} (meaning : Meaning) (name : List ℕ) (names : List (List ℕ)) (limits : Limits) (before after : Seen I) (result : Result Ended Halt)
    → meaning.files ≡ name ∷ names → TellsRuns meaning limits before after (ended_status result) → IsWholeWhere meaning limits (ended_status result)
    → TellsFaults InputFault before.input_faults after.input_faults before.output_faults after.output_faults after.at_fault after.written result
    → (meaning.counts ≡ false → after.steps ≡ before.steps) → (ended_status result ≢ OutputFault → meaning.statuses (ended_status result))
    → Ran meaning limits before after (ended_status result)
ran_over meaning name names limits before after result named runs whole faults uncounted ends = record {
  runs = runs;
  whole = λ old told few few_opens few_faults calm silent.
      let (new, part, now, writes, ran) = runs old told few few_opens in (
        part,
        writes,
        whole old new part
            (subst (λ rose. HasOutcome (meaning.outcome limits rose old new) (ended_status result) part) (not_risen before.input_faults after.input_faults calm) ran.output)
            (none_failed before.output_faults after.output_faults after.at_fault after.written (ended_status result)
            (status_wrote before.output_faults after.output_faults after.at_fault after.written result faults.output) few_faults silent),
      );
  alone = λ none. absurd (named_some (sym named ∙ none));
  untouched = λ none. absurd (named_some (sym named ∙ none));
  uncounted = uncounted;
  ends = ends;
  input_fault = λ e. faults.input (status_failed result e);
  calm = λ input output memory. status_calm result faults input output memory;
  output_fault = status_wrote before.output_faults after.output_faults after.at_fault after.written result faults.output;
}
  where
    named_some : name ∷ names ≡ [] → ⊥
    named_some same = cc

-- a report on a trace
pub ran_report : {I : Type 0} (texts : ReportTexts) (kinds : List Kind) (trace : List ℕ) (limits : Limits) (before after : Seen I) (result : Result Ended Halt)
    → ((walked : Walked) → ending_of walked ≡ End → IsWell (texts.outcome walked).status)
    → TellsRuns (report_meaning texts kinds trace) limits before after (ended_status result)
    → TellsFaults InputFault before.input_faults after.input_faults before.output_faults after.output_faults after.at_fault after.written result
    → IfOk result IsTraceEnd → Ran (report_meaning texts kinds trace) limits before after (ended_status result)
ran_report texts kinds trace limits before after result well runs faults ends =
    ran_over (report_meaning texts kinds trace) trace [] limits before after result refl runs whole faults (λ e. absurd (true≢false e)) (status_ends IsTraceEnd result ends)
  where
    whole : IsWholeWhere (report_meaning texts kinds trace) limits (ended_status result)
    whole old new part has other bytes at ended =
        elim (all_written (IsTraceOutcome texts kinds trace limits false old new) (ended_status result) part has other) [
          | inl none ↦ inl none
          | inr all ↦ inr (elim all.is [
            | inl faulted ↦ absurd (true≢false (sym faulted.risen))
            | inr told ↦ whole_from (texts.outcome (trace_by texts.says kinds limits end bytes)) all.outcome part (ended_status result) (well (trace_by texts.says kinds limits end bytes) ended)
                (told.1 ∙ ap (λ o. texts.outcome (walk_on texts.says kinds limits (option_map (λ b. (end, b)) o))) at) all.text all.told
          ])
        ]

-- where memory ran out before anything was opened or written, no fault is told
pub no_fault_told : (result : Result Ended Halt) → IsErr result × IsErrAnd result (λ e. e ≡ halt.NoMemory) → (inputs before : ℕ) (point written : Option (List ℕ))
    → TellsFaults InputFault inputs inputs before before point written result
no_fault_told (Ok answer) is inputs before point written = absurd is.1
no_fault_told (Err e) is inputs before point written =
    subst (λ h. TellsFaults InputFault inputs inputs before before point written (Err h)) (sym is.1) (record { input = λ same. cc; calm = tt; output = refl })

pub none_ended : (Is : Ended → Type 0) (result : Result Ended Halt) → IsErr result × IsErrAnd result (λ e. e ≡ halt.NoMemory) → IfOk result Is
none_ended Is (Ok answer) is = absurd is.1
none_ended Is (Err e) is = tt

-- nor is a report begun
pub ran_report_without : {I : Type 0} (texts : ReportTexts) (kinds : List Kind) (trace : List ℕ) (limits : Limits) (before : Seen I) (result : Result Ended Halt)
    → IsErr result × IsErrAnd result (λ e. e ≡ halt.NoMemory) → Ran (report_meaning texts kinds trace) limits before before (ended_status result)
ran_report_without texts kinds trace limits before result is =
    ran_over (report_meaning texts kinds trace) trace [] limits before before result refl
    (λ old told few few_opens. (old, [], told, appends_none before.written before.written refl, reports_without texts kinds trace limits result is before.input_faults old before.steps))
    (λ old new part has other bytes at ended. inl (report_without result is))
    (no_fault_told result is before.input_faults before.output_faults before.at_fault before.written) (λ e. absurd (true≢false e))
    (status_ends IsTraceEnd result (none_ended IsTraceEnd result is))

-- a command that names no file
pub ran_alone : (meaning : Meaning) (limits : Limits) (before after : Seen (Unit {0})) (result : Result Ended Halt) (part : List ℕ)
    → after.told ≡ before.told → after.input_faults ≡ before.input_faults → Appends before.written after.written part
    → ((rose : Bool) (old new : Source) → HasOutcome (meaning.outcome limits rose old new) (ended_status result) part)
    → ((rose : Bool) (old : Source) → Runs meaning limits rose old old part (ended_status result) before.steps after.steps)
    → ((old : Source) → ended_status result ≢ OutputFault → meaning.writes limits old part (ended_status result))
    → TellsFault before.output_faults after.output_faults after.at_fault after.written result → result ≢ Ok InputFault
    → (meaning.counts ≡ false → after.steps ≡ before.steps) → (ended_status result ≢ OutputFault → meaning.statuses (ended_status result))
    → Ran meaning limits before after (ended_status result)
ran_alone meaning limits before after result part told faults writes has runs whole tells input uncounted ends =
    let wrote = status_wrote before.output_faults after.output_faults after.at_fault after.written result tells in record {
      runs = λ old now few few_opens. (old, part, told ∙ now, writes, runs (nat_lt before.input_faults after.input_faults) old);
      whole = λ old now few few_opens few_faults calm silent. (
        part,
        writes,
        whole old (none_failed before.output_faults after.output_faults after.at_fault after.written (ended_status result) wrote few_faults silent),
      );
      alone = λ none. (part, writes, has);
      untouched = λ none. refl;
      uncounted = uncounted;
      ends = ends;
      input_fault = λ e. absurd (input (status_failed result e));
      calm = λ fault other memory. faults;
      output_fault = wrote;
    }

-- where nothing is opened
pub opens_nothing : (old : Source) → OpensOnly [] old old
opens_nothing old = record { files = refl; later = omega arith; opens = omega arith; misses = omega arith }

-- one outcome alone
pub whole_outcome : (outcome : Outcome) (part : List ℕ) (status : Status) → HasOutcome (λ o. o ≡ outcome) status part → status ≢ OutputFault
    → (status ≡ NoMemory) ⊎ ((part ≡ outcome.text) × (status ≡ outcome.status))
whole_outcome outcome part status has other =
    elim (all_written (λ o. o ≡ outcome) status part has other) [
      | inl none ↦ inl none
      | inr all ↦ inr (all.text ∙ ap (λ o. o.text) all.is, all.told ∙ ap (λ o. o.status) all.is)
    ]

-- a text alone
pub ran_text : (statuses : Status → Type 0) (outcome : Outcome) (limits : Limits) (before after : Seen (Unit {0})) (result : Result Ended Halt) (part : List ℕ)
    → after.told ≡ before.told → after.input_faults ≡ before.input_faults → after.steps ≡ before.steps
    → Appends before.written after.written part → IsOutput (ended_status result) part outcome
    → TellsFault before.output_faults after.output_faults after.at_fault after.written result → result ≢ Ok InputFault
    → (ended_status result ≢ OutputFault → statuses (ended_status result))
    → Ran (text_meaning statuses outcome) limits before after (ended_status result)
ran_text statuses outcome limits before after result part told faults steps writes output tells input ends =
    let has = has_outcome (λ o. o ≡ outcome) (ended_status result) part outcome refl output in
    ran_alone (text_meaning statuses outcome) limits before after result part told faults writes (λ rose old new. has)
    (λ rose old. record { output = has; opened = opens_nothing old; taken = (refl, steps); read = λ well. tt })
    (λ old other. whole_outcome outcome part (ended_status result) has other) tells input (λ none. steps) ends

-- what is seen but for the inputs themselves
abbrev pub without_inputs : {I : Type 0} → Seen I → Seen (Unit {0})
without_inputs at = record {
  inputs = tt;
  told = at.told;
  input_faults = at.input_faults;
  written = at.written;
  output_faults = at.output_faults;
  at_fault = at.at_fault;
  steps = at.steps;
}

-- a run without inputs leaves them alone
pub ran_beside : {I : Type 0} (meaning : Meaning) (limits : Limits) (before after : Seen I) (status : Status) → after.inputs ≡ before.inputs
    → Ran meaning limits (without_inputs before) (without_inputs after) status → Ran meaning limits before after status
ran_beside meaning limits before after status same ran = record {
  runs = ran.runs;
  whole = ran.whole;
  alone = ran.alone;
  untouched = λ none. same;
  uncounted = ran.uncounted;
  ends = ran.ends;
  input_fault = ran.input_fault;
  calm = ran.calm;
  output_fault = ran.output_fault;
}
