-- What a run of `weave` leaves.
use Rattle.std.proofs.Common.{◌≡◌, ◌≢◌, ◌⊎◌, ◌^◌, ◌<◌, ℕ, true, false, ltb, List, [], ◌∷◌, map, Some, None, Result, IfOk, refl, sym, ap, ◌∙◌, subst, arith, inl, inr, true≢false}
use Rattle.std.proofs.lemmas.Bool.Decides.{nat_tests}
use Rattle.rd_base.specs.declared.limits.Limits.{Limits}
use Rattle.rd_io.specs.Inputs.{Rose, Source}
use Rattle.rd_log_files.specs.Gathered.{first_limit}
use Rattle.rd_log_files.specs.LogFiles.{FilesHold, LeavesLogs, PassesLimit, ReadsLogs}
use Rattle.rd_log_files.specs.declared.unread.LogLimit.{LogLimit}
use Rattle.rd_walk.proofs.OutputLemmas.{has_outcome, well_written}
use Rattle.rd_walk.proofs.WholeLemmas.{all_written}
use Rattle.rd_walk.proofs.RanLemmas.{TellsRuns, ran_over}
use Rattle.rd_walk.proofs.StatusLemmas.{status_ends}
use Rattle.rd_walk.specs.Analysis.{TellsFaults}
use Rattle.rd_walk.specs.Meanings.{Ran, Runs, Seen}
use Rattle.rd_walk.specs.Output.{HasOutcome, IsOutput, IsWell, Outcome, ended_status, fault_outcome}
use Rattle.rd_walk.specs.declared.analysis.Halt.{Halt}
use Rattle.rd_walk.specs.declared.status.Ended.TheVariants as ended
use Rattle.rd_walk.specs.declared.status.Ended.{Ended}
use Rattle.rd_walk.specs.declared.status.Status.TheVariants.{NoMemory, OutputFault}
use Rattle.rd_walk.specs.declared.status.Status.{Status}
use Rattle.rd_weave.specs.Answers.{weave_answer}
use Rattle.rd_weave_command.specs.Meanings.{IsWeaveOutcome, ReadsAllLogs, weave_meaning}
use Rattle.rd_weave_command.specs.Outcomes.{IsWeaveEnd, answer_outcome, limit_outcome, outcome_by, weave_outcome}

module _ (names : List (List ℕ)) (limits : Limits) (before now : ℕ) (old new : Source) (part : List ℕ) (status : Status) (steps : ℕ) (few : before < 2 ^ 63)
    (leaves : LeavesLogs limits names old new) where
  -- with such an outcome
  leaves_outcome : (outcome : Outcome) → IsWeaveOutcome names limits (ltb before now) old new outcome → IsOutput status part outcome
      → (IsWell status → ReadsAllLogs names limits old new) → Runs (weave_meaning names) limits (ltb before now) old new part status steps steps
  leaves_outcome outcome is output read = record {
    output = has_outcome (IsWeaveOutcome names limits (ltb before now) old new) status part outcome is output;
    opened = leaves.opened;
    taken = (leaves.taken, leaves.unopened, refl);
    read = read;
  }

  pub weave_answered : now ≡ before → (logs : List (List ℕ)) → ReadsLogs names old new logs → first_limit limits logs ≡ None
      → IsOutput status part (answer_outcome (weave_answer logs)) → Runs (weave_meaning names) limits (ltb before now) old new part status steps steps
  weave_answered same logs reads within output =
      let quiet : ltb before now ≡ false = grind (arith, nat_tests) in
      leaves_outcome (answer_outcome (weave_answer logs)) (inr (inr (record { calm = quiet; logs = logs; reads = reads; within = within; is = refl }))) output
      (λ well. (logs, reads, within))

  pub weave_limited : now ≡ before → (passed : LogLimit) → PassesLimit limits names old new passed → IsOutput status part (limit_outcome passed)
      → Runs (weave_meaning names) limits (ltb before now) old new part status steps steps
  weave_limited same passed passes output =
      let quiet : ltb before now ≡ false = grind (arith, nat_tests) in
      leaves_outcome (limit_outcome passed) (inr (inl (record { calm = quiet; passed = passed; passes = passes; is = refl }))) output
      (λ well. absurd (well_written status part (limit_outcome passed) well output))

  pub weave_faulted : Rose before now → IsOutput status part fault_outcome → Runs (weave_meaning names) limits (ltb before now) old new part status steps steps
  weave_faulted risen output =
      let rose : ltb before now ≡ true = grind (arith, nat_tests) in
      leaves_outcome fault_outcome (inl (record { risen = rose; is = refl })) output (λ well. absurd (well_written status part fault_outcome well output))

  pub weave_unread : status ≡ NoMemory → part ≡ [] → Runs (weave_meaning names) limits (ltb before now) old new part status steps steps
  weave_unread is none =
      subst (λ s. Runs (weave_meaning names) limits (ltb before now) old new part s steps steps) (sym is)
      (record {
        output = inl none;
        opened = leaves.opened;
        taken = (leaves.taken, leaves.unopened, refl);
        read = λ well. absurd well;
      })

-- ---- nothing is left out

same_logs : (xs ys : List (List ℕ)) → map Some xs ≡ map Some ys → xs ≡ ys
same_logs [] [] same = refl
same_logs [] (y ∷ ys) same = cc
same_logs (x ∷ xs) [] same = cc
same_logs (x ∷ xs) (y ∷ ys) same =
    let one : x ≡ y = cc in
    let more : map Some xs ≡ map Some ys = cc in
    let behind = same_logs xs ys more in
    λ i. one i ∷ behind i

-- one list of logs is held
one_held : (files : List (List ℕ × List ℕ)) (names xs ys : List (List ℕ)) → FilesHold files names xs → FilesHold files names ys → xs ≡ ys
one_held files names xs ys one other = same_logs xs ys (sym one ∙ other)

module _ (names : List (List ℕ)) (limits : Limits) (old new : Source) (part : List ℕ) (status : Status) (logs : List (List ℕ)) (held : FilesHold old.files names logs) where
  -- each outcome without a fault is the one of the logs
  outcome_is : (outcome : Outcome) → IsWeaveOutcome names limits false old new outcome → outcome ≡ weave_outcome limits logs
  outcome_is outcome (inl unread) = absurd (true≢false (sym unread.risen))
  outcome_is outcome (inr (inl limited)) = limited.is ∙ ap (λ o. outcome_by o (answer_outcome (weave_answer logs))) (sym (limited.passes.all logs held))
  outcome_is outcome (inr (inr answered)) =
      let same = one_held old.files names answered.logs logs answered.reads.whole held in
      answered.is ∙ ap (λ o. outcome_by o (answer_outcome (weave_answer answered.logs))) (sym answered.within) ∙ ap (weave_outcome limits) same

  whole_woven : HasOutcome (IsWeaveOutcome names limits false old new) status part → status ≢ OutputFault
      → (status ≡ NoMemory) ⊎ ((part ≡ (weave_outcome limits logs).text) × (status ≡ (weave_outcome limits logs).status))
  whole_woven has other =
      elim (all_written (IsWeaveOutcome names limits false old new) status part has other) [
        | inl none ↦ inl none
        | inr all ↦ let same = outcome_is all.outcome all.is in inr (all.text ∙ ap (λ o. o.text) same, all.told ∙ ap (λ o. o.status) same)
      ]

-- ---- a run

-- with one file at least
pub ran_weave : {I : Type 0} (names : List (List ℕ)) → names ≢ [] → (limits : Limits) (before after : Seen I) (result : Result Ended Halt) → after.steps ≡ before.steps
    → TellsRuns (weave_meaning names) limits before after (ended_status result)
    → TellsFaults ended.InputFault before.input_faults after.input_faults before.output_faults after.output_faults after.at_fault after.written result
    → IfOk result IsWeaveEnd → Ran (weave_meaning names) limits before after (ended_status result)
ran_weave [] some limits before after result steps runs faults ends = absurd (some refl)
ran_weave (name ∷ names) some limits before after result steps runs faults ends =
    ran_over (weave_meaning (name ∷ names)) name names limits before after result refl runs
    (λ old new part has other logs held. whole_woven (name ∷ names) limits old new part (ended_status result) logs held has other) faults (λ none. steps)
    (status_ends IsWeaveEnd result ends)
