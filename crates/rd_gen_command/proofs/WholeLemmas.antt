-- A run on a generated trace.
use Rattle.std.proofs.Common.{◌≡◌, ◌≢◌, ℕ, List, Result, Ok, IfOk, refl, true≢false}
use Rattle.rd_base.specs.declared.limits.Limits.{Limits}
use Rattle.rd_ecl.specs.Kinds.{Kind}
use Rattle.rd_gen_command.specs.GeneratedWalks.{CountsGenerated, behind_counts, gen_meaning, gen_outcome, generated_walk}
use Rattle.rd_io.specs.Sinks.{Appends}
use Rattle.rd_walk.proofs.OutputLemmas.{has_outcome}
use Rattle.rd_walk.proofs.RanLemmas.{opens_nothing, ran_alone, whole_outcome}
use Rattle.rd_walk.proofs.StatusLemmas.{status_ends}
use Rattle.rd_walk.specs.Analysis.{TellsFault}
use Rattle.rd_walk.specs.Meanings.{Ran, Seen}
use Rattle.rd_walk.specs.Output.{IsOutput, IsTraceEnd, IsWell, ended_status}
use Rattle.rd_walk.specs.Traces.{ReportTexts}
use Rattle.rd_walk.specs.Walk.{ending_of}
use Rattle.rd_walk.specs.declared.analysis.Halt.{Halt}
use Rattle.rd_walk.specs.declared.status.Ended.TheVariants.{InputFault}
use Rattle.rd_walk.specs.declared.status.Ended.{Ended}
use Rattle.rd_walk.specs.declared.walk.WalkEnd.TheVariants.{End}

pub ran_gen : (texts : ReportTexts) (kinds : List Kind) (number count : ℕ) (limits : Limits) (before after : Seen (Unit {0}))
    (result : Result Ended Halt) (part : List ℕ) → after.told ≡ before.told → after.input_faults ≡ before.input_faults → Appends before.written after.written part
    → IsOutput (ended_status result) part (gen_outcome texts.outcome kinds limits number count)
    → CountsGenerated (behind_counts texts.lines number count) texts.bound (generated_walk kinds limits number count) part before.steps after.steps
    → (IsWell (ended_status result) → ending_of (generated_walk kinds limits number count) ≡ End)
    → TellsFault before.output_faults after.output_faults after.at_fault after.written result → result ≢ Ok InputFault → IfOk result IsTraceEnd
    → Ran (gen_meaning texts kinds number count) limits before after (ended_status result)
ran_gen texts kinds number count limits before after result part told faults writes output counts read tells input ends =
    let outcome = gen_outcome texts.outcome kinds limits number count in
    let has = has_outcome (λ o. o ≡ outcome) (ended_status result) part outcome refl output in
    ran_alone (gen_meaning texts kinds number count) limits before after result part told faults writes (λ rose old new. has)
    (λ rose old. record { output = has; opened = opens_nothing old; taken = (refl, counts); read = read })
    (λ old other. whole_outcome outcome part (ended_status result) has other) tells input (λ none. absurd (true≢false none)) (status_ends IsTraceEnd result ends)
