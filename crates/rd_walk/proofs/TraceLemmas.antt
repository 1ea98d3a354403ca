-- What a report leaves of a trace whose objects are of some kinds.
use Rattle.std.proofs.Common.{◌≡◌, ◌≢◌, ℕ, ◌+◌, ◌^◌, ◌<◌, ◌≤◌, Bool, true, false, ltb, List, [], ◌++◌, Some, Result, refl, sym, ap, ◌∙◌, subst, arith, inl, inr}
use Rattle.std.specs.Prelude.{option_map}
use Rattle.std.proofs.lemmas.Bool.Decides.{nat_tests}
use Rattle.std.proofs.lemmas.List.{append_assoc, append-nil}
use Rattle.rd_base.specs.Bytes.{IsFront}
use Rattle.rd_base.specs.Limits.{AreUsable}
use Rattle.rd_base.specs.declared.limits.Limits.{Limits}
use Rattle.rd_ecl.specs.Kinds.{Kind}
use Rattle.rd_io.specs.Inputs.{Source, Takes, IsOpened, IsNotOpened, Rose}
use Rattle.rd_io.specs.Lines.Stop.{end, fault}
use Rattle.rd_walk.specs.declared.analysis.Halt.TheVariants as halt
use Rattle.rd_walk.specs.declared.walk.WalkEnd.{WalkEnd}
use Rattle.rd_walk.specs.declared.walk.WalkEnd.TheVariants.{End, Refused, Fault}
use Rattle.rd_rules.specs.Events.{AreAccepted}
use Rattle.rd_walk.specs.Meanings.{Runs, report_meaning}
use Rattle.rd_walk.specs.Traces.{HasReported, IsReadWhole, IsTraceOutcome, ReportTexts, walk_of, walk_on}
use Rattle.rd_walk.specs.Output.{IsOutput, IsWell, ended_status, unopened_outcome}
use Rattle.rd_walk.specs.declared.analysis.Halt.{Halt}
use Rattle.rd_walk.specs.declared.status.Ended.{Ended}
use Rattle.std.specs.Result.{IsErr, IsErrAnd}
use Rattle.rd_walk.specs.Progress.{IsBegun, IsTakenOfTrace}
use Rattle.rd_walk.specs.Walk.{Entry, Walked, after, ending_of, ends, entries_of, items, lines_begun, step_bound, trace_by}
use Rattle.rd_walk.specs.declared.status.Status.{Status}
use Rattle.rd_walk.specs.declared.status.Status.TheVariants.{NoMemory}
use Rattle.rd_walk.proofs.AcceptedLemmas.{text_accepted}
use Rattle.rd_walk.proofs.OutputLemmas.{fault_no_well, front_only, halted_no_well, has_outcome, report_without, well_written}
use Rattle.rd_walk.proofs.WalkLemmas.{entries_after}
use Rattle.rd_walk.proofs.FileLemmas.{ending_at, file_is, opens_none, opens_once, opens_only, rest_is, taken_is}

module _ (texts : ReportTexts) (kinds : List Kind) (name : List ℕ) (limits : Limits) where
  -- nothing was opened, and nothing written
  reports_before : (faults : ℕ) (old : Source) (steps : ℕ) → Runs (report_meaning texts kinds name) limits (ltb faults faults) old old [] NoMemory steps steps
  reports_before faults old steps =
      record {
        output = inl refl;
        opened = record { files = refl; later = omega arith; opens = omega arith; misses = omega arith };
        taken = (λ more. absurd (omega (arith, more)), λ same. ((refl, refl), refl));
        read = λ well. absurd (halted_no_well halt.NoMemory well);
      }

  -- memory ran out before that
  pub reports_without : (ended : Result Ended Halt) → IsErr ended × IsErrAnd ended (λ e. e ≡ halt.NoMemory) → (faults : ℕ) (old : Source) (steps : ℕ)
      → Runs (report_meaning texts kinds name) limits (ltb faults faults) old old [] (ended_status ended) steps steps
  reports_without ended is faults old steps =
      subst (λ status. Runs (report_meaning texts kinds name) limits (ltb faults faults) old old [] status steps steps) (sym (report_without ended is)) (reports_before faults old steps)

  -- the trace could not be opened
  pub reports_unopened : (before now : ℕ) (old new : Source) (part : List ℕ) (status : Status) (steps : ℕ) → before < 2 ^ 63 → Rose before now
      → IsNotOpened old new name → IsOutput status part (unopened_outcome texts.unopened) → Runs (report_meaning texts kinds name) limits (ltb before now) old new part status steps steps
  reports_unopened before now old new part status steps few risen opened output =
      let rose : ltb before now ≡ true = grind (arith, nat_tests) in
      record {
        output = has_outcome (IsTraceOutcome texts kinds name limits (ltb before now) old new) status part (unopened_outcome texts.unopened)
            (inl (record { risen = rose; some_unopened = omega (arith, opened.opens); is = refl })) output;
        opened = opens_none name old new opened;
        taken = (λ more. absurd (omega (arith, opened.opens, more)), λ same. ((opened.taken, opened.held), refl));
        read = λ well. absurd (fault_no_well (well_written status part (unopened_outcome texts.unopened) well output));
      }

  -- it was opened, and the report is done with it
  module _ (fronts : (entries : List Entry) (walked : Walked) → AreAccepted kinds (items (entries_of (after entries walked))) → IsFront (texts.lines entries) (texts.outcome (after entries walked)).text)
      (well : (walked : Walked) → IsWell (texts.outcome walked).status → ending_of walked ≡ End)
      (usable : AreUsable limits) (range : limits.threads < 2 ^ 32) (before now : ℕ) (old mid new : Source) (entries : List Entry) (taken part : List ℕ)
      (status : Status) (from to : ℕ) (few : before < 2 ^ 63) (few_opens : old.opens ≤ 2 ^ 63) (opened : IsOpened old mid name) (takes : Takes mid new taken)
      (cost : to ≤ from + step_bound texts.bound entries) (read : IsTakenOfTrace limits taken (lines_begun entries)) (begun : IsBegun texts.lines part entries) where
    module _ (walked : Walked) (rose : Bool) (is_rose : ltb before now ≡ rose) where
      -- the walk of the whole file, or of what was taken of it
      reports_over : (walk_is : walk_of texts.says kinds name limits rose old new ≡ after entries walked)
          → IsOutput status part (texts.outcome (after entries walked)) → (IsWell status → IsReadWhole texts.says kinds name limits old new)
          → Runs (report_meaning texts kinds name) limits (ltb before now) old new part status from to
      reports_over walk_is output read_whole =
          subst (λ r. Runs (report_meaning texts kinds name) limits r old new part status from to) (sym is_rose)
          (record {
            output = has_outcome (IsTraceOutcome texts kinds name limits rose old new) status part (texts.outcome (walk_of texts.says kinds name limits rose old new))
                (inr (opens_once name old mid new taken few_opens opened takes, refl))
                (subst (λ w. IsOutput status part (texts.outcome w)) (sym walk_is) output);
            opened = opens_only name old mid new taken few_opens opened takes;
            taken = (
              λ more. record {
                whole = rest_is name old mid new taken few_opens opened takes;
                begun = entries;
                first = (entries_of walked, ap entries_of walk_is ∙ entries_after entries walked);
                is_begun = begun;
                read = subst (λ bytes. IsTakenOfTrace limits bytes (lines_begun entries)) (sym (taken_is name old mid new taken few_opens opened takes)) read;
                cost = cost;
              },
              λ same. absurd (omega (arith, same, opens_once name old mid new taken few_opens opened takes)),
            );
            read = read_whole;
          })

    whole_walk : (walked : Walked) → trace_by texts.says kinds limits end (taken ++ new.held) ≡ after entries walked
        → walk_of texts.says kinds name limits false old new ≡ after entries walked
    whole_walk walked is = ap (λ file. walk_on texts.says kinds limits (option_map (λ bytes. (end, bytes)) file)) (file_is name old mid new taken few_opens opened takes) ∙ is

    fault_walk : (walked : Walked) → trace_by texts.says kinds limits fault taken ≡ after entries walked
        → walk_of texts.says kinds name limits true old new ≡ after entries walked
    fault_walk walked is = ap (λ bytes. walk_on texts.says kinds limits (Some (fault, bytes))) (taken_is name old mid new taken few_opens opened takes) ∙ is

    -- all of it was taken
    read_to_end : new.held ≡ [] → trace_by texts.says kinds limits end (taken ++ new.held) ≡ after entries (ends End) → IsReadWhole texts.says kinds name limits old new
    read_to_end none is =
        let all = ap (λ held. taken ++ held) none ∙ append-nil taken in
        let taken_now = taken_is name old mid new taken few_opens opened takes in
        record {
          none_left = none;
          whole = file_is name old mid new taken few_opens opened takes ∙ ap Some (all ∙ sym taken_now);
          well = ap (λ bytes. ending_of (trace_by texts.says kinds limits end bytes)) (taken_now ∙ sym all) ∙ (ap ending_of is ∙ ending_at entries End);
        }

    -- the lines end otherwise
    not_well : (ending : WalkEnd) → ending ≢ End → IsOutput status part (texts.outcome (after entries (ends ending))) → ¬ (IsWell status)
    not_well ending other output is =
        other (sym (ending_at entries ending) ∙ well (after entries (ends ending)) (well_written status part (texts.outcome (after entries (ends ending))) is output))

    pub reports_opened : HasReported texts kinds limits taken new.held entries part status before now
        → Runs (report_meaning texts kinds name) limits (ltb before now) old new part status from to
    reports_opened (inl (End, (none, is), output, risen, calm)) =
        let quiet : ltb before now ≡ false = let same = calm (λ e. cc) in grind (arith, nat_tests) in
        reports_over (ends End) false quiet (whole_walk (ends End) is) output (λ _. read_to_end none is)
    reports_opened (inl (Refused number cause, is, output, risen, calm)) =
        let quiet : ltb before now ≡ false = let same = calm (λ e. cc) in grind (arith, nat_tests) in
        reports_over (ends (Refused number cause)) false quiet (whole_walk (ends (Refused number cause)) is) output
        (λ read. absurd (not_well (Refused number cause) (λ e. cc) output read))
    reports_opened (inl (Fault, is, output, risen, calm)) =
        let rose : ltb before now ≡ true = let r = risen refl in grind (arith, nat_tests) in
        reports_over (ends Fault) true rose (fault_walk (ends Fault) is) output (λ read. absurd (not_well Fault (λ e. cc) output read))
    reports_opened (inr (halt, rest, on, is_text, halted, calm)) =
        let quiet : ltb before now ≡ false = grind (arith, nat_tests) in
        let (walked, is) = on end new.held in
        let accepted : AreAccepted kinds (items (entries_of (after entries walked)))
        = subst (λ w. AreAccepted kinds (items (entries_of w))) is (text_accepted texts.says kinds limits usable range end (taken ++ new.held)) in
        let (more, front) = fronts entries walked accepted in
        reports_over walked false quiet (whole_walk walked is)
        (subst (λ s. IsOutput s part (texts.outcome (after entries walked))) (sym halted)
        (front_only halt part (rest ++ more) (texts.outcome (after entries walked)) (front ∙ ap (λ t. t ++ more) is_text ∙ append_assoc part rest more)))
        (λ read. absurd (halted_no_well halt (subst IsWell halted read)))
