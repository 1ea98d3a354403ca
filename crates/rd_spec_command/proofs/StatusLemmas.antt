-- How it is told why a specification isn't there.
use Rattle.rd_spec_command.specs.declared.specifications.Unread.TheVariants.{Fault}
use Rattle.rd_spec_command.specs.declared.specifications.Unread.{Unread}
use Rattle.rd_io.specs.Inputs.{Rose}
use Rattle.rd_walk.specs.Analysis.{TellsFault, TellsFaults}
use Rattle.rd_walk.specs.Output.{IsSpecEnd}
use Rattle.rd_walk.specs.declared.analysis.Halt.{Halt}
use Rattle.rd_walk.specs.declared.status.Ended.TheVariants.{Clean, InputFault}
use Rattle.rd_walk.specs.declared.status.Ended.{Ended}
use Rattle.std.proofs.Common.{◌≡◌, ◌≢◌, ◌↔◌, ℕ, List, Option, Result, Ok, Err, IfOk, sym, subst}

-- a file fault is told exactly where one was found
pub unread_told_faults : (result : Result Ended Halt) (unread : Unread) (inputs_before inputs_now before now : ℕ) (point written : Option (List ℕ))
    → IfOk result (λ end. (end ≡ InputFault) ↔ (unread ≡ Fault)) → (unread ≡ Fault → Rose inputs_before inputs_now) → (unread ≢ Fault → inputs_now ≡ inputs_before)
    → TellsFault before now point written result → TellsFaults InputFault inputs_before inputs_now before now point written result
unread_told_faults (Ok end) unread inputs_before inputs_now before now point written input risen calm output = record {
  input = λ e. risen (input.0 (same end e));
  calm = λ other. calm (λ fault. other (input.1 fault));
  output = output;
}
  where
    same : (end : Ended) → ◌≡◌ {A = Result Ended Halt} (Ok end) (Ok InputFault) → end ≡ InputFault
    same end e = cc
unread_told_faults (Err halt) unread inputs_before inputs_now before now point written input risen calm output = record {
  input = λ e. cc;
  calm = tt;
  output = output;
}

-- no file fails where the text was written
pub written_told_faults : (result : Result Ended Halt) (inputs_before inputs_now before now : ℕ) (point written : Option (List ℕ)) → IfOk result (λ end. end ≡ Clean)
    → inputs_now ≡ inputs_before → TellsFault before now point written result → TellsFaults InputFault inputs_before inputs_now before now point written result
written_told_faults (Ok end) inputs_before inputs_now before now point written clean calm output = record {
  input = λ e. absurd (apart end clean e);
  calm = λ other. calm;
  output = output;
}
  where
    apart : (end : Ended) → end ≡ Clean → ◌≡◌ {A = Result Ended Halt} (Ok end) (Ok InputFault) → ⊥
    apart end clean e = cc
written_told_faults (Err halt) inputs_before inputs_now before now point written clean calm output = record {
  input = λ e. cc;
  calm = tt;
  output = output;
}

pub clean_is_spec : (result : Result Ended Halt) → IfOk result (λ end. end ≡ Clean) → IfOk result IsSpecEnd
clean_is_spec (Ok end) clean = subst IsSpecEnd (sym clean) tt
clean_is_spec (Err halt) clean = tt
