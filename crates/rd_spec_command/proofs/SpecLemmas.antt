-- What reading a specification leaves, and a run of a command that writes a text of its kinds.
use Rattle.rd_spec_command.specs.Meanings.{said_meaning, LeavesSpec, ReadsSpec}
use Rattle.std.proofs.Common.{◌≡◌, ◌≢◌, ℕ, ◌^◌, ◌<◌, ◌≤◌, true, false, ltb, List, [], length, refl, sym, ◌∙◌, subst, arith, inl, inr}
use Rattle.std.proofs.lemmas.Bool.Decides.{nat_tests}
use Rattle.rd_base.specs.declared.limits.Limits.{Limits}
use Rattle.rd_ecl.specs.Specified.{SpecifiedKind}
use Rattle.rd_io.specs.Fronts.{TakesFront}
use Rattle.rd_io.specs.Inputs.{Source, Takes, IsOpened, IsNotOpened, Rose}
use Rattle.rd_kinds.specs.Shipped.{reserved_names}
use Rattle.rd_reading.specs.Texts.{IsSpecRefused, SpecSays}
use Rattle.rd_reading.specs.declared.parsing.SpecRefused.{SpecRefused as Refusal}
use Rattle.rd_walk.specs.Output.{IsOutput, fault_outcome}
use Rattle.rd_walk.specs.Meanings.{Runs}
use Rattle.rd_json.specs.declared.forms.Form.TheVariants.{Text}
use Rattle.rd_spec_command.specs.Specifications.{TellsUnread, accepted_outcome, most_bytes, refused_outcome}
use Rattle.rd_spec_command.specs.declared.specifications.Unread.{Unread}
use Rattle.rd_spec_command.specs.declared.specifications.Unread.TheVariants.{Fault, Refused, NoMemory as OutOfMemory}
use Rattle.rd_walk.specs.declared.status.Status.{Status}
use Rattle.rd_walk.specs.declared.status.Status.TheVariants.{NoMemory}
use Rattle.rd_walk.proofs.OutputLemmas.{has_outcome}
use Rattle.rd_walk.proofs.FileLemmas.{opens_none, opens_once, opens_only, rest_is, taken_is}

-- ---- what reading leaves

pub leaves_unopened : (file : List ℕ) (old new : Source) → IsNotOpened old new file → LeavesSpec file old new
leaves_unopened file old new opened = record {
  opened = opens_none file old new opened;
  taken = λ more. absurd (omega (arith, opened.opens, more));
  unopened = λ same. (opened.taken, opened.held);
}

pub leaves_taken : (file : List ℕ) (old mid new : Source) (taken : List ℕ) → old.opens < 2 ^ 63 → IsOpened old mid file → Takes mid new taken
    → length taken ≤ most_bytes → LeavesSpec file old new
leaves_taken file old mid new taken few opened takes short =
    let few_opens : old.opens ≤ 2 ^ 63 = omega (arith, few) in record {
      opened = opens_only file old mid new taken few_opens opened takes;
      taken = λ more. record {
        whole = rest_is file old mid new taken few_opens opened takes;
        few = subst (λ xs. length xs ≤ most_bytes) (sym (taken_is file old mid new taken few_opens opened takes)) short;
      };
      unopened = λ same. absurd (omega (arith, same, opens_once file old mid new taken few_opens opened takes));
    }

pub reads_text : (file : List ℕ) (old mid new : Source) (bytes : List ℕ) → old.opens < 2 ^ 63 → IsOpened old mid file → TakesFront most_bytes mid new bytes
    → ReadsSpec file old new bytes
reads_text file old mid new bytes few opened front = record {
  opens = opens_once file old mid new bytes (omega (arith, few)) opened front.takes;
  misses = front.takes.misses ∙ opened.misses;
  text = record { whole = mid.held; held = opened.held; front = front.front };
}

-- ---- a run

module _ (text : List SpecifiedKind → List ℕ) (file : List ℕ) (limits : Limits) (before now : ℕ) (old new : Source) (part : List ℕ) (status : Status) (steps : ℕ) (few : before < 2 ^ 63)
    (leaves : LeavesSpec file old new) where
  pub spec_accepted : now ≡ before → (bytes : List ℕ) (said : List SpecifiedKind) → ReadsSpec file old new bytes → SpecSays bytes reserved_names said
      → IsOutput status part (accepted_outcome text said) → Runs (said_meaning text file) limits (ltb before now) old new part status steps steps
  spec_accepted same bytes said reads says output =
      let quiet : ltb before now ≡ false = grind (arith, nat_tests) in
      record {
        output = has_outcome ((said_meaning text file).outcome limits (ltb before now) old new) status part (accepted_outcome text said)
            (inr (record { calm = quiet; one_opened = reads.opens; bytes = bytes; text = reads.text; is = inl (said, says, refl) })) output;
        opened = leaves.opened;
        taken = (leaves.taken, leaves.unopened, refl);
        read = λ well. tt;
      }

  pub spec_refused : now ≡ before → (bytes : List ℕ) (refused : Refusal) → ReadsSpec file old new bytes → IsSpecRefused bytes reserved_names refused
      → IsOutput status part (refused_outcome Text refused) → Runs (said_meaning text file) limits (ltb before now) old new part status steps steps
  spec_refused same bytes refused reads refuses output =
      let quiet : ltb before now ≡ false = grind (arith, nat_tests) in
      record {
        output = has_outcome ((said_meaning text file).outcome limits (ltb before now) old new) status part (refused_outcome Text refused)
            (inr (record { calm = quiet; one_opened = reads.opens; bytes = bytes; text = reads.text; is = inr (refused, refuses, refl) })) output;
        opened = leaves.opened;
        taken = (leaves.taken, leaves.unopened, refl);
        read = λ well. tt;
      }

  pub spec_faulted : Rose before now → IsOutput status part fault_outcome → Runs (said_meaning text file) limits (ltb before now) old new part status steps steps
  spec_faulted risen output =
      let rose : ltb before now ≡ true = grind (arith, nat_tests) in
      record {
        output = has_outcome ((said_meaning text file).outcome limits (ltb before now) old new) status part fault_outcome (inl (record { risen = rose; is = refl })) output;
        opened = leaves.opened;
        taken = (leaves.taken, leaves.unopened, refl);
        read = λ well. tt;
      }

  pub spec_unread : status ≡ NoMemory → part ≡ [] → Runs (said_meaning text file) limits (ltb before now) old new part status steps steps
  spec_unread is none =
      subst (λ s. Runs (said_meaning text file) limits (ltb before now) old new part s steps steps) (sym is)
      (record {
        output = inl none;
        opened = leaves.opened;
        taken = (leaves.taken, leaves.unopened, refl);
        read = λ well. tt;
      })

  -- as it is told why the specification isn't there
  pub spec_told : (unread : Unread) → TellsUnread Text unread status part → (unread ≡ Fault → Rose before now) → (unread ≢ Fault → now ≡ before)
      → ((refused : Refusal) → unread ≡ Refused refused → (bytes : List ℕ) × ReadsSpec file old new bytes × IsSpecRefused bytes reserved_names refused)
      → Runs (said_meaning text file) limits (ltb before now) old new part status steps steps
  spec_told Fault tells risen calm refuses = spec_faulted (risen refl) tells.0
  spec_told (Refused refused) tells risen calm refuses =
      let (bytes, reads, is) = refuses refused refl in spec_refused (calm (λ e. cc)) bytes refused reads is tells
  spec_told OutOfMemory tells risen calm refuses = spec_unread tells.0 tells.1
