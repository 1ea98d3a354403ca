-- The outcome of `replay`.
use Rattle.rd_base.specs.Bytes.{IsFront}
use Rattle.rd_ecl.specs.Kinds.{Kind}
use Rattle.rd_object.specs.declared.shapes.ReplayEnd.TheVariants.{Exact, Differs, NotShipped}
use Rattle.rd_object.specs.declared.shapes.ReplayEnd.{ReplayEnd}
use Rattle.rd_report.specs.declared.endings.Ending.{Ending}
use Rattle.rd_report.proofs.EndingLemmas.{well_exactly}
use Rattle.rd_walk.proofs.FileLemmas.{ending_at, entries_at}
use Rattle.rd_walk.specs.Output.{IsOutput, IsWell, Outcome}
use Rattle.rd_replay_command.specs.States.{is_exact, replay_outcome, replayed_text, states_text}
use Rattle.rd_report.specs.Endings.{check_status, ending_of_report, thread_names}
use Rattle.rd_replay_command.specs.Replaying.{replay_of}
use Rattle.rd_walk.specs.Walk.{Entry, Walked, after, ending_of, ends, entries_of}
use Rattle.rd_walk.specs.declared.status.Status.TheVariants.{NoMemory}
use Rattle.rd_walk.specs.declared.status.Status.{Status}
use Rattle.rd_walk.specs.declared.walk.WalkEnd.TheVariants.{End, Refused, Fault}
use Rattle.rd_walk.specs.declared.walk.WalkEnd.{WalkEnd}
use Rattle.std.proofs.Common.{◌≡◌, ◌↔◌, ℕ, List, [], refl, sym, ◌∙◌, subst, true≢false}
use Rattle.std.specs.Prelude.{IsTrue}

-- of `replay`
abbrev replayed_so : List (List ℕ) → List ℕ → Ending → Outcome
replayed_so names states ending = record { text = replayed_text names states ending; status = check_status 0 ending }

pub replay_concluded : (status : Status) (part : List ℕ) (kinds : List Kind) (entries : List Entry) (last : WalkEnd)
    (names : List (List ℕ)) (states : List ℕ) (ending : Ending) → names ≡ thread_names entries → states ≡ states_text kinds entries
    → ending ≡ ending_of_report 0 (replay_of kinds entries) last → IsOutput status part (replayed_so names states ending)
    → IsOutput status part (replay_outcome kinds (after entries (ends last)))
replay_concluded status part kinds entries last names states ending named stated ended output =
    subst (IsOutput status part)
    ((λ i. replayed_so (named i) (stated i) (ended i))
    ∙ (λ i. let es = sym (entries_at entries last) i in replayed_so (thread_names es) (states_text kinds es) (ending_of_report 0 (replay_of kinds es) (sym (ending_at entries last) i)))) output

pub replay_front : (kinds : List Kind) (entries : List Entry) (last : WalkEnd) → IsOutput NoMemory [] (replay_outcome kinds (after entries (ends last)))
replay_front kinds entries last = ((replay_outcome kinds (after entries (ends last))).text, refl)

-- a report ends with an exact replay only where the replay is exact
pub exact_end : (replay : ReplayEnd) (last : WalkEnd) → IsTrue (is_exact (ending_of_report 0 replay last)) → replay ≡ Exact
exact_end Exact last exact = refl
exact_end (Differs line expected) End exact = absurd (true≢false (sym exact))
exact_end NotShipped End exact = absurd (true≢false (sym exact))
exact_end replay (Refused number cause) exact = absurd (true≢false (sym exact))
exact_end replay Fault exact = absurd (true≢false (sym exact))

-- nothing is written for the lines
pub replay_fronts : (kinds : List Kind) (walked : Walked) → IsFront [] (replay_outcome kinds walked).text
replay_fronts kinds walked = ((replay_outcome kinds walked).text, refl)

pub replay_well : (kinds : List Kind) (walked : Walked) → IsWell (replay_outcome kinds walked).status ↔ (ending_of walked ≡ End)
replay_well kinds walked = well_exactly 0 (replay_of kinds (entries_of walked)) (ending_of walked)
