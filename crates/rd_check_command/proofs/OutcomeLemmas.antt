-- The outcome of `check`.
use Rattle.rd_base.specs.Bytes.{IsFront}
use Rattle.rd_ecl.specs.Kinds.{Kind, kinds_of}
use Rattle.rd_ecl.specs.Specified.{SpecifiedKind}
use Rattle.rd_json.specs.Forms.{ending_in}
use Rattle.rd_json.specs.declared.forms.Form.{Form}
use Rattle.rd_report.specs.declared.endings.Ending.{Ending}
use Rattle.rd_walk.proofs.OutputLemmas.{behind}
use Rattle.rd_report.proofs.EndingLemmas.{well_exactly}
use Rattle.rd_check_command.proofs.ReportLemmas.{texts_front}
use Rattle.rd_walk.proofs.FileLemmas.{ending_at, entries_at}
use Rattle.rd_walk.proofs.WalkLemmas.{entries_after}
use Rattle.rd_check_command.specs.Checking.{CheckBegins}
use Rattle.rd_walk.specs.Output.{IsOutput, IsWell, Outcome}
use Rattle.rd_check_command.specs.Checked.{check_outcome, entries_ending, race_texts, races_of}
use Rattle.rd_report.specs.Endings.{check_status, ending_of_report, thread_names}
use Rattle.rd_replay_command.specs.Replaying.{replay_of}
use Rattle.rd_walk.specs.Walk.{Entry, Walked, after, ending_of, ends, entries_of, items}
use Rattle.rd_check_command.specs.declared.checking.Check.{Check as CheckOf}
use Rattle.rd_walk.specs.declared.status.Status.TheVariants.{NoMemory}
use Rattle.rd_walk.specs.declared.status.Status.{Status}
use Rattle.rd_walk.specs.declared.walk.WalkEnd.TheVariants.{End}
use Rattle.rd_walk.specs.declared.walk.WalkEnd.{WalkEnd}
use Rattle.rd_rules.proofs.EventsLemmas.{accepted_told}
use Rattle.rd_rules.specs.Events.{AreAccepted, AreAcceptedFrom}
use Rattle.std.proofs.Common.{◌≡◌, ◌↔◌, ℕ, List, [], ◌++◌, sym, ap, ◌∙◌, subst, ◌∷◌}
use Rattle.std.proofs.lemmas.List.{append-nil, append_assoc, map-append}

-- of lines one after another, the first are accepted, and so are those behind them
accepted_front : (kinds : _) (before xs ys : List _) → AreAcceptedFrom kinds before (xs ++ ys) → AreAcceptedFrom kinds before xs × AreAcceptedFrom kinds (before ++ xs) ys
accepted_front kinds before [] ys accepted = (tt, subst (λ b. AreAcceptedFrom kinds b ys) (sym (append-nil before)) accepted)
accepted_front kinds before (x ∷ xs) ys accepted =
    let rest = accepted_front kinds (before ++ x ∷ []) xs ys accepted.1 in
    ((accepted.0, rest.0), subst (λ b. AreAcceptedFrom kinds b ys) (append_assoc before (x ∷ []) xs) rest.1)

module _ (form : Form) (kinds : List SpecifiedKind) where
  pub outcome_at : (entries : List Entry) (ending : WalkEnd) → check_outcome form kinds (after entries (ends ending))
      ≡ record {
        text = race_texts form kinds entries ++ ending_in form (thread_names entries) (races_of kinds entries) (entries_ending kinds entries (races_of kinds entries) ending);
        status = check_status (races_of kinds entries) (entries_ending kinds entries (races_of kinds entries) ending);
      }
  outcome_at entries ending =
      ap (λ es. let o : Outcome = record {
        text = race_texts form kinds es ++ ending_in form (thread_names es) (races_of kinds es) (entries_ending kinds es (races_of kinds es) (ending_of (after entries (ends ending))));
        status = check_status (races_of kinds es) (entries_ending kinds es (races_of kinds es) (ending_of (after entries (ends ending))));
      } in o) (entries_at entries ending)
      ∙ ap (λ e. let o : Outcome = record {
        text = race_texts form kinds entries ++ ending_in form (thread_names entries) (races_of kinds entries) (entries_ending kinds entries (races_of kinds entries) e);
        status = check_status (races_of kinds entries) (entries_ending kinds entries (races_of kinds entries) e);
      } in o) (ending_at entries ending)

  -- the texts for the first lines are a front of what is written
  pub front_outcome : (entries : List Entry) (walked : Walked) → AreAccepted (kinds_of kinds) (items (entries_of (after entries walked)))
      → IsFront (race_texts form kinds entries) (check_outcome form kinds (after entries walked)).text
  front_outcome entries walked accepted =
      let all = entries_of (after entries walked) in
      let behind = ending_in form (thread_names all) (races_of kinds all) (entries_ending kinds all (races_of kinds all) (ending_of (after entries walked))) in
      let split = subst (AreAccepted (kinds_of kinds)) (ap items (entries_after entries walked) ∙ map-append (λ (entry : Entry). entry.item) entries (entries_of walked)) accepted in
      let (first, later) = accepted_front (kinds_of kinds) [] (items entries) (items (entries_of walked)) split in
      let (more, texts) = texts_front kinds form entries (entries_of walked) later (accepted_told (kinds_of kinds) (items entries) first) in (
        more ++ behind,
        ap (λ t. t ++ behind) (ap (race_texts form kinds) (entries_after entries walked) ∙ texts) ∙ append_assoc (race_texts form kinds entries) more behind,
      )

-- what is written of a report's end, and its status
abbrev ended_so : Form → List (List ℕ) → ℕ → Ending → Outcome
ended_so form names races ending = record { text = ending_in form names races ending; status = check_status races ending }

-- of `check`
pub check_concluded : (status : Status) (part : List ℕ) (form said : Form) (spec : List SpecifiedKind) (kinds : List Kind) (entries : List Entry) (end : WalkEnd)
    (names : List (List ℕ)) (races : ℕ) (ending : Ending) → said ≡ form → kinds ≡ kinds_of spec → names ≡ thread_names entries → races ≡ races_of spec entries
    → ending ≡ ending_of_report races (replay_of kinds entries) end → IsOutput status part (ended_so said names races ending)
    → IsOutput status (race_texts form spec entries ++ part) (check_outcome form spec (after entries (ends end)))
check_concluded status part form said spec kinds entries end names races ending formed are named counted ended output =
    let so : ending ≡ entries_ending spec entries (races_of spec entries) end =
    ended ∙ (λ i. ending_of_report (counted i) (replay_of (are i) entries) end) in
    let all = subst (IsOutput status part) (λ i. ended_so (formed i) (named i) (counted i) (so i)) output in
    subst (IsOutput status (race_texts form spec entries ++ part)) (sym (outcome_at form spec entries end))
    (behind status (race_texts form spec entries) part (ending_in form (thread_names entries) (races_of spec entries) (entries_ending spec entries (races_of spec entries) end))
    (check_status (races_of spec entries) (entries_ending spec entries (races_of spec entries) end)) all)

-- where memory runs out before anything more is written
pub check_front : (form : Form) (spec : List SpecifiedKind) (entries : List Entry) (end : WalkEnd) → IsOutput NoMemory (race_texts form spec entries ++ []) (check_outcome form spec (after entries (ends end)))
check_front form spec entries end =
    let text = ending_in form (thread_names entries) (races_of spec entries) (entries_ending spec entries (races_of spec entries) end) in
    (text, ap (λ o. o.text) (outcome_at form spec entries end) ∙ ap (λ t. t ++ text) (sym (append-nil (race_texts form spec entries))))

pub check_fronts : (kinds : List Kind) (start : CheckOf) (entries : List Entry) (walked : Walked) → CheckBegins kinds start
    → AreAccepted kinds (items (entries_of (after entries walked))) → IsFront (race_texts start.form start.spec.now entries) (check_outcome start.form start.spec.now (after entries walked)).text
check_fronts kinds start entries walked begins accepted =
    front_outcome start.form start.spec.now entries walked (subst (λ k. AreAccepted k (items (entries_of (after entries walked)))) begins.kinds_are accepted)

pub check_well : (form : Form) (kinds : List SpecifiedKind) (walked : Walked) → IsWell (check_outcome form kinds walked).status ↔ (ending_of walked ≡ End)
check_well form kinds walked = well_exactly (races_of kinds (entries_of walked)) (replay_of (kinds_of kinds) (entries_of walked)) (ending_of walked)
