-- The outcome of `epochs`.
use Rattle.std.proofs.Common.{◌≡◌, ◌↔◌, ℕ, List, [], ◌∷◌, ◌++◌, sym, ap, ◌∙◌, subst}
use Rattle.std.proofs.lemmas.List.{append-nil, append_assoc, map-append}
use Rattle.rd_base.specs.Bytes.{IsFront}
use Rattle.rd_ecl.specs.Kinds.{Kind}
use Rattle.rd_epochs_command.proofs.TextLemmas.{texts_front}
use Rattle.rd_epochs_command.specs.Firsts.{epochs_outcome, first_texts, firsts_of, last_line}
use Rattle.rd_epochs_command.specs.Watching.{memory_kinds}
use Rattle.rd_object.specs.declared.shapes.ReplayEnd.TheVariants.{NotShipped}
use Rattle.rd_report.proofs.EndingLemmas.{well_exactly}
use Rattle.rd_report.specs.Endings.{check_status, ending_of_report, thread_names}
use Rattle.rd_report.specs.Texts.{races_line}
use Rattle.rd_rules.proofs.EventsLemmas.{accepted_told}
use Rattle.rd_rules.specs.Events.{AreAccepted, AreAcceptedFrom}
use Rattle.rd_walk.proofs.FileLemmas.{ending_at, entries_at}
use Rattle.rd_walk.proofs.OutputLemmas.{behind}
use Rattle.rd_walk.proofs.WalkLemmas.{entries_after}
use Rattle.rd_walk.specs.Output.{IsOutput, IsWell, Outcome}
use Rattle.rd_walk.specs.Walk.{Entry, Walked, after, ending_of, ends, entries_of, items}
use Rattle.rd_walk.specs.declared.status.Status.TheVariants.{NoMemory}
use Rattle.rd_walk.specs.declared.status.Status.{Status}
use Rattle.rd_walk.specs.declared.walk.WalkEnd.TheVariants.{End}
use Rattle.rd_walk.specs.declared.walk.WalkEnd.{WalkEnd}

-- of lines one after another, the first are accepted, and so are those behind them
accepted_front : (kinds : List Kind) (before xs ys : List _) → AreAcceptedFrom kinds before (xs ++ ys) → AreAcceptedFrom kinds before xs × AreAcceptedFrom kinds (before ++ xs) ys
accepted_front kinds before [] ys accepted = (tt, subst (λ b. AreAcceptedFrom kinds b ys) (sym (append-nil before)) accepted)
accepted_front kinds before (x ∷ xs) ys accepted =
    let rest = accepted_front kinds (before ++ x ∷ []) xs ys accepted.1 in
    ((accepted.0, rest.0), subst (λ b. AreAcceptedFrom kinds b ys) (append_assoc before (x ∷ []) xs) rest.1)

-- what is written of the end, and the status
abbrev ended_so : List (List ℕ) → ℕ → WalkEnd → Outcome
ended_so names firsts end = record { text = races_line firsts ++ last_line names end; status = check_status firsts (ending_of_report firsts NotShipped end) }

-- and of lines that end so
abbrev written_so : List Entry → WalkEnd → Outcome
written_so entries end = record {
  text = first_texts entries ++ (races_line (firsts_of entries) ++ last_line (thread_names entries) end);
  status = check_status (firsts_of entries) (ending_of_report (firsts_of entries) NotShipped end);
}

outcome_at : (entries : List Entry) (end : WalkEnd) → epochs_outcome (after entries (ends end)) ≡ written_so entries end
outcome_at entries end =
    ap (λ es. written_so es (ending_of (after entries (ends end)))) (entries_at entries end) ∙ ap (written_so entries) (ending_at entries end)

pub epochs_concluded : (status : Status) (part : List ℕ) (entries : List Entry) (end : WalkEnd) (names : List (List ℕ)) (firsts : ℕ) → names ≡ thread_names entries → firsts ≡ firsts_of entries
    → IsOutput status part (ended_so names firsts end) → IsOutput status (first_texts entries ++ part) (epochs_outcome (after entries (ends end)))
epochs_concluded status part entries end names firsts named counted output =
    let all = subst (IsOutput status part) (λ i. ended_so (named i) (counted i) end) output in
    subst (IsOutput status (first_texts entries ++ part)) (sym (outcome_at entries end))
    (behind status (first_texts entries) part (races_line (firsts_of entries) ++ last_line (thread_names entries) end)
    (check_status (firsts_of entries) (ending_of_report (firsts_of entries) NotShipped end)) all)

-- where memory runs out before anything more is written
pub epochs_front : (entries : List Entry) (end : WalkEnd) → IsOutput NoMemory (first_texts entries ++ []) (epochs_outcome (after entries (ends end)))
epochs_front entries end =
    let text = races_line (firsts_of entries) ++ last_line (thread_names entries) end in
    (text, ap (λ o. o.text) (outcome_at entries end) ∙ ap (λ t. t ++ text) (sym (append-nil (first_texts entries))))

-- the texts for the first lines are a front of what is written
pub epochs_fronts : (kinds : List Kind) (entries : List Entry) (walked : Walked) → kinds ≡ memory_kinds
    → AreAccepted kinds (items (entries_of (after entries walked))) → IsFront (first_texts entries) (epochs_outcome (after entries walked)).text
epochs_fronts kinds entries walked are accepted =
    let all = entries_of (after entries walked) in
    let last = races_line (firsts_of all) ++ last_line (thread_names all) (ending_of (after entries walked)) in
    let split = subst (AreAccepted memory_kinds) (ap items (entries_after entries walked) ∙ map-append (λ (entry : Entry). entry.item) entries (entries_of walked))
    (subst (λ k. AreAccepted k (items all)) are accepted) in
    let (first, later) = accepted_front memory_kinds [] (items entries) (items (entries_of walked)) split in
    let (more, texts) = texts_front entries (entries_of walked) later (accepted_told memory_kinds (items entries) first) in (
      more ++ last,
      ap (λ t. t ++ last) (ap first_texts (entries_after entries walked) ∙ texts) ∙ append_assoc (first_texts entries) more last,
    )

pub epochs_well : (walked : Walked) → IsWell (epochs_outcome walked).status ↔ (ending_of walked ≡ End)
epochs_well walked = well_exactly (firsts_of (entries_of walked)) NotShipped (ending_of walked)
