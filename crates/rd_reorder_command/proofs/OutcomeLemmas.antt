-- The outcome of `reorder`.
use Rattle.std.proofs.Common.{◌≡◌, ◌↔◌, ℕ, List, [], refl, sym, subst, ◌∙◌}
use Rattle.rd_base.specs.Bytes.{IsFront}
use Rattle.rd_ecl.specs.Kinds.{Kind}
use Rattle.rd_reorder_command.specs.Outcomes.{picked_text, reorder_outcome, written_whole}
use Rattle.rd_rewriting.proofs.EndedLemmas.{ended_exactly}
use Rattle.rd_rewriting.specs.Ended.{ended_as}
use Rattle.rd_report.specs.Endings.{thread_names}
use Rattle.rd_walk.proofs.FileLemmas.{ending_at, entries_at}
use Rattle.rd_walk.specs.Output.{IsOutput, IsWell}
use Rattle.rd_walk.specs.Walk.{Entry, Walked, after, ending_of, ends, entries_of, items}
use Rattle.rd_walk.specs.declared.status.Status.{Status}
use Rattle.rd_walk.specs.declared.walk.WalkEnd.TheVariants.{End}
use Rattle.rd_walk.specs.declared.walk.WalkEnd.{WalkEnd}

-- what was written where the lines end so
pub reorder_concluded : (status : Status) (part : List ℕ) (number : ℕ) (kinds : List Kind) (entries : List Entry) (last : WalkEnd) (names : List (List ℕ)) (count : ℕ)
    → names ≡ thread_names entries → count ≡ number → IsOutput status part (ended_as names (written_whole (picked_text kinds (items entries) count)) last)
    → IsOutput status part (reorder_outcome number kinds (after entries (ends last)))
reorder_concluded status part number kinds entries last names count named counted output =
    subst (IsOutput status part)
    ((λ i. ended_as (named i) (written_whole (picked_text kinds (items entries) (counted i))) last)
    ∙ (λ i. let es = sym (entries_at entries last) i in ended_as (thread_names es) (written_whole (picked_text kinds (items es) number)) (sym (ending_at entries last) i))) output

-- nothing is written for the lines
pub reorder_fronts : (number : ℕ) (kinds : List Kind) (walked : Walked) → IsFront [] (reorder_outcome number kinds walked).text
reorder_fronts number kinds walked = ((reorder_outcome number kinds walked).text, refl)

-- the status says that the trace was read to its end exactly where it was
pub reorder_well : (number : ℕ) (kinds : List Kind) (walked : Walked) → IsWell (reorder_outcome number kinds walked).status ↔ (ending_of walked ≡ End)
reorder_well number kinds walked =
    let entries = entries_of walked in ended_exactly (thread_names entries) (written_whole (picked_text kinds (items entries) number)) (ending_of walked) tt
