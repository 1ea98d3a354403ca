-- What is told at the end of a trace.
use Rattle.std.proofs.Common.{◌≡◌, ◌↔◌, ℕ, Bool, true, false, cond, List, [], Some, None, Option, refl, sym, ap, subst, ◌∙◌}
use Rattle.rd_base.specs.Bytes.{IsFront}
use Rattle.rd_adjacent.specs.Beside.{beside}
use Rattle.rd_adjacent_command.specs.Outcomes.{adjacent_end, adjacent_outcome, call_on, event_lines, path_line, told_of, two_text}
use Rattle.rd_ecl.specs.Kinds.{Kind}
use Rattle.rd_event.specs.Items.{lines_text}
use Rattle.rd_event.specs.declared.events.Event.{Event}
use Rattle.rd_event.specs.declared.items.Line.{Line}
use Rattle.rd_order.specs.Order.{Reaches}
use Rattle.rd_order.specs.OrderTests.{reaches}
use Rattle.rd_order.specs.Paths.{farthest_path}
use Rattle.rd_order.proofs.OrderLemmas.{reaches_decides}
use Rattle.rd_report.specs.Endings.{thread_names}
use Rattle.rd_rewriting.proofs.EndedLemmas.{ended_exactly}
use Rattle.rd_rewriting.specs.Ended.{ended_as}
use Rattle.rd_rewriting.specs.Reordered.{reordered}
use Rattle.rd_rules.specs.Events.{events_of}
use Rattle.rd_walk.proofs.FileLemmas.{ending_at, entries_at}
use Rattle.rd_walk.specs.Output.{IsOutput, IsWell}
use Rattle.rd_walk.specs.Walk.{Entry, Walked, after, ending_of, ends, entries_of, items}
use Rattle.rd_walk.specs.declared.status.Status.{Status}
use Rattle.rd_walk.specs.declared.walk.WalkEnd.TheVariants.{End}
use Rattle.rd_walk.specs.declared.walk.WalkEnd.{WalkEnd}

-- ---- two calls

pub two_ordered : (es : List Event) (items : List Line) (lines : List ℕ) (i j : ℕ) → Reaches es i j
    → path_line lines (farthest_path es i j) ≡ two_text es items lines i j
two_ordered es items lines i j reach =
    ap (λ b. cond b (path_line lines (farthest_path es i j)) (lines_text (reordered items (beside es i j)))) (sym ((reaches_decides es i j).1 reach))

pub reaches_not : (es : List Event) (i j : ℕ) → ¬ (Reaches es i j) → reaches es i j ≡ false
reaches_not es i j loose = go (reaches es i j) refl
  where
    go : (b : Bool) → reaches es i j ≡ b → b ≡ false
    go true is = absurd (loose ((reaches_decides es i j).0 is))
    go false is = refl

pub two_beside : (es : List Event) (items : List Line) (lines : List ℕ) (i j : ℕ) → ¬ (Reaches es i j)
    → lines_text (reordered items (beside es i j)) ≡ two_text es items lines i j
two_beside es items lines i j loose =
    ap (λ b. cond b (path_line lines (farthest_path es i j)) (lines_text (reordered items (beside es i j)))) (sym (reaches_not es i j loose))

-- ---- the outcome

-- what was written where the lines end so
pub adjacent_concluded : (status : Status) (part : List ℕ) (first second : ℕ) (kinds : List Kind) (entries : List Entry) (last : WalkEnd) (names : List (List ℕ)) (one other : ℕ)
    → names ≡ thread_names entries → one ≡ first → other ≡ second → IsOutput status part (ended_as names (adjacent_end kinds entries one other) last)
    → IsOutput status part (adjacent_outcome first second kinds (after entries (ends last)))
adjacent_concluded status part first second kinds entries last names one other named is_first is_second output =
    subst (IsOutput status part)
    ((λ i. ended_as (named i) (adjacent_end kinds entries (is_first i) (is_second i)) last)
    ∙ (λ i. let es = sym (entries_at entries last) i in ended_as (thread_names es) (adjacent_end kinds es first second) (sym (ending_at entries last) i))) output

-- nothing is written for the lines
pub adjacent_fronts : (first second : ℕ) (kinds : List Kind) (walked : Walked) → IsFront [] (adjacent_outcome first second kinds walked).text
adjacent_fronts first second kinds walked = ((adjacent_outcome first second kinds walked).text, refl)

told_well : (es : List Event) (items : List Line) (lines : List ℕ) (first second : ℕ) (one other : Option ℕ) → IsWell (told_of es items lines first second one other).status
told_well es items lines first second None other = tt
told_well es items lines first second (Some i) None = tt
told_well es items lines first second (Some i) (Some j) = tt

-- the status says that the trace was read to its end exactly where it was
pub adjacent_well : (first second : ℕ) (kinds : List Kind) (walked : Walked) → IsWell (adjacent_outcome first second kinds walked).status ↔ (ending_of walked ≡ End)
adjacent_well first second kinds walked =
    let entries = entries_of walked in
    let es = events_of kinds (items entries) in
    let lines = event_lines entries in
    ended_exactly (thread_names entries) (adjacent_end kinds entries first second) (ending_of walked)
    (told_well es (items entries) lines first second (call_on es lines first) (call_on es lines second))
