-- Counts that rise by item, as how often each item is there.
use Rattle.std.specs.Prelude.{◌≡◌, ℕ, zero, suc, ◌<◌, Bool, true, false, cond, [], ◌∷◌, All, Option, Some, None, unwrap_or, IfSome}
use Rattle.std.specs.declared.cmp.Ordering.{Ordering}
use Rattle.std.specs.declared.cmp.Ordering.TheVariants.{Less, Equal, Greater}
use Rattle.std.specs.Ordering.{match_ordering}
use Rattle.std.specs.BTreeMap.{is_at}
use Rattle.std.specs.Map.{keys_of}
use Rattle.std.proofs.Common.{arith, refl, sym, ap, ◌∙◌}
use Rattle.std.proofs.lemmas.List.Elements.{All-cons, All-head, All-tail}
use Rattle.std.proofs.lemmas.Map.Entries.{All-lookup}
use Rattle.rd_base.specs.declared.values.Value.{Value}
use Rattle.rd_base.specs.Order.{value_cmp}
use Rattle.rd_parts.specs.laws.EntryLists.{find, find-with, find-without, rise-keys_with, rise-keys_without, same_entries, with_entry, without_key}
use Rattle.rd_parts.specs.laws.ItemLists.{Rise, is_item}
use Rattle.rd_more.specs.Counted.{Counted, count_at, with_count}

-- ---- how often an item is there

-- no count is 0
abbrev pub IsPositiveCount : Value × ℕ → Type 0
IsPositiveCount entry = 0 < entry.1

abbrev pub AreCounts : Counted → Type 0
AreCounts counts = Rise (keys_of counts) × All IsPositiveCount counts

counted-with : (item : Value) (count : ℕ) (counts : Counted) → 0 < count → All IsPositiveCount counts → All IsPositiveCount (with_entry item count counts)
counted-with item count [] some all = All-cons IsPositiveCount (item, count) [] some all
counted-with item count (entry ∷ counts) some all =
    go (counted-with item count counts some (All-tail IsPositiveCount entry counts all)) (value_cmp item entry.0)
  where
    go : All IsPositiveCount (with_entry item count counts) → (order : Ordering)
        → All IsPositiveCount (match_ordering order ((item, count) ∷ entry ∷ counts) ((entry.0, count) ∷ counts) (entry ∷ with_entry item count counts))
    go rest Less = All-cons IsPositiveCount (item, count) (entry ∷ counts) some all
    go rest Equal = All-cons IsPositiveCount (entry.0, count) counts some (All-tail IsPositiveCount entry counts all)
    go rest Greater = All-cons IsPositiveCount entry (with_entry item count counts) (All-head IsPositiveCount entry counts all) rest

counted-without : (item : Value) (counts : Counted) → All IsPositiveCount counts → All IsPositiveCount (without_key item counts)
counted-without item [] all = all
counted-without item (entry ∷ counts) all = go (counted-without item counts (All-tail IsPositiveCount entry counts all)) (is_item item entry.0)
  where
    go : All IsPositiveCount (without_key item counts) → (b : Bool) → All IsPositiveCount (cond b counts (entry ∷ without_key item counts))
    go rest true = All-tail IsPositiveCount entry counts all
    go rest false = All-cons IsPositiveCount entry (without_key item counts) (All-head IsPositiveCount entry counts all) rest

some_count : (count : ℕ) → 0 < suc count
some_count count = omega arith

pub are-with : (item : Value) (count : ℕ) (counts : Counted) → AreCounts counts → AreCounts (with_count item count counts)
are-with item zero counts are = (rise-keys_without item counts are.0, counted-without item counts are.1)
are-with item (suc count) counts are = (rise-keys_with item (suc count) counts are.0, counted-with item (suc count) counts (some_count count) are.1)

-- what stands at an item where it is there so often
count_stored : ℕ → Option ℕ
count_stored zero = None
count_stored (suc count) = Some (suc count)

find_counted : (item : Value) (count : ℕ) (other : Value) (counts : Counted) → Rise (keys_of counts)
    → find other (with_count item count counts) ≡ cond (is_item item other) (count_stored count) (find other counts)
unfolding count_stored
find_counted item zero other counts rise = find-without item other counts rise
find_counted item (suc count) other counts rise = find-with item (suc count) other counts

unwrapped : (b : Bool) (count : ℕ) (there : Option ℕ) → unwrap_or (cond b (count_stored count) there) 0 ≡ cond b count (unwrap_or there 0)
unfolding count_stored
unwrapped true zero there = refl
unwrapped true (suc count) there = refl
unwrapped false count there = refl

-- how often an item is there behind a change
pub count-with : (item : Value) (count : ℕ) (other : Value) (counts : Counted) → Rise (keys_of counts)
    → count_at other (with_count item count counts) ≡ cond (is_item item other) count (count_at other counts)
count-with item count other counts rise =
    ap (λ there. unwrap_or there 0) (find_counted item count other counts rise) ∙ unwrapped (is_item item other) count (find other counts)

stored_found : (there : Option ℕ) → IfSome there (λ count. 0 < count) → count_stored (unwrap_or there 0) ≡ there
unfolding count_stored
stored_found None some = refl
stored_found (Some zero) some = absurd (omega arith)
stored_found (Some (suc count)) some = refl

found_stored : (item : Value) (counts : Counted) → All IsPositiveCount counts → count_stored (count_at item counts) ≡ find item counts
found_stored item counts all = stored_found (find item counts) (All-lookup (λ count. 0 < count) (is_at (value_cmp item)) counts all)

-- counts in which each item is as often are the same
pub same_counts : (first second : Counted) → AreCounts first → AreCounts second → ((item : Value) → count_at item first ≡ count_at item second) → first ≡ second
same_counts first second are are' alike =
    same_entries first second are.0 are'.0
    (λ item. sym (found_stored item first are.1) ∙ ap count_stored (alike item) ∙ found_stored item second are'.1)
