-- Bags: calls that commute may be exchanged, and the counts go on to rise by item, none of them 0.
use Rattle.std.specs.Prelude.{◌≡◌, ◌≢◌, ◌⊎◌, ℕ, zero, suc, ◌+◌, ◌-◌, nat_lt, pos, Bool, true, false, not, ◌&&◌, ◌||◌, cond, List, [], ◌∷◌, ◌++◌, length, All}
use Rattle.std.specs.List.Sorted.{IsStrictlySortedBy}
use Rattle.std.proofs.Common.{refl, sym, ap, ◌∙◌, subst, inl, inr, ⊎_elim, true≢false, arith}
use Rattle.std.proofs.lemmas.Bool.{cases_lt}
use Rattle.std.proofs.lemmas.Bool.Decides.{Decides-ltb}
use Rattle.std.proofs.lemmas.List.Elements.{All-nil}
use Rattle.rd_base.specs.declared.values.Value.{Value}
use Rattle.rd_base.specs.declared.values.Value.TheVariants.{Nil, Bool as Boolean, Int}
use Rattle.rd_ecl.specs.Formulas.{same_value}
use Rattle.rd_object.specs.Machines.{IsShape, IsSound, KeepsShapes, Step}
use Rattle.rd_object.specs.Machines.Step.{goes}
use Rattle.rd_object.specs.declared.shapes.Shape.{Shape}
use Rattle.rd_object.specs.declared.shapes.Shape.TheVariants.{One, Number, Items, Map, Counts, Row}
use Rattle.rd_parts.specs.laws.Commuting.{both_hold, either_holds, goes_is_known, goes_result, goes_shape, values_differ, values_same}
use Rattle.rd_parts.specs.laws.ItemLists.{by_test, is_item, item_itself, item_other, item_same}
use Rattle.rd_more.specs.Counted.{Counted, count_at, with_count}
use Rattle.rd_more.specs.laws.CountLists.{AreCounts, IsPositiveCount, are-with, count-with, same_counts}
use Rattle.rd_parts.specs.laws.EntryLists.{cond_turned}
use Rattle.rd_parts.specs.laws.Exchanges.{AreCalls, Calls, CommuteAt, Exchange, IsStuck, RunsCall, Still, exchange_itself, exchange_still, keeps_by, on_1, on_2, sound_by, turn}
use Rattle.rd_more.specs.Machines.{bag_machine, bag_row, bag_step}
use Rattle.rd_more.specs.MoreKinds.{bag_kind}

-- what a call does with its item
data Way : Type 0 where
  adds : Way
  removes : Way
  asks : Way

data Call : Type 0 where
  on_item : Way → Value → Call

abbrev number : Call → ℕ
number (on_item adds item) = 0
number (on_item removes item) = 1
number (on_item asks item) = 2

abbrev arguments : Call → List Value
arguments (on_item way item) = item ∷ []

-- how often the item is there behind the call
abbrev changed : Way → ℕ → ℕ
changed adds count = count + 1
changed removes count = count - 1
changed asks count = count

abbrev after : Call → Counted → Counted
after (on_item adds item) counts = with_count item (count_at item counts + 1) counts
after (on_item removes item) counts = with_count item (count_at item counts - 1) counts
after (on_item asks item) counts = counts

abbrev answer : Way → ℕ → Value
answer adds count = Nil
answer removes count = Boolean (nat_lt 0 count)
answer asks count = Int (pos count)

abbrev result : Call → Counted → Value
result (on_item way item) counts = answer way (count_at item counts)

abbrev calls : Calls Counted Call
calls = record { shape = Counts; number = number; arguments = arguments; after = after; result = result }

stuck : (old : Shape) → ((counts : Counted) × (old ≡ Counts counts)) ⊎ IsStuck bag_machine old
stuck (Counts counts) = inl (counts, refl)
stuck (One value) = inr (λ m a new r e. goes_is_known e)
stuck (Number value) = inr (λ m a new r e. goes_is_known e)
stuck (Items items) = inr (λ m a new r e. goes_is_known e)
stuck (Map entries) = inr (λ m a new r e. goes_is_known e)
stuck (Row items) = inr (λ m a new r e. goes_is_known e)

runs : (call : Call) (counts : Counted) → bag_row (number call) (arguments call) counts ≡ goes (Counts (after call counts)) (result call counts)
runs (on_item adds item) counts = refl
runs (on_item removes item) counts = refl
runs (on_item asks item) counts = refl

ran_by : (call : Call) (counts : Counted) (new : Shape) (told : Value) → goes (Counts (after call counts)) (result call counts) ≡ goes new told
    → RunsCall calls (number call) (arguments call) counts new told
ran_by call counts new told e = record { call = call; is_method = refl; is_given = refl; is_new = sym (goes_shape e); is_result = sym (goes_result e) }

ran : (method : ℕ) (given : List Value) (counts : Counted) (new : Shape) (told : Value) → bag_row method given counts ≡ goes new told → RunsCall calls method given counts new told
ran zero (item ∷ []) counts new told e = ran_by (on_item adds item) counts new told e
ran (suc zero) (item ∷ []) counts new told e = ran_by (on_item removes item) counts new told e
ran (suc (suc zero)) (item ∷ []) counts new told e = ran_by (on_item asks item) counts new told e
ran zero [] counts new told e = goes_is_known e
ran zero (item ∷ other ∷ given) counts new told e = goes_is_known e
ran (suc zero) [] counts new told e = goes_is_known e
ran (suc zero) (item ∷ other ∷ given) counts new told e = goes_is_known e
ran (suc (suc zero)) [] counts new told e = goes_is_known e
ran (suc (suc zero)) (item ∷ other ∷ given) counts new told e = goes_is_known e
ran (suc (suc (suc method))) given counts new told e = goes_is_known e

are_calls : AreCalls bag_machine calls
are_calls = record { states = stuck; runs = runs; ran = ran }

-- ---- the counts behind a call

are_after : (call : Call) (counts : Counted) → AreCounts counts → AreCounts (after call counts)
are_after (on_item adds item) counts are = are-with item (count_at item counts + 1) counts are
are_after (on_item removes item) counts are = are-with item (count_at item counts - 1) counts are
are_after (on_item asks item) counts are = are

-- a test that finds the same count
cond_itself : (here : Bool) (own other : ℕ) → (here ≡ true → own ≡ other) → other ≡ cond here own other
cond_itself true own other same = sym (same refl)
cond_itself false own other same = refl

count_after : (way : Way) (item other : Value) (counts : Counted) → AreCounts counts
    → count_at other (after (on_item way item) counts) ≡ cond (is_item item other) (changed way (count_at item counts)) (count_at other counts)
count_after adds item other counts are = count-with item (count_at item counts + 1) other counts are.0
count_after removes item other counts are = count-with item (count_at item counts - 1) other counts are.0
count_after asks item other counts are =
    cond_itself (is_item item other) (count_at item counts) (count_at other counts) (λ here. ap (λ x. count_at x counts) (item_same item other here))

count_apart : (way : Way) (item other : Value) (counts : Counted) → AreCounts counts → item ≢ other
    → count_at other (after (on_item way item) counts) ≡ count_at other counts
count_apart way item other counts are apart =
    count_after way item other counts are ∙ ap (λ here. cond here (changed way (count_at item counts)) (count_at other counts)) (item_other item other apart)

-- calls with other items
exchange_apart : (way way' : Way) (item item' : Value) (counts : Counted) → AreCounts counts → item ≢ item'
    → Exchange calls (on_item way item) (on_item way' item') counts
exchange_apart way way' item item' counts are apart =
    let first : Call = on_item way item in
    let second : Call = on_item way' item' in
    let are1 = are_after first counts are in
    let are2 = are_after second counts are in
    let back : item' ≢ item = λ same. apart (sym same) in
    record {
      second_result = ap (answer way') (count_apart way item item' counts are apart);
      first_result = ap (answer way) (count_apart way' item' item counts are back);
      same = same_counts (after first (after second counts)) (after second (after first counts)) (are_after first (after second counts) are2)
          (are_after second (after first counts) are1)
          (λ x.
          count_after way item x (after second counts) are2
          ∙ ap (λ n. cond (is_item item x) (changed way n) (count_at x (after second counts))) (count_apart way' item' item counts are back)
          ∙ ap (cond (is_item item x) (changed way (count_at item counts))) (count_after way' item' x counts are)
          ∙ cond_turned (is_item item x) (is_item item' x) (changed way (count_at item counts)) (changed way' (count_at item' counts)) (count_at x counts)
          (λ here. item_other item' x (λ here'. apart (item_same item x here ∙ sym here')))
          ∙ sym (count_after way' item' x (after first counts) are1
          ∙ ap (λ n. cond (is_item item' x) (changed way' n) (count_at x (after first counts))) (count_apart way item item' counts are apart)
          ∙ ap (cond (is_item item' x) (changed way' (count_at item' counts))) (count_after way item x counts are)));
    }

-- a call and one of its sort with any item, where both have one result if the items are the same
exchange_alike : (way : Way) (item item' : Value) (counts : Counted) → AreCounts counts
    → (item ≡ item' → result (on_item way item') (after (on_item way item) counts) ≡ result (on_item way item) counts)
    → Exchange calls (on_item way item) (on_item way item') counts
exchange_alike way item item' counts are alike =
    by_test (is_item item item')
    (λ same.
    let e : item ≡ item' = item_same item item' same in
    subst (λ x. Exchange calls (on_item way item) (on_item way x) counts) e
    (exchange_itself calls (on_item way item) counts (ap (λ x. result (on_item way x) (after (on_item way item) counts)) e ∙ alike e)))
    (λ other. exchange_apart way way item item' counts are (λ same. true≢false (sym (item_itself item) ∙ ap (is_item item) same ∙ other)))

-- ---- what the formulas say

apart_by : (way way' : Way) (item item' : Value) (counts : Counted) → AreCounts counts → not (same_value item item') ≡ true
    → Exchange calls (on_item way item) (on_item way' item') counts
apart_by way way' item item' counts are other = exchange_apart way way' item item' counts are (values_differ item item' other)

apart_turned : (way way' : Way) (item item' : Value) (counts : Counted) → AreCounts counts → not (same_value item' item) ≡ true
    → Exchange calls (on_item way item) (on_item way' item') counts
apart_turned way way' item item' counts are other = exchange_apart way way' item item' counts are (λ same. values_differ item' item other (sym same))

truth_in : Value → Bool
truth_in (Boolean truth) = truth
truth_in value = false

none_there : (count : ℕ) → Boolean (nat_lt 0 count) ≡ Boolean false → count - 1 ≡ count
unfolding truth_in
none_there count e = elim (cases_lt 0 count) [
  | inl some ↦ absurd (true≢false (sym ((Decides-ltb 0 count).1 some) ∙ ap truth_in e))
  | inr none ↦ omega arith
]

-- a remove that missed its item does nothing
still_missed : (item : Value) (counts : Counted) → AreCounts counts → same_value (result (on_item removes item) counts) (Boolean false) ≡ true
    → Still calls (on_item removes item) counts
still_missed item counts are missed =
    let none : count_at item counts - 1 ≡ count_at item counts =
    none_there (count_at item counts) (values_same (Boolean (nat_lt 0 (count_at item counts))) (Boolean false) missed) in
    same_counts (after (on_item removes item) counts) counts (are_after (on_item removes item) counts are) are
    (λ x. count_after removes item x counts are ∙ ap (λ n. cond (is_item item x) n (count_at x counts)) none
    ∙ sym (cond_itself (is_item item x) (count_at item counts) (count_at x counts) (λ here. ap (λ y. count_at y counts) (item_same item x here))))

remove_remove : (item item' : Value) (counts : Counted) → AreCounts counts
    → ((not (same_value item item') || (same_value (result (on_item removes item) counts) (Boolean true)
    && same_value (result (on_item removes item') (after (on_item removes item) counts)) (Boolean true)))
    || (same_value (result (on_item removes item) counts) (Boolean false)
    && same_value (result (on_item removes item') (after (on_item removes item) counts)) (Boolean false))) ≡ true
    → Exchange calls (on_item removes item) (on_item removes item') counts
remove_remove item item' counts are holds =
    let first : Value = result (on_item removes item) counts in
    let second : Value = result (on_item removes item') (after (on_item removes item) counts) in
    ⊎_elim
    (λ more. ⊎_elim
    (λ other. apart_by removes removes item item' counts are other)
    (λ found.
    let both = both_hold (same_value first (Boolean true)) (same_value second (Boolean true)) found in
    exchange_alike removes item item' counts are (λ e. values_same second (Boolean true) both.1 ∙ sym (values_same first (Boolean true) both.0)))
    (either_holds (not (same_value item item')) _ more))
    (λ missed.
    let both = both_hold (same_value first (Boolean false)) (same_value second (Boolean false)) missed in
    exchange_alike removes item item' counts are (λ e. values_same second (Boolean false) both.1 ∙ sym (values_same first (Boolean false) both.0)))
    (either_holds (not (same_value item item') || (same_value first (Boolean true) && same_value second (Boolean true))) _ holds)

remove_count : (item item' : Value) (counts : Counted) → AreCounts counts
    → (not (same_value item item') || same_value (result (on_item removes item) counts) (Boolean false)) ≡ true
    → Exchange calls (on_item removes item) (on_item asks item') counts
remove_count item item' counts are holds =
    ⊎_elim
    (λ other. apart_by removes asks item item' counts are other)
    (λ missed. exchange_still calls (on_item removes item) (on_item asks item') counts (still_missed item counts are missed) refl)
    (either_holds (not (same_value item item')) _ holds)

exchange : (first second : Call) (counts : Counted) → AreCounts counts → CommuteAt bag_kind calls first second counts → Exchange calls first second counts
unfolding bag_kind
exchange (on_item adds item) (on_item adds item') counts are holds = exchange_alike adds item item' counts are (λ e. refl)
exchange (on_item adds item) (on_item removes item') counts are holds =
    apart_by adds removes item item' counts are (on_1 bag_kind calls (on_item adds item) (on_item removes item') counts refl holds)
exchange (on_item adds item) (on_item asks item') counts are holds =
    apart_by adds asks item item' counts are (on_1 bag_kind calls (on_item adds item) (on_item asks item') counts refl holds)
exchange (on_item removes item) (on_item adds item') counts are holds =
    apart_turned removes adds item item' counts are (on_2 bag_kind calls (on_item removes item) (on_item adds item') counts refl holds)
exchange (on_item removes item) (on_item removes item') counts are holds =
    remove_remove item item' counts are (on_1 bag_kind calls (on_item removes item) (on_item removes item') counts refl holds)
exchange (on_item removes item) (on_item asks item') counts are holds =
    remove_count item item' counts are (on_1 bag_kind calls (on_item removes item) (on_item asks item') counts refl holds)
exchange (on_item asks item) (on_item adds item') counts are holds =
    apart_turned asks adds item item' counts are (on_2 bag_kind calls (on_item asks item) (on_item adds item') counts refl holds)
exchange (on_item asks item) (on_item removes item') counts are holds =
    turn calls (on_item removes item') (on_item asks item) counts
    (remove_count item' item counts are (on_2 bag_kind calls (on_item asks item) (on_item removes item') counts refl holds))
exchange (on_item asks item) (on_item asks item') counts are holds = exchange_still calls (on_item asks item) (on_item asks item') counts refl refl

pub bag_sound : IsSound bag_machine
bag_sound = sound_by bag_machine calls are_calls exchange

pub bag_keeps : KeepsShapes bag_machine
unfolding IsStrictlySortedBy
bag_keeps = keeps_by bag_machine calls are_calls are_after (tt, All-nil IsPositiveCount)
