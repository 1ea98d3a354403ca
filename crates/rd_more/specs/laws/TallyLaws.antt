-- Tallies: calls that commute may be exchanged, and the counts go on to rise by item, none of them 0.
use Rattle.std.specs.Prelude.{◌≡◌, ◌≢◌, ◌⊎◌, ℕ, zero, suc, ◌+◌, pos, Bool, true, false, not, ◌&&◌, ◌||◌, cond, List, [], ◌∷◌, ◌++◌, length, All}
use Rattle.std.specs.List.Sorted.{IsStrictlySortedBy}
use Rattle.std.proofs.Common.{refl, sym, ap, ◌∙◌, subst, inl, inr, ⊎_elim, true≢false, arith}
use Rattle.std.proofs.lemmas.List.Elements.{All-nil}
use Rattle.rd_base.specs.declared.values.Value.{Value}
use Rattle.rd_base.specs.declared.values.Value.TheVariants.{Nil, Bool as Boolean, Int}
use Rattle.rd_ecl.specs.Formulas.{same_value}
use Rattle.rd_object.specs.Machines.{IsShape, IsSound, KeepsShapes, Step}
use Rattle.rd_object.specs.Machines.Step.{goes}
use Rattle.rd_object.specs.declared.shapes.Shape.{Shape}
use Rattle.rd_object.specs.declared.shapes.Shape.TheVariants.{One, Number, Items, Map, Counts, Row}
use Rattle.rd_parts.specs.laws.Commuting.{both_hold, either_holds, goes_is_known, goes_result, goes_shape, values_differ, values_same}
use Rattle.rd_parts.specs.laws.ItemLists.{by_test, is_item, item_itself, item_other, item_same}
use Rattle.rd_more.specs.Counted.{Counted, count_at, total, with_count}
use Rattle.rd_more.specs.laws.CountLists.{AreCounts, IsPositiveCount, are-with, count-with, same_counts}
use Rattle.rd_parts.specs.laws.EntryLists.{cond_turned}
use Rattle.rd_parts.specs.laws.Exchanges.{AreCalls, Calls, CommuteAt, Exchange, IsStuck, RunsCall, Still, exchange_itself, exchange_still, keeps_by, on_1, on_2, sound_by, turn}
use Rattle.rd_more.specs.Machines.{tally_machine, tally_row, tally_step}
use Rattle.rd_more.specs.MoreKinds.{tally_kind}

data Call : Type 0 where
  hits : Value → Call
  asks : Value → Call
  sums : Call

abbrev number : Call → ℕ
number (hits item) = 0
number (asks item) = 1
number sums = 2

abbrev arguments : Call → List Value
arguments (hits item) = item ∷ []
arguments (asks item) = item ∷ []
arguments sums = []

abbrev after : Call → Counted → Counted
after (hits item) counts = with_count item (count_at item counts + 1) counts
after (asks item) counts = counts
after sums counts = counts

abbrev result : Call → Counted → Value
result (hits item) counts = Nil
result (asks item) counts = Int (pos (count_at item counts))
result sums counts = Int (pos (total counts))

abbrev calls : Calls Counted Call
calls = record { shape = Counts; number = number; arguments = arguments; after = after; result = result }

stuck : (old : Shape) → ((counts : Counted) × (old ≡ Counts counts)) ⊎ IsStuck tally_machine old
stuck (Counts counts) = inl (counts, refl)
stuck (One value) = inr (λ m a new r e. goes_is_known e)
stuck (Number value) = inr (λ m a new r e. goes_is_known e)
stuck (Items items) = inr (λ m a new r e. goes_is_known e)
stuck (Map entries) = inr (λ m a new r e. goes_is_known e)
stuck (Row items) = inr (λ m a new r e. goes_is_known e)

runs : (call : Call) (counts : Counted) → tally_row (number call) (arguments call) counts ≡ goes (Counts (after call counts)) (result call counts)
runs (hits item) counts = refl
runs (asks item) counts = refl
runs sums counts = refl

ran_by : (call : Call) (counts : Counted) (new : Shape) (told : Value) → goes (Counts (after call counts)) (result call counts) ≡ goes new told
    → RunsCall calls (number call) (arguments call) counts new told
ran_by call counts new told e = record { call = call; is_method = refl; is_given = refl; is_new = sym (goes_shape e); is_result = sym (goes_result e) }

ran : (method : ℕ) (given : List Value) (counts : Counted) (new : Shape) (told : Value) → tally_row method given counts ≡ goes new told → RunsCall calls method given counts new told
ran zero (item ∷ []) counts new told e = ran_by (hits item) counts new told e
ran (suc zero) (item ∷ []) counts new told e = ran_by (asks item) counts new told e
ran (suc (suc zero)) [] counts new told e = ran_by sums counts new told e
ran zero [] counts new told e = goes_is_known e
ran zero (item ∷ other ∷ given) counts new told e = goes_is_known e
ran (suc zero) [] counts new told e = goes_is_known e
ran (suc zero) (item ∷ other ∷ given) counts new told e = goes_is_known e
ran (suc (suc zero)) (item ∷ given) counts new told e = goes_is_known e
ran (suc (suc (suc method))) given counts new told e = goes_is_known e

are_calls : AreCalls tally_machine calls
are_calls = record { states = stuck; runs = runs; ran = ran }

are_after : (call : Call) (counts : Counted) → AreCounts counts → AreCounts (after call counts)
are_after (hits item) counts are = are-with item (count_at item counts + 1) counts are
are_after (asks item) counts are = are
are_after sums counts are = are

count_hit : (item other : Value) (counts : Counted) → AreCounts counts
    → count_at other (after (hits item) counts) ≡ cond (is_item item other) (count_at item counts + 1) (count_at other counts)
count_hit item other counts are = count-with item (count_at item counts + 1) other counts are.0

count_apart : (item other : Value) (counts : Counted) → AreCounts counts → item ≢ other → count_at other (after (hits item) counts) ≡ count_at other counts
count_apart item other counts are apart =
    count_hit item other counts are ∙ ap (λ here. cond here (count_at item counts + 1) (count_at other counts)) (item_other item other apart)

hits_apart : (item item' : Value) (counts : Counted) → AreCounts counts → item ≢ item' → Exchange calls (hits item) (hits item') counts
hits_apart item item' counts are apart =
    let are1 = are_after (hits item) counts are in
    let are2 = are_after (hits item') counts are in
    record {
      second_result = refl;
      first_result = refl;
      same = same_counts (after (hits item) (after (hits item') counts)) (after (hits item') (after (hits item) counts))
          (are_after (hits item) (after (hits item') counts) are2) (are_after (hits item') (after (hits item) counts) are1)
          (λ x.
          count_hit item x (after (hits item') counts) are2
          ∙ ap (λ n. cond (is_item item x) (n + 1) (count_at x (after (hits item') counts))) (count_apart item' item counts are (λ same. apart (sym same)))
          ∙ ap (cond (is_item item x) (count_at item counts + 1)) (count_hit item' x counts are)
          ∙ cond_turned (is_item item x) (is_item item' x) (count_at item counts + 1) (count_at item' counts + 1) (count_at x counts)
          (λ here. item_other item' x (λ here'. apart (item_same item x here ∙ sym here')))
          ∙ sym (count_hit item' x (after (hits item) counts) are1
          ∙ ap (λ n. cond (is_item item' x) (n + 1) (count_at x (after (hits item) counts))) (count_apart item item' counts are apart)
          ∙ ap (cond (is_item item' x) (count_at item' counts + 1)) (count_hit item x counts are)));
    }

hit_hit : (item item' : Value) (counts : Counted) → AreCounts counts → Exchange calls (hits item) (hits item') counts
hit_hit item item' counts are =
    by_test (is_item item item')
    (λ same. subst (λ x. Exchange calls (hits item) (hits x) counts) (item_same item item' same) (exchange_itself calls (hits item) counts refl))
    (λ other. hits_apart item item' counts are (λ same. true≢false (sym (item_itself item) ∙ ap (is_item item) same ∙ other)))

hit_count : (item item' : Value) (counts : Counted) → AreCounts counts → item ≢ item' → Exchange calls (hits item) (asks item') counts
hit_count item item' counts are apart = record {
  second_result = ap (λ n. Int (pos n)) (count_apart item item' counts are apart);
  first_result = refl;
  same = refl;
}

differ : {P : Type 0} → false ≡ true → P
differ e = absurd (true≢false (sym e))

exchange : (first second : Call) (counts : Counted) → AreCounts counts → CommuteAt tally_kind calls first second counts → Exchange calls first second counts
unfolding tally_kind
exchange (hits item) (hits item') counts are holds = hit_hit item item' counts are
exchange (hits item) (asks item') counts are holds =
    hit_count item item' counts are (values_differ item item' (on_1 tally_kind calls (hits item) (asks item') counts refl holds))
exchange (hits item) sums counts are holds = differ (on_1 tally_kind calls (hits item) sums counts refl holds)
exchange (asks item) (hits item') counts are holds =
    turn calls (hits item') (asks item) counts
    (hit_count item' item counts are (values_differ item' item (on_2 tally_kind calls (asks item) (hits item') counts refl holds)))
exchange (asks item) (asks item') counts are holds = exchange_still calls (asks item) (asks item') counts refl refl
exchange (asks item) sums counts are holds = exchange_still calls (asks item) sums counts refl refl
exchange sums (hits item') counts are holds = differ (on_2 tally_kind calls sums (hits item') counts refl holds)
exchange sums (asks item') counts are holds = exchange_still calls sums (asks item') counts refl refl
exchange sums sums counts are holds = exchange_still calls sums sums counts refl refl

pub tally_sound : IsSound tally_machine
tally_sound = sound_by tally_machine calls are_calls exchange

pub tally_keeps : KeepsShapes tally_machine
unfolding IsStrictlySortedBy
tally_keeps = keeps_by tally_machine calls are_calls are_after (tt, All-nil IsPositiveCount)
