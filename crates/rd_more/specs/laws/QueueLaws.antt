-- Queues: calls that commute may be exchanged, and no item is nil.
use Rattle.std.specs.Prelude.{◌≡◌, ◌≢◌, ◌⊎◌, ℕ, zero, suc, pos, Bool, true, false, not, ◌&&◌, List, [], ◌∷◌, ◌++◌, length, All}
use Rattle.std.proofs.Common.{refl, sym, ap, ◌∙◌, inl, inr, true≢false}
use Rattle.std.proofs.lemmas.List.Elements.{All-append, All-cons, All-head, All-nil, All-tail}
use Rattle.rd_base.specs.declared.values.Value.{Value}
use Rattle.rd_base.specs.declared.values.Value.TheVariants.{Nil, Bool as Boolean, Int, Text}
use Rattle.rd_ecl.specs.Formulas.{same_value}
use Rattle.rd_object.specs.Machines.{IsShape, IsSound, KeepsShapes, Step}
use Rattle.rd_object.specs.Machines.Step.{goes, refuses}
use Rattle.rd_object.specs.declared.shapes.Shape.{Shape}
use Rattle.rd_object.specs.declared.shapes.Shape.TheVariants.{One, Number, Items, Map, Counts, Row}
use Rattle.rd_parts.specs.laws.Commuting.{both_hold, goes_is_known, goes_result, goes_shape, values_differ, values_same}
use Rattle.rd_parts.specs.laws.Exchanges.{AreCalls, Calls, CommuteAt, Exchange, IsStuck, RunsCall, Still, exchange_still, keeps_by, on_1, on_2, sound_by, turn}
use Rattle.rd_more.specs.Machines.{first_item, queue_machine, queue_row, queue_step, without_first}
use Rattle.rd_more.specs.MoreKinds.{queue_kind}

-- an item that isn't nil
abbrev pub IsItem : Value → Type 0
IsItem item = item ≢ Nil

data Call : Type 0 where
  puts : (item : Value) → IsItem item → Call
  takes : Call
  counts : Call

abbrev number : Call → ℕ
number (puts item some) = 0
number takes = 1
number counts = 2

abbrev arguments : Call → List Value
arguments (puts item some) = item ∷ []
arguments takes = []
arguments counts = []

abbrev after : Call → List Value → List Value
after (puts item some) items = items ++ item ∷ []
after takes items = without_first items
after counts items = items

abbrev result : Call → List Value → Value
result (puts item some) items = Nil
result takes items = first_item items
result counts items = Int (pos (length items))

abbrev calls : Calls (List Value) Call
calls = record { shape = Row; number = number; arguments = arguments; after = after; result = result }

is_refusal : Step → Bool
is_refusal (refuses slot) = true
is_refusal step = false

goes_is_taken : {P : Type 0} {slot : ℕ} {shape : Shape} {value : Value} → refuses slot ≡ goes shape value → P
unfolding is_refusal
goes_is_taken e = absurd (true≢false (ap is_refusal e))

stuck : (old : Shape) → ((items : List Value) × (old ≡ Row items)) ⊎ IsStuck queue_machine old
stuck (Row items) = inl (items, refl)
stuck (One value) = inr (λ m a new r e. goes_is_known e)
stuck (Number value) = inr (λ m a new r e. goes_is_known e)
stuck (Items items) = inr (λ m a new r e. goes_is_known e)
stuck (Map entries) = inr (λ m a new r e. goes_is_known e)
stuck (Counts entries) = inr (λ m a new r e. goes_is_known e)

runs : (call : Call) (items : List Value) → queue_row (number call) (arguments call) items ≡ goes (Row (after call items)) (result call items)
runs (puts Nil some) items = absurd (some refl)
runs (puts (Boolean item) some) items = refl
runs (puts (Int item) some) items = refl
runs (puts (Text item) some) items = refl
runs takes items = refl
runs counts items = refl

ran_by : (call : Call) (items : List Value) (new : Shape) (told : Value) → goes (Row (after call items)) (result call items) ≡ goes new told
    → RunsCall calls (number call) (arguments call) items new told
ran_by call items new told e = record { call = call; is_method = refl; is_given = refl; is_new = sym (goes_shape e); is_result = sym (goes_result e) }

truth_some : (truth : Bool) → IsItem (Boolean truth)
truth_some truth e = cc

number_some : (value : _) → IsItem (Int value)
number_some value e = cc

text_some : (value : _) → IsItem (Text value)
text_some value e = cc

ran : (method : ℕ) (given items : List Value) (new : Shape) (told : Value) → queue_row method given items ≡ goes new told → RunsCall calls method given items new told
ran zero (Nil ∷ []) items new told e = goes_is_taken e
ran zero (Boolean item ∷ []) items new told e = ran_by (puts (Boolean item) (truth_some item)) items new told e
ran zero (Int item ∷ []) items new told e = ran_by (puts (Int item) (number_some item)) items new told e
ran zero (Text item ∷ []) items new told e = ran_by (puts (Text item) (text_some item)) items new told e
ran (suc zero) [] items new told e = ran_by takes items new told e
ran (suc (suc zero)) [] items new told e = ran_by counts items new told e
ran method given items new told e = goes_is_known e

are_calls : AreCalls queue_machine calls
are_calls = record { states = stuck; runs = runs; ran = ran }

-- a queue that gives nil is empty
still_taken : (items : List Value) → All IsItem items → first_item items ≡ Nil → Still calls takes items
still_taken [] all none = refl
still_taken (item ∷ items) all none = absurd (All-head IsItem item items all none)

-- an item that is taken was there before another was put
put_take : (item : Value) (some : IsItem item) (items : List Value) → item ≢ first_item (items ++ item ∷ []) → Exchange calls (puts item some) takes items
put_take item some [] other = absurd (other refl)
put_take item some (first ∷ items) other = record { second_result = refl; first_result = refl; same = refl }

take_put : (item : Value) (some : IsItem item) (items : List Value) → first_item items ≢ Nil → Exchange calls takes (puts item some) items
take_put item some [] got = absurd (got refl)
take_put item some (first ∷ items) got = record { second_result = refl; first_result = refl; same = refl }

take_take : (items : List Value) → All IsItem items → first_item items ≡ Nil → Exchange calls takes takes items
take_take items all none = exchange_still calls takes takes items (still_taken items all none) (still_taken items all none)

differ : {P : Type 0} → false ≡ true → P
differ e = absurd (true≢false (sym e))

exchange : (first second : Call) (items : List Value) → All IsItem items → CommuteAt queue_kind calls first second items → Exchange calls first second items
unfolding queue_kind
exchange (puts item some) (puts item' some') items all holds = differ (on_1 queue_kind calls (puts item some) (puts item' some') items refl holds)
exchange (puts item some) takes items all holds =
    let both = both_hold (not (same_value (first_item (items ++ item ∷ [])) Nil)) (not (same_value item (first_item (items ++ item ∷ []))))
    (on_1 queue_kind calls (puts item some) takes items refl holds) in
    put_take item some items (values_differ item (first_item (items ++ item ∷ [])) both.1)
exchange (puts item some) counts items all holds = differ (on_1 queue_kind calls (puts item some) counts items refl holds)
exchange takes (puts item some) items all holds =
    let both = both_hold (not (same_value (first_item items) Nil)) (not (same_value item (first_item items)))
    (on_2 queue_kind calls takes (puts item some) items refl holds) in
    take_put item some items (values_differ (first_item items) Nil both.0)
exchange takes takes items all holds =
    let both = both_hold (same_value (first_item items) Nil) (same_value (first_item (without_first items)) Nil)
    (on_1 queue_kind calls takes takes items refl holds) in
    take_take items all (values_same (first_item items) Nil both.0)
exchange takes counts items all holds =
    exchange_still calls takes counts items (still_taken items all (values_same (first_item items) Nil (on_1 queue_kind calls takes counts items refl holds))) refl
exchange counts (puts item some) items all holds = differ (on_2 queue_kind calls counts (puts item some) items refl holds)
exchange counts takes items all holds =
    exchange_still calls counts takes items refl (still_taken items all (values_same (first_item items) Nil (on_2 queue_kind calls counts takes items refl holds)))
exchange counts counts items all holds = exchange_still calls counts counts items refl refl

pub queue_sound : IsSound queue_machine
queue_sound = sound_by queue_machine calls are_calls exchange

keep : (call : Call) (items : List Value) → All IsItem items → All IsItem (after call items)
keep (puts item some) items all = All-append IsItem items (item ∷ []) all (All-cons IsItem item [] some (All-nil IsItem))
keep takes [] all = all
keep takes (item ∷ items) all = All-tail IsItem item items all
keep counts items all = all

pub queue_keeps : KeepsShapes queue_machine
queue_keeps = keeps_by queue_machine calls are_calls keep (All-nil IsItem)
