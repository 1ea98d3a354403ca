-- Peaks: calls that commute may be exchanged.
use Rattle.std.specs.Prelude.{◌≡◌, ◌⊎◌, ℕ, ℤ, zero, suc, pos, Bool, true, false, not, int_lt, int_le, if◌then◌else◌, List, [], ◌∷◌, ◌++◌}
use Rattle.std.proofs.Common.{refl, sym, ap, ◌∙◌, inl, inr, true≢false, arith}
use Rattle.std.proofs.lemmas.Int.{ints}
use Rattle.rd_base.specs.declared.values.Value.{Value}
use Rattle.rd_base.specs.declared.values.Value.TheVariants.{Nil, Bool as Boolean, Int, Text}
use Rattle.rd_ecl.specs.declared.formulas.Rel.TheVariants.{Le}
use Rattle.rd_ecl.specs.Formulas.{relates}
use Rattle.rd_object.specs.Machines.{IsSound, KeepsShapes, Step}
use Rattle.rd_object.specs.Machines.Step.{goes, refuses}
use Rattle.rd_object.specs.declared.shapes.Shape.{Shape}
use Rattle.rd_object.specs.declared.shapes.Shape.TheVariants.{One, Number, Items, Map, Counts, Row}
use Rattle.rd_parts.specs.laws.Commuting.{both_hold, goes_is_known, goes_result, goes_shape}
use Rattle.rd_parts.specs.laws.Exchanges.{AreCalls, Calls, CommuteAt, Exchange, IsStuck, RunsCall, Still, exchange_still, keeps_by, on_1, on_2, sound_by, turn}
use Rattle.rd_more.specs.Machines.{peak_machine, peak_row, peak_step, raised}
use Rattle.rd_more.specs.MoreKinds.{peak_kind}

data Call : Type 0 where
  raises : ℤ → Call
  gets : Call

abbrev number : Call → ℕ
number (raises amount) = 0
number gets = 1

abbrev arguments : Call → List Value
arguments (raises amount) = Int amount ∷ []
arguments gets = []

abbrev after : Call → Value → Value
after (raises amount) held = raised amount held
after gets held = held

abbrev result : Call → Value → Value
result call held = held

abbrev calls : Calls Value Call
calls = record { shape = One; number = number; arguments = arguments; after = after; result = result }

is_refusal : Step → Bool
is_refusal (refuses slot) = true
is_refusal step = false

goes_is_taken : {P : Type 0} {slot : ℕ} {shape : Shape} {value : Value} → refuses slot ≡ goes shape value → P
unfolding is_refusal
goes_is_taken e = absurd (true≢false (ap is_refusal e))

stuck : (old : Shape) → ((held : Value) × (old ≡ One held)) ⊎ IsStuck peak_machine old
stuck (One held) = inl (held, refl)
stuck (Number value) = inr (λ m a new r e. goes_is_known e)
stuck (Items items) = inr (λ m a new r e. goes_is_known e)
stuck (Map entries) = inr (λ m a new r e. goes_is_known e)
stuck (Counts entries) = inr (λ m a new r e. goes_is_known e)
stuck (Row items) = inr (λ m a new r e. goes_is_known e)

runs : (call : Call) (held : Value) → peak_row (number call) (arguments call) held ≡ goes (One (after call held)) (result call held)
runs (raises amount) held = refl
runs gets held = refl

ran_by : (call : Call) (held : Value) (new : Shape) (told : Value) → goes (One (after call held)) (result call held) ≡ goes new told
    → RunsCall calls (number call) (arguments call) held new told
ran_by call held new told e = record { call = call; is_method = refl; is_given = refl; is_new = sym (goes_shape e); is_result = sym (goes_result e) }

ran : (method : ℕ) (given : List Value) (held : Value) (new : Shape) (told : Value) → peak_row method given held ≡ goes new told → RunsCall calls method given held new told
ran zero (Int amount ∷ []) held new told e = ran_by (raises amount) held new told e
ran zero (Nil ∷ []) held new told e = goes_is_taken e
ran zero (Boolean value ∷ []) held new told e = goes_is_taken e
ran zero (Text value ∷ []) held new told e = goes_is_taken e
ran (suc zero) [] held new told e = ran_by gets held new told e
ran method given held new told e = goes_is_known e

are_calls : AreCalls peak_machine calls
are_calls = record { states = stuck; runs = runs; ran = ran }

-- a raise that isn't above what is held does nothing
not_above : (amount peak : ℤ) → int_le amount peak ≡ true → int_lt peak amount ≡ false
not_above amount peak below = by (int_lt peak amount) refl
  where
    by : (above : Bool) → int_lt peak amount ≡ above → above ≡ false
    by true e = absurd (omega (arith, ints, below, e))
    by false e = refl

stays_held : (amount : ℤ) (held : Value) → relates Le (Int amount) held ≡ true → Still calls (raises amount) held
stays_held amount Nil below = absurd (true≢false (sym below))
stays_held amount (Boolean truth) below = absurd (true≢false (sym below))
stays_held amount (Text text) below = absurd (true≢false (sym below))
stays_held amount (Int peak) below = ap (λ b. if b then Int amount else Int peak) (not_above amount peak below)

raise_raise : (first second : ℤ) (held : Value) → relates Le (Int first) held ≡ true → relates Le (Int second) (raised first held) ≡ true
    → Exchange calls (raises first) (raises second) held
raise_raise first second held below below' =
    let still = stays_held first held below in
    exchange_still calls (raises first) (raises second) held still (stays_held second held (sym (ap (relates Le (Int second)) still) ∙ below'))

exchange : (first second : Call) (held : Value) → CommuteAt peak_kind calls first second held → Exchange calls first second held
unfolding peak_kind
exchange (raises first) (raises second) held holds =
    let both = both_hold (relates Le (Int first) held) (relates Le (Int second) (raised first held)) (on_1 peak_kind calls (raises first) (raises second) held refl holds) in
    raise_raise first second held both.0 both.1
exchange (raises first) gets held holds =
    exchange_still calls (raises first) gets held (stays_held first held (on_1 peak_kind calls (raises first) gets held refl holds)) refl
exchange gets (raises second) held holds =
    exchange_still calls gets (raises second) held refl (stays_held second held (on_2 peak_kind calls gets (raises second) held refl holds))
exchange gets gets held holds = exchange_still calls gets gets held refl refl

pub peak_sound : IsSound peak_machine
peak_sound = sound_by peak_machine calls are_calls (λ first second held is holds. exchange first second held holds)

pub peak_keeps : KeepsShapes peak_machine
peak_keeps = keeps_by peak_machine calls are_calls (λ call held is. tt) tt
