-- Machines whose calls are listed, each with what it does to what the object holds: they are sound where any two calls that commute may be
-- exchanged.
use Rattle.std.specs.Prelude.{◌≡◌, ◌⊎◌, ℕ, true, nat_le, List, [], ◌∷◌, ◌++◌}
use Rattle.std.proofs.Common.{refl, sym, ap, ◌∙◌, subst, ⊎_elim}
use Rattle.rd_base.specs.declared.values.Value.{Value}
use Rattle.rd_ecl.specs.Specified.{SpecifiedKind, commutes, pair_holds}
use Rattle.rd_object.specs.Machines.{IsShape, IsSound, KeepsShapes, Machine, Next}
use Rattle.rd_object.specs.Machines.Step.{goes}
use Rattle.rd_object.specs.declared.shapes.Shape.{Shape}
use Rattle.rd_parts.specs.laws.Commuting.{first_on_1, second_on_1}

-- the calls of a machine, and what they do: S is what an object may hold, C has a call for each row of the table
pub record Calls (S C : Type 0) : Type 0 where
  pub shape : S → Shape
  pub number : C → ℕ
  pub arguments : C → List Value
  pub after : C → S → S
  pub result : C → S → Value

abbrev pub slots : {S C : Type 0} → Calls S C → C → S → List Value
slots calls call state = calls.arguments call ++ calls.result call state ∷ []

-- the call that a step runs
pub record RunsCall {S C : Type 0} (calls : Calls S C) (method : ℕ) (arguments : List Value) (state : S) (new : Shape) (result : Value)
    : Type 0 where
  pub call : C
  pub is_method : method ≡ calls.number call
  pub is_given : arguments ≡ calls.arguments call
  pub is_new : new ≡ calls.shape (calls.after call state)
  pub is_result : result ≡ calls.result call state

-- no step goes from there
abbrev pub IsStuck : Machine → Shape → Type 0
IsStuck machine old = (method : ℕ) (arguments : List Value) (new : Shape) (result : Value) → machine.step method arguments old ≡ goes new result → ⊥

-- these are the calls of the machine
pub record AreCalls {S C : Type 0} (machine : Machine) (calls : Calls S C) : Type 0 where
  pub states : (old : Shape) → ((state : S) × (old ≡ calls.shape state)) ⊎ IsStuck machine old
  pub runs : (call : C) (state : S)
      → machine.step (calls.number call) (calls.arguments call) (calls.shape state) ≡ goes (calls.shape (calls.after call state)) (calls.result call state)
  pub ran : (method : ℕ) (arguments : List Value) (state : S) (new : Shape) (result : Value)
      → machine.step method arguments (calls.shape state) ≡ goes new result → RunsCall calls method arguments state new result

-- two calls may be exchanged: their results and what is held are the same
pub record Exchange {S C : Type 0} (calls : Calls S C) (first second : C) (state : S) : Type 0 where
  pub second_result : calls.result second (calls.after first state) ≡ calls.result second state
  pub first_result : calls.result first (calls.after second state) ≡ calls.result first state
  pub same : calls.after first (calls.after second state) ≡ calls.after second (calls.after first state)

abbrev pub Still : {S C : Type 0} → Calls S C → C → S → Type 0
Still calls call state = calls.after call state ≡ state

pub exchange_still : {S C : Type 0} (calls : Calls S C) (first second : C) (state : S) → Still calls first state → Still calls second state
    → Exchange calls first second state
exchange_still calls first second state still still' = record {
  second_result = ap (calls.result second) still;
  first_result = ap (calls.result first) still';
  same = ap (calls.after first) still' ∙ still ∙ sym (ap (calls.after second) still ∙ still');
}

-- a call and itself, where both have one result
pub exchange_itself : {S C : Type 0} (calls : Calls S C) (call : C) (state : S) → calls.result call (calls.after call state) ≡ calls.result call state
    → Exchange calls call call state
exchange_itself calls call state same = record { second_result = same; first_result = same; same = refl }

pub turn : {S C : Type 0} (calls : Calls S C) (first second : C) (state : S) → Exchange calls first second state → Exchange calls second first state
turn calls first second state x = record { second_result = x.first_result; first_result = x.second_result; same = sym x.same }

-- two calls that commute, one after the other
abbrev pub CommuteAt : {S C : Type 0} → SpecifiedKind → Calls S C → C → C → S → Type 0
CommuteAt kind calls first second state =
    commutes kind (calls.number first) (slots calls first state) (calls.number second) (slots calls second (calls.after first state)) ≡ true

pub on_1 : {S C : Type 0} (kind : SpecifiedKind) (calls : Calls S C) (first second : C) (state : S) → nat_le (calls.number first) (calls.number second) ≡ true
    → CommuteAt kind calls first second state
    → pair_holds kind (calls.number first) (calls.number second) (slots calls first state) (slots calls second (calls.after first state)) ≡ true
on_1 kind calls first second state = first_on_1 kind (calls.number first) (calls.number second) (slots calls first state) (slots calls second (calls.after first state))

pub on_2 : {S C : Type 0} (kind : SpecifiedKind) (calls : Calls S C) (first second : C) (state : S) → nat_le (calls.number second) (calls.number first) ≡ true
    → CommuteAt kind calls first second state
    → pair_holds kind (calls.number second) (calls.number first) (slots calls second (calls.after first state)) (slots calls first state) ≡ true
on_2 kind calls first second state = second_on_1 kind (calls.number first) (calls.number second) (slots calls first state) (slots calls second (calls.after first state))

abbrev pub MayExchange : {S C : Type 0} → Machine → Calls S C → Type 0
MayExchange {S} {C} machine calls = (first second : C) (state : S) → IsShape (calls.shape state) → CommuteAt machine.kind calls first second state → Exchange calls first second state

sound_at : {S C : Type 0} (machine : Machine) (calls : Calls S C) → AreCalls machine calls → MayExchange machine calls
    → (m n : ℕ) (a b : List Value) (state : S) (between new : Shape) → IsShape (calls.shape state) → commutes machine.kind m a n b ≡ true
    → Next machine m a (calls.shape state) between → Next machine n b between new
    → (other : Shape) × Next machine n b (calls.shape state) other × Next machine m a other new
sound_at machine calls are may m n a b state between new is holds first second =
    let r = are.ran m first.0 state between first.1 first.3 in
    let s = are.ran n second.0 (calls.after r.call state) new second.1 (subst (λ shape. machine.step n second.0 shape ≡ goes new second.1) r.is_new second.3) in
    let is_a : a ≡ slots calls r.call state = first.2 ∙ (λ i. r.is_given i ++ r.is_result i ∷ []) in
    let is_b : b ≡ slots calls s.call (calls.after r.call state) = second.2 ∙ (λ i. s.is_given i ++ s.is_result i ∷ []) in
    let x = may r.call s.call state is (sym (λ i. commutes machine.kind (r.is_method i) (is_a i) (s.is_method i) (is_b i)) ∙ holds) in
    let step : machine.step n second.0 (calls.shape state) ≡ goes (calls.shape (calls.after s.call state)) second.1 =
    (λ i. machine.step (s.is_method i) (s.is_given i) (calls.shape state)) ∙ are.runs s.call state
    ∙ ap (goes (calls.shape (calls.after s.call state))) (sym x.second_result ∙ sym s.is_result) in
    let is_last : calls.shape (calls.after r.call (calls.after s.call state)) ≡ new = ap calls.shape x.same ∙ sym s.is_new in
    let is_result : calls.result r.call (calls.after s.call state) ≡ first.1 = x.first_result ∙ sym r.is_result in
    let step' : machine.step m first.0 (calls.shape (calls.after s.call state)) ≡ goes new first.1 =
    (λ i. machine.step (r.is_method i) (r.is_given i) (calls.shape (calls.after s.call state))) ∙ are.runs r.call (calls.after s.call state)
    ∙ (λ i. goes (is_last i) (is_result i)) in
    (calls.shape (calls.after s.call state), (second.0, second.1, second.2, step), (first.0, first.1, first.2, step'))

pub sound_by : {S C : Type 0} (machine : Machine) (calls : Calls S C) → AreCalls machine calls → MayExchange machine calls → IsSound machine
sound_by machine calls are may m n a b old between new is holds first second =
    ⊎_elim
    (λ held. subst (λ shape. (other : Shape) × Next machine n b shape other × Next machine m a other new) (sym held.1)
    (sound_at machine calls are may m n a b held.0 between new (subst IsShape held.1 is) holds
    (subst (λ shape. Next machine m a shape between) held.1 first) second))
    (λ stuck. absurd (stuck m first.0 between first.1 first.3))
    (are.states old)

-- what a call leads to is what an object may hold
abbrev pub KeepState : {S C : Type 0} → Calls S C → Type 0
KeepState {S} {C} calls = (call : C) (state : S) → IsShape (calls.shape state) → IsShape (calls.shape (calls.after call state))

kept_at : {S C : Type 0} (machine : Machine) (calls : Calls S C) → AreCalls machine calls → KeepState calls
    → (m : ℕ) (a : List Value) (state : S) (new : Shape) → IsShape (calls.shape state) → Next machine m a (calls.shape state) new → IsShape new
kept_at machine calls are keep m a state new is next =
    let r = are.ran m next.0 state new next.1 next.3 in
    subst IsShape (sym r.is_new) (keep r.call state is)

pub keeps_by : {S C : Type 0} (machine : Machine) (calls : Calls S C) → AreCalls machine calls → KeepState calls → IsShape machine.first → KeepsShapes machine
keeps_by machine calls are keep first = (
  first,
  λ m a old new is next.
      ⊎_elim
      (λ held. kept_at machine calls are keep m a held.0 new (subst IsShape held.1 is) (subst (λ shape. Next machine m a shape new) held.1 next))
      (λ stuck. absurd (stuck m next.0 new next.1 next.3))
      (are.states old),
)
