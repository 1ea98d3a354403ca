-- Where no call is reported, exchanging unordered neighbours keeps what the objects hold in the end.
use Rattle.std.proofs.Common.{◌≡◌, ◌+◌, ◌==◌, ℕ, zero, suc, Bool, true, cond, List, [], ◌∷◌, ◌++◌, length, Option, Some, None, inl, inr, refl, sym, ◌∙◌, ap, subst, arith}
use Rattle.std.specs.Prelude.{All, filter, slice_get}
use Rattle.std.specs.List.{cons_option}
use Rattle.std.specs.Option.{option_and_then}
use Rattle.std.proofs.lemmas.Bool.{cases_Bool, cases_eq, cases_lt, false≢true}
use Rattle.std.proofs.lemmas.Bool.Decides.{Decides-eqb}
use Rattle.std.proofs.lemmas.List.Elements.{All-head, All-tail, filter-append, filter_map-append}
use Rattle.std.proofs.lemmas.Option.{none-some, same_Some}
use Rattle.rd_event.specs.declared.events.Call.{Call as CallOf}
use Rattle.rd_event.specs.declared.events.Event.{Event}
use Rattle.rd_event.specs.declared.events.Event.TheVariants.{Fork, Join, Acquire, Release, Share, Unshare, Call}
use Rattle.rd_ecl.specs.Specified.{SpecifiedKind, commutes, kind_at}
use Rattle.rd_object.specs.Machines.{IsSound, KeepsShapes, Machine}
use Rattle.rd_object.specs.declared.shapes.Shape.{Shape}
use Rattle.rd_order.specs.Order.{Linked, Reaches}
use Rattle.rd_order.proofs.OrderLemmas.{reaches_rises}
use Rattle.rd_replay.specs.Replays.{Recorded, calls_on, is_on, shape_by}
use Rattle.rd_races.specs.Commuting.{Commute, calls_commute}
use Rattle.rd_races.proofs.CommutingLemmas.{commute_back}
use Rattle.rd_linear.specs.Determinism.{AreOnObjects, Ends, NoneReported, held_behind, kinds_from, recorded_calls, recorded_in}
use Rattle.rd_linear.specs.Orders.{exchanged}
use Rattle.rd_races.specs.Races.{Racing}
use Rattle.rd_linear.proofs.ExchangeLemmas.{at_seam, exchanged_twice, got_exchanged, past_seam, same_reaches}
use Rattle.rd_linear.proofs.MachineLemmas.{shapes_either}

-- ---- the machines of the first kinds

-- the machine is sound, and is of the kind that has the number
record IsLawful (kinds : List SpecifiedKind) (number : ℕ) (machine : Machine) : Type 0 where
  sound : IsSound machine
  keeps : KeepsShapes machine
  kind : kind_at kinds number ≡ machine.kind

-- so is each of these machines, by its number
lawful : (machines : List Machine) (more : List SpecifiedKind) → All IsSound machines → All KeepsShapes machines → (number : ℕ) (machine : Machine)
    → slice_get machines number ≡ Some machine → IsLawful (kinds_from machines more) number machine
lawful [] more sound keeps number machine is = absurd (none-some machine is)
lawful (m ∷ machines) more sound keeps zero machine is =
    subst (IsLawful (kinds_from (m ∷ machines) more) 0) (same_Some m machine is)
    (record { sound = All-head IsSound m machines sound; keeps = All-head KeepsShapes m machines keeps; kind = refl })
lawful (m ∷ machines) more sound keeps (suc number) machine is =
    let it = lawful machines more (All-tail IsSound m machines sound) (All-tail KeepsShapes m machines keeps) number machine is in
    record { sound = it.sound; keeps = it.keeps; kind = it.kind }

-- ---- the calls on an object

keep_if : (Recorded → Bool) → Option Recorded → Option Recorded
keep_if test None = None
keep_if test (Some r) = cond (test r) (Some r) None

-- the call of an event, where it is one on the object
call_on : ℕ → Event → Option Recorded
call_on object e = keep_if (is_on object) (recorded_in e)

filter_cons : (test : Recorded → Bool) (o : Option Recorded) (rest : List Recorded) → filter test (cons_option o rest) ≡ cons_option (keep_if test o) (filter test rest)
unfolding keep_if
filter_cons test None rest = refl
filter_cons test (Some r) rest = elim (cases_Bool (test r)) [
  | inl passes ↦ rw passes refl
  | inr fails ↦ rw fails refl
]

calls_first : (object : ℕ) (e : Event) (es : List Event) → calls_on object (recorded_calls (e ∷ es)) ≡ cons_option (call_on object e) (calls_on object (recorded_calls es))
unfolding call_on
calls_first object e es = filter_cons (is_on object) (recorded_in e) (recorded_calls es)

calls_append : (object : ℕ) (xs ys : List Event) → calls_on object (recorded_calls (xs ++ ys)) ≡ calls_on object (recorded_calls xs) ++ calls_on object (recorded_calls ys)
calls_append object xs ys = ap (filter (is_on object)) (filter_map-append recorded_in xs ys) ∙ filter-append (is_on object) (recorded_calls xs) (recorded_calls ys)

calls_between : (object : ℕ) (xs : List Event) (a b : Event) (ys : List Event) → calls_on object (recorded_calls (xs ++ a ∷ b ∷ ys))
    ≡ calls_on object (recorded_calls xs) ++ cons_option (call_on object a) (cons_option (call_on object b) (calls_on object (recorded_calls ys)))
calls_between object xs a b ys =
    calls_append object xs (a ∷ b ∷ ys) ∙ ap (λ l. calls_on object (recorded_calls xs) ++ l)
    (calls_first object a (b ∷ ys) ∙ ap (cons_option (call_on object a)) (calls_first object b ys))

-- such a call is the event, and on the object
call_is : (object : ℕ) (e : Event) (r : Recorded) → call_on object e ≡ Some r → (e ≡ Call r.1) × (r.1.object ≡ object)
unfolding call_on keep_if
call_is object (Call call) r is = elim (cases_Bool (call.object == object)) [
  | inl here ↦ (let same : (0, call) ≡ r = same_Some (0, call) r (ap (λ b. cond b (Some (0, call)) None) (sym here) ∙ is) in
      let one : call ≡ r.1 = ap (λ x. x.1) same in
      (ap Call one, ap (λ x. x.object) (sym one) ∙ (Decides-eqb call.object object).0 here))
  | inr away ↦ absurd (none-some r (ap (λ b. cond b (Some (0, call)) None) (sym away) ∙ is))
]
call_is object (Fork t u) r is = absurd (none-some r is)
call_is object (Join t u) r is = absurd (none-some r is)
call_is object (Acquire t l) r is = absurd (none-some r is)
call_is object (Release t l) r is = absurd (none-some r is)
call_is object (Share t l) r is = absurd (none-some r is)
call_is object (Unshare t l) r is = absurd (none-some r is)

-- ---- unordered neighbours

module _ (kinds : List SpecifiedKind) (objects : List ℕ) where
  -- unordered neighbours on one object commute
  neighbours_commute : (xs : List Event) (a b : Event) (ys : List Event) → NoneReported kinds (xs ++ a ∷ b ∷ ys) → ¬ (Reaches (xs ++ a ∷ b ∷ ys) (length xs) (length xs + 1))
      → (object : ℕ) (c d : Recorded) → call_on object a ≡ Some c → call_on object b ≡ Some d → calls_commute kinds c.1 d.1 ≡ true
  neighbours_commute xs a b ys none loose object c d p q = elim (cases_Bool (calls_commute kinds c.1 d.1)) [
    | inl commute ↦ commute
    | inr fail ↦ (let x = call_is object a c p in let y = call_is object b d q in
        let i : length xs + 1 ≡ suc (length xs) = omega arith in
        absurd (none (length xs + 1) (
          length xs,
          record {
            a = c.1;
            b = d.1;
            at_i = at_seam xs a (b ∷ ys) ∙ ap Some x.0;
            at_j = rw i (past_seam xs a b ys) ∙ ap Some y.0;
            object = x.1 ∙ sym y.1;
            unordered = (omega arith, loose);
            apart = λ commute. false≢true (sym fail ∙ commute);
          },
        )))
  ]

  objects_exchanged : (xs : List Event) (a b : Event) (ys : List Event) → AreOnObjects objects (xs ++ a ∷ b ∷ ys) → AreOnObjects objects (xs ++ b ∷ a ∷ ys)
  objects_exchanged xs a b ys on i call at = on (exchanged (length xs) i) call (got_exchanged xs b a ys i ∙ at)

  -- two calls on one object are of one kind
  one_kind : (es : List Event) → AreOnObjects objects es → (i j : ℕ) (c d : CallOf) → slice_get es i ≡ Some (Call c) → slice_get es j ≡ Some (Call d) → c.object ≡ d.object → c.kind ≡ d.kind
  one_kind es on i j c d at_i at_j same = same_Some c.kind d.kind (sym (on i c at_i) ∙ (ap (slice_get objects) same ∙ on j d at_j))

  -- still no call is reported
  pub none_exchanged : (xs : List Event) (a b : Event) (ys : List Event) → ¬ (Linked a b) → ¬ (Linked b a) → AreOnObjects objects (xs ++ a ∷ b ∷ ys)
      → NoneReported kinds (xs ++ a ∷ b ∷ ys) → NoneReported kinds (xs ++ b ∷ a ∷ ys)
  none_exchanged xs a b ys loose free on none k reported =
      let j = reported.0 in let r : Racing (Commute kinds) (xs ++ b ∷ a ∷ ys) j k = reported.1 in
      elim (cases_lt (exchanged (length xs) j) (exchanged (length xs) k)) [
        | inl rises ↦ none (exchanged (length xs) k) (
          exchanged (length xs) j,
          record {
            a = r.a;
            b = r.b;
            at_i = got_exchanged xs b a ys j ∙ r.at_i;
            at_j = got_exchanged xs b a ys k ∙ r.at_j;
            object = r.object;
            unordered = (rises, λ x. r.unordered.1 ((moved j k).1 x));
            apart = r.apart;
          },
        )
        | inr falls ↦ elim (cases_eq (exchanged (length xs) j) (exchanged (length xs) k)) [
          | inl same ↦ (let q = ap (exchanged (length xs)) same in let s = r.unordered.0 in absurd (omega (arith, q, s, exchanged_twice (length xs) j, exchanged_twice (length xs) k)))
          | inr other ↦ none (exchanged (length xs) j) (
            exchanged (length xs) k,
            record {
              a = r.b;
              b = r.a;
              at_i = got_exchanged xs b a ys k ∙ r.at_j;
              at_j = got_exchanged xs b a ys j ∙ r.at_i;
              object = sym r.object;
              unordered = (omega arith, λ x. let y = reaches_rises (xs ++ b ∷ a ∷ ys) k j ((moved k j).1 x) in let s = r.unordered.0 in omega (arith, s, y));
              apart = λ commute. r.apart (commute_back kinds r.b r.a (one_kind (xs ++ b ∷ a ∷ ys) (objects_exchanged xs a b ys on) k j r.b r.a r.at_j r.at_i (sym r.object)) commute);
            },
          )
        ]
      ]
    where
      moved : (j k : ℕ) → (Reaches (xs ++ b ∷ a ∷ ys) j k → Reaches (xs ++ a ∷ b ∷ ys) (exchanged (length xs) j) (exchanged (length xs) k))
          × (Reaches (xs ++ a ∷ b ∷ ys) (exchanged (length xs) j) (exchanged (length xs) k) → Reaches (xs ++ b ∷ a ∷ ys) j k)
      moved j k = same_reaches xs b a ys free loose j k

  pub on_exchanged : (xs : List Event) (a b : Event) (ys : List Event) → AreOnObjects objects (xs ++ a ∷ b ∷ ys) → AreOnObjects objects (xs ++ b ∷ a ∷ ys)
  on_exchanged xs a b ys on = objects_exchanged xs a b ys on

-- ---- what the objects hold

pub ends_exchanged : (machines : List Machine) (more : List SpecifiedKind) (objects : List ℕ) (shapes : List Shape) (xs : List Event) (a b : Event) (ys : List Event)
    → All IsSound machines → All KeepsShapes machines → ¬ (Reaches (xs ++ a ∷ b ∷ ys) (length xs) (length xs + 1)) → AreOnObjects objects (xs ++ a ∷ b ∷ ys) → NoneReported (kinds_from machines more) (xs ++ a ∷ b ∷ ys)
    → Ends machines objects (xs ++ a ∷ b ∷ ys) shapes → Ends machines objects (xs ++ b ∷ a ∷ ys) shapes
unfolding calls_commute
ends_exchanged machines more objects shapes xs a b ys sound keeps loose on none ends object shape at = by (slice_get objects object) refl
  where
    kinds : List SpecifiedKind
    kinds = kinds_from machines more

    by_machine : (number : ℕ) → slice_get objects object ≡ Some number → (o : Option Machine) → slice_get machines number ≡ o
        → option_and_then (λ machine. shape_by machine machine.first (calls_on object (recorded_calls (xs ++ a ∷ b ∷ ys)))) o ≡ Some shape
        → option_and_then (λ machine. shape_by machine machine.first (calls_on object (recorded_calls (xs ++ b ∷ a ∷ ys)))) o ≡ Some shape
    by_machine number of_kind None is held = absurd (none-some shape held)
    by_machine number of_kind (Some machine) is held =
        let it = lawful machines more sound keeps number machine is in
        ap (shape_by machine machine.first) (calls_between object xs b a ys)
        ∙ shapes_either machine it.sound it.keeps shape (calls_on object (recorded_calls xs)) (call_on object a) (call_on object b) (calls_on object (recorded_calls ys))
        (λ c d is_c is_d.
        let x = call_is object a c is_c in
        let its_kind : c.1.kind ≡ number = same_Some c.1.kind number (sym (on (length xs) c.1 (at_seam xs a (b ∷ ys) ∙ ap Some x.0)) ∙ (ap (slice_get objects) x.1 ∙ of_kind)) in
        sym (ap (λ k. commutes k c.1.method c.1.slots d.1.method d.1.slots) (ap (kind_at kinds) its_kind ∙ it.kind))
        ∙ neighbours_commute kinds objects xs a b ys none loose object c d is_c is_d)
        (sym (ap (shape_by machine machine.first) (calls_between object xs a b ys)) ∙ held)

    by : (o : Option ℕ) → slice_get objects object ≡ o → held_behind machines objects (xs ++ b ∷ a ∷ ys) object ≡ Some shape
    by None is = absurd (none-some shape (sym (ap (λ o. option_and_then (λ machine. shape_by machine machine.first (calls_on object (recorded_calls (xs ++ a ∷ b ∷ ys)))) (option_and_then (slice_get machines) o)) is) ∙ ends object shape at))
    by (Some number) is =
        ap (λ o. option_and_then (λ machine. shape_by machine machine.first (calls_on object (recorded_calls (xs ++ b ∷ a ∷ ys)))) (option_and_then (slice_get machines) o)) is
        ∙ by_machine number is (slice_get machines number) refl
        (sym (ap (λ o. option_and_then (λ machine. shape_by machine machine.first (calls_on object (recorded_calls (xs ++ a ∷ b ∷ ys)))) (option_and_then (slice_get machines) o)) is) ∙ ends object shape at)
