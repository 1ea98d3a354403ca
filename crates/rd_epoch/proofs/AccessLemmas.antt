-- Accesses and their races.
use Rattle.std.proofs.Common.{◌≡◌, ◌⊎◌, ◌↔◌, inl, inr, ℕ, zero, suc, ◌<◌, Bool, true, false, List, [], ◌∷◌, ◌++◌, length, Option, Some, refl, sym, ap, subst, ◌∙◌, arith, true≢false}
use Rattle.std.specs.Prelude.{All, IfSome, IsTrue, slice_get, unwrap_or, option_and_then}
use Rattle.std.proofs.lemmas.Bool.{cases_lt}
use Rattle.std.proofs.lemmas.List.Elements.{All-get_or}
use Rattle.std.proofs.lemmas.Option.{slice_get_within, get_or_from_slice_get}
use Rattle.rd_base.specs.declared.values.Value.{Value}
use Rattle.rd_ecl.specs.Kinds.{Kind, KindMethod, kinds_of, methods_at}
use Rattle.rd_ecl.specs.Specified.{commutes, kind_at}
use Rattle.rd_event.specs.declared.events.Call.{Call as CallOf}
use Rattle.rd_event.specs.declared.events.Event.{Event}
use Rattle.rd_event.specs.declared.events.Event.TheVariants.{Call}
use Rattle.rd_order.specs.EventLists.{IsCallOf, WellFormedWith}
use Rattle.rd_order.specs.Order.{Unordered, call_in}
use Rattle.rd_order.proofs.OrderLemmas.{at_end, at_front, length_more, reaches_longer, reaches_shorter}
use Rattle.rd_races.specs.Commuting.{Commute, calls_commute}
use Rattle.rd_races.specs.Races.{Racing}
use Rattle.rd_epoch.specs.Accesses.{IsAccess, IsReported, access_method, variable_kind, variable_kinds}

-- ---- lists

pub same_at : {X : Type 0} (o : Option X) (a b : X) → o ≡ Some a → o ≡ Some b → a ≡ b
same_at o a b is_a is_b = ap (λ o. unwrap_or o a) (sym is_a ∙ is_b)

pub same_call : (o : Option Event) (a b : CallOf) → o ≡ Some (Call a) → o ≡ Some (Call b) → a ≡ b
same_call o a b is_a is_b = ap (λ o. unwrap_or (option_and_then call_in o) a) (sym is_a ∙ is_b)

pub at_more : {X : Type 0} (xs : List X) (y x : X) (k : ℕ) → slice_get (xs ++ y ∷ []) k ≡ Some x
    → ((k < length xs) × (slice_get xs k ≡ Some x)) ⊎ ((k ≡ length xs) × (x ≡ y))
at_more xs y x k is =
    let inside = slice_get_within (xs ++ y ∷ []) k x is in
    elim (cases_lt k (length xs)) [
      | inl before ↦ inl (before, sym (at_front xs (y ∷ []) k before) ∙ is)
      | inr past ↦
          let last : k ≡ length xs = omega (arith, past, inside, length_more xs y) in
          inr (last, same_at (slice_get (xs ++ y ∷ []) k) x y is (ap (slice_get (xs ++ y ∷ [])) last ∙ at_end xs y))
    ]

-- ---- which commute

two_methods : (m n : ℕ) (s t : List Value) → m < 2 → n < 2 → IsTrue (commutes variable_kind m s n t) ↔ ((m ≡ 0) × (n ≡ 0))
unfolding variable_kind
two_methods zero zero s t a b = (λ h. (refl, refl), λ h. refl)
two_methods zero (suc zero) s t a b = (λ h. absurd (true≢false (sym h)), λ h. absurd (let e = h.1 in omega arith))
two_methods (suc zero) zero s t a b = (λ h. absurd (true≢false (sym h)), λ h. absurd (let e = h.0 in omega arith))
two_methods (suc zero) (suc zero) s t a b = (λ h. absurd (true≢false (sym h)), λ h. absurd (let e = h.0 in omega arith))
two_methods (suc (suc m)) n s t a b = absurd (omega arith)
two_methods zero (suc (suc n)) s t a b = absurd (omega arith)
two_methods (suc zero) (suc (suc n)) s t a b = absurd (omega arith)

pub commuting : (a b : CallOf) → a.kind ≡ 0 → a.method < 2 → b.method < 2 → Commute variable_kinds a b ↔ ((a.method ≡ 0) × (b.method ≡ 0))
unfolding calls_commute
commuting a b kind one other =
    subst (λ k. IsTrue (commutes (kind_at variable_kinds k) a.method a.slots b.method b.slots) ↔ ((a.method ≡ 0) × (b.method ≡ 0))) (sym kind)
    (two_methods a.method b.method a.slots b.slots one other)

-- ---- accesses in lists

pub access_longer : (es fs : List Event) (v : ℕ) (w : Bool) (k : ℕ) → IsAccess es v w k → IsAccess (es ++ fs) v w k
access_longer es fs v w k is = record {
  call = is.call;
  at = at_front es fs k (slice_get_within es k (Call is.call) is.at) ∙ is.at;
  object = is.object;
  method = is.method;
}

pub access_shorter : (es fs : List Event) (v : ℕ) (w : Bool) (k : ℕ) → k < length es → IsAccess (es ++ fs) v w k → IsAccess es v w k
access_shorter es fs v w k inside is = record {
  call = is.call;
  at = sym (at_front es fs k inside) ∙ is.at;
  object = is.object;
  method = is.method;
}

pub access_within : (es : List Event) (v : ℕ) (w : Bool) (k : ℕ) → IsAccess es v w k → k < length es
access_within es v w k is = slice_get_within es k (Call is.call) is.at

-- an access is one to one variable, and either a read or a write
pub same_variable : (es : List Event) (v u : ℕ) (w x : Bool) (k : ℕ) → IsAccess es v w k → IsAccess es u x k → v ≡ u
same_variable es v u w x k one other =
    sym one.object ∙ ap (λ (c : CallOf). c.object) (same_call (slice_get es k) one.call other.call one.at other.at) ∙ other.object

pub same_sort : (es : List Event) (v u : ℕ) (w x : Bool) (k : ℕ) → IsAccess es v w k → IsAccess es u x k → w ≡ x
same_sort es v u w x k one other = by w x (sym one.method ∙ ap (λ (c : CallOf). c.method) (same_call (slice_get es k) one.call other.call one.at other.at) ∙ other.method)
  where
    by : (w x : Bool) → access_method w ≡ access_method x → w ≡ x
    by true true h = refl
    by true false h = absurd (omega arith)
    by false true h = absurd (omega arith)
    by false false h = refl

-- ---- of a well-formed list

fits : (kinds : List Kind) (es : List Event) (i : ℕ) (call : CallOf) → All (λ e. IfSome (call_in e) (IsCallOf kinds)) es
    → slice_get es i ≡ Some (Call call) → IsCallOf kinds call
fits kinds es i call fit at =
    subst (λ e. IfSome (call_in e) (IsCallOf kinds)) (get_or_from_slice_get es i (Call call) (Call call) at)
    (All-get_or (λ e. IfSome (call_in e) (IsCallOf kinds)) es i (Call call) (slice_get_within es i (Call call) at) fit)

two : (call : CallOf) → IsCallOf (kinds_of variable_kinds) call → (call.kind ≡ 0) × (call.method < 2)
unfolding variable_kind
two call fit = (kind, subst (λ k. call.method < length (methods k)) kind fit.method)
  where
    methods : ℕ → List KindMethod
    methods k = methods_at (kinds_of variable_kinds) k

    kind : call.kind ≡ 0
    kind = let f : call.kind < 1 = fit.kind in omega arith

module _ (roots : ℕ → Bool) (es : List Event) (formed : WellFormedWith (kinds_of variable_kinds) roots es) where
  pub call_fits : (i : ℕ) (call : CallOf) → slice_get es i ≡ Some (Call call) → (call.kind ≡ 0) × (call.method < 2)
  call_fits i call at = two call (fits (kinds_of variable_kinds) es i call formed.fit at)

  -- a call is an access
  pub access_at : (i : ℕ) (call : CallOf) → slice_get es i ≡ Some (Call call) → (w : Bool) × IsAccess es call.object w i
  access_at i call at = elim (below_two call.method (call_fits i call at).1) [
    | inl read ↦ (false, record { call = call; at = at; object = refl; method = read })
    | inr write ↦ (true, record { call = call; at = at; object = refl; method = write })
  ]
    where
      below_two : (m : ℕ) → m < 2 → (m ≡ 0) ⊎ (m ≡ 1)
      below_two zero l = inl refl
      below_two (suc zero) l = inr refl
      below_two (suc (suc m)) l = absurd (omega arith)

  -- two accesses to one variable race where no order ties them and one of them writes
  pub races : (v : ℕ) (w x : Bool) (i j : ℕ) → IsAccess es v w i → IsAccess es v x j → Unordered es i j → (w ≡ true) ⊎ (x ≡ true) → Racing (Commute variable_kinds) es i j
  races v w x i j one other unordered writes = record {
    a = one.call;
    b = other.call;
    at_i = one.at;
    at_j = other.at;
    object = one.object ∙ sym other.object;
    unordered = unordered;
    apart = λ commute. both ((commuting one.call other.call (call_fits i one.call one.at).0 (call_fits i one.call one.at).1 (call_fits j other.call other.at).1).0 commute) writes;
  }
    where
      is_one : (b : Bool) → b ≡ true → access_method b ≡ 1
      is_one b h = ap access_method h

      both : (one.call.method ≡ 0) × (other.call.method ≡ 0) → (w ≡ true) ⊎ (x ≡ true) → ⊥
      both none (inl h) = let e = sym none.0 ∙ one.method ∙ is_one w h in omega arith
      both none (inr h) = let e = sym none.1 ∙ other.method ∙ is_one x h in omega arith

  -- and where two calls race they are such
  pub raced_by : (v : ℕ) (x : Bool) (i j : ℕ) → IsAccess es v x j → Racing (Commute variable_kinds) es i j → (w : Bool) × IsAccess es v w i × ((w ≡ true) ⊎ (x ≡ true))
  raced_by v x i j other racing =
      (found.0, subst (λ u. IsAccess es u found.0 i) object found.1, writes found.0 x found.1.method (ap (λ (c : CallOf). c.method) this ∙ other.method) racing.apart)
    where
      found : (w : Bool) × IsAccess es racing.a.object w i
      found = access_at i racing.a racing.at_i

      this : racing.b ≡ other.call
      this = same_call (slice_get es j) racing.b other.call racing.at_j other.at

      object : racing.a.object ≡ v
      object = racing.object ∙ ap (λ (c : CallOf). c.object) this ∙ other.object

      writes : (w x : Bool) → found.1.call.method ≡ access_method w → racing.b.method ≡ access_method x → ¬ (Commute variable_kinds racing.a racing.b) → (w ≡ true) ⊎ (x ≡ true)
      writes true x a b apart = inl refl
      writes false true a b apart = inr refl
      writes false false a b apart = absurd (apart ((commuting racing.a racing.b (call_fits i racing.a racing.at_i).0 (call_fits i racing.a racing.at_i).1 (call_fits j racing.b racing.at_j).1).1
          (ap (λ (c : CallOf). c.method) (same_call (slice_get es i) racing.a found.1.call racing.at_i found.1.at) ∙ a, b)))

-- ---- reported accesses in longer lists

racing_longer : (es fs : List Event) (i j : ℕ) → j < length es → Racing (Commute variable_kinds) es i j → Racing (Commute variable_kinds) (es ++ fs) i j
racing_longer es fs i j inside racing = record {
  a = racing.a;
  b = racing.b;
  at_i = at_front es fs i (slice_get_within es i (Call racing.a) racing.at_i) ∙ racing.at_i;
  at_j = at_front es fs j inside ∙ racing.at_j;
  object = racing.object;
  unordered = (racing.unordered.0, λ r. racing.unordered.1 (reaches_shorter es fs i j inside r));
  apart = racing.apart;
}

racing_shorter : (es fs : List Event) (i j : ℕ) → j < length es → Racing (Commute variable_kinds) (es ++ fs) i j → Racing (Commute variable_kinds) es i j
racing_shorter es fs i j inside racing = record {
  a = racing.a;
  b = racing.b;
  at_i = sym (at_front es fs i (let r = racing.unordered.0 in omega arith)) ∙ racing.at_i;
  at_j = sym (at_front es fs j inside) ∙ racing.at_j;
  object = racing.object;
  unordered = (racing.unordered.0, λ r. racing.unordered.1 (reaches_longer es fs i j r));
  apart = racing.apart;
}

pub reported_longer : (es fs : List Event) (j : ℕ) → j < length es → IsReported es j → IsReported (es ++ fs) j
reported_longer es fs j inside is = (is.0, racing_longer es fs is.0 j inside is.1)

pub reported_shorter : (es fs : List Event) (j : ℕ) → j < length es → IsReported (es ++ fs) j → IsReported es j
reported_shorter es fs j inside is = (is.0, racing_shorter es fs is.0 j inside is.1)
