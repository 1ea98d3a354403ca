-- What is kept of calls.
use Rattle.std.proofs.Common.{◌≡◌, ◌⊎◌, inl, inr, ℕ, ◌<◌, List, [], ◌∷◌, ◌++◌, length, Option, Some, sym, ap, subst, ◌∙◌, arith}
use Rattle.std.specs.Prelude.{slice_get, unwrap_or, option_and_then}
use Rattle.std.proofs.lemmas.Bool.{cases_lt}
use Rattle.std.proofs.lemmas.Option.{slice_get_within}
use Rattle.rd_event.specs.declared.events.Call.{Call as CallOf}
use Rattle.rd_event.specs.declared.events.Event.{Event}
use Rattle.rd_event.specs.declared.events.Event.TheVariants.{Call}
use Rattle.rd_clock.specs.Clock.{component}
use Rattle.rd_clock.specs.declared.clock.Stamp.{Stamp}
use Rattle.rd_hb.specs.Tracker.{IsStamp}
use Rattle.rd_hb.proofs.ClockLemmas.{clock_longer, own_number_longer}
use Rattle.rd_order.specs.Order.{call_in}
use Rattle.rd_order.proofs.OrderLemmas.{at_front, at_end, length_more}
use Rattle.rd_store.specs.declared.Witness.{Witness}
use Rattle.rd_detect.specs.Detect.{IsWitness}

-- ---- lists

-- one value stands at a place
pub same_at : {X : Type 0} (o : Option X) (a b : X) → o ≡ Some a → o ≡ Some b → a ≡ b
same_at o a b is_a is_b = ap (λ o. unwrap_or o a) (sym is_a ∙ is_b)

-- one call stands at a place
pub same_call : (o : Option Event) (a b : CallOf) → o ≡ Some (Call a) → o ≡ Some (Call b) → a ≡ b
same_call o a b is_a is_b = ap (λ o. unwrap_or (option_and_then call_in o) a) (sym is_a ∙ is_b)

-- what stands in a list with one more is in front, or it is the last
pub at_more : {X : Type 0} (xs : List X) (y x : X) (k : ℕ) → slice_get (xs ++ y ∷ []) k ≡ Some x
    → ((k < length xs) × (slice_get xs k ≡ Some x)) ⊎ ((k ≡ length xs) × (x ≡ y))
at_more xs y x k is =
    let inside = slice_get_within (xs ++ y ∷ []) k x is in
    elim (cases_lt k (length xs)) [
      | inl before ↦ inl (before, sym (at_front xs (y ∷ []) k before) ∙ is)
      | inr past ↦
          let last : k ≡ length xs = omega (arith, past, inside, length_more xs y) in
          inr (last, same_at (slice_get (xs ++ y ∷ []) k) x y is (ap (slice_get (xs ++ y ∷ [])) last ∙ at_end xs y))
    ]

-- ---- a call that is kept

-- it stays where it is when events are appended
pub witness_longer : (lines more : List ℕ) (es fs : List Event) (witness : Witness) → length lines ≡ length es → IsWitness lines es witness
    → IsWitness (lines ++ more) (es ++ fs) witness
witness_longer lines more es fs witness lengths is = record {
  call = at_front es fs witness.place inside ∙ is.call;
  line = at_front lines more witness.place (omega (arith, inside, lengths)) ∙ is.line;
  stamp = record {
    thread = λ e at. is.stamp.thread e (sym (at_front es fs witness.place inside) ∙ at);
    number = (own_number_longer es fs witness.stamp.thread witness.place witness.stamp.number inside).0 is.stamp.number;
    clock = λ u. (clock_longer es fs witness.place u (component witness.stamp.clock u) inside).0 (is.stamp.clock u);
  };
}
  where
    inside : witness.place < length es
    inside = slice_get_within es witness.place (Call witness.call) is.call

-- the next call, as it is kept
pub newest_witness : (lines : List ℕ) (es : List Event) (call : CallOf) (stamp : Stamp) (line place : ℕ) → length lines ≡ length es → place ≡ length es
    → IsStamp (es ++ Call call ∷ []) (length es) stamp
    → IsWitness (lines ++ line ∷ []) (es ++ Call call ∷ []) (record { line = line; place = place; call = call; stamp = stamp })
newest_witness lines es call stamp line place lengths last stamped = record {
  call = ap (slice_get (es ++ Call call ∷ [])) last ∙ at_end es (Call call);
  line = ap (slice_get (lines ++ line ∷ [])) (last ∙ sym lengths) ∙ at_end lines line;
  stamp = subst (λ i. IsStamp (es ++ Call call ∷ []) i stamp) (sym last) stamped;
}
