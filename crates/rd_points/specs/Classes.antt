-- Classes of access points, by their numbers, and which of them conflict: this project's profile, after Dimitrov, Raychev, Vechev and
-- Koskinen 2014.
use Rattle.std.specs.Prelude.{◌+◌, ◌*◌, ◌^◌, ℕ, zero, suc, Bool, true, false, ◌&&◌, ◌||◌, nat_le, if◌then◌else◌, List, [], ◌∷◌, ◌++◌, length, map, Option, Some, None, unwrap_or}
use Rattle.std.specs.List.{range_with_len}
use Rattle.rd_base.specs.declared.values.Value.{Value}
use Rattle.rd_ecl.specs.declared.formulas.Predicate.{Predicate}
use Rattle.rd_ecl.specs.declared.reduction.Reduced.{Reduced}
use Rattle.rd_ecl.specs.declared.reduction.Reduced.TheVariants.{True, False, Pairs}
use Rattle.rd_ecl.specs.Formulas.{truth}
use Rattle.rd_ecl.specs.Reduction.{predicate_holds, reduce_of}
use Rattle.rd_ecl.specs.SlotPairs.{has_pair}
use Rattle.rd_ecl.specs.Specified.{SpecifiedKind, formula_at, method_predicates, slots_at}
use Rattle.rd_points.specs.declared.classes.Class.{Class}

-- ---- valuations

-- how many valuations a method has, possible or not: two for each predicate
abbrev pub valuations : SpecifiedKind → ℕ → ℕ
valuations kind m = 2 ^ length (method_predicates kind m)

-- the valuation of a call: the truth values of the predicates on its slots, the first in the lowest bit
abbrev pub bits_of : List Predicate → List Value → ℕ
bits_of [] slots = 0
bits_of (p ∷ ps) slots = (if predicate_holds p slots then 1 else 0) + 2 * bits_of ps slots

-- ---- the classes

-- the lists for 0, 1, .. below n, one behind another
abbrev pub joined : {X : Type 0} → (ℕ → List X) → ℕ → List X
joined f zero = []
joined f (suc n) = joined f n ++ f n

-- none, then the slots
abbrev pub slot_at : ℕ → Option ℕ
slot_at zero = None
slot_at (suc i) = Some i

-- the classes of a method with a valuation: the plain one, then one for each slot
abbrev pub valuation_classes : SpecifiedKind → ℕ → ℕ → List Class
valuation_classes kind m bits = map (λ i. record { method = m; bits = bits; slot = slot_at i }) (range_with_len 0 (slots_at kind.methods m + 1))

-- those of a method, by valuation
abbrev pub method_classes : SpecifiedKind → ℕ → List Class
method_classes kind m = joined (valuation_classes kind m) (valuations kind m)

-- those of a kind, by method: the class with number i stands at place i
abbrev pub classes_of : SpecifiedKind → List Class
classes_of kind = joined (method_classes kind) (length kind.methods)

-- the number of the plain class of a method with a valuation: how many classes stand before it
abbrev pub first_class : SpecifiedKind → ℕ → ℕ → ℕ
first_class kind m bits = length (joined (method_classes kind) m) + length (joined (valuation_classes kind m) bits)

-- ---- conflicts

-- the formula of two methods, the first not behind the second, where their predicates have these valuations
abbrev pub reduced_pair : SpecifiedKind → ℕ → ℕ → ℕ → ℕ → Reduced
reduced_pair kind m v n w = reduce_of (unwrap_or (formula_at kind m n) (truth true)) (method_predicates kind m) v (method_predicates kind n) w

-- two plain classes clash where the reduction is false, two valued ones where it lists their slots, a plain and a valued one never
abbrev pub clash : Reduced → Option ℕ → Option ℕ → Bool
clash True s t = false
clash False None None = true
clash False None (Some t) = false
clash False (Some s) t = false
clash (Pairs pairs) (Some s) (Some t) = has_pair (s, t) pairs
clash (Pairs pairs) (Some s) None = false
clash (Pairs pairs) None t = false

-- the first class on side 1, the second on side 2
abbrev pub clashes : SpecifiedKind → Class → Class → Bool
clashes kind c d = clash (reduced_pair kind c.method c.bits d.method d.bits) c.slot d.slot

-- two classes conflict: they clash with the one on side 1 whose method is declared first, for one method with either there
abbrev pub classes_conflict : SpecifiedKind → Class → Class → Bool
classes_conflict kind c d = (nat_le c.method d.method && clashes kind c d) || (nat_le d.method c.method && clashes kind d c)
