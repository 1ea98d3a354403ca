-- Formulas of which the relations on one side have truth values: this project's profile, after Dimitrov, Raychev, Vechev and Koskinen 2014.
use Rattle.std.specs.Prelude.{◌≡◌, ◌≤◌, ◌==◌, ℕ, Bool, true, false, not, List, [], ◌∷◌, length, Option, Some, slice_get, IsSome, position, ⊤}
use Rattle.std.specs.List.{list_all}
use Rattle.std.specs.Option.{option_map_or}
use Rattle.std.specs.Int.{bit_at}
use Rattle.rd_base.specs.declared.values.Value.{Value}
use Rattle.rd_ecl.specs.declared.formulas.Side.TheVariants.{First, Second}
use Rattle.rd_ecl.specs.declared.formulas.Rel.{Rel}
use Rattle.rd_ecl.specs.declared.formulas.Rel.TheVariants.{Eq}
use Rattle.rd_ecl.specs.declared.formulas.Term.{Term}
use Rattle.rd_ecl.specs.declared.formulas.Predicate.{Predicate}
use Rattle.rd_ecl.specs.Formulas.{Tree, truth, atom, cross, mixed, negation, both, either, holds, relate, same_predicate, term_value}
use Rattle.rd_ecl.specs.declared.reduction.Reduced.{Reduced}
use Rattle.rd_ecl.specs.declared.reduction.Reduced.TheVariants.{True, False, Pairs}
use Rattle.rd_ecl.specs.SlotPairs.{IsRising, union_pairs}

-- a relation, without its side
abbrev pub predicate_of : Rel → Term → Term → Predicate
predicate_of rel left right = record { rel = rel; left = left; right = right }

-- what a predicate says of a call with these slots
abbrev pub predicate_holds : Predicate → List Value → Bool
predicate_holds p slots = relate p.rel (term_value p.left slots) (term_value p.right slots)

-- where a predicate stands among these
abbrev pub place_in : List Predicate → Predicate → Option ℕ
place_in predicates p = position (same_predicate p) predicates

-- the truth value of a predicate: the bit with the number of its place
abbrev pub truth_in : List Predicate → ℕ → Predicate → Bool
truth_in predicates bits p = option_map_or (λ i. bit_at bits i == 1) (place_in predicates p) false

abbrev pub constant : Bool → Reduced
constant true = True
constant false = False

abbrev pub flipped : Reduced → Reduced
flipped True = False
flipped False = True
flipped (Pairs pairs) = Pairs pairs

-- false where a part is false, else the pairs of both, and true where there are none
abbrev pub of_both : Reduced → Reduced → Reduced
of_both False y = False
of_both True y = y
of_both (Pairs xs) False = False
of_both (Pairs xs) True = Pairs xs
of_both (Pairs xs) (Pairs ys) = Pairs (union_pairs xs ys)

-- true where a part is true, else the pairs of the parts, and false where there are none
abbrev pub of_either : Reduced → Reduced → Reduced
of_either True y = True
of_either False y = y
of_either (Pairs xs) True = True
of_either (Pairs xs) False = Pairs xs
of_either (Pairs xs) (Pairs ys) = Pairs (union_pairs xs ys)

-- the formula where side 1's predicates p have the bits v, and side 2's predicates q the bits w
abbrev pub reduce_of : Tree → List Predicate → ℕ → List Predicate → ℕ → Reduced
reduce_of (truth value) p v q w = constant value
reduce_of (atom First rel l r) p v q w = constant (truth_in p v (predicate_of rel l r))
reduce_of (atom Second rel l r) p v q w = constant (truth_in q w (predicate_of rel l r))
reduce_of (cross first second) p v q w = Pairs ((first, second) ∷ [])
reduce_of (mixed rel turned first second) p v q w = False
reduce_of (negation f) p v q w = flipped (reduce_of f p v q w)
reduce_of (both f g) p v q w = of_both (reduce_of f p v q w) (reduce_of g p v q w)
reduce_of (either f g) p v q w = of_either (reduce_of f p v q w) (reduce_of g p v q w)

-- the formula's relations on one side are among the predicates of their sides
abbrev pub AreListed : Tree → List Predicate → List Predicate → Type 0
AreListed (truth value) p q = ⊤
AreListed (atom First rel l r) p q = IsSome (place_in p (predicate_of rel l r))
AreListed (atom Second rel l r) p q = IsSome (place_in q (predicate_of rel l r))
AreListed (cross first second) p q = ⊤
AreListed (mixed rel turned first second) p q = ⊤
AreListed (negation f) p q = AreListed f p q
AreListed (both f g) p q = AreListed f p q × AreListed g p q
AreListed (either f g) p q = AreListed f p q × AreListed g p q

-- in a call with these slots the predicates have these bits
abbrev pub HaveBits : List Predicate → ℕ → List Value → Type 0
HaveBits predicates bits slots = (i : ℕ) (p : Predicate) → slice_get predicates i ≡ Some p → predicate_holds p slots ≡ (bit_at bits i == 1)

-- slot i of the one call differs from slot j of the other
abbrev pub differ : List Value → List Value → ℕ → ℕ → Bool
differ a b i j = not (relate Eq (slice_get a i) (slice_get b j))

-- what a reduced formula says of two calls: each listed pair of slots differs
abbrev pub means : Reduced → List Value → List Value → Bool
means True a b = true
means False a b = false
means (Pairs pairs) a b = list_all (λ pair. differ a b pair.0 pair.1) pairs

-- the reduced formula says what the formula says, of all calls in which the predicates have these bits
abbrev pub Reduces : Tree → List Predicate → ℕ → List Predicate → ℕ → Reduced → Type 0
Reduces f p v q w r = (a b : List Value) → HaveBits p v a → HaveBits q w b → holds f a b ≡ means r a b

-- where pairs are left, there is one, and they rise
abbrev pub AreRising : Reduced → Type 0
AreRising r = (pairs : List (ℕ × ℕ)) → r ≡ Pairs pairs → (1 ≤ length pairs) × IsRising pairs
