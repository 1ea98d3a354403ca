-- The classes at their numbers.
use Rattle.std.proofs.Common.{◌≡◌, ◌+◌, ◌*◌, ◌^◌, ◌<◌, ◌≤◌, ◌⊎◌, ℕ, zero, suc, Bool, true, false, ◌&&◌, ◌||◌, cond, List, [], ◌∷◌, ◌++◌, length, map, Option, Some, None, refl, sym, ap, ◌∙◌, arith, inl, inr, subst}
use Rattle.std.specs.Prelude.{nat_le, slice_get, option_map, unwrap_or}
use Rattle.std.specs.List.{range_with_len}
use Rattle.std.proofs.Math.Nat.{pow-le-pow_right}
use Rattle.std.proofs.lemmas.List.{length-append}
use Rattle.std.proofs.lemmas.List.FromFn.{length-map-range_with_len, get_or-map-range_with_len}
use Rattle.std.proofs.lemmas.Option.{none-some, get_or_from_slice_get, slice_get-get_or, slice_get_within}
use Rattle.rd_base.specs.declared.values.Value.{Value}
use Rattle.rd_ecl.specs.declared.formulas.Predicate.{Predicate}
use Rattle.rd_ecl.specs.declared.kinds.Method.{Method}
use Rattle.rd_ecl.specs.Reduction.{predicate_holds}
use Rattle.rd_ecl.specs.Specified.{IsKind, IsMethod, SpecifiedKind, method_predicates, slots_at}
use Rattle.rd_points.specs.declared.classes.Class.{Class}
use Rattle.rd_points.specs.Classes.{bits_of, classes_conflict, classes_of, clashes, first_class, joined, method_classes, slot_at, valuation_classes, valuations}

-- ---- lists

module _ {X : Type 0} where
  pub get_left : (xs ys : List X) (i : ℕ) (x : X) → slice_get xs i ≡ Some x → slice_get (xs ++ ys) i ≡ Some x
  get_left [] ys i x at = absurd (none-some x at)
  get_left (y ∷ xs) ys zero x at = at
  get_left (y ∷ xs) ys (suc i) x at = get_left xs ys i x at

  pub get_right : (xs ys : List X) (i : ℕ) → slice_get (xs ++ ys) (length xs + i) ≡ slice_get ys i
  get_right [] ys i = ap (slice_get ys) (let e : 0 + i ≡ i = omega arith in e)
  get_right (x ∷ xs) ys i = ap (slice_get (x ∷ (xs ++ ys))) (let e : suc (length xs) + i ≡ suc (length xs + i) = omega arith in e) ∙ get_right xs ys i

  pub get_in_map : (f : ℕ → X) (n i : ℕ) → i < n → slice_get (map f (range_with_len 0 n)) i ≡ Some (f i)
  get_in_map f n i h =
      slice_get-get_or (map f (range_with_len 0 n)) i (f i) (omega (arith, length-map-range_with_len f 0 n))
      ∙ ap Some (get_or-map-range_with_len f 0 n i i (f i) h (omega arith))

  module _ (f : ℕ → List X) where
    -- a list among those that are joined
    pub joined_at : (n m i : ℕ) (x : X) → m < n → slice_get (f m) i ≡ Some x → slice_get (joined f n) (length (joined f m) + i) ≡ Some x
    joined_at zero m i x h at = absurd (omega arith)
    joined_at (suc n) m i x h at = by (before_or_last m n h) (λ before. joined_at n m i x before at)
      where
        before_or_last : (m n : ℕ) → m < suc n → (m < n) ⊎ (m ≡ n)
        before_or_last m n h = by_test (nat_le n m) refl
          where
            by_test : (b : Bool) → nat_le n m ≡ b → (m < n) ⊎ (m ≡ n)
            by_test true e = inr (grind arith)
            by_test false e = inl (grind arith)

        by : (m < n) ⊎ (m ≡ n) → (m < n → slice_get (joined f n) (length (joined f m) + i) ≡ Some x) → slice_get (joined f n ++ f n) (length (joined f m) + i) ≡ Some x
        by (inl before) rest = get_left (joined f n) (f n) (length (joined f m) + i) x (rest before)
        by (inr last) rest = subst (λ k. slice_get (joined f n ++ f n) (length (joined f k) + i) ≡ Some x) (sym last)
            (get_right (joined f n) (f n) i ∙ subst (λ k. slice_get (f k) i ≡ Some x) last at)

    -- how long they are together
    pub length-joined : (n most : ℕ) → ((m : ℕ) → m < n → length (f m) ≤ most) → length (joined f n) ≤ n * most
    length-joined zero most h = omega arith
    length-joined (suc n) most h =
        let rest : length (joined f n) ≤ n * most = length-joined n most (λ m before. h m (omega (arith, before))) in
        let last : length (f n) ≤ most = h n (omega arith) in
        let both : length (joined f n ++ f n) ≡ length (joined f n) + length (f n) = length-append (joined f n) (f n) in
        let product : suc n * most ≡ n * most + most = grind arith in
        omega arith

-- ---- the classes of a kind

pub class_at : (kind : SpecifiedKind) (m bits i : ℕ) → m < length kind.methods → bits < valuations kind m → i < slots_at kind.methods m + 1
    → slice_get (classes_of kind) (first_class kind m bits + i) ≡ Some (record { method = m; bits = bits; slot = slot_at i })
class_at kind m bits i known possible within =
    let class : ℕ → Class = λ i. record { method = m; bits = bits; slot = slot_at i } in
    let block : slice_get (valuation_classes kind m bits) i ≡ Some (class i) = get_in_map class (slots_at kind.methods m + 1) i within in
    let method = joined_at (valuation_classes kind m) (valuations kind m) bits i (class i) possible block in
    let sum : first_class kind m bits + i ≡ length (joined (method_classes kind) m) + (length (joined (valuation_classes kind m) bits) + i) = omega arith in
    subst (λ k. slice_get (classes_of kind) k ≡ Some (class i)) (sym sum)
    (joined_at (method_classes kind) (length kind.methods) m (length (joined (valuation_classes kind m) bits) + i) (class i) known method)

-- a call's valuation is one of those of its method
pub bits_below : (ps : List Predicate) (slots : List Value) → bits_of ps slots < 2 ^ length ps
bits_below [] slots = omega arith
bits_below (p ∷ ps) slots = by (predicate_holds p slots) (bits_below ps slots)
  where
    by : (b : Bool) → bits_of ps slots < 2 ^ length ps → cond b 1 0 + 2 * bits_of ps slots < 2 ^ suc (length ps)
    by true h = grind arith
    by false h = grind arith

-- classes conflict with each other
pub conflict_turned : (kind : SpecifiedKind) (c d : Class) → classes_conflict kind c d ≡ classes_conflict kind d c
conflict_turned kind c d = turned (nat_le c.method d.method && clashes kind c d) (nat_le d.method c.method && clashes kind d c)
  where
    turned : (x y : Bool) → (x || y) ≡ (y || x)
    turned true true = refl
    turned true false = refl
    turned false true = refl
    turned false false = refl

-- ---- how many there are

pub slots_few : (kind : SpecifiedKind) → IsKind kind → (m : ℕ) → slots_at kind.methods m ≤ 7
slots_few kind is m = by (slice_get kind.methods m) refl
  where
    by : (o : Option Method) → slice_get kind.methods m ≡ o → unwrap_or (option_map (λ method. length method.variables) o) 0 ≤ 7
    by None e = omega arith
    by (Some method) e =
        let known : m < length kind.methods = slice_get_within kind.methods m method e in
        let found : IsMethod method = subst IsMethod (get_or_from_slice_get kind.methods m method method e) (is.draft.methods.each m method known) in
        let few : length method.variables ≤ 7 = found.few in few

pub valuations_few : (kind : SpecifiedKind) → IsKind kind → (m : ℕ) → valuations kind m ≤ 32
valuations_few kind is m =
    let few : length (method_predicates kind m) ≤ 5 = is.draft.pairs.few m in
    let some : 0 < 2 = omega arith in
    pow-le-pow_right some few

pub classes_few : (kind : SpecifiedKind) → IsKind kind → length (classes_of kind) ≤ 4096
classes_few kind is =
    let class : ℕ → ℕ → ℕ → Class = λ m bits i. record { method = m; bits = bits; slot = slot_at i } in
    let block : (m bits : ℕ) → length (valuation_classes kind m bits) ≤ 8 = λ m bits.
    omega (arith, length-map-range_with_len (λ i. class m bits i) 0 (slots_at kind.methods m + 1), slots_few kind is m) in
    let method : (m : ℕ) → length (method_classes kind m) ≤ 256 = λ m.
    (let l = length-joined (valuation_classes kind m) (valuations kind m) 8 (λ bits h. block m bits) in
    let v = valuations_few kind is m in omega arith) in
    let all = length-joined (method_classes kind) (length kind.methods) 256 (λ m h. method m) in
    let few : length kind.methods ≤ 16 = is.draft.methods.few in
    omega arith
