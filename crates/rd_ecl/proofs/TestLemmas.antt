-- The test of a pair's formula finds only those that may be set.
use Rattle.std.proofs.Common.{◌≡◌, ℕ, ◌<◌, ◌^◌, List, pos, negsuc, true, refl, is_none, length, Option, Some, None}
use Rattle.std.specs.Prelude.{nat_le, nat_lt, IsTrue, All}
use Rattle.std.specs.List.{list_all}
use Rattle.std.proofs.lemmas.Bool.{and_parts, leb-true, ltb-true}
use Rattle.std.proofs.lemmas.List.Sums.{AllPass-from_list_all}
use Rattle.rd_base.specs.Spelling.{IsValue}
use Rattle.rd_base.specs.declared.values.Value.{Value}
use Rattle.rd_base.specs.declared.values.Value.TheVariants.{Nil, Bool as Boolean, Int, Text}
use Rattle.rd_ecl.specs.declared.formulas.Term.{Term}
use Rattle.rd_ecl.specs.declared.formulas.Term.TheVariants.{Slot, Const}
use Rattle.rd_ecl.specs.Formulas.{Tree, truth, atom, cross, mixed, negation, both, either, AreValues, Fits, FitsTerm, IsConstant, are_values, is_constant, is_value, formula_fits, term_fits, of_side, has_slots, post_order, first_offence, nodes, levels}
use Rattle.rd_ecl.specs.Specified.{SpecifiedKind, IsPair, MayPair, formula_at, is_pair, may_pair, method_predicates, slots_at, with_pair}
use Rattle.rd_ecl.proofs.FragmentLemmas.{inside}
use Rattle.rd_base.specs.declared.limits.TheConstants.{MOST_LEVELS, MOST_NODES, MOST_PREDICATES}

fits_term : (t : Term) (n : ℕ) → term_fits t n ≡ true → FitsTerm t n
fits_term (Slot number) n e = ltb-true number n e
fits_term (Const value) n e = tt

fits : (f : Tree) (m n : ℕ) → formula_fits f m n ≡ true → Fits f m n
fits (truth value) m n e = tt
fits (atom side rel left right) m n e =
    let h = and_parts (term_fits left (of_side side m n)) (term_fits right (of_side side m n)) e in
    (fits_term left (of_side side m n) h.0, fits_term right (of_side side m n) h.1)
fits (cross first second) m n e = let h = and_parts (nat_lt first m) (nat_lt second n) e in (ltb-true first m h.0, ltb-true second n h.1)
fits (mixed rel flipped first second) m n e = let h = and_parts (nat_lt first m) (nat_lt second n) e in (ltb-true first m h.0, ltb-true second n h.1)
fits (negation f) m n e = fits f m n e
fits (both f g) m n e = let h = and_parts (formula_fits f m n) (formula_fits g m n) e in (fits f m n h.0, fits g m n h.1)
fits (either f g) m n e = let h = and_parts (formula_fits f m n) (formula_fits g m n) e in (fits f m n h.0, fits g m n h.1)

bytes_by : (text : List ℕ) → list_all (λ b. nat_lt b 256) text ≡ true → All (λ b. b < 256) text
bytes_by text e k d inside = ltb-true _ 256 (AllPass-from_list_all (λ b. nat_lt b 256) text e k d inside)

value_by : (v : Value) → is_value v ≡ true → IsValue v
value_by Nil e = tt
value_by (Boolean flag) e = tt
value_by (Int (pos n)) e = record { sfits = ltb-true n (2 ^ 63) e }
value_by (Int (negsuc n)) e = record { sfits = ltb-true n (2 ^ 63) e }
value_by (Text text) e =
    let h = and_parts (nat_le (length text) 255) (list_all (λ b. nat_lt b 256) text) e in
    record { few = leb-true (length text) 255 h.0; each = bytes_by text h.1 }

constant_by : (t : Term) → is_constant t ≡ true → IsConstant t
constant_by (Slot number) e = tt
constant_by (Const value) e = value_by value e

values_by : (f : Tree) → are_values f ≡ true → AreValues f
values_by (truth value) e = tt
values_by (atom side rel left right) e =
    let h = and_parts (is_constant left) (is_constant right) e in
    (constant_by left h.0, constant_by right h.1)
values_by (cross first second) e = tt
values_by (mixed rel flipped first second) e = tt
values_by (negation f) e = values_by f e
values_by (both f g) e = let h = and_parts (are_values f) (are_values g) e in (values_by f h.0, values_by g h.1)
values_by (either f g) e = let h = and_parts (are_values f) (are_values g) e in (values_by f h.0, values_by g h.1)

pair_by : (f : Tree) (m n : ℕ) → is_pair f m n ≡ true → IsPair f m n
pair_by f m n e =
    let h = and_parts (formula_fits f m n) _ e in
    let k = and_parts (has_slots f) _ h.1 in
    let v = and_parts (are_values f) _ k.1 in
    let l = and_parts (is_none (first_offence 0 (post_order f))) _ v.1 in
    let s = and_parts (nat_le (nodes f) MOST_NODES) (nat_le (levels f) MOST_LEVELS) l.1 in
    record {
      fits = fits f m n h.0;
      slots = k.0;
      values = values_by f v.0;
      inside = inside f l.0;
      few = leb-true (nodes f) MOST_NODES s.0;
      shallow = leb-true (levels f) MOST_LEVELS s.1;
    }

unset_by : (o : Option Tree) → is_none o ≡ true → o ≡ None
unset_by None e = refl
unset_by (Some f) e = absurd (cc)

pub may_by : (kind : SpecifiedKind) (first second : ℕ) (f : Tree) → IsTrue (may_pair kind first second f) → MayPair kind first second f
may_by kind first second f e =
    let h = and_parts (nat_le first second) _ e in
    let k = and_parts (nat_lt second (length kind.methods)) _ h.1 in
    let l = and_parts (is_none (formula_at kind first second)) _ k.1 in
    let p = and_parts (is_pair f (slots_at kind.methods first) (slots_at kind.methods second)) _ l.1 in
    let s = and_parts (nat_le (length (method_predicates (with_pair kind first second f) first)) MOST_PREDICATES) (nat_le (length (method_predicates (with_pair kind first second f) second)) MOST_PREDICATES) p.1 in
    record {
      ordered = leb-true first second h.0;
      known = ltb-true second (length kind.methods) k.0;
      unset = unset_by (formula_at kind first second) l.0;
      pair = pair_by f (slots_at kind.methods first) (slots_at kind.methods second) p.0;
      few_first = leb-true (length (method_predicates (with_pair kind first second f) first)) MOST_PREDICATES s.0;
      few_second = leb-true (length (method_predicates (with_pair kind first second f) second)) MOST_PREDICATES s.1;
    }
