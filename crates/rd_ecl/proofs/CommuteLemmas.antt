-- Two calls commute in either order, by the formula of their pair.
use Rattle.std.proofs.Common.{◌≡◌, ℕ, ◌<◌, Bool, true, false, not, ◌&&◌, ◌||◌, List, refl, ◌∙◌, arith}
use Rattle.std.specs.Prelude.{nat_le}
use Rattle.std.proofs.lemmas.Bool.{le-leb, lt-leb}
use Rattle.rd_base.specs.declared.values.Value.{Value}
use Rattle.rd_ecl.specs.Specified.{SpecifiedKind, commutes, pair_holds}

turned : (x y : Bool) → (x && y) ≡ (y && x)
turned true true = refl
turned true false = refl
turned false true = refl
turned false false = refl

first_asked : (x y p q : Bool) → x ≡ true → y ≡ false → ((not x || p) && (not y || q)) ≡ p
first_asked true false true q e h = refl
first_asked true false false q e h = refl
first_asked true true p q e h = absurd (cc)
first_asked false y p q e h = absurd (cc)

both_asked : (x p q : Bool) → x ≡ true → ((not x || p) && (not x || q)) ≡ (p && q)
both_asked true p q e = refl
both_asked false p q e = absurd (cc)

pub symmetric : (kind : SpecifiedKind) (m n : ℕ) (a b : List Value) → commutes kind m a n b ≡ commutes kind n b m a
symmetric kind m n a b = turned (not (nat_le m n) || pair_holds kind m n a b) (not (nat_le n m) || pair_holds kind n m b a)

pub straight : (kind : SpecifiedKind) (m n : ℕ) (a b : List Value) → m < n → commutes kind m a n b ≡ pair_holds kind m n a b
straight kind m n a b h =
    first_asked (nat_le m n) (nat_le n m) (pair_holds kind m n a b) (pair_holds kind n m b a) (le-leb m n (omega arith)) (lt-leb n m h)

pub behind : (kind : SpecifiedKind) (m n : ℕ) (a b : List Value) → n < m → commutes kind m a n b ≡ pair_holds kind n m b a
behind kind m n a b h = symmetric kind m n a b ∙ straight kind n m b a h

pub alike : (kind : SpecifiedKind) (m : ℕ) (a b : List Value) → commutes kind m a m b ≡ (pair_holds kind m m a b && pair_holds kind m m b a)
alike kind m a b = both_asked (nat_le m m) (pair_holds kind m m a b) (pair_holds kind m m b a) (le-leb m m (omega arith))
