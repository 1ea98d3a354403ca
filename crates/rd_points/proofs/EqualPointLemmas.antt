-- The test of equal points finds exactly the equal ones.
use Rattle.std.proofs.Common.{◌≡◌, ℕ, Bool, ◌&&◌, ◌==◌, refl, ap, sym, Decides, Option, None, Some}
use Rattle.std.specs.Option.{option_eq}
use Rattle.std.proofs.lemmas.Bool.{true≢false, and_parts, and_from, eqb-true, eq-eqb}
use Rattle.std.proofs.lemmas.Bool.Decides.{Decides-like}
use Rattle.rd_base.specs.declared.values.Value.{Value}
use Rattle.rd_base.specs.contracts.values.ValuePartialEq.TheImpl as value_eq
use Rattle.rd_points.specs.PointLists.{same_point}
use Rattle.rd_points.specs.declared.points.Point.{Point}

-- the test of equal values
abbrev equal : Value → Value → Bool
equal = (value_eq.ghosts).eq

abbrev pub ValuesDecide : Type 0
ValuesDecide = (a b : Value) → Decides (equal a b) (a ≡ b)

some_values : ValuesDecide → (a b : Option Value) → Decides (option_eq equal a b) (a ≡ b)
some_values values None None = (λ h. refl, λ h. refl)
some_values values None (Some b) = (λ h. absurd (true≢false (sym h)), λ h. cc)
some_values values (Some a) None = (λ h. absurd (true≢false (sym h)), λ h. cc)
some_values values (Some a) (Some b) = Decides-like _ (λ e. ap Some e) (λ e. cc) (values a b)

abbrev point : ℕ → ℕ → Option Value → Point
point object class value = record { object = object; class = class; value = value }

of_parts : (o o' c c' : ℕ) (v v' : Option Value) → o ≡ o' → c ≡ c' → v ≡ v' → point o c v ≡ point o' c' v'
of_parts o o' c c' v v' e f g = rw (e, f, g) refl

pub point_decides : ValuesDecide → (a b : Point) → Decides (same_point a b) (a ≡ b)
unfolding same_point
point_decides values a b = (
  λ h.
      let rest = and_parts (a.object == b.object) ((a.class == b.class) && option_eq equal a.value b.value) h in
      let more = and_parts (a.class == b.class) (option_eq equal a.value b.value) rest.1 in
      of_parts a.object b.object a.class b.class a.value b.value (eqb-true a.object b.object rest.0) (eqb-true a.class b.class more.0) ((some_values values a.value b.value).0 more.1),
  λ e. and_from (a.object == b.object) ((a.class == b.class) && option_eq equal a.value b.value) (eq-eqb a.object b.object (ap (λ (x : Point). x.object) e))
      (and_from (a.class == b.class) (option_eq equal a.value b.value) (eq-eqb a.class b.class (ap (λ (x : Point). x.class) e))
      ((some_values values a.value b.value).1 (ap (λ (x : Point). x.value) e))),
)
