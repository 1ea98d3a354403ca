-- A point whose value is lent stands for the point.
use Rattle.std.specs.Prelude.{◌≡◌, ℕ, IsTrue, Option, Some, None, option_map}
use Rattle.std.specs.Borrow.{Bor}
use Rattle.std.proofs.Common.{refl, sym, ◌∙◌}
use Rattle.rd_base.specs.declared.values.Value.{Value}
use Rattle.rd_points.specs.PointLists.{point_input}
use Rattle.rd_points.specs.declared.points.Point.{Point}
use Rattle.rd_points.specs.contracts.points.PointPartialEq.TheImpl as point_eq
use Rattle.rd_points.specs.contracts.points.PointEq.TheImpl.Laws as point_laws
use Rattle.rd_points.specs.laws.PointLaws.{hashed_alike}
use Rattle.rd_store.specs.Lent.{lent_point}
use Rattle.rd_store.specs.contracts.lent.PointRefPartialEq.TheImpl as ref_eq
use Rattle.rd_store.specs.declared.lent.PointRef.{PointRef}

abbrev lent : ℕ → ℕ → Option (Bor Value) → PointRef
lent object class value = record { object = object; class = class; value = value }

-- the code compares them as it compares the points
same_test : (q r : PointRef) → ref_eq.ghosts.eq q r ≡ point_eq.ghosts.eq (lent_point q) (lent_point r)
same_test q r = by q.value r.value
  where
    by : (v w : Option (Bor Value)) → ref_eq.ghosts.eq (lent q.object q.class v) (lent r.object r.class w) ≡ point_eq.ghosts.eq (lent_point (lent q.object q.class v)) (lent_point (lent r.object r.class w))
    by None None = refl
    by None (Some w) = refl
    by (Some v) None = refl
    by (Some v) (Some w) = refl

pub refs_hashed : (q r : PointRef) → IsTrue (ref_eq.ghosts.eq q r)
    → point_input q.object q.class (option_map (λ value. value.now) q.value) ≡ point_input r.object r.class (option_map (λ value. value.now) r.value)
refs_hashed q r same = hashed_alike (lent_point q) (lent_point r) (sym (same_test q r) ∙ same)

pub hashed : (q : PointRef) (p : Point) → IsTrue (point_eq.ghosts.eq (lent_point q) p)
    → point_input q.object q.class (option_map (λ value. value.now) q.value) ≡ point_input p.object p.class p.value
hashed q p same = hashed_alike (lent_point q) p same

pub equal : (q : PointRef) (x y : Point) → IsTrue (point_eq.ghosts.eq (lent_point q) x) → point_eq.ghosts.eq (lent_point q) y ≡ point_eq.ghosts.eq x y
equal q x y same = point_laws.laws-law.congr (lent_point q) x y same
