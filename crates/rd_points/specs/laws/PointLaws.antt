-- Points that are equal are hashed alike.
use Rattle.std.specs.Prelude.{◌≡◌, ℕ, ◌+◌, ◌*◌, ◌++◌, ◌∷◌, [], ◌==◌, ◌&&◌, true, IsTrue, Option, Some, None}
use Rattle.std.proofs.Common.{refl, ap, sym}
use Rattle.std.specs.Hash as fed
use Rattle.std.specs.Option.{option_eq}
use Rattle.std.specs.Cmp.Lexicographic.{bytes_decides}
use Rattle.std.proofs.lemmas.Bool.{true≢false, and_parts, eqb-true}
use Rattle.std.proofs.lemmas.Bool.Decides.{Decides-int_eq}
use Rattle.rd_base.specs.Hashing.{text_input}
use Rattle.rd_base.specs.declared.values.Value.{Value}
use Rattle.rd_base.specs.declared.values.Value.TheVariants.{Nil, Bool as Truth, Int, Text}
use Rattle.rd_base.specs.contracts.values.ValuePartialEq.TheImpl as value_eq
use Rattle.rd_points.specs.PointLists.{point_input, value_input}
use Rattle.rd_points.specs.contracts.points.PointPartialEq.TheImpl as point_eq
use Rattle.rd_points.specs.declared.points.Point.{Point}

some_alike : (v w : Value) → value_eq.ghosts.eq v w ≡ true → value_input (Some v) ≡ value_input (Some w)
some_alike Nil Nil same = refl
some_alike Nil (Truth b) same = absurd (true≢false (sym same))
some_alike Nil (Int b) same = absurd (true≢false (sym same))
some_alike Nil (Text b) same = absurd (true≢false (sym same))
some_alike (Truth a) Nil same = absurd (true≢false (sym same))
some_alike (Truth a) (Truth b) same = refl
some_alike (Truth a) (Int b) same = absurd (true≢false (sym same))
some_alike (Truth a) (Text b) same = absurd (true≢false (sym same))
some_alike (Int a) Nil same = absurd (true≢false (sym same))
some_alike (Int a) (Truth b) same = absurd (true≢false (sym same))
some_alike (Int a) (Int b) same = ap fed.i64 ((Decides-int_eq a b).0 same)
some_alike (Int a) (Text b) same = absurd (true≢false (sym same))
some_alike (Text a) Nil same = absurd (true≢false (sym same))
some_alike (Text a) (Truth b) same = absurd (true≢false (sym same))
some_alike (Text a) (Int b) same = absurd (true≢false (sym same))
some_alike (Text a) (Text b) same = ap text_input ((bytes_decides a b).0 same)

alike : (v w : Option Value) → option_eq value_eq.ghosts.eq v w ≡ true → value_input v ≡ value_input w
alike None None same = refl
alike None (Some w) same = absurd (true≢false (sym same))
alike (Some v) None same = absurd (true≢false (sym same))
alike (Some v) (Some w) same = some_alike v w same

input_of : (o o' c c' : ℕ) (v v' : Option Value) → o ≡ o' → c ≡ c' → value_input v ≡ value_input v' → point_input o c v ≡ point_input o' c' v'
input_of o o' c c' v v' e f g = rw (e, f) (ap (λ rest. fed.u64 (o' * 4294967296 + c') ++ rest) g)

pub hashed_alike : (a b : Point) → IsTrue (point_eq.ghosts.eq a b) → point_input a.object a.class a.value ≡ point_input b.object b.class b.value
hashed_alike a b same =
    let rest = and_parts (a.object == b.object) ((a.class == b.class) && option_eq value_eq.ghosts.eq a.value b.value) same in
    let more = and_parts (a.class == b.class) (option_eq value_eq.ghosts.eq a.value b.value) rest.1 in
    input_of a.object b.object a.class b.class a.value b.value (eqb-true a.object b.object rest.0) (eqb-true a.class b.class more.0) (alike a.value b.value more.1)
