-- The tests of equal values and of equal relations find exactly the equal ones.
use Rattle.std.proofs.Common.{◌≡◌, true, false, ◌&&◌, refl, ap, sym, Decides}
use Rattle.std.specs.Cmp.Lexicographic.{bytes_decides}
use Rattle.std.proofs.lemmas.Bool.{true≢false, and_parts, and_from, eqb-true, eq-eqb}
use Rattle.std.proofs.lemmas.Bool.Decides.{Decides-like, Decides-int_eq}
use Rattle.std.specs.Cmp.{booleans_Decides}
use Rattle.rd_base.specs.declared.values.Value.{Value}
use Rattle.rd_base.specs.declared.values.Value.TheVariants.{Nil, Bool as Boolean, Int, Text}
use Rattle.rd_ecl.specs.declared.formulas.Rel.{Rel}
use Rattle.rd_ecl.specs.declared.formulas.Rel.TheVariants.{Eq, Lt, Le}
use Rattle.rd_ecl.specs.declared.formulas.Term.{Term}
use Rattle.rd_ecl.specs.declared.formulas.Term.TheVariants.{Slot, Const}
use Rattle.rd_ecl.specs.declared.formulas.Predicate.{Predicate}
use Rattle.rd_ecl.specs.Formulas.{same_value, same_rel, same_term, same_predicate}

differ : {P : Type 0} (e : false ≡ true) → P
differ e = absurd (true≢false (sym e))

pub value_decides : (a b : Value) → Decides (same_value a b) (a ≡ b)
value_decides Nil Nil = (λ h. refl, λ h. refl)
value_decides (Boolean a) (Boolean b) = Decides-like _ (λ e. ap Boolean e) (λ e. cc) (booleans_Decides a b)
value_decides (Int a) (Int b) = Decides-like _ (λ e. ap Int e) (λ e. cc) (Decides-int_eq a b)
value_decides (Text a) (Text b) = Decides-like _ (λ e. ap Text e) (λ e. cc) (bytes_decides a b)
value_decides Nil (Boolean b) = (λ h. differ h, λ h. cc)
value_decides Nil (Int b) = (λ h. differ h, λ h. cc)
value_decides Nil (Text b) = (λ h. differ h, λ h. cc)
value_decides (Boolean a) Nil = (λ h. differ h, λ h. cc)
value_decides (Boolean a) (Int b) = (λ h. differ h, λ h. cc)
value_decides (Boolean a) (Text b) = (λ h. differ h, λ h. cc)
value_decides (Int a) Nil = (λ h. differ h, λ h. cc)
value_decides (Int a) (Boolean b) = (λ h. differ h, λ h. cc)
value_decides (Int a) (Text b) = (λ h. differ h, λ h. cc)
value_decides (Text a) Nil = (λ h. differ h, λ h. cc)
value_decides (Text a) (Boolean b) = (λ h. differ h, λ h. cc)
value_decides (Text a) (Int b) = (λ h. differ h, λ h. cc)

rel_decides : (a b : Rel) → Decides (same_rel a b) (a ≡ b)
rel_decides Eq Eq = (λ h. refl, λ h. refl)
rel_decides Lt Lt = (λ h. refl, λ h. refl)
rel_decides Le Le = (λ h. refl, λ h. refl)
rel_decides Eq Lt = (λ h. differ h, λ h. cc)
rel_decides Eq Le = (λ h. differ h, λ h. cc)
rel_decides Lt Eq = (λ h. differ h, λ h. cc)
rel_decides Lt Le = (λ h. differ h, λ h. cc)
rel_decides Le Eq = (λ h. differ h, λ h. cc)
rel_decides Le Lt = (λ h. differ h, λ h. cc)

term_decides : (a b : Term) → Decides (same_term a b) (a ≡ b)
term_decides (Slot a) (Slot b) = (λ h. ap Slot (eqb-true a b h), λ h. eq-eqb a b (cc))
term_decides (Const a) (Const b) = Decides-like _ (λ e. ap Const e) (λ e. cc) (value_decides a b)
term_decides (Slot a) (Const b) = (λ h. differ h, λ h. cc)
term_decides (Const a) (Slot b) = (λ h. differ h, λ h. cc)

abbrev predicate : Rel → Term → Term → Predicate
predicate rel left right = record { rel = rel; left = left; right = right }

of_parts : (a b : Rel) (left right left' right' : Term) → a ≡ b → left ≡ left' → right ≡ right'
    → predicate a left right ≡ predicate b left' right'
of_parts a b left right left' right' e f g = rw (e, f, g) refl

pub predicate_decides : (p q : Predicate) → Decides (same_predicate p q) (p ≡ q)
predicate_decides p q = (
  λ h.
      let rest = and_parts (same_rel p.rel q.rel) (same_term p.left q.left && same_term p.right q.right) h in
      let terms = and_parts (same_term p.left q.left) (same_term p.right q.right) rest.1 in
      of_parts p.rel q.rel p.left p.right q.left q.right ((rel_decides p.rel q.rel).0 rest.0) ((term_decides p.left q.left).0 terms.0)
      ((term_decides p.right q.right).0 terms.1),
  λ e. and_from (same_rel p.rel q.rel) (same_term p.left q.left && same_term p.right q.right) ((rel_decides p.rel q.rel).1 (ap (λ (x : Predicate). x.rel) e))
      (and_from (same_term p.left q.left) (same_term p.right q.right) ((term_decides p.left q.left).1 (ap (λ (x : Predicate). x.left) e))
      ((term_decides p.right q.right).1 (ap (λ (x : Predicate). x.right) e))),
)
