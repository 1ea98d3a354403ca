-- The order of values tells exactly the equal ones alike.
use Rattle.std.proofs.Common.{◌≡◌, ℕ, Bool, true, false, ◌↔◌, List, ℤ, refl, sym, ◌∙◌, ap}
use Rattle.std.proofs.lemmas.Cmp.{int_ranked}
use Rattle.std.specs.Cmp.{Equal-is, ranked_equal}
use Rattle.std.specs.Cmp.Lexicographic.{bytes_decides, texts_ties}
use Rattle.std.specs.Ordering.{is_eq, int_cmp, bool_cmp}
use Rattle.std.specs.declared.cmp.Ordering.TheVariants.{Equal}
use Rattle.rd_base.specs.declared.values.Value.{Value}
use Rattle.rd_base.specs.declared.values.Value.TheVariants.{Nil, Bool as Truth, Int, Text}
use Rattle.rd_base.specs.Order.{bytes_cmp, value_cmp}

pub tied_bytes : (first second : List ℕ) → (bytes_cmp first second ≡ Equal) ↔ (first ≡ second)
tied_bytes first second = (
  λ tied. (bytes_decides first second).0 (texts_ties first second ∙ ap is_eq tied),
  λ same. (Equal-is (bytes_cmp first second)).0 (sym (texts_ties first second) ∙ (bytes_decides first second).1 same),
)

tied_integers : (first second : ℤ) → (int_cmp first second ≡ Equal) ↔ (first ≡ second)
tied_integers first second =
    let alike = ranked_equal first second (int_cmp first second) (int_ranked first second _ refl) in (
      λ tied. alike.0 (ap is_eq tied),
      λ same. (Equal-is (int_cmp first second)).0 (alike.1 same),
    )

tied_truths : (first second : Bool) → (bool_cmp first second ≡ Equal) ↔ (first ≡ second)
tied_truths false false = (λ tied. refl, λ same. refl)
tied_truths false true = (λ tied. cc, λ same. cc)
tied_truths true false = (λ tied. cc, λ same. cc)
tied_truths true true = (λ tied. refl, λ same. refl)

-- what a value has in it
truth_of : Value → Bool
truth_of (Truth truth) = truth
truth_of other = false

integer_in : Value → ℤ → ℤ
integer_in (Int z) other = z
integer_in value other = other

text_in : Value → List ℕ → List ℕ
text_in (Text text) other = text
text_in value other = other

pub tied_values : (first second : Value) → (value_cmp first second ≡ Equal) ↔ (first ≡ second)
unfolding truth_of integer_in text_in
tied_values Nil Nil = (λ tied. refl, λ same. refl)
tied_values Nil (Truth second) = (λ tied. cc, λ same. cc)
tied_values Nil (Int second) = (λ tied. cc, λ same. cc)
tied_values Nil (Text second) = (λ tied. cc, λ same. cc)
tied_values (Truth first) Nil = (λ tied. cc, λ same. cc)
tied_values (Truth first) (Truth second) =
    let alike = tied_truths first second in (λ tied. ap (λ truth. Truth truth) (alike.0 tied), λ same. alike.1 (ap truth_of same))
tied_values (Truth first) (Int second) = (λ tied. cc, λ same. cc)
tied_values (Truth first) (Text second) = (λ tied. cc, λ same. cc)
tied_values (Int first) Nil = (λ tied. cc, λ same. cc)
tied_values (Int first) (Truth second) = (λ tied. cc, λ same. cc)
tied_values (Int first) (Int second) =
    let alike = tied_integers first second in
    (λ tied. ap (λ z. Int z) (alike.0 tied), λ same. alike.1 (ap (λ value. integer_in value first) same))
tied_values (Int first) (Text second) = (λ tied. cc, λ same. cc)
tied_values (Text first) Nil = (λ tied. cc, λ same. cc)
tied_values (Text first) (Truth second) = (λ tied. cc, λ same. cc)
tied_values (Text first) (Int second) = (λ tied. cc, λ same. cc)
tied_values (Text first) (Text second) =
    let alike = tied_bytes first second in
    (λ tied. ap (λ text. Text text) (alike.0 tied), λ same. alike.1 (ap (λ value. text_in value first) same))
