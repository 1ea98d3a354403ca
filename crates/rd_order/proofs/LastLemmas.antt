-- The last number with a property, from a number on.
use Rattle.std.proofs.Common.{◌≡◌, ◌≢◌, ◌<◌, ◌≤◌, ◌+◌, ◌⊎◌, ℕ, cond, Option, Some, None, arith, inl, inr, refl, sym, ap, subst}
use Rattle.std.specs.Prelude.{max}
use Rattle.std.specs.Option.{option_or}
use Rattle.std.proofs.lemmas.Bool.{cases_eq, cases_lt, eq-eqb, ne_eqb}
use Rattle.std.proofs.lemmas.Option.{none-some, same_Some}
use Rattle.rd_order.specs.Noting.{IsLastFrom, kept_at, kept_if, later_of_two, noted_of}

-- of a property that says the same
pub last_like : (P Q : ℕ → Type 0) (lo : ℕ) (x : Option ℕ) → ((k : ℕ) → lo ≤ k → P k → Q k) → ((k : ℕ) → lo ≤ k → Q k → P k) → IsLastFrom P lo x → IsLastFrom Q lo x
last_like P Q lo None to from last = λ k least has. last k least (from k least has)
last_like P Q lo (Some w) to from last = (last.0, to w last.0 last.1, λ k least has. last.2 k least (from k least has))

right_is : (x y : ℕ) → x < y → max x y ≡ y
right_is x y l = omega arith

left_is : (x y : ℕ) → ¬ (x < y) → max x y ≡ x
left_is x y l = omega arith

-- of two properties it is the later one
pub later_last : (P Q : ℕ → Type 0) (lo : ℕ) (x y : Option ℕ) → IsLastFrom P lo x → IsLastFrom Q lo y → IsLastFrom (λ k. P k ⊎ Q k) lo (later_of_two x y)
later_last P Q lo None None a b = λ k least has. elim has [ inl p ↦ a k least p | inr q ↦ b k least q ]
later_last P Q lo None (Some y) a b = (b.0, inr b.1, λ k least has. elim has [ inl p ↦ absurd (a k least p) | inr q ↦ b.2 k least q ])
later_last P Q lo (Some x) None a b = (a.0, inl a.1, λ k least has. elim has [ inl p ↦ a.2 k least p | inr q ↦ absurd (b k least q) ])
later_last P Q lo (Some x) (Some y) a b = elim (cases_lt x y) [
  | inl l ↦ subst (λ m. IsLastFrom (λ k. P k ⊎ Q k) lo (Some m)) (sym (right_is x y l))
      (b.0, inr b.1, λ k least has. elim has [ inl p ↦ (let h = a.2 k least p in omega (arith, h, l)) | inr q ↦ b.2 k least q ])
  | inr l ↦ subst (λ m. IsLastFrom (λ k. P k ⊎ Q k) lo (Some m)) (sym (left_is x y (λ less. omega (arith, l, less))))
      (a.0, inl a.1, λ k least has. elim has [ inl p ↦ a.2 k least p | inr q ↦ (let h = b.2 k least q in omega (arith, h, l)) ])
]

-- ---- one number more in front

-- it has the property: it is the last where none is
pub last_kept : (P : ℕ → Type 0) (n : ℕ) (w : Option ℕ) → P n → IsLastFrom P (n + 1) w → IsLastFrom P n (option_or w (Some n))
last_kept P n None here last = (omega arith, here, λ k least has. elim (cases_lt n k) [ inl l ↦ absurd (last k (omega arith) has) | inr l ↦ omega arith ])
last_kept P n (Some w) here last =
    let l = last.0 in (omega arith, last.1, λ k least has. elim (cases_lt n k) [ inl above ↦ last.2 k (omega arith) has | inr below ↦ omega arith ])

-- it doesn't
pub last_stays : (P : ℕ → Type 0) (n : ℕ) (w : Option ℕ) → ¬ (P n) → IsLastFrom P (n + 1) w → IsLastFrom P n w
last_stays P n None lacks last = λ k least has. elim (cases_eq k n) [ inl same ↦ lacks (subst P same has) | inr apart ↦ last k (omega arith) has ]
last_stays P n (Some w) lacks last =
    let l = last.0 in
    (omega arith, last.1, λ k least has. elim (cases_eq k n) [ inl same ↦ absurd (lacks (subst P same has)) | inr apart ↦ last.2 k (omega arith) has ])

-- a number that is noted already
pub last_again : (P : ℕ → Type 0) (n : ℕ) (w : Option ℕ) → P n → IsLastFrom P n w → IsLastFrom P n (option_or w (Some n))
last_again P n None here last = absurd (last n (omega arith) here)
last_again P n (Some w) here last = last

-- what is noted at the key, and at another
pub at_same : (P : ℕ → Type 0) (known : ℕ → Option ℕ) (key n q : ℕ) → key ≡ q → IsLastFrom P n (option_or (known q) (Some n)) → IsLastFrom P n (kept_at known key n q)
at_same P known key n q same last = subst (λ b. IsLastFrom P n (cond b (option_or (known q) (Some n)) (known q))) (sym (eq-eqb key q same)) last

pub at_other : (known : ℕ → Option ℕ) (key n q : ℕ) → key ≢ q → kept_at known key n q ≡ known q
at_other known key n q apart = ap (λ b. cond b (option_or (known q) (Some n)) (known q)) (ne_eqb key q apart)

-- by a key that may be there, with a number that has the property exactly where the key is this one
pub if_more : (P : ℕ → Type 0) (known : ℕ → Option ℕ) (o : Option ℕ) (n q : ℕ) → (o ≡ Some q → P n) → (¬ (o ≡ Some q) → ¬ (P n)) → IsLastFrom P (n + 1) (known q)
    → IsLastFrom P n (kept_if known o n q)
if_more P known None n q here others last = last_stays P n (known q) (others (λ is. none-some q is)) last
if_more P known (Some key) n q here others last = elim (cases_eq key q) [
  | inl same ↦ at_same P known key n q same (last_kept P n (known q) (here (ap Some same)) last)
  | inr apart ↦ subst (IsLastFrom P n) (sym (at_other known key n q apart)) (last_stays P n (known q) (others (λ is. apart (same_Some key q is))) last)
]

-- and with one that is noted already
pub if_again : (P : ℕ → Type 0) (known : ℕ → Option ℕ) (o : Option ℕ) (n q : ℕ) → P n → IsLastFrom P n (known q) → IsLastFrom P n (kept_if known o n q)
if_again P known None n q here last = last
if_again P known (Some key) n q here last = elim (cases_eq key q) [
  | inl same ↦ at_same P known key n q same (last_again P n (known q) here last)
  | inr apart ↦ subst (IsLastFrom P n) (sym (at_other known key n q apart)) last
]

-- of what is noted by a key that may be there
pub of_option : (P : ℕ → ℕ → Type 0) (known : ℕ → Option ℕ) (o : Option ℕ) (lo : ℕ) → ((q : ℕ) → IsLastFrom (P q) lo (known q))
    → IsLastFrom (λ k. (u : ℕ) × (o ≡ Some u) × P u k) lo (noted_of known o)
of_option P known None lo each = λ k least has. none-some has.0 has.1
of_option P known (Some key) lo each =
    last_like (P key) (λ k. (u : ℕ) × (Some key ≡ Some u) × P u k) lo (known key) (λ k least has. (key, refl, has))
    (λ k least has. subst (λ u. P u k) (sym (same_Some key has.0 has.1)) has.2) (each key)
