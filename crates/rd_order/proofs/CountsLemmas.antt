-- Counts of the numbers that have P.
use Rattle.std.proofs.Common.{◌≡◌, ◌↔◌, ◌⊎◌, inl, inr, ℕ, zero, suc, ◌+◌, ◌<◌, ◌≤◌, max, sym, ◌∙◌, ap, subst, refl, arith}
use Rattle.std.proofs.lemmas.Bool.{cases_lt}
use Rattle.rd_order.specs.Counts.{Counts}

-- ---- one count

-- two counts are equal
pub counts_same : (P : ℕ → Type 0) (n c d : ℕ) → Counts P n c → Counts P n d → c ≡ d
counts_same P zero c d a b = a ∙ sym b
counts_same P (suc n) c d (inl x) (inl y) = x.1.1 ∙ ap suc (counts_same P n x.1.0 y.1.0 x.1.2 y.1.2) ∙ sym y.1.1
counts_same P (suc n) c d (inl x) (inr y) = absurd (y.0 x.0)
counts_same P (suc n) c d (inr x) (inl y) = absurd (x.0 y.0)
counts_same P (suc n) c d (inr x) (inr y) = counts_same P n c d x.1 y.1

-- a number below n has P or not, as the count shows
pub decided : (P : ℕ → Type 0) (n c k : ℕ) → k < n → Counts P n c → P k ⊎ ¬ (P k)
decided P zero c k l a = absurd (omega arith)
decided P (suc n) c k l (inl x) = elim (cases_lt k n) [
  | inl below ↦ decided P n x.1.0 k below x.1.2
  | inr last ↦ inl (let e : n ≡ k = omega arith in subst P e x.0)
]
decided P (suc n) c k l (inr x) = elim (cases_lt k n) [
  | inl below ↦ decided P n c k below x.1
  | inr last ↦ inr (λ has. x.0 (let e : k ≡ n = omega arith in subst P e has))
]

-- where each number has P or not there is a count
pub counted : (P : ℕ → Type 0) → ((k : ℕ) → P k ⊎ ¬ (P k)) → (n : ℕ) → (c : ℕ) × Counts P n c
counted P each zero = (0, refl)
counted P each (suc n) = by (each n) (counted P each n)
  where
    by : P n ⊎ ¬ (P n) → (c : ℕ) × Counts P n c → (c : ℕ) × Counts P (suc n) c
    by (inl has) (c, a) = (suc c, inl (has, (c, refl, a)))
    by (inr lacks) (c, a) = (c, inr (lacks, a))

pub counts_more : (P : ℕ → Type 0) (n c : ℕ) → P n → Counts P n c → Counts P (suc n) (c + 1)
counts_more P n c has a = inl (has, (c, omega arith, a))

pub counts_none : (P : ℕ → Type 0) (n : ℕ) → ((k : ℕ) → k < n → ¬ (P k)) → Counts P n 0
counts_none P zero lacks = refl
counts_none P (suc n) lacks = inr (lacks n (omega arith), counts_none P n (λ k l. lacks k (omega arith)))

-- the count below a smaller number is at most the count
pub counts_front : (P : ℕ → Type 0) (m n c : ℕ) → m ≤ n → Counts P n c → (d : ℕ) × (d ≤ c) × Counts P m d
counts_front P m zero c l a = (c, omega arith, let e : 0 ≡ m = omega arith in subst (λ i. Counts P i c) e a)
counts_front P m (suc n) c l (inl x) = elim (cases_lt m (suc n)) [
  | inl below ↦ (let r = counts_front P m n x.1.0 (omega arith) x.1.2 in (r.0, omega (arith, r.1, x.1.1), r.2))
  | inr all ↦ (c, omega arith, let e : suc n ≡ m = omega arith in subst (λ i. Counts P i c) e (inl x))
]
counts_front P m (suc n) c l (inr x) = elim (cases_lt m (suc n)) [
  | inl below ↦ counts_front P m n c (omega arith) x.1
  | inr all ↦ (c, omega arith, let e : suc n ≡ m = omega arith in subst (λ i. Counts P i c) e (inr x))
]

-- where no number from m on has P, the counts below m and below n are the same
pub counts_cut : (P : ℕ → Type 0) (m n c : ℕ) → m ≤ n → ((k : ℕ) → m ≤ k → k < n → ¬ (P k)) → Counts P n c ↔ Counts P m c
counts_cut P m zero c l lacks = let e : 0 ≡ m = omega arith in (subst (λ i. Counts P i c) e, subst (λ i. Counts P i c) (sym e))
counts_cut P m (suc n) c l lacks = elim (cases_lt m (suc n)) [
  | inl below ↦ before (omega arith) (counts_cut P m n c (omega arith) (λ k from to. lacks k from (omega arith)))
  | inr all ↦ let e : suc n ≡ m = omega arith in (subst (λ i. Counts P i c) e, subst (λ i. Counts P i c) (sym e))
]
  where
    before : m ≤ n → Counts P n c ↔ Counts P m c → Counts P (suc n) c ↔ Counts P m c
    before below same = (down, λ a. inr (lacks n below (omega arith), same.1 a))
      where
        down : Counts P (suc n) c → Counts P m c
        down (inl x) = absurd (lacks n below (omega arith) x.0)
        down (inr x) = same.0 x.1

-- ---- two counts

-- those that have the same properties have the same count
pub counts_like : (P Q : ℕ → Type 0) (n c : ℕ) → ((k : ℕ) → k < n → P k ↔ Q k) → Counts P n c → Counts Q n c
counts_like P Q zero c same a = a
counts_like P Q (suc n) c same (inl x) =
    inl ((same n (omega arith)).0 x.0, (x.1.0, x.1.1, counts_like P Q n x.1.0 (λ k l. same k (omega arith)) x.1.2))
counts_like P Q (suc n) c same (inr x) =
    inr (λ has. x.0 ((same n (omega arith)).1 has), counts_like P Q n c (λ k l. same k (omega arith)) x.1)

-- what is had by more has no smaller count
pub counts_le : (P Q : ℕ → Type 0) (n c d : ℕ) → ((k : ℕ) → k < n → P k → Q k) → Counts P n c → Counts Q n d → c ≤ d
counts_le P Q zero c d up a b = omega arith
counts_le P Q (suc n) c d up (inl x) (inl y) =
    let rest : x.1.0 ≤ y.1.0 = counts_le P Q n x.1.0 y.1.0 (λ k l. up k (omega arith)) x.1.2 y.1.2 in
    omega (arith, x.1.1, y.1.1)
counts_le P Q (suc n) c d up (inl x) (inr y) = absurd (y.0 (up n (omega arith) x.0))
counts_le P Q (suc n) c d up (inr x) (inl y) =
    let rest : c ≤ y.1.0 = counts_le P Q n c y.1.0 (λ k l. up k (omega arith)) x.1 y.1.2 in
    omega (arith, y.1.1)
counts_le P Q (suc n) c d up (inr x) (inr y) = counts_le P Q n c d (λ k l. up k (omega arith)) x.1 y.1

-- ---- fronts: with a number, Q has all smaller ones that have P

abbrev pub Front : (ℕ → Type 0) → (ℕ → Type 0) → Type 0
Front P Q = (i k : ℕ) → k < i → P k → P i → Q i → Q k

-- k has both
abbrev Both : (ℕ → Type 0) → (ℕ → Type 0) → ℕ → Type 0
Both P Q k = P k × Q k

-- i is the o-th that has P: then Q has it exactly where at least o have both
pub covers : (P Q : ℕ → Type 0) (n i o c : ℕ) → Front P Q → i < n → P i → Counts P (suc i) o → Counts (λ k. P k × Q k) n c → (o ≤ c) ↔ Q i
covers P Q n i o c front l has own both = (there own, here)
  where
    here : Q i → o ≤ c
    here q =
        let f = counts_front (Both P Q) (suc i) n c l both in
        let below : o ≤ f.0 = counts_le P (Both P Q) (suc i) o f.0 (λ k l' p. (p, elim (cases_lt k i) [ inl lower ↦ front i k lower p has q | inr same ↦ subst Q (let e : i ≡ k = omega arith in e) q ])) own f.2 in
        omega (arith, f.1)

    there : Counts P (suc i) o → o ≤ c → Q i
    there (inr x) le = absurd (x.0 has)
    there (inl x) le = elim (decided (Both P Q) n c i l both) [
      | inl pair ↦ pair.1
      | inr lacks ↦
          (let cut : Counts (Both P Q) i c = (counts_cut (Both P Q) i n c (omega arith) (λ k from to pair. lacks (has, elim (cases_lt i k) [ inl above ↦ front k i above has pair.0 pair.1 | inr same ↦ subst Q (let e : k ≡ i = omega arith in e) pair.1 ]))).0 both in
          let few : c ≤ x.1.0 = counts_le (Both P Q) P i c x.1.0 (λ k l' pair. pair.0) cut x.1.2 in
          absurd (omega (arith, x.1.1)))
    ]

-- where what Q has R has, the union counts as R does
joined_count : (P Q R : ℕ → Type 0) (n c d : ℕ) → ((k : ℕ) → k < n → P k → Q k → R k)
    → Counts (λ k. P k × Q k) n c → Counts (λ k. P k × R k) n d → Counts (λ k. P k × (Q k ⊎ R k)) n (max c d)
joined_count P Q R n c d up a b =
    let le : c ≤ d = counts_le (λ k. P k × Q k) (λ k. P k × R k) n c d (λ k l x. (x.0, up k l x.0 x.1)) a b in
    let e : d ≡ max c d = omega arith in
    subst (λ m. Counts (λ k. P k × (Q k ⊎ R k)) n m) e
    (counts_like (λ k. P k × R k) (λ k. P k × (Q k ⊎ R k)) n d
    (λ k l. (λ x. (x.0, inr x.1), λ x. (x.0, elim x.1 [ inl q ↦ up k l x.0 q | inr r ↦ r ]))) b)

-- of two fronts the union has the greater count
pub counts_max : (P Q R : ℕ → Type 0) (n c d : ℕ) → Front P Q → Front P R
    → Counts (λ k. P k × Q k) n c → Counts (λ k. P k × R k) n d → Counts (λ k. P k × (Q k ⊎ R k)) n (max c d)
counts_max P Q R zero c d fq fr a b = omega arith
counts_max P Q R (suc n) c d fq fr a (inl y) =
    joined_count P Q R (suc n) c d
    (λ k l p q. elim (cases_lt k n) [ inl lower ↦ fr n k lower p y.0.0 y.0.1 | inr same ↦ subst R (let e : n ≡ k = omega arith in e) y.0.1 ])
    a (inl y)
counts_max P Q R (suc n) c d fq fr (inl x) (inr y) =
    let e : max d c ≡ max c d = omega arith in
    subst (λ m. Counts (λ k. P k × (Q k ⊎ R k)) (suc n) m) e
    (counts_like (λ k. P k × (R k ⊎ Q k)) (λ k. P k × (Q k ⊎ R k)) (suc n) (max d c)
    (λ k l. (λ z. (z.0, elim z.1 [ inl r ↦ inr r | inr q ↦ inl q ]), λ z. (z.0, elim z.1 [ inl q ↦ inr q | inr r ↦ inl r ])))
    (joined_count P R Q (suc n) d c
    (λ k l p r. elim (cases_lt k n) [ inl lower ↦ fq n k lower p x.0.0 x.0.1 | inr same ↦ subst Q (let s : n ≡ k = omega arith in s) x.0.1 ])
    (inr y) (inl x)))
counts_max P Q R (suc n) c d fq fr (inr x) (inr y) =
    inr (λ z. elim z.1 [ inl q ↦ x.0 (z.0, q) | inr r ↦ y.0 (z.0, r) ], counts_max P Q R n c d fq fr x.1 y.1)

-- no count passes the number below which it counts
pub counts_bound : (P : ℕ → Type 0) (n c : ℕ) → Counts P n c → c ≤ n
counts_bound P zero c a = omega arith
counts_bound P (suc n) c (inl x) = let rest : x.1.0 ≤ n = counts_bound P n x.1.0 x.1.2 in omega (arith, x.1.1)
counts_bound P (suc n) c (inr x) = let rest : c ≤ n = counts_bound P n c x.1 in omega arith

-- nor a number below which all are that have P
pub counts_below : (P : ℕ → Type 0) (m n c : ℕ) → ((k : ℕ) → P k → k < m) → Counts P n c → c ≤ m
counts_below P m n c below a = elim (cases_lt n m) [
  | inl less ↦ omega (arith, less, counts_bound P n c a)
  | inr most ↦ counts_bound P m c ((counts_cut P m n c most (λ k from to has. absurd (omega (arith, from, below k has)))).0 a)
]

-- where each number has P all are counted
pub counts_all : (P : ℕ → Type 0) (n : ℕ) → ((k : ℕ) → k < n → P k) → Counts P n n
counts_all P zero has = refl
counts_all P (suc n) has = inl (has n (omega arith), (n, refl, counts_all P n (λ k l. has k (omega arith))))

-- what bounds the counts of Q, where Q can be told, bounds those of what Q has
pub counts_within : (P Q : ℕ → Type 0) (n c most : ℕ) → ((k : ℕ) → Q k ⊎ ¬ (Q k)) → ((k : ℕ) → P k → Q k)
    → ((d : ℕ) → Counts Q n d → d ≤ most) → Counts P n c → c ≤ most
counts_within P Q n c most told up bound a =
    let d = counted Q told n in
    omega (arith, counts_le P Q n c d.0 (λ k l. up k) a d.1, bound d.0 d.1)
