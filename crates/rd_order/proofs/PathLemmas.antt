-- Paths of any relation.
use Rattle.std.proofs.Common.{◌⊎◌, inl, inr, ℕ, ◌<◌, ◌≤◌, List, [], ◌∷◌, ◌++◌, arith}
use Rattle.rd_order.specs.Order.{Leads}

pub leads_joined : (E : ℕ → ℕ → Type 0) (i : ℕ) (ks : List ℕ) (j : ℕ) (ls : List ℕ) (k : ℕ) → Leads E i ks j → Leads E j ls k → Leads E i (ks ++ j ∷ ls) k
leads_joined E i [] j ls k a b = (a, b)
leads_joined E i (m ∷ ms) j ls k a b = (a.0, leads_joined E m ms j ls k a.1 b)

-- where edges are in a transitive relation, so are the ends of a path
pub leads_in : (E P : ℕ → ℕ → Type 0) → ((i j : ℕ) → E i j → P i j) → ((i j k : ℕ) → P i j → P j k → P i k)
    → (i : ℕ) (ks : List ℕ) (j : ℕ) → Leads E i ks j → P i j
leads_in E P edges joins i [] j a = edges i j a
leads_in E P edges joins i (k ∷ ks) j a = joins i k j (edges i k a.0) (leads_in E P edges joins k ks j a.1)

pub leads_rises : (E : ℕ → ℕ → Type 0) → ((i j : ℕ) → E i j → i < j) → (i : ℕ) (ks : List ℕ) (j : ℕ) → Leads E i ks j → i < j
leads_rises E up i ks j a = leads_in E (λ i j. i < j) up (λ i j k l r. omega arith) i ks j a

-- a path is an edge, or a path and an edge behind it
pub last_edge : (E : ℕ → ℕ → Type 0) (i : ℕ) (ks : List ℕ) (j : ℕ) → Leads E i ks j → E i j ⊎ ((m : ℕ) × ((ls : List ℕ) × Leads E i ls m) × E m j)
last_edge E i [] j a = inl a
last_edge E i (k ∷ ks) j a = elim (last_edge E k ks j a.1) [
  | inl edge ↦ inr (k, ([], a.0), edge)
  | inr more ↦ inr (more.0, (k ∷ more.1.0, (a.0, more.1.1)), more.2)
]

-- a path of edges that all are edges of another relation
pub leads_like : (E F : ℕ → ℕ → Type 0) → ((i j : ℕ) → E i j → i < j) → (i : ℕ) (ks : List ℕ) (j : ℕ)
    → ((a b : ℕ) → b ≤ j → E a b → F a b) → Leads E i ks j → Leads F i ks j
leads_like E F up i [] j same a = same i j (omega arith) a
leads_like E F up i (k ∷ ks) j same a =
    let lower : k < j = leads_rises E up k ks j a.1 in
    (same i k (omega arith) a.0, leads_like E F up k ks j same a.1)
