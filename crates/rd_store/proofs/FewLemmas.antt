-- How many cells there are where each thread has one at most.
use Rattle.std.proofs.Common.{◌≡◌, ◌≢◌, ℕ, zero, suc, ◌+◌, ◌<◌, ◌≤◌, ◌==◌, not, Bool, true, false, cond, List, [], ◌∷◌, length, filter, None, Some, refl, sym, ap, ◌∙◌, subst, arith}
use Rattle.std.proofs.lemmas.Bool.{eqb-false, eqb-true, eq-eqb, ne_eqb}
use Rattle.std.proofs.lemmas.List.Sums.{length-filter}
use Rattle.rd_store.specs.declared.Witness.{Witness}
use Rattle.rd_store.specs.Stores.{Cell, HasOneEach, cell_of, others_of}
use Rattle.rd_store.proofs.CellLemmas.{own_cell}

abbrev without : ℕ → List Cell → List Cell
without m cells = filter (λ cell. not (cell.thread == m)) cells

without_own : (m : ℕ) (cells : List Cell) → cell_of (without m cells) m ≡ None
without_own m [] = refl
without_own m (c ∷ cells) = by (c.thread == m) refl (without_own m cells)
  where
    by : (b : Bool) → (c.thread == m) ≡ b → cell_of (without m cells) m ≡ None → cell_of (cond (not b) (c ∷ without m cells) (without m cells)) m ≡ None
    by true e rest = rest
    by false e rest = rw e rest

without_other : (m t : ℕ) (cells : List Cell) → t ≢ m → cell_of (without m cells) t ≡ cell_of cells t
without_other m t [] differ = refl
without_other m t (c ∷ cells) differ = by (c.thread == m) refl (without_other m t cells differ)
  where
    by : (b : Bool) → (c.thread == m) ≡ b → cell_of (without m cells) t ≡ cell_of cells t → cell_of (cond (not b) (c ∷ without m cells) (without m cells)) t ≡ cell_of (c ∷ cells) t
    by true e rest = rw (ne_eqb c.thread t (λ f. differ (sym f ∙ eqb-true c.thread m e))) rest
    by false e rest = ap (λ r. cond (c.thread == t) (Some c.witness) r) rest

without_each : (m : ℕ) (cells : List Cell) → HasOneEach cells → HasOneEach (without m cells)
without_each m [] each = tt
without_each m (c ∷ cells) each = by (c.thread == m) refl (without_each m cells each.1)
  where
    by : (b : Bool) → (c.thread == m) ≡ b → HasOneEach (without m cells) → HasOneEach (cond (not b) (c ∷ without m cells) (without m cells))
    by true e rest = rest
    by false e rest = (without_other m c.thread cells (λ f. eqb-false c.thread m e f) ∙ each.0, rest)

without_none : (m : ℕ) (cells : List Cell) → cell_of cells m ≡ None → length (without m cells) ≡ length cells
without_none m [] none = refl
without_none m (c ∷ cells) none = by (c.thread == m) none (without_none m cells)
  where
    by : (b : Bool) → cond b (Some c.witness) (cell_of cells m) ≡ None → (cell_of cells m ≡ None → length (without m cells) ≡ length cells)
        → length (cond (not b) (c ∷ without m cells) (without m cells)) ≡ suc (length cells)
    by true h rest = cc
    by false h rest = ap suc (rest h)

without_length : (m : ℕ) (cells : List Cell) → HasOneEach cells → length cells ≤ length (without m cells) + 1
without_length m [] each = omega arith
without_length m (c ∷ cells) each = by (c.thread == m) refl (without_length m cells each.1)
  where
    by : (b : Bool) → (c.thread == m) ≡ b → length cells ≤ length (without m cells) + 1 → suc (length cells) ≤ length (cond (not b) (c ∷ without m cells) (without m cells)) + 1
    by true e rest = omega (arith, without_none m cells (subst (λ t. cell_of cells t ≡ None) (eqb-true c.thread m e) each.0))
    by false e rest = omega arith

abbrev AllBelow : ℕ → List Cell → Type 0
AllBelow n cells = (thread : ℕ) (seen : Witness) → cell_of cells thread ≡ Some seen → thread < n

pub few_cells : (n : ℕ) (cells : List Cell) → HasOneEach cells → AllBelow n cells → length cells ≤ n
few_cells zero [] each below = omega arith
few_cells zero (c ∷ cells) each below = absurd (omega (arith, below c.thread c.witness (rw (eq-eqb c.thread c.thread refl) refl)))
few_cells (suc m) cells each below = omega (arith, without_length m cells each, few_cells m (without m cells) (without_each m cells each) fewer)
  where
    apart : (t : ℕ) (seen : Witness) → cell_of (without m cells) t ≡ Some seen → t ≡ m → ⊥
    apart t seen at is =
        let none : cell_of (without m cells) t ≡ None = ap (cell_of (without m cells)) is ∙ without_own m cells in
        cc

    fewer : AllBelow m (without m cells)
    fewer t seen at =
        let differ = apart t seen at in
        omega (arith, below t seen (sym (without_other m t cells differ) ∙ at), differ)

pub few_others : (cells : List Cell) (n t : ℕ) → HasOneEach cells → AllBelow n cells → t < n → others_of cells t + 1 ≤ n
few_others [] n t each below known = omega arith
few_others (c ∷ cells) n t each below known =
    omega (arith, few_cells n (own_cell t c.witness ∷ without t (c ∷ cells)) (without_own t (c ∷ cells), without_each t (c ∷ cells) each) more, length-filter (λ (cell : Cell). not (cell.thread == t)) (c ∷ cells))
  where
    more : AllBelow n (own_cell t c.witness ∷ without t (c ∷ cells))
    more o seen at = by (t == o) refl at
      where
        by : (b : Bool) → (t == o) ≡ b → cond b (Some c.witness) (cell_of (without t (c ∷ cells)) o) ≡ Some seen → o < n
        by true e h = omega (arith, eqb-true t o e)
        by false e h = below o seen (sym (without_other t o (c ∷ cells) (λ f. eqb-false t o e (sym f))) ∙ h)
