-- What the turns leave, and what each places.
use Rattle.std.proofs.Common.{◌≡◌, ◌≢◌, inl, inr, ℕ, zero, suc, ◌+◌, ◌<◌, true, List, [], ◌∷◌, ◌++◌, length, take, Option, Some, None, sym, ap, subst, ◌∙◌, arith, length-append}
use Rattle.std.specs.Prelude.{find, slice_get}
use Rattle.std.specs.List.{range_with_len}
use Rattle.std.proofs.lemmas.Bool.Decides.{Decides-and, Decides-ltb}
use Rattle.std.proofs.lemmas.List.{take-append-le}
use Rattle.std.proofs.Math.Seq.{take-append_seam}
use Rattle.rd_weavings.specs.declared.spots.Spot.{Spot}
use Rattle.rd_weavings.specs.Logs.{AreLogs, IsSpot, Logs, given, log_at, next_spot}
use Rattle.rd_weavings.specs.Weavings.{HaveOwnThreads, IsWeaving}
use Rattle.rd_weavings.specs.WeaveTests.{may_give, placed_in, turns_left, with_next, woven_first}
use Rattle.rd_weavings.proofs.PlacingLemmas.{goes_on, placed_all}
use Rattle.rd_weavings.proofs.SameLemmas.{spot_within}
use Rattle.rd_weavings.proofs.SpotLemmas.{at_push, nowhere}
use Rattle.rd_weavings.proofs.TestLemmas.{FoundIn, end, fewer_inside, find_is, nothing_left, same_test, whole_of}

-- one by one, each the next event of its log
data AreNext (all : Logs) : List Spot → Type 0 where
  no_turn : AreNext all []
  one_turn : (spots : List Spot) (log : ℕ) → AreNext all spots → IsSpot all (next_spot spots log) → AreNext all (spots ++ next_spot spots log ∷ [])

module _ (all : Logs) where
  gives_inside : (spots : List Spot) (log : ℕ) → may_give all spots log ≡ true → IsSpot all (next_spot spots log)
  gives_inside spots log may = (Decides-ltb (given spots log) (length (log_at all log).events)).0 ((Decides-and _ _ (same_test _) (same_test _)).0 may).0

  turned_on : (turns : ℕ) (spots : List Spot) → AreNext all spots → AreNext all (placed_in all turns spots)
  turned_on zero spots are = are
  turned_on (suc turns) spots are = by (find (may_give all spots) (range_with_len 0 (length all.logs))) (find_is (may_give all spots) 0 (length all.logs))
      (λ log inside. turned_on turns (spots ++ next_spot spots log ∷ []) (one_turn spots log are inside))
    where
      by : (o : Option ℕ) → FoundIn (may_give all spots) 0 (length all.logs) o
          → ((log : ℕ) → IsSpot all (next_spot spots log) → AreNext all (placed_in all turns (spots ++ next_spot spots log ∷ []))) → AreNext all (with_next spots o (placed_in all turns))
      by None fails go = are
      by (Some log) passes go = go log (gives_inside spots log passes)

  first_turned : AreNext all (woven_first all)
  unfolding woven_first
  first_turned = turned_on (turns_left all []) [] no_turn

  left_behind : (spots : List Spot) → AreNext all spots → turns_left all spots + length spots ≡ turns_left all []
  left_behind spots no_turn = omega arith
  left_behind more (one_turn spots log are inside) = omega (arith, left_behind spots are, fewer_inside all spots log inside, length-append spots (next_spot spots log ∷ []))

  each_next : (spots : List Spot) → AreNext all spots → (s : Spot) (j : ℕ) → slice_get spots j ≡ Some s → IsSpot all s × (s.place ≡ given (take j spots) s.log)
  each_next spots no_turn s j at = nowhere s (j, at)
  each_next more (one_turn spots log are inside) s j at = elim (at_push spots (next_spot spots log) s j at) [
    | inl front ↦
        let old = each_next spots are s j front.1 in
        (old.0, old.1 ∙ ap (λ before. given before s.log) (sym (take-append-le j spots (next_spot spots log ∷ []) (let l = front.0 in omega arith))))
    | inr last ↦ (
      subst (IsSpot all) last.1 inside,
      subst (λ (x : Spot). x.place ≡ given (take j (spots ++ next_spot spots log ∷ [])) x.log) last.1
          (ap (λ before. given before log) (sym (ap (λ m. take m (spots ++ next_spot spots log ∷ [])) last.0 ∙ take-append_seam spots (next_spot spots log ∷ [])))),
    )
  ]

  pub left_over : turns_left all (woven_first all) + length (woven_first all) ≡ turns_left all []
  left_over = left_behind (woven_first all) first_turned

  pub next_placed : (s : Spot) (j : ℕ) → slice_get (woven_first all) j ≡ Some s → IsSpot all s × (s.log < length all.logs) × (s.place ≡ given (take j (woven_first all)) s.log)
  next_placed s j at = let is = each_next (woven_first all) first_turned s j at in (is.0, spot_within all s is.0, is.1)

  module _ (logs : AreLogs all) where
    pub whole_end : HaveOwnThreads all → turns_left all (woven_first all) ≡ 0 → IsWeaving all (woven_first all)
    whole_end apart gone = placed_all all (woven_first all) apart (end all logs).0 (whole_of all logs gone)

    pub stuck_end : turns_left all (woven_first all) ≢ 0 → (spots : List Spot) → ¬ (IsWeaving all spots)
    stuck_end some_left spots weaving = elim (goes_on all (woven_first all) spots logs (end all logs).0 weaving) [
      | inl every ↦ some_left (nothing_left all logs every)
      | inr more ↦ (end all logs).1 more.0 more.1
    ]
