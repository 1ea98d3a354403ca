-- There are no more open reads than threads.
use Rattle.std.proofs.Common.{◌≡◌, ◌≢◌, ◌⊎◌, inl, inr, ℕ, ◌<◌, ◌≤◌, eqb, Bool, true, false, List, [], ◌∷◌, length, map, Decides, sym, subst, ◌∙◌, arith, true≢false}
use Rattle.std.specs.Prelude.{AllPairs, Contains}
use Rattle.std.specs.List.{list_any}
use Rattle.std.proofs.lemmas.Bool.{cases_lt}
use Rattle.std.proofs.lemmas.Bool.Decides.{Decides-eqb, Decides-or}
use Rattle.std.proofs.Math.ListN.{get_or-map}
use Rattle.std.proofs.lemmas.List.{get_or_past, length-map}
use Rattle.std.proofs.lemmas.Map.Made.{IsDistinct-from_AllPairs}
use Rattle.std.proofs.lemmas.Map.Steps.{length-le_from_distinct_below}
use Rattle.rd_event.specs.declared.events.Event.{Event}
use Rattle.rd_order.specs.Order.{IsOf}
use Rattle.rd_hb.specs.Tracker.{Tracking, TrackerStandsFor}
use Rattle.rd_order.proofs.EventListLemmas.{known_later, may_follow_at}
use Rattle.rd_order.specs.EventLists.{IsKnownThread}
use Rattle.rd_epoch.specs.Epochs.{AreOpen, EpochsStandFor, HeldAccesses, HoldsOf, held_at, no_access}
use Rattle.rd_epoch.specs.declared.kept.Epoch.{Epoch}
use Rattle.rd_epoch.proofs.LineLemmas.{behind, here}

abbrev thread_in : Epoch → ℕ
thread_in epoch = epoch.thread

abbrev of_no : ℕ → Epoch
of_no t = record { thread = t; number = 0; line = 0 }

any_in : (q : ℕ) (reads : List Epoch) → list_any (eqb q) (map thread_in reads) ≡ true → (epoch : Epoch) × Contains reads epoch × (epoch.thread ≡ q)
any_in q [] any = absurd (true≢false (sym any))
any_in q (read ∷ reads) any = by ((Decides-or _ _ (Decides-eqb q read.thread) (same_test (list_any (eqb q) (map thread_in reads)))).0 any) (λ more. any_in q reads more)
  where
    same_test : (b : Bool) → Decides b (b ≡ true)
    same_test b = (λ h. h, λ h. h)

    by : (q ≡ read.thread) ⊎ (list_any (eqb q) (map thread_in reads) ≡ true)
        → (list_any (eqb q) (map thread_in reads) ≡ true → (epoch : Epoch) × Contains reads epoch × (epoch.thread ≡ q))
        → (epoch : Epoch) × Contains (read ∷ reads) epoch × (epoch.thread ≡ q)
    by (inl same) rest = (read, here read reads, sym same)
    by (inr more) rest = let found = rest more in (found.0, behind read reads found.0 found.1, found.2)

few_of : (reads : List Epoch) (n : ℕ) → AllPairs (λ a b. a.thread ≢ b.thread) reads → ((epoch : Epoch) → Contains reads epoch → epoch.thread < n) → length reads ≤ n
few_of reads n pairs below =
    let few : length (map thread_in reads) ≤ n = length-le_from_distinct_below (map thread_in reads) n (IsDistinct-from_AllPairs Decides-eqb (map thread_in reads) different) (λ q any.
    let found = any_in q reads any in subst (λ t. t < n) found.2 (below found.0 found.1)) in
    omega (arith, few, length-map reads thread_in)
  where
    different : AllPairs (λ x y. x ≢ y) (map thread_in reads)
    different i j d less inside same =
        let within : j < length reads = omega (arith, inside, length-map reads thread_in) in
        pairs i j (of_no d) less within (sym (get_or-map thread_in reads i (of_no d)) ∙ same ∙ get_or-map thread_in reads j (of_no d))

pub few_open : (held : List HeldAccesses) (roots : ℕ → Bool) (lines : List ℕ) (es : List Event) (tracking : Tracking) (variable : ℕ) → EpochsStandFor held roots lines es → TrackerStandsFor tracking roots es
    → (held_at held variable).raced ≡ false → length (held_at held variable).reads ≤ length tracking.threads
few_open held roots lines es tracking variable stands tracked quiet = elim (cases_lt variable (length held)) [
  | inl inside ↦ few_in (subst (HoldsOf lines es variable (held_at held variable)) quiet (stands.each variable inside)).reads
  | inr past ↦ subst (λ (h : HeldAccesses). length h.reads ≤ length tracking.threads) (sym (get_or_past held variable no_access past)) (omega arith)
]
  where
    few_in : AreOpen lines es variable (held_at held variable).reads → length (held_at held variable).reads ≤ length tracking.threads
    few_in open_ones = few_of (held_at held variable).reads (length tracking.threads) open_ones.one_each (λ epoch has.
        let one = open_ones.only epoch has in
        let of : IsOf es epoch.thread one.0 = one.2.thread in
        (tracked.known epoch.thread).1 (subst (IsKnownThread roots es) of.2 (known_later roots es one.0 _ (may_follow_at roots es one.0 of.0 stands.formed.formed of.1).known_actor)))
