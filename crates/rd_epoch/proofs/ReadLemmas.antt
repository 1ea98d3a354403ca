-- The open reads, of which the first lies by itself.
use Rattle.std.proofs.Common.{◌≡◌, ◌≢◌, ◌<◌, inl, inr, zero, suc, cond, get_or, length, List, [], ◌∷◌, ◌++◌, take, drop, set, Option, Some, None, ℕ, refl, sym, ap, subst, ◌∙◌, arith}
use Rattle.std.proofs.lemmas.Bool.{cases_lt}
use Rattle.std.proofs.lemmas.List.Elements.{Contains-get_or, filter-append}
use Rattle.std.proofs.lemmas.List.Sums.{fold-append}
use Rattle.std.proofs.lemmas.Option.{get_or_from_slice_get, none-some, same_Some, slice_get-get_or, slice_get_within}
use Rattle.std.specs.Prelude.{Contains, IfSome, IsPermutation, not, slice_get}
use Rattle.std.proofs.lemmas.List.{append_assoc, set_split}
use Rattle.std.proofs.lemmas.List.Sorted.{IsPermutation-append_right, IsPermutation-middle, IsPermutation-sym, IsPermutation-to_front, IsPermutation-trans}
use Rattle.rd_epoch.proofs.LineLemmas.{is_heard_one, not_heard}
use Rattle.rd_epoch.specs.EpochParts.{AreStill, IsHeardEpoch, is_heard, later_unheard, latest_line, unheard}
use Rattle.rd_epoch.specs.Epochs.{reads_of_one}
use Rattle.rd_epoch.specs.declared.kept.Epoch.{Epoch}

-- the latest of all is that of the others from that of the first
pub latest_joined : (clock : List ℕ) (found : Option ℕ) (one more : List Epoch)
    → latest_line clock (latest_line clock found one) more ≡ latest_line clock found (one ++ more)
latest_joined clock found one more = sym (fold-append (later_unheard clock) found one more)

-- what is kept of all is what is kept of the first, and what is kept of the others
pub unheard_joined : (clock : List ℕ) (one more : List Epoch) → unheard clock (one ++ more) ≡ unheard clock one ++ unheard clock more
unheard_joined clock one more = filter-append (λ epoch. not (is_heard clock epoch)) one more

-- ---- one of them is the thread's own, and it has heard of no other

all_stay : (clock : List ℕ) (epochs : List Epoch) → ((q : ℕ) (o : Epoch) → slice_get epochs q ≡ Some o → ¬ (IsHeardEpoch clock o)) → unheard clock epochs ≡ epochs
all_stay clock [] apart = refl
all_stay clock (x ∷ xs) apart =
    ap (λ b. cond (not b) (x ∷ unheard clock xs) (unheard clock xs)) (not_heard clock x (apart 0 x refl)) ∙ ap (◌∷◌ x) (all_stay clock xs (λ q o at. apart (suc q) o at))

one_goes : (clock : List ℕ) (epochs : List Epoch) (p : ℕ) (own : Epoch) → slice_get epochs p ≡ Some own → IsHeardEpoch clock own
    → ((q : ℕ) (o : Epoch) → slice_get epochs q ≡ Some o → q ≢ p → ¬ (IsHeardEpoch clock o)) → unheard clock epochs ≡ take p epochs ++ drop (suc p) epochs
one_goes clock [] p own at heard apart = absurd (none-some own at)
one_goes clock (x ∷ xs) zero own at heard apart =
    ap (λ b. cond (not b) (x ∷ unheard clock xs) (unheard clock xs)) (is_heard_one clock x (subst (IsHeardEpoch clock) (sym (same_Some x own at)) heard))
    ∙ all_stay clock xs (λ q o other. apart (suc q) o other (λ e. absurd (omega arith)))
one_goes clock (x ∷ xs) (suc p) own at heard apart =
    ap (λ b. cond (not b) (x ∷ unheard clock xs) (unheard clock xs)) (not_heard clock x (apart 0 x refl (λ e. absurd (omega arith))))
    ∙ ap (◌∷◌ x) (one_goes clock xs p own at heard (λ q o other differ. apart (suc q) o other (λ e. differ (omega (arith, e)))))

-- what is kept then, by places
kept_by_place : (clock : List ℕ) (learnt : ℕ) (now : Epoch) (reads : List Epoch) (p : ℕ) (own : Epoch) → slice_get reads p ≡ Some own → own.thread ≡ now.thread → learnt < own.line
    → AreStill clock learnt now reads → unheard clock reads ≡ take p reads ++ drop (suc p) reads
kept_by_place clock learnt now reads p own at same since are =
    one_goes clock reads p own at (are.own own (inside p own at) same) (λ q o other differ. are.others own (inside p own at) same since o (inside q o other) (λ also. apart q o other differ (also ∙ sym same)))
  where
    inside : (q : ℕ) (o : Epoch) → slice_get reads q ≡ Some o → Contains reads o
    inside q o other = subst (Contains reads) (get_or_from_slice_get reads q o o other) (Contains-get_or reads q o (slice_get_within reads q o other))

    apart : (q : ℕ) (o : Epoch) → slice_get reads q ≡ Some o → q ≢ p → o.thread ≢ own.thread
    apart q o other differ = elim (cases_lt q p) [
      | inl less ↦ λ e. are.one_each q p o less (slice_get_within reads p own at)
          (ap (λ (x : Epoch). x.thread) (get_or_from_slice_get reads q o o other) ∙ e ∙ sym (ap (λ (x : Epoch). x.thread) (get_or_from_slice_get reads p own o at)))
      | inr not_less ↦ λ e. are.one_each p q o (omega (arith, not_less, differ)) (slice_get_within reads q o other)
          (ap (λ (x : Epoch). x.thread) (get_or_from_slice_get reads p own o at) ∙ sym e ∙ sym (ap (λ (x : Epoch). x.thread) (get_or_from_slice_get reads q o o other)))
    ]

-- it lies among the others, and goes
renewed_by : (clock : List ℕ) (learnt : ℕ) (now : Epoch) (first : Option Epoch) (more : List Epoch) (p : ℕ) (own : Epoch) → slice_get more p ≡ Some own → own.thread ≡ now.thread → learnt < own.line
    → AreStill clock learnt now (reads_of_one first ++ more) → unheard clock (reads_of_one first ++ more) ≡ reads_of_one first ++ (take p more ++ drop (suc p) more)
renewed_by clock learnt now None more p own at same since are = kept_by_place clock learnt now more p own at same since are
renewed_by clock learnt now (Some first) more p own at same since are = kept_by_place clock learnt now (first ∷ more) (suc p) own at same since are

-- in the place of its thread's own one, a read stands beside those that are kept
pub renewed : (clock : List ℕ) (learnt : ℕ) (now : Epoch) (first : Option Epoch) (more : List Epoch) (p : ℕ) → p < length more
    → IfSome (slice_get more p) (λ own. (own.thread ≡ now.thread) × (learnt < own.line)) → AreStill clock learnt now (reads_of_one first ++ more)
    → IsPermutation (unheard clock (reads_of_one first ++ more) ++ now ∷ []) (reads_of_one first ++ set more p now)
renewed clock learnt now first more p inside is are =
    let at = slice_get-get_or more p now inside in
    let own = subst (λ o. IfSome o (λ own. (own.thread ≡ now.thread) × (learnt < own.line))) at is in
    let one = reads_of_one first in
    let front = take p more in
    let rest = drop (suc p) more in
    let last : unheard clock (one ++ more) ++ now ∷ [] ≡ one ++ ((front ++ rest) ++ now ∷ []) =
    ap (λ l. l ++ now ∷ []) (renewed_by clock learnt now first more p (get_or more p now) at own.0 own.1 are) ∙ append_assoc one (front ++ rest) (now ∷ []) in
    subst (λ l. IsPermutation l (one ++ set more p now)) (sym last)
    (subst (λ l. IsPermutation (one ++ ((front ++ rest) ++ now ∷ [])) (one ++ l)) (sym (set_split more p now inside))
    (IsPermutation-append_right one ((front ++ rest) ++ now ∷ []) (front ++ now ∷ rest)
    (IsPermutation-trans ((front ++ rest) ++ now ∷ []) (now ∷ (front ++ rest)) (front ++ now ∷ rest)
    (IsPermutation-to_front (front ++ rest) now) (IsPermutation-sym (front ++ now ∷ rest) (now ∷ (front ++ rest)) (IsPermutation-middle front now rest)))))
