-- First races, by tests, in lists that grow.
use Rattle.std.proofs.Common.{◌≡◌, ◌≢◌, ◌↔◌, ◌⊎◌, inl, inr, ℕ, zero, suc, ◌+◌, ◌<◌, ◌≤◌, ◌&&◌, ◌||◌, Bool, true, false, cond, List, ◌++◌, length, Option, Some, None, is_some, MatchOption, refl, sym, ap, subst, ◌∙◌, arith, true≢false}
use Rattle.std.specs.Prelude.{slice_get}
use Rattle.std.proofs.lemmas.Bool.{cases_eq}
use Rattle.std.proofs.lemmas.Bool.Decides.{Decides-eqb}
use Rattle.rd_check_command.specs.Checked.{text_with}
use Rattle.rd_ecl.specs.Kinds.{kinds_of}
use Rattle.rd_epoch.proofs.AccessLemmas.{access_at, same_call}
use Rattle.rd_epoch.specs.Accesses.{IsAccess, IsFirstRace, IsReported, variable_kinds}
use Rattle.rd_epochs_command.specs.Firsts.{first_at, first_with, firsts_before, is_access_on, latest_access, raced_before, first_texts_before}
use Rattle.rd_event.specs.declared.events.Call.{Call as CallOf}
use Rattle.rd_event.specs.declared.events.Event.TheVariants.{Fork, Join, Acquire, Release, Share, Unshare, Call}
use Rattle.rd_event.specs.declared.events.Event.{Event}
use Rattle.rd_order.proofs.OrderLemmas.{at_front}
use Rattle.rd_order.specs.EventLists.{WellFormedWith}
use Rattle.rd_check_command.proofs.ReportLemmas.{passing}
use Rattle.rd_races.proofs.RaceLemmas.{latest_is, latest_longer}
use Rattle.rd_races.specs.Commuting.{Commute, calls_commute}
use Rattle.rd_races.specs.Races.{IsLatest}

-- ---- which accesses are reported

-- the latest access that races with one is told
pub latest_told : (es : List Event) (j : ℕ) → MatchOption (latest_access es j) (¬ (IsReported es j)) (IsLatest (Commute variable_kinds) es j)
latest_told es j = latest_is (Commute variable_kinds) (calls_commute variable_kinds) (passing variable_kinds) es j

reported_some : (es : List Event) (j : ℕ) → is_some (latest_access es j) ≡ true ↔ IsReported es j
reported_some es j = by (latest_access es j) (latest_told es j)
  where
    by : (o : Option ℕ) → MatchOption o (¬ (IsReported es j)) (IsLatest (Commute variable_kinds) es j) → is_some o ≡ true ↔ IsReported es j
    by None none = (λ h. absurd (true≢false (sym h)), λ reported. absurd (none reported))
    by (Some i) latest = (λ h. (i, latest.racing), λ reported. refl)

-- ---- lists that grow

latest_kept : (es fs : List Event) (n : ℕ) → n < length es → latest_access (es ++ fs) n ≡ latest_access es n
latest_kept es fs n inside = latest_longer (Commute variable_kinds) (calls_commute variable_kinds) (passing variable_kinds) es fs n inside

raced_kept : (es fs : List Event) (variable n : ℕ) → n ≤ length es → raced_before (es ++ fs) variable n ≡ raced_before es variable n
unfolding raced_before
raced_kept es fs variable zero inside = refl
raced_kept es fs variable (suc n) inside =
    λ i. raced_kept es fs variable n (omega arith) i || (is_access_on variable (at_front es fs n (omega arith) i) && is_some (latest_kept es fs n (omega arith) i))

with_kept : (es fs : List Event) (n : ℕ) → n < length es → (e : Option Event) → first_with (es ++ fs) n e ≡ first_with es n e
with_kept es fs n inside (Some (Call call)) = λ i. cond (raced_kept es fs call.object n (omega arith) i) None (latest_kept es fs n inside i)
with_kept es fs n inside (Some (Fork t c)) = refl
with_kept es fs n inside (Some (Join t c)) = refl
with_kept es fs n inside (Some (Acquire t l)) = refl
with_kept es fs n inside (Some (Release t l)) = refl
with_kept es fs n inside (Some (Share t l)) = refl
with_kept es fs n inside (Some (Unshare t l)) = refl
with_kept es fs n inside None = refl

pub first_kept : (es fs : List Event) (n : ℕ) → n < length es → first_at (es ++ fs) n ≡ first_at es n
unfolding first_at
first_kept es fs n inside = ap (first_with (es ++ fs) n) (at_front es fs n inside) ∙ with_kept es fs n inside (slice_get es n)

pub firsts_kept : (es fs : List Event) (n : ℕ) → n ≤ length es → firsts_before (es ++ fs) n ≡ firsts_before es n
unfolding firsts_before
firsts_kept es fs zero inside = refl
firsts_kept es fs (suc n) inside = λ i. firsts_kept es fs n (omega arith) i + cond (is_some (first_kept es fs n (omega arith) i)) 1 0

-- the latest is an earlier one
first_earlier : (es : List Event) (n i : ℕ) → latest_access es n ≡ Some i → i < n
first_earlier es n i is = by (latest_access es n) (latest_told es n) is
  where
    by : (o : Option ℕ) → MatchOption o (¬ (IsReported es n)) (IsLatest (Commute variable_kinds) es n) → o ≡ Some i → i < n
    by None none e = cc
    by (Some k) latest e = let below : k < n = latest.racing.unordered.0 in let same : k ≡ i = cc in omega (arith, below, same)

first_latest : (es : List Event) (n i : ℕ) (e : Option Event) → first_with es n e ≡ Some i → latest_access es n ≡ Some i
first_latest es n i (Some (Call call)) is = by (raced_before es call.object n) is
  where
    by : (b : Bool) → cond b None (latest_access es n) ≡ Some i → latest_access es n ≡ Some i
    by true e = cc
    by false e = e
first_latest es n i (Some (Fork t c)) is = cc
first_latest es n i (Some (Join t c)) is = cc
first_latest es n i (Some (Acquire t l)) is = cc
first_latest es n i (Some (Release t l)) is = cc
first_latest es n i (Some (Share t l)) is = cc
first_latest es n i (Some (Unshare t l)) is = cc
first_latest es n i None is = cc

module _ (text more_text : ℕ → ℕ → List ℕ) (es fs : List Event)
    (kept : (n i : ℕ) → n < length es → i < length es → more_text n i ≡ text n i) where
  text_kept : (n : ℕ) → n < length es → text_with more_text n (first_at (es ++ fs) n) ≡ text_with text n (first_at es n)
  unfolding first_at
  text_kept n inside = ap (text_with more_text n) (first_kept es fs n inside) ∙ by (first_with es n (slice_get es n)) refl
    where
      by : (o : Option ℕ) → first_with es n (slice_get es n) ≡ o → text_with more_text n o ≡ text_with text n o
      by None is = refl
      by (Some i) is = let before = first_earlier es n i (first_latest es n i (slice_get es n) is) in kept n i inside (omega (arith, before, inside))

  pub texts_kept : (n : ℕ) → n ≤ length es → first_texts_before more_text (es ++ fs) n ≡ first_texts_before text es n
  unfolding first_texts_before
  texts_kept zero inside = refl
  texts_kept (suc n) inside = λ i. texts_kept n (omega arith) i ++ text_kept n (omega arith) i

-- ---- what the tests tell, of a well-formed list

is_on_call : (variable : ℕ) (call : CallOf) → is_access_on variable (Some (Call call)) ≡ true ↔ (call.object ≡ variable)
is_on_call variable call = Decides-eqb call.object variable

on_access : (es : List Event) (variable : ℕ) (w : Bool) (k : ℕ) → IsAccess es variable w k → is_access_on variable (slice_get es k) ≡ true
on_access es variable w k is = ap (is_access_on variable) is.at ∙ (is_on_call variable is.call).1 is.object

module _ (roots : ℕ → Bool) (es : List Event) (formed : WellFormedWith (kinds_of variable_kinds) roots es) where
  access_on : (variable k : ℕ) → is_access_on variable (slice_get es k) ≡ true → (w : Bool) × IsAccess es variable w k
  access_on variable k on = by (slice_get es k) refl on
    where
      by : (e : Option Event) → slice_get es k ≡ e → is_access_on variable e ≡ true → (w : Bool) × IsAccess es variable w k
      by (Some (Call call)) at h =
          let (w, access) = access_at roots es formed k call at in
          (w, subst (λ v. IsAccess es v w k) ((is_on_call variable call).0 h) access)
      by (Some (Fork t c)) at h = absurd (true≢false (sym h))
      by (Some (Join t c)) at h = absurd (true≢false (sym h))
      by (Some (Acquire t l)) at h = absurd (true≢false (sym h))
      by (Some (Release t l)) at h = absurd (true≢false (sym h))
      by (Some (Share t l)) at h = absurd (true≢false (sym h))
      by (Some (Unshare t l)) at h = absurd (true≢false (sym h))
      by None at h = absurd (true≢false (sym h))

  -- an earlier access to the variable is reported
  abbrev HasRacedBefore : ℕ → ℕ → Type 0
  HasRacedBefore variable n = (w : Bool) × (k : ℕ) × (k < n) × IsAccess es variable w k × IsReported es k

  both : (a b : Bool) → (a && b) ≡ true → (a ≡ true) × (b ≡ true)
  both true true h = (refl, refl)
  both true false h = absurd (true≢false (sym h))
  both false b h = absurd (true≢false (sym h))

  either : (a b : Bool) → (a || b) ≡ true → (a ≡ true) ⊎ (b ≡ true)
  either true b h = inl refl
  either false b h = inr h

  pub raced_then : (variable n : ℕ) → raced_before es variable n ≡ true → HasRacedBefore variable n
  unfolding raced_before
  raced_then variable zero h = absurd (true≢false (sym h))
  raced_then variable (suc n) h = elim (either (raced_before es variable n) (is_access_on variable (slice_get es n) && is_some (latest_access es n)) h) [
    | inl before ↦ let (w, k, below, access, reported) = raced_then variable n before in (w, k, omega (arith, below), access, reported)
    | inr here ↦
        let (on, some) = both (is_access_on variable (slice_get es n)) (is_some (latest_access es n)) here in
        let (w, access) = access_on variable n on in
        (w, n, omega arith, access, (reported_some es n).0 some)
  ]

  pub raced_if : (variable n : ℕ) → HasRacedBefore variable n → raced_before es variable n ≡ true
  unfolding raced_before
  raced_if variable zero (w, k, below, access, reported) = absurd (omega (arith, below))
  raced_if variable (suc n) (w, k, below, access, reported) = elim (cases_eq k n) [
    | inl here ↦ last (raced_before es variable n) (subst (λ m. (is_access_on variable (slice_get es m) && is_some (latest_access es m)) ≡ true) here
        (and_true (is_access_on variable (slice_get es k)) (is_some (latest_access es k)) (on_access es variable w k access) ((reported_some es k).1 reported)))
    | inr other ↦ ap (λ b. b || (is_access_on variable (slice_get es n) && is_some (latest_access es n))) (raced_if variable n (w, k, omega (arith, below, other), access, reported))
  ]
    where
      and_true : (a b : Bool) → a ≡ true → b ≡ true → (a && b) ≡ true
      and_true a b x y = rw (x, y) refl

      last : (a : Bool) {b : Bool} → b ≡ true → (a || b) ≡ true
      last true h = refl
      last false h = h

  -- the test tells first races
  pub first_told : (j : ℕ) → MatchOption (first_at es j) (¬ ((variable : ℕ) × IsFirstRace es variable j)) (λ i. (variable : ℕ) × IsFirstRace es variable j × IsLatest (Commute variable_kinds) es j i)
  unfolding first_at
  first_told j = by (slice_get es j) refl
    where
      Told : Option ℕ → Type 0
      Told o = MatchOption o (¬ ((variable : ℕ) × IsFirstRace es variable j)) (λ i. (variable : ℕ) × IsFirstRace es variable j × IsLatest (Commute variable_kinds) es j i)

      no_call : ((call : CallOf) → slice_get es j ≢ Some (Call call)) → ¬ ((variable : ℕ) × IsFirstRace es variable j)
      no_call none (variable, first) = none first.at.call first.at.at

      call_told : (call : CallOf) → slice_get es j ≡ Some (Call call) → (raced : Bool) → raced_before es call.object j ≡ raced → (latest : Option ℕ) → latest_access es j ≡ latest
          → MatchOption latest (¬ (IsReported es j)) (IsLatest (Commute variable_kinds) es j) → Told (cond raced None latest)
      call_told call at true raced latest is told = λ first.
          let (w, k, below, access, reported) = raced_then call.object j raced in
          let same : first.1.at.call.object ≡ call.object = ap (λ (c : CallOf). c.object) (same_call (slice_get es j) first.1.at.call call first.1.at.at at) in
          let one : call.object ≡ first.0 = sym same ∙ first.1.at.object in
          first.1.first w k below (subst (λ v. IsAccess es v w k) one access) reported
      call_told call at false raced None is none = λ first. none first.1.reported
      call_told call at false raced (Some i) is latest =
          let (w, access) = access_at roots es formed j call at in (
            call.object,
            record {
              write = w;
              at = access;
              reported = (i, latest.racing);
              first = λ x k below other reported. absurd (true≢false (sym (raced_if call.object j (x, k, below, other, reported)) ∙ raced));
            },
            latest,
          )

      by : (e : Option Event) → slice_get es j ≡ e → Told (first_with es j e)
      by (Some (Call call)) at = call_told call at (raced_before es call.object j) refl (latest_access es j) refl (latest_told es j)
      by (Some (Fork t c)) at = no_call (λ call same. let e = sym at ∙ same in cc)
      by (Some (Join t c)) at = no_call (λ call same. let e = sym at ∙ same in cc)
      by (Some (Acquire t l)) at = no_call (λ call same. let e = sym at ∙ same in cc)
      by (Some (Release t l)) at = no_call (λ call same. let e = sym at ∙ same in cc)
      by (Some (Share t l)) at = no_call (λ call same. let e = sym at ∙ same in cc)
      by (Some (Unshare t l)) at = no_call (λ call same. let e = sym at ∙ same in cc)
      by None at = no_call (λ call same. let e = sym at ∙ same in cc)
