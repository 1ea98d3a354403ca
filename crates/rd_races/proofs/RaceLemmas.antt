-- The tests of racing agree with the definitions, for every relation on calls and its test, and events that are appended leave races
-- as they are.
use Rattle.std.proofs.Common.{◌≡◌, ◌≢◌, inl, inr, ℕ, zero, suc, ◌<◌, ◌≤◌, Bool, true, false, cond, List, [], ◌∷◌, ◌++◌, length, Option, Some, None, MatchOption, Decides, refl, sym, ap, subst, ◌∙◌, arith, true≢false}
use Rattle.std.specs.Prelude.{slice_get}
use Rattle.std.proofs.lemmas.Bool.{cases_eq}
use Rattle.std.proofs.lemmas.Bool.Decides.{Decides-and, Decides-not, Decides-eqb, Decides-like, Decides-ltb, not_from_Decides, same_from_decides}
use Rattle.std.proofs.lemmas.Option.{none-some, same_Some}
use Rattle.rd_event.specs.declared.events.Call.{Call as CallOf}
use Rattle.rd_event.specs.declared.events.Event.{Event}
use Rattle.rd_event.specs.declared.events.Event.TheVariants.{Fork, Join, Acquire, Release, Share, Unshare, Call}
use Rattle.rd_order.proofs.OrderLemmas.{at_end, at_front, reaches_decides, reaches_longer, reaches_shorter}
use Rattle.rd_races.specs.RaceTests.{are_apart, is_racing, last_below, latest_of}
use Rattle.rd_races.specs.Races.{Racing, Reported, IsLatest}

-- ---- the last number with a property

-- the last number below n with P
record IsLast (P : ℕ → Type 0) (n i : ℕ) : Type 0 where
  below : i < n
  holds : P i
  last : (k : ℕ) → k < n → P k → k ≤ i

last_decides : (P : ℕ → Type 0) (test : ℕ → Bool) → ((k : ℕ) → Decides (test k) (P k)) → (n : ℕ)
    → MatchOption (last_below test n) ((k : ℕ) → k < n → ¬ (P k)) (IsLast P n)
last_decides P test tells zero = λ k below. absurd (omega arith)
last_decides P test tells (suc n) = by (test n) refl (last_decides P test tells n)
  where
    Last : Option ℕ → Type 0
    Last o = MatchOption o ((k : ℕ) → k < suc n → ¬ (P k)) (IsLast P (suc n))

    passed : (o : Option ℕ) → ¬ (P n) → MatchOption o ((k : ℕ) → k < n → ¬ (P k)) (IsLast P n) → Last o
    passed None fails rest = λ k below holds. elim (cases_eq k n) [
      | inl same ↦ fails (subst P same holds)
      | inr other ↦ rest k (omega arith) holds
    ]
    passed (Some i) fails rest = record {
      below = let b = rest.below in omega arith;
      holds = rest.holds;
      last = λ k below holds. elim (cases_eq k n) [
        | inl same ↦ absurd (fails (subst P same holds))
        | inr other ↦ rest.last k (omega arith) holds
      ];
    }

    by : (b : Bool) → test n ≡ b → MatchOption (last_below test n) ((k : ℕ) → k < n → ¬ (P k)) (IsLast P n) → Last (cond (test n) (Some n) (last_below test n))
    by true holds rest = subst (λ b. Last (cond b (Some n) (last_below test n))) (sym holds)
        (record { below = omega arith; holds = (tells n).0 holds; last = λ k below h. omega arith })
    by false fails rest = subst (λ b. Last (cond b (Some n) (last_below test n))) (sym fails)
        (passed (last_below test n) (not_from_Decides (test n) (tells n) fails) rest)

last_like : (f g : ℕ → Bool) → ((k : ℕ) → f k ≡ g k) → (n : ℕ) → last_below f n ≡ last_below g n
last_like f g same zero = refl
last_like f g same (suc n) = λ i. cond (same n i) (Some n) (last_like f g same n i)

-- ---- races

-- two calls on one object that don't commute
record AreApart (Commuting : CallOf → CallOf → Type 0) (at_i at_j : Option Event) : Type 0 where
  a : CallOf
  b : CallOf
  is_a : at_i ≡ Some (Call a)
  is_b : at_j ≡ Some (Call b)
  object : a.object ≡ b.object
  apart : ¬ (Commuting a b)

call_is : (a b : CallOf) → Some (Call a) ≡ Some (Call b) → a ≡ b
call_is a b h = cc

module _ (Commuting : CallOf → CallOf → Type 0) (commuting : CallOf → CallOf → Bool) (tells : (a b : CallOf) → Decides (commuting a b) (Commuting a b)) where
  apart_decides : (at_i at_j : Option Event) → Decides (are_apart commuting at_i at_j) (AreApart Commuting at_i at_j)
  apart_decides (Some (Call a)) (Some (Call b)) =
      Decides-like _
      (λ h. record { a = a; b = b; is_a = refl; is_b = refl; object = h.0; apart = h.1 })
      (λ h. (
        ap (λ c. c.object) (call_is a h.a h.is_a) ∙ h.object ∙ ap (λ c. c.object) (sym (call_is b h.b h.is_b)),
        λ commute. h.apart (subst (λ c. Commuting c h.b) (call_is a h.a h.is_a) (subst (Commuting a) (call_is b h.b h.is_b) commute)),
      ))
      (Decides-and _ _ (Decides-eqb a.object b.object) (Decides-not _ (tells a b)))
  apart_decides None at_j = (λ h. absurd (true≢false (sym h)), λ h. absurd (none-some _ h.is_a))
  apart_decides (Some (Fork t u)) at_j = (λ h. absurd (true≢false (sym h)), λ h. let is = h.is_a in cc)
  apart_decides (Some (Join t u)) at_j = (λ h. absurd (true≢false (sym h)), λ h. let is = h.is_a in cc)
  apart_decides (Some (Acquire t l)) at_j = (λ h. absurd (true≢false (sym h)), λ h. let is = h.is_a in cc)
  apart_decides (Some (Release t l)) at_j = (λ h. absurd (true≢false (sym h)), λ h. let is = h.is_a in cc)
  apart_decides (Some (Share t l)) at_j = (λ h. absurd (true≢false (sym h)), λ h. let is = h.is_a in cc)
  apart_decides (Some (Unshare t l)) at_j = (λ h. absurd (true≢false (sym h)), λ h. let is = h.is_a in cc)
  apart_decides (Some (Call a)) None = (λ h. absurd (true≢false (sym h)), λ h. absurd (none-some _ h.is_b))
  apart_decides (Some (Call a)) (Some (Fork t u)) = (λ h. absurd (true≢false (sym h)), λ h. let is = h.is_b in cc)
  apart_decides (Some (Call a)) (Some (Join t u)) = (λ h. absurd (true≢false (sym h)), λ h. let is = h.is_b in cc)
  apart_decides (Some (Call a)) (Some (Acquire t l)) = (λ h. absurd (true≢false (sym h)), λ h. let is = h.is_b in cc)
  apart_decides (Some (Call a)) (Some (Release t l)) = (λ h. absurd (true≢false (sym h)), λ h. let is = h.is_b in cc)
  apart_decides (Some (Call a)) (Some (Share t l)) = (λ h. absurd (true≢false (sym h)), λ h. let is = h.is_b in cc)
  apart_decides (Some (Call a)) (Some (Unshare t l)) = (λ h. absurd (true≢false (sym h)), λ h. let is = h.is_b in cc)

  pub racing_decides : (es : List Event) (i j : ℕ) → Decides (is_racing commuting es i j) (Racing Commuting es i j)
  unfolding is_racing
  racing_decides es i j =
      Decides-like _
      (λ h. record { a = h.1.0.a; b = h.1.0.b; at_i = h.1.0.is_a; at_j = h.1.0.is_b; object = h.1.0.object; unordered = (h.0, h.1.1); apart = h.1.0.apart })
      (λ h. (h.unordered.0, (record { a = h.a; b = h.b; is_a = h.at_i; is_b = h.at_j; object = h.object; apart = h.apart }, h.unordered.1)))
      (Decides-and _ _ (Decides-ltb i j)
      (Decides-and _ _ (apart_decides (slice_get es i) (slice_get es j)) (Decides-not _ (reaches_decides es i j))))

  pub latest_is : (es : List Event) (j : ℕ) → MatchOption (latest_of commuting es j) (¬ (Reported Commuting es j)) (IsLatest Commuting es j)
  unfolding latest_of
  latest_is es j = by (last_below (λ i. is_racing commuting es i j) j) (last_decides (λ i. Racing Commuting es i j) (λ i. is_racing commuting es i j) (λ i. racing_decides es i j) j)
    where
      by : (o : Option ℕ) → MatchOption o ((k : ℕ) → k < j → ¬ (Racing Commuting es k j)) (IsLast (λ i. Racing Commuting es i j) j) → MatchOption o (¬ (Reported Commuting es j)) (IsLatest Commuting es j)
      by None none = λ reported. none reported.0 reported.1.unordered.0 reported.1
      by (Some i) last = record { racing = last.holds; latest = λ k racing. last.last k racing.unordered.0 racing }

  pub one_latest : (es : List Event) (j i k : ℕ) → IsLatest Commuting es j i → IsLatest Commuting es j k → i ≡ k
  one_latest es j i k one other =
      let less : i ≤ k = other.latest i one.racing in
      let more : k ≤ i = one.latest k other.racing in
      omega arith

  -- where the latest is known, so is the answer of the test
  pub latest_some : (es : List Event) (j i : ℕ) → IsLatest Commuting es j i → latest_of commuting es j ≡ Some i
  latest_some es j i is = by (latest_of commuting es j) (latest_is es j)
    where
      by : (o : Option ℕ) → MatchOption o (¬ (Reported Commuting es j)) (IsLatest Commuting es j) → o ≡ Some i
      by None none = absurd (none (i, is.racing))
      by (Some k) other = ap Some (one_latest es j k i other is)

  pub latest_none : (es : List Event) (j : ℕ) → ¬ (Reported Commuting es j) → latest_of commuting es j ≡ None
  latest_none es j none = by (latest_of commuting es j) (latest_is es j)
    where
      by : (o : Option ℕ) → MatchOption o (¬ (Reported Commuting es j)) (IsLatest Commuting es j) → o ≡ None
      by None other = refl
      by (Some i) is = absurd (none (i, is.racing))

  -- events that are appended
  module _ (es fs : List Event) (i j : ℕ) (inside : j < length es) where
    pub racing_longer : Racing Commuting es i j → Racing Commuting (es ++ fs) i j
    racing_longer racing =
        let before : i < j = racing.unordered.0 in
        record {
          a = racing.a;
          b = racing.b;
          at_i = at_front es fs i (omega arith) ∙ racing.at_i;
          at_j = at_front es fs j inside ∙ racing.at_j;
          object = racing.object;
          unordered = (before, λ reaches. racing.unordered.1 (reaches_shorter es fs i j inside reaches));
          apart = racing.apart;
        }

    pub racing_shorter : Racing Commuting (es ++ fs) i j → Racing Commuting es i j
    racing_shorter racing =
        let before : i < j = racing.unordered.0 in
        record {
          a = racing.a;
          b = racing.b;
          at_i = sym (at_front es fs i (omega arith)) ∙ racing.at_i;
          at_j = sym (at_front es fs j inside) ∙ racing.at_j;
          object = racing.object;
          unordered = (before, λ reaches. racing.unordered.1 (reaches_longer es fs i j reaches));
          apart = racing.apart;
        }

    is_racing_longer : is_racing commuting (es ++ fs) i j ≡ is_racing commuting es i j
    is_racing_longer = same_from_decides (is_racing commuting (es ++ fs) i j) (is_racing commuting es i j) (racing_decides (es ++ fs) i j)
        (Decides-like _ racing_longer racing_shorter (racing_decides es i j))

  pub latest_longer : (es fs : List Event) (j : ℕ) → j < length es → latest_of commuting (es ++ fs) j ≡ latest_of commuting es j
  unfolding latest_of
  latest_longer es fs j inside = last_like (λ i. is_racing commuting (es ++ fs) i j) (λ i. is_racing commuting es i j) (λ i. is_racing_longer es fs i j inside) j

  -- no event that isn't a call is reported
  pub not_reported : (es : List Event) (e : Event) → ((call : CallOf) → e ≢ Call call) → latest_of commuting (es ++ e ∷ []) (length es) ≡ None
  not_reported es e other = latest_none (es ++ e ∷ []) (length es) (λ reported.
      let racing : Racing Commuting (es ++ e ∷ []) reported.0 (length es) = reported.1 in
      other racing.b (same_Some e (Call racing.b) (sym (at_end es e) ∙ racing.at_j)))
