-- What an event that is placed lets other logs give.
use Rattle.std.proofs.Common.{◌≡◌, ◌≢◌, ◌⊎◌, inl, inr, ℕ, ◌+◌, ◌<◌, ◌≤◌, Bool, true, false, cond, List, [], ◌∷◌, ◌++◌, count_by, Option, Some, None, Decides, refl, sym, ap, subst, ◌∙◌, arith, true≢false}
use Rattle.std.proofs.lemmas.Bool.{cases_Bool, cases_eq}
use Rattle.std.proofs.lemmas.Bool.Decides.{not_from_Decides}
use Rattle.std.proofs.lemmas.Option.{none-some, same_Some}
use Rattle.rd_event.specs.declared.events.Event.{Event}
use Rattle.rd_event.specs.declared.events.Event.TheVariants.{Fork, Join, Acquire, Release, Share, Unshare, Call}
use Rattle.rd_order.specs.EventLists.{IsKnownThread, givings, is_hold, takings}
use Rattle.rd_order.specs.Order.{Against, Hold, exclusive, forked_thread, hold_given, hold_taken, joined_thread, shared, thread_of}
use Rattle.rd_order.specs.OrderTests.{is_this}
use Rattle.rd_order.proofs.HoldLemmas.{hold_decides}
use Rattle.rd_order.proofs.OrderLemmas.{this_decides}
use Rattle.rd_weavings.specs.declared.spots.Spot.{Spot}
use Rattle.rd_weavings.specs.Logs.{AreLogs, IsSpot, Logs, acquires_of, event_at, log_at, next_spot, noted_event, woven}
use Rattle.rd_weavings.specs.Turns.{IsWoken, begun, known, last, freed}
use Rattle.rd_weavings.specs.Weavings.{ArePlaced, HaveOwnThreads, IsUsedUp, MayBePlaced, MayGive}
use Rattle.rd_weavings.proofs.PlacingLemmas.{Sound, calls_are, calls_it, given_other, sound}
use Rattle.rd_weavings.proofs.SameLemmas.{acquires_are, acquires_it, forks_it, gives_by, gives_decides, givings_are, joins_are, joins_it, known_longer, one_log, takes_by, takes_decides, takings_are}
use Rattle.rd_weavings.proofs.SpotLemmas.{at_push, count_push, some_counted, spot_is}

-- no event takes a hold and gives one back
takes_and_gives : (e : Event) (h k : Hold) → hold_taken e ≡ Some h → hold_given e ≡ Some k → ⊥
takes_and_gives (Fork thread child) h k takes gives = none-some h takes
takes_and_gives (Join thread child) h k takes gives = none-some h takes
takes_and_gives (Acquire thread lock) h k takes gives = none-some k gives
takes_and_gives (Release thread lock) h k takes gives = none-some h takes
takes_and_gives (Share thread lock) h k takes gives = none-some k gives
takes_and_gives (Unshare thread lock) h k takes gives = none-some h takes
takes_and_gives (Call call) h k takes gives = none-some h takes

zero_below : (m n : ℕ) → m ≤ n → n ≡ 0 → m ≡ 0
zero_below m n less none = omega arith

module _ (all : Logs) (logs : AreLogs all) (apart : HaveOwnThreads all) (spots : List Spot) (is : Sound all spots) (log m : ℕ) (may : MayGive all spots log) (other : m ≢ log)
    (after : MayGive all (spots ++ next_spot spots log ∷ []) m) where
  abbrev n : Spot
  n = next_spot spots log

  abbrev s : Spot
  s = next_spot spots m

  abbrev more : List Spot
  more = spots ++ next_spot spots log ∷ []

  abbrev e : Event
  e = event_at all (next_spot spots log)

  abbrev f : Event
  f = event_at all (next_spot spots m)

  same_next : next_spot more m ≡ s
  same_next = spot_is (next_spot more m) s refl (given_other spots log m (λ same. other (sym same)))

  is_s : IsSpot all s
  is_s = subst (IsSpot all) same_next after.inside

  follow : MayBePlaced all more s
  follow = subst (MayBePlaced all more) same_next after.follow

  ended_after : (u : ℕ) → joined_thread f ≡ Some u → IsUsedUp all more u
  ended_after = subst (λ x. (u : ℕ) → joined_thread (event_at all x) ≡ Some u → IsUsedUp all more u) same_next after.ended

  -- both are of different threads
  threads : thread_of f ≢ thread_of e
  threads same = other (one_log all logs apart s n is_s may.inside same)

  grows : (test : Spot → Bool) → count_by test spots ≤ count_by test more
  grows test = omega (arith, count_push test spots n)

  stays : (test : Spot → Bool) → test n ≡ false → count_by test more ≡ count_by test spots
  stays test fails = omega (arith, count_push test spots n, ap {B = ℕ} (λ b. cond b 1 0) fails)

  rises : (test : Spot → Bool) → test n ≡ true → count_by test more ≡ count_by test spots + 1
  rises test passes = omega (arith, count_push test spots n, ap {B = ℕ} (λ b. cond b 1 0) passes)

  fails_if : {P : Type 0} (b : Bool) → Decides b P → ¬ P → b ≡ false
  fails_if true tells never = absurd (never (tells.0 refl))
  fails_if false tells never = refl

  -- a thread that is known behind it was known, or it begins it
  was_known : (t : ℕ) → forked_thread e ≢ Some t → IsKnownThread all.roots (woven all more) t → IsKnownThread all.roots (woven all spots) t
  was_known t never is_known = known_longer all more spots t (omega (arith, stays (forks_it all t) (fails_if (forks_it all t n) (this_decides (forked_thread e) t) never))) is_known

  -- no thread takes what it can't give back
  balanced : (u lock : ℕ) → takings (woven all more) u (exclusive lock) ≡ givings (woven all more) u (exclusive lock) → takes_by all u (exclusive lock) n ≡ false
  balanced u lock even = by (takes_by all u (exclusive lock) n) refl
    where
      by : (b : Bool) → takes_by all u (exclusive lock) n ≡ b → b ≡ false
      by false fails = refl
      by true takes = absurd (omega (
        arith,
        even,
        is.covered u (exclusive lock),
        rises (takes_by all u (exclusive lock)) takes,
        stays (gives_by all u (exclusive lock)) gives_not,
        takings_are all more u (exclusive lock),
        givings_are all more u (exclusive lock),
      ))
        where
          both : hold_taken e ≡ Some (exclusive lock)
          both = ((takes_decides all u (exclusive lock) n).0 takes).1

          gives_not : gives_by all u (exclusive lock) n ≡ false
          gives_not = fails_if (gives_by all u (exclusive lock) n) (gives_decides all u (exclusive lock) n) (λ gives. takes_and_gives e (exclusive lock) (exclusive lock) both gives.1)

  module _ (not_begun : forked_thread e ≢ Some (thread_of f)) (not_known : (u : ℕ) → joined_thread f ≡ Some u → forked_thread e ≢ Some u)
      (not_last : (u : ℕ) → joined_thread f ≡ Some u → thread_of e ≢ u) (not_freed : (lock : ℕ) → hold_taken f ≡ Some (exclusive lock) → hold_given e ≢ Some (exclusive lock)) where
    no_sharing : (u lock : ℕ) → takings (woven all spots) u (shared lock) ≡ givings (woven all spots) u (shared lock)
    no_sharing u lock = takings_are all spots u (shared lock) ∙ zero _ no_taker ∙ sym (givings_are all spots u (shared lock) ∙ zero _ no_giver)
      where
        zero : (m : ℕ) → ¬ (0 < m) → m ≡ 0
        zero m never = omega arith

        no_taker : ¬ (0 < count_by (takes_by all u (shared lock)) spots)
        no_taker some = let x = some_counted (takes_by all u (shared lock)) spots some in logs.no_share x.0 lock (is.only x.0 x.1) ((takes_decides all u (shared lock) x.0).0 x.2).1

        no_giver : ¬ (0 < count_by (gives_by all u (shared lock)) spots)
        no_giver some = let x = some_counted (gives_by all u (shared lock)) spots some in logs.no_unshare x.0 lock (is.only x.0 x.1) ((gives_decides all u (shared lock) x.0).0 x.2).1

    free : (h k : Hold) → hold_taken f ≡ Some h → Against h k → (u : ℕ) → u ≢ thread_of f → takings (woven all spots) u k ≡ givings (woven all spots) u k
    free (shared lock) k takes against u differ = absurd (logs.no_share s lock is_s takes)
    free (exclusive lock) (shared taken) takes against u differ = no_sharing u taken
    free (exclusive lock) (exclusive taken) takes against u differ =
        let even = follow.happens.free (exclusive lock) (exclusive taken) takes against u differ in
        omega (
          arith,
          even,
          takings_are all more u (exclusive taken),
          givings_are all more u (exclusive taken),
          takings_are all spots u (exclusive taken),
          givings_are all spots u (exclusive taken),
          stays (takes_by all u (exclusive taken)) (balanced u taken even),
          stays (gives_by all u (exclusive taken)) (fails_if (gives_by all u (exclusive taken) n) (gives_decides all u (exclusive taken) n)
              (λ gives. not_freed lock takes (gives.1 ∙ ap (λ l. Some (exclusive l)) (sym against)))),
        )

    held : (h : Hold) → hold_given f ≡ Some h → givings (woven all spots) (thread_of f) h < takings (woven all spots) (thread_of f) h
    held h gives =
        omega (
          arith,
          follow.happens.held h gives,
          takings_are all more (thread_of f) h,
          givings_are all more (thread_of f) h,
          takings_are all spots (thread_of f) h,
          givings_are all spots (thread_of f) h,
          grows (gives_by all (thread_of f) h),
          stays (takes_by all (thread_of f) h) (fails_if (takes_by all (thread_of f) h n) (takes_decides all (thread_of f) h n) (λ takes. threads (sym takes.0))),
        )

    number : (lock : ℕ) → hold_taken f ≡ Some (exclusive lock) → (noted_event all s).number ≡ acquires_of (woven all spots) lock + 1
    number lock takes =
        omega (
          arith,
          follow.numbered lock takes,
          acquires_are all more lock,
          acquires_are all spots lock,
          stays (acquires_it all lock) (fails_if (acquires_it all lock n) (hold_decides (hold_taken e) (exclusive lock)) (λ takes_e. absurd (true≢false
              (sym ((takes_decides all (thread_of e) (exclusive lock) n).1 (refl, takes_e)) ∙ balanced (thread_of e) lock (follow.happens.free (exclusive lock) (exclusive lock) takes refl (thread_of e) (λ same. threads (sym same))))))),
        )

    ended : (u : ℕ) → joined_thread f ≡ Some u → IsUsedUp all spots u
    ended u waits x is_x thread = let there = ended_after u waits x is_x thread in elim (at_push spots n x there.0 there.1) [
      | inl front ↦ (there.0, front.1)
      | inr new ↦ absurd (not_last u waits (logs.own n may.inside ∙ ap (λ (y : Spot). (log_at all y.log).thread) new.1 ∙ thread))
    ]

    pub still_may : MayGive all spots m
    still_may = record {
      inside = is_s;
      follow = record {
        happens = record {
          fresh = λ u starts was. follow.happens.fresh u starts (known_longer all spots more u (grows (forks_it all u)) was);
          known_actor = was_known (thread_of f) not_begun follow.happens.known_actor;
          known_joined = λ u waits. was_known u (not_known u waits) (follow.happens.known_joined u waits);
          running = zero_below _ _ (omega (arith, joins_are all spots (thread_of f), joins_are all more (thread_of f), grows (joins_it all (thread_of f)))) follow.happens.running;
          other_joined = follow.happens.other_joined;
          free = free;
          held = held;
          one_kind = λ call is_call kind differ. zero_below _ _
              (omega (arith, calls_are all spots call.object kind, calls_are all more call.object kind, grows (calls_it all call.object kind))) (follow.happens.one_kind call is_call kind differ);
        };
        declared = follow.declared;
        numbered = number;
      };
      ended = ended;
    }

  pub turn : MayGive all spots m ⊎ IsWoken all spots log m
  turn = elim (cases_Bool (forks_it all (thread_of f) n)) [
    | inl starts ↦ inr (begun ((this_decides (forked_thread e) (thread_of f)).0 starts))
    | inr no_start ↦ by_join (joined_thread f) refl (not_from_Decides _ (this_decides (forked_thread e) (thread_of f)) no_start)
  ]
    where
      by_hold : (taken : Option Hold) → hold_taken f ≡ taken → forked_thread e ≢ Some (thread_of f) → ((u : ℕ) → joined_thread f ≡ Some u → forked_thread e ≢ Some u)
          → ((u : ℕ) → joined_thread f ≡ Some u → thread_of e ≢ u) → MayGive all spots m ⊎ IsWoken all spots log m
      by_hold None takes a b c = inl (still_may a b c (λ lock is_taken. absurd (none-some (exclusive lock) (sym takes ∙ is_taken))))
      by_hold (Some (shared lock)) takes a b c = absurd (logs.no_share s lock is_s takes)
      by_hold (Some (exclusive lock)) takes a b c = elim (cases_Bool (is_hold (hold_given e) (exclusive lock))) [
        | inl gives ↦ inr (freed lock ((hold_decides (hold_given e) (exclusive lock)).0 gives) takes)
        | inr no_gift ↦ inl (still_may a b c (λ l is_taken gives. not_from_Decides _ (hold_decides (hold_given e) (exclusive lock)) no_gift (gives ∙ sym is_taken ∙ takes)))
      ]

      by_join : (joined : Option ℕ) → joined_thread f ≡ joined → forked_thread e ≢ Some (thread_of f) → MayGive all spots m ⊎ IsWoken all spots log m
      by_join None waits a = by_hold (hold_taken f) refl a (λ u joins_u. absurd (none-some u (sym waits ∙ joins_u))) (λ u joins_u. absurd (none-some u (sym waits ∙ joins_u)))
      by_join (Some u) waits a = elim (cases_Bool (is_this (forked_thread e) u)) [
        | inl starts ↦ inr (known u ((this_decides (forked_thread e) u).0 starts) waits)
        | inr no_start ↦ elim (cases_eq (thread_of e) u) [
          | inl same ↦ inr (last (waits ∙ ap Some (sym same)) (ended_after (thread_of e) (waits ∙ ap Some (sym same))))
          | inr differ ↦ by_hold (hold_taken f) refl a
              (λ v joins_v starts. not_from_Decides _ (this_decides (forked_thread e) u) no_start (starts ∙ sym joins_v ∙ waits))
              (λ v joins_v same. differ (same ∙ same_Some v u (sym joins_v ∙ waits)))
        ]
      ]

pub turn_of : (all : Logs) → AreLogs all → HaveOwnThreads all → (spots : List Spot) → ArePlaced all spots → (log m : ℕ) → MayGive all spots log → m ≢ log
    → MayGive all (spots ++ next_spot spots log ∷ []) m → MayGive all spots m ⊎ IsWoken all spots log m
turn_of all logs apart spots placed log m may other after = turn all logs apart spots (sound all spots placed) log m may other after
