-- Placing the events of logs one by one.
use Rattle.std.proofs.Common.{◌≡◌, ◌≢◌, ◌⊎◌, inl, inr, ℕ, zero, suc, ◌+◌, ◌<◌, ◌≤◌, ◌==◌, Bool, true, false, cond, List, [], ◌∷◌, ◌++◌, length, take, count_by, Option, Some, None, refl, sym, ap, subst, ◌∙◌, arith, true≢false}
use Rattle.std.specs.Prelude.{slice_get}
use Rattle.std.proofs.lemmas.Bool.{cases_eq, cases_lt}
use Rattle.std.proofs.lemmas.Bool.Decides.{Decides-and, Decides-eqb}
use Rattle.std.proofs.lemmas.List.{take-append-le, take_all}
use Rattle.std.proofs.lemmas.Option.{slice_get_within}
use Rattle.std.proofs.Math.Seq.{take-append_seam}
use Rattle.rd_event.specs.declared.events.Call.{Call as CallOf}
use Rattle.rd_order.specs.EventLists.{IsKnownThread, MayHappen, calls, givings, is_call_on, joins, takings}
use Rattle.rd_order.specs.Order.{Against, Hold, call_in, exclusive, forked_thread, hold_given, hold_taken, joined_thread, shared, thread_of}
use Rattle.rd_order.proofs.HoldLemmas.{hold_decides}
use Rattle.rd_order.proofs.OrderLemmas.{this_decides}
use Rattle.rd_weavings.specs.declared.spots.Spot.{Spot}
use Rattle.rd_weavings.specs.Logs.{AreLogs, IsSpot, Logs, IsPlaced, acquires_of, event_at, given, next_spot, noted_event, woven}
use Rattle.rd_weavings.specs.Weavings.{ArePlaced, IsUsedUp, IsWeaving, HaveOwnThreads, MayBePlaced, MayGive, none, one_more}
use Rattle.rd_weavings.proofs.SpotLemmas.{Once, at_end, at_front, at_push, at_take, count_longer, count_map, count_most, count_push, count_rises, counted, first_out, in_take, nowhere, nth_counted, once_take, same_at, some_counted, spot_is}
use Rattle.rd_weavings.proofs.SameLemmas.{acquires_are, acquires_it, forks_are, forks_it, gives_by, gives_decides, givings_are, joins_are, joins_it, known_longer, numbers_rise, one_log, takes_by, takes_decides, takings_are}

-- ---- how many of a log are given

pub given_own : (spots : List Spot) (log : ℕ) → given (spots ++ next_spot spots log ∷ []) log ≡ given spots log + 1
given_own spots log = omega (arith, count_push (λ s. s.log == log) spots (next_spot spots log), ap {B = ℕ} (λ b. cond b 1 0) ((Decides-eqb log log).1 refl))

pub given_other : (spots : List Spot) (log l : ℕ) → log ≢ l → given (spots ++ next_spot spots log ∷ []) l ≡ given spots l
given_other spots log l differ = omega (arith, count_push (λ s. s.log == l) spots (next_spot spots log), ap {B = ℕ} (λ b. cond b 1 0) (not_equal log l differ))
  where
    not_equal : (a b : ℕ) → a ≢ b → (a == b) ≡ false
    not_equal a b differ = by (a == b) refl
      where
        by : (c : Bool) → (a == b) ≡ c → c ≡ false
        by true is = absurd (differ ((Decides-eqb a b).0 is))
        by false is = refl

given_more : (spots : List Spot) (log l : ℕ) → given spots l ≤ given (spots ++ next_spot spots log ∷ []) l
given_more spots log l = omega (arith, count_push (λ s. s.log == l) spots (next_spot spots log))

-- ---- what holds of placed events

pub record Sound (all : Logs) (spots : List Spot) : Type 0 where
  pub below : (s : Spot) → IsPlaced spots s → s.place < given spots s.log
  pub all_below : (s : Spot) → s.place < given spots s.log → IsPlaced spots s
  pub only : (s : Spot) → IsPlaced spots s → IsSpot all s
  pub once : Once spots
  pub keeps : (s t : Spot) (j k : ℕ) → slice_get spots j ≡ Some s → slice_get spots k ≡ Some t → s.log ≡ t.log → s.place < t.place → j < k
  pub follow : (s : Spot) (j : ℕ) → slice_get spots j ≡ Some s → MayBePlaced all (take j spots) s
  pub ended : (s : Spot) (u : ℕ) → IsPlaced spots s → joined_thread (event_at all s) ≡ Some u → IsUsedUp all spots u
  pub covered : (t : ℕ) (h : Hold) → count_by (gives_by all t h) spots ≤ count_by (takes_by all t h) spots

module _ (all : Logs) where
  sound_none : Sound all []
  sound_none = record {
    below = λ s at. absurd (none_at s at);
    all_below = λ s less. absurd (omega arith);
    only = λ s at. absurd (none_at s at);
    once = λ s j k at_j at_k. absurd (none_at s (j, at_j));
    keeps = λ s t j k at_j at_k log less. absurd (none_at s (j, at_j));
    follow = λ s j at. absurd (none_at s (j, at));
    ended = λ s u at waits. absurd (none_at s at);
    covered = λ t h. omega arith;
  }
    where
      none_at : (s : Spot) → IsPlaced [] s → ⊥
      none_at s at = nowhere s at

  module _ (spots : List Spot) (log : ℕ) (is : Sound all spots) (may : MayGive all spots log) where
    abbrev n : Spot
    n = next_spot spots log

    abbrev more : List Spot
    more = spots ++ next_spot spots log ∷ []

    still : (s : Spot) → IsPlaced spots s → IsPlaced more s
    still s at = (at.0, at_front spots (n ∷ []) at.0 (slice_get_within spots at.0 s at.1) ∙ at.1)

    new : IsPlaced more n
    new = (length spots, at_end spots n)

    old_or_new : (s : Spot) → IsPlaced more s → IsPlaced spots s ⊎ (n ≡ s)
    old_or_new s at = elim (at_push spots n s at.0 at.1) [ inl front ↦ inl (at.0, front.1) | inr last ↦ inr last.1 ]

    fresh_spot : ¬ (IsPlaced spots n)
    fresh_spot at = let less = is.below n at in omega arith

    below_more : (s : Spot) → IsPlaced more s → s.place < given more s.log
    below_more s at = elim (old_or_new s at) [
      | inl old ↦ let less = is.below s old in omega (arith, given_more spots log s.log)
      | inr last ↦ subst (λ (x : Spot). x.place < given more x.log) last (omega (arith, given_own spots log))
    ]

    all_below_more : (s : Spot) → s.place < given more s.log → IsPlaced more s
    all_below_more s less = elim (cases_eq log s.log) [
      | inl same ↦ elim (cases_lt s.place (given spots s.log)) [
        | inl before ↦ still s (is.all_below s before)
        | inr past ↦ subst (IsPlaced more) (spot_is n s same (omega (arith, past, less, given_own spots log, ap (given spots) same, ap (given more) same))) new
      ]
      | inr other ↦ still s (is.all_below s (omega (arith, less, given_other spots log s.log other)))
    ]

    once_more : Once more
    once_more s j k at_j at_k = elim (at_push spots n s j at_j) [
      | inl one ↦ elim (at_push spots n s k at_k) [
        | inl two ↦ is.once s j k one.1 two.1
        | inr last ↦ absurd (fresh_spot (subst (IsPlaced spots) (sym last.1) (j, one.1)))
      ]
      | inr last ↦ elim (at_push spots n s k at_k) [
        | inl two ↦ absurd (fresh_spot (subst (IsPlaced spots) (sym last.1) (k, two.1)))
        | inr also ↦ last.0 ∙ sym also.0
      ]
    ]

    keeps_more : (s t : Spot) (j k : ℕ) → slice_get more j ≡ Some s → slice_get more k ≡ Some t → s.log ≡ t.log → s.place < t.place → j < k
    keeps_more s t j k at_j at_k same less = elim (at_push spots n s j at_j) [
      | inl one ↦ elim (at_push spots n t k at_k) [
        | inl two ↦ is.keeps s t j k one.1 two.1 same less
        | inr last ↦ let inside = one.0 in let e = last.0 in omega arith
      ]
      | inr last ↦ elim (at_push spots n t k at_k) [
        | inl two ↦ absurd (let low = is.below t (k, two.1) in omega (arith, low, less, ap (λ (x : Spot). x.place) last.1, ap (given spots) (ap (λ (x : Spot). x.log) last.1 ∙ same)))
        | inr also ↦ absurd (omega (arith, less, ap (λ (x : Spot). x.place) (last.1), ap (λ (x : Spot). x.place) also.1))
      ]
    ]

    follow_more : (s : Spot) (j : ℕ) → slice_get more j ≡ Some s → MayBePlaced all (take j more) s
    follow_more s j at = elim (at_push spots n s j at) [
      | inl front ↦ subst (λ before. MayBePlaced all before s) (sym (take-append-le j spots (n ∷ []) (let l = front.0 in omega arith))) (is.follow s j front.1)
      | inr last ↦ subst (λ before. MayBePlaced all before s) (sym (ap (λ m. take m more) last.0 ∙ take-append_seam spots (n ∷ []))) (subst (MayBePlaced all spots) last.1 may.follow)
    ]

    ended_more : (s : Spot) (u : ℕ) → IsPlaced more s → joined_thread (event_at all s) ≡ Some u → IsUsedUp all more u
    ended_more s u at waits = λ x is_x thread. still x (elim (old_or_new s at) [
      | inl old ↦ is.ended s u old waits x is_x thread
      | inr last ↦ may.ended u (ap (λ x. joined_thread (event_at all x)) last ∙ waits) x is_x thread
    ])

    covered_more : (t : ℕ) (h : Hold) → count_by (gives_by all t h) more ≤ count_by (takes_by all t h) more
    covered_more t h = by (gives_by all t h n) refl
      where
        by : (b : Bool) → gives_by all t h n ≡ b → count_by (gives_by all t h) more ≤ count_by (takes_by all t h) more
        by false is_not = omega (arith, is.covered t h, count_push (gives_by all t h) spots n, count_push (takes_by all t h) spots n, ap {B = ℕ} (λ b. cond b 1 0) is_not)
        by true is_so =
            let gives = (gives_decides all t h n).0 is_so in
            let held : givings (woven all spots) t h < takings (woven all spots) t h = subst (λ u. givings (woven all spots) u h < takings (woven all spots) u h) gives.0 (may.follow.happens.held h gives.1) in
            omega (arith, held, givings_are all spots t h, takings_are all spots t h, count_push (gives_by all t h) spots n, count_push (takes_by all t h) spots n, ap {B = ℕ} (λ b. cond b 1 0) is_so)

    sound_more : Sound all more
    sound_more = record {
      below = below_more;
      all_below = all_below_more;
      only = λ s at. elim (old_or_new s at) [ inl old ↦ is.only s old | inr last ↦ subst (IsSpot all) last may.inside ];
      once = once_more;
      keeps = keeps_more;
      follow = follow_more;
      ended = ended_more;
      covered = covered_more;
    }

  pub sound : (spots : List Spot) → ArePlaced all spots → Sound all spots
  sound placed none = sound_none
  sound placed (one_more spots log before may) = sound_more spots log (sound spots before) may

  pub placed_all : (spots : List Spot) → HaveOwnThreads all → ArePlaced all spots → ((s : Spot) → IsSpot all s → IsPlaced spots s) → IsWeaving all spots
  placed_all spots may placed whole = record { one_each = may; once = is.once; whole = whole; only = is.only; keeps = is.keeps; follow = is.follow }
    where
      is : Sound all spots
      is = sound spots placed

  -- ---- where there is a weaving, placing goes on

  pub call_told : (o : Option CallOf) (object kind : ℕ) → is_call_on o object kind ≡ true → (call : CallOf) × (o ≡ Some call) × (call.object ≡ object) × (call.kind ≡ kind)
  call_told None object kind is = absurd (true≢false (sym is))
  call_told (Some call) object kind is = let both = (Decides-and _ _ (Decides-eqb call.object object) (Decides-eqb call.kind kind)).0 is in (call, refl, both.0, both.1)

  abbrev pub calls_it : ℕ → ℕ → Spot → Bool
  calls_it object kind s = is_call_on (call_in (event_at all s)) object kind

  pub calls_are : (xs : List Spot) (object kind : ℕ) → calls (woven all xs) object kind ≡ count_by (calls_it object kind) xs
  unfolding calls
  calls_are xs object kind = count_map (event_at all) (λ e. is_call_on (call_in e) object kind) xs

  call_counted : (s : Spot) (call : CallOf) → call_in (event_at all s) ≡ Some call → calls_it call.object call.kind s ≡ true
  call_counted s call is = ap (λ o. is_call_on o call.object call.kind) is ∙ (Decides-and _ _ (Decides-eqb call.object call.object) (Decides-eqb call.kind call.kind)).1 (refl, refl)

  module _ (logs : AreLogs all) (spots whole : List Spot) (is : Sound all spots) (weaving : IsWeaving all whole) (s : Spot) (p : ℕ) (at : slice_get whole p ≡ Some s)
      (out : ¬ (IsPlaced spots s)) (before : (x : Spot) (j : ℕ) → j < p → slice_get whole j ≡ Some x → IsPlaced spots x) where
    is_s : IsSpot all s
    is_s = weaving.only s (p, at)

    -- it is the next of its log
    next_is : next_spot spots s.log ≡ s
    next_is = spot_is (next_spot spots s.log) s refl place
      where
        place : given spots s.log ≡ s.place
        place = elim (cases_lt s.place (given spots s.log)) [
          | inl below ↦ absurd (out (is.all_below s below))
          | inr past ↦ elim (cases_eq (given spots s.log) s.place) [
            | inl same ↦ same
            | inr differ ↦ absurd (
                let is_n : IsSpot all (next_spot spots s.log) = omega (arith, is_s, past, differ) in
                let there = weaving.whole (next_spot spots s.log) is_n in
                let first : there.0 < p = weaving.keeps (next_spot spots s.log) s there.0 p there.1 at refl (omega (arith, past, differ)) in
                let low = is.below (next_spot spots s.log) (before (next_spot spots s.log) there.0 first there.1) in
                omega arith)
          ]
        ]

    abbrev front : List Spot
    front = take p whole

    front_within : (x : Spot) → IsPlaced front x → IsPlaced spots x
    front_within x here = let inside = at_take whole p here.0 x here.1 in before x here.0 inside.0 inside.1

    at_least : (f : Spot → Bool) → count_by f front ≤ count_by f spots
    at_least f = count_most f front spots (once_take whole p weaving.once) (λ x here passes. front_within x here)

    -- what is placed stands before it or behind it in the weaving
    found : (x : Spot) → IsPlaced spots x → (q : ℕ) × (slice_get whole q ≡ Some x) × ((q < p) ⊎ (p < q))
    found x here =
        let there = weaving.whole x (is.only x here) in (
          there.0,
          there.1,
          elim (cases_lt there.0 p) [
            | inl first ↦ inl first
            | inr late ↦ elim (cases_eq there.0 p) [
              | inl same ↦ absurd (out (subst (IsPlaced spots) (same_at (slice_get whole p) x s (ap (slice_get whole) (sym same) ∙ there.1) at) here))
              | inr differ ↦ inr (omega arith)
            ]
          ],
        )

    before_s : (x : Spot) (q : ℕ) → slice_get whole q ≡ Some x → q < p → IsPlaced front x
    before_s x q at_q less = (q, in_take whole p q x less at_q)

    -- the placed acquires of the lock that it acquires stand before it
    takers : (lock : ℕ) → hold_taken (event_at all s) ≡ Some (exclusive lock) → (x : Spot) → IsPlaced spots x → hold_taken (event_at all x) ≡ Some (exclusive lock) → IsPlaced front x
    takers lock takes x here takes_x = elim ((found x here).2) [
      | inl first ↦ before_s x (found x here).0 (found x here).1 first
      | inr late ↦ absurd (too_late late)
    ]
      where
        too_late : p < (found x here).0 → ⊥
        too_late late =
            let rise = numbers_rise all whole weaving lock s x p (found x here).0 at (found x here).1 late takes takes_x in
            let number_s = (weaving.follow s p at).numbered lock takes in
            let number_x = (is.follow x here.0 here.1).numbered lock takes_x in
            let few = count_longer (acquires_it all lock) spots here.0 (length spots) is.once (omega (arith, slice_get_within spots here.0 x here.1)) in
            let one = count_rises (acquires_it all lock) spots here.0 (length spots) x is.once (slice_get_within spots here.0 x here.1) here.1
            ((hold_decides (hold_taken (event_at all x)) (exclusive lock)).1 takes_x) in
            let whole_front : take (length spots) spots ≡ spots = take_all (length spots) spots (omega arith) in
            let y = nth_counted (acquires_it all lock) spots (acquires_of (woven all front) lock)
            (omega (arith, rise, number_s, number_x, one, acquires_are all (take here.0 spots) lock, ap (count_by (acquires_it all lock)) whole_front)) in
            let takes_y = (hold_decides (hold_taken (event_at all y.1)) (exclusive lock)).0 y.3 in
            let number_y = (is.follow y.1 y.0 y.2).numbered lock takes_y in
            let alike : (noted_event all y.1).number ≡ (noted_event all s).number = omega (arith, number_y, number_s, y.4, acquires_are all (take y.0 spots) lock) in
            elim (found y.1 (y.0, y.2)).2 [
              | inl first ↦ let less = numbers_rise all whole weaving lock y.1 s (found y.1 (y.0, y.2)).0 p (found y.1 (y.0, y.2)).1 at first takes_y takes in omega arith
              | inr behind ↦ let less = numbers_rise all whole weaving lock s y.1 p (found y.1 (y.0, y.2)).0 at (found y.1 (y.0, y.2)).1 behind takes takes_y in omega arith
            ]

    happens_whole : MayHappen all.roots (woven all front) (event_at all s)
    happens_whole = (weaving.follow s p at).happens

    fresh_here : (u : ℕ) → forked_thread (event_at all s) ≡ Some u → ¬ (IsKnownThread all.roots (woven all spots) u)
    fresh_here u starts (inl root) = happens_whole.fresh u starts (inl root)
    fresh_here u starts (inr forked) =
        let x = some_counted (forks_it all u) spots (omega (arith, forked, forks_are all spots u)) in
        let starts_x : forked_thread (event_at all x.0) ≡ Some u = (this_decides (forked_thread (event_at all x.0)) u).0 x.2 in
        elim (found x.0 x.1).2 [
          | inl first ↦ happens_whole.fresh u starts (inr (omega (arith, forks_are all front u, counted (forks_it all u) front x.0 (before_s x.0 (found x.0 x.1).0 (found x.0 x.1).1 first) x.2)))
          | inr late ↦ (weaving.follow x.0 (found x.0 x.1).0 (found x.0 x.1).1).happens.fresh u starts_x
              (inr (omega (
                arith,
                forks_are all (take (found x.0 x.1).0 whole) u,
                counted (forks_it all u) (take (found x.0 x.1).0 whole) s (p, in_take whole (found x.0 x.1).0 p s late at) ((this_decides (forked_thread (event_at all s)) u).1 starts),
              )))
        ]

    zero_if : (m : ℕ) → ¬ (0 < m) → m ≡ 0
    zero_if zero never = refl
    zero_if (suc m) never = absurd (never (omega arith))

    running_here : joins (woven all spots) (thread_of (event_at all s)) ≡ 0
    running_here = zero_if _ (λ some.
        let x = some_counted (joins_it all (thread_of (event_at all s))) spots (omega (arith, some, joins_are all spots (thread_of (event_at all s)))) in
        out (is.ended x.0 (thread_of (event_at all s)) x.1 ((this_decides (joined_thread (event_at all x.0)) (thread_of (event_at all s))).0 x.2) s is_s (sym (logs.own s is_s))))

    -- no thread shares a lock
    no_sharing : (u lock : ℕ) → takings (woven all spots) u (shared lock) ≡ givings (woven all spots) u (shared lock)
    no_sharing u lock = takings_are all spots u (shared lock) ∙ zero_if _ no_taker ∙ sym (givings_are all spots u (shared lock) ∙ zero_if _ no_giver)
      where
        no_taker : ¬ (0 < count_by (takes_by all u (shared lock)) spots)
        no_taker some = let x = some_counted (takes_by all u (shared lock)) spots some in logs.no_share x.0 lock (is.only x.0 x.1) ((takes_decides all u (shared lock) x.0).0 x.2).1

        no_giver : ¬ (0 < count_by (gives_by all u (shared lock)) spots)
        no_giver some = let x = some_counted (gives_by all u (shared lock)) spots some in logs.no_unshare x.0 lock (is.only x.0 x.1) ((gives_decides all u (shared lock) x.0).0 x.2).1

    free_here : (h k : Hold) → hold_taken (event_at all s) ≡ Some h → Against h k → (u : ℕ) → u ≢ thread_of (event_at all s) → takings (woven all spots) u k ≡ givings (woven all spots) u k
    free_here (exclusive lock) (shared other) takes against u differ = no_sharing u other
    free_here (shared lock) k takes against u differ = absurd (logs.no_share s lock is_s takes)
    free_here (exclusive lock) (exclusive other) takes against u differ =
        subst (λ l. takings (woven all spots) u (exclusive l) ≡ givings (woven all spots) u (exclusive l)) against free
      where
        few : count_by (takes_by all u (exclusive lock)) spots ≤ count_by (takes_by all u (exclusive lock)) front
        few = count_most (takes_by all u (exclusive lock)) spots front is.once (λ x here passes. takers lock takes x here ((takes_decides all u (exclusive lock) x).0 passes).1)

        free : takings (woven all spots) u (exclusive lock) ≡ givings (woven all spots) u (exclusive lock)
        free = omega (
          arith,
          few,
          is.covered u (exclusive lock),
          at_least (gives_by all u (exclusive lock)),
          happens_whole.free (exclusive lock) (exclusive lock) takes refl u differ,
          takings_are all spots u (exclusive lock),
          givings_are all spots u (exclusive lock),
          takings_are all front u (exclusive lock),
          givings_are all front u (exclusive lock),
        )

    held_here : (h : Hold) → hold_given (event_at all s) ≡ Some h → givings (woven all spots) (thread_of (event_at all s)) h < takings (woven all spots) (thread_of (event_at all s)) h
    held_here h gives = omega (arith, happens_whole.held h gives, own, at_least (takes_by all t h), takings_are all spots t h, givings_are all spots t h, takings_are all front t h, givings_are all front t h)
      where
        t : ℕ
        t = thread_of (event_at all s)

        own : count_by (gives_by all t h) spots ≤ count_by (gives_by all t h) front
        own = count_most (gives_by all t h) spots front is.once (λ x here passes.
            let log : x.log ≡ s.log = one_log all logs weaving.one_each x s (is.only x here) is_s ((gives_decides all t h x).0 passes).0 in
            let low : x.place < s.place = omega (arith, is.below x here, ap (given spots) log, ap (λ (z : Spot). z.place) next_is) in
            before_s x (found x here).0 (found x here).1 (weaving.keeps x s (found x here).0 p (found x here).1 at log low))

    one_kind_here : (call : CallOf) → call_in (event_at all s) ≡ Some call → (kind : ℕ) → kind ≢ call.kind → calls (woven all spots) call.object kind ≡ 0
    one_kind_here call is_call kind differ = zero_if _ (λ some.
        let x = some_counted (calls_it call.object kind) spots (omega (arith, some, calls_are spots call.object kind)) in
        let told = call_told (call_in (event_at all x.0)) call.object kind x.2 in
        elim (found x.0 x.1).2 [
          | inl first ↦ absurd (omega (
            arith,
            happens_whole.one_kind call is_call kind differ,
            calls_are front call.object kind,
            counted (calls_it call.object kind) front x.0 (before_s x.0 (found x.0 x.1).0 (found x.0 x.1).1 first) x.2,
          ))
          | inr late ↦ absurd (omega (
            arith,
            (weaving.follow x.0 (found x.0 x.1).0 (found x.0 x.1).1).happens.one_kind told.0 told.1 call.kind (λ same. differ (sym told.3 ∙ sym same)),
            calls_are (take (found x.0 x.1).0 whole) told.0.object call.kind,
            counted (calls_it told.0.object call.kind) (take (found x.0 x.1).0 whole) s (p, in_take whole (found x.0 x.1).0 p s late at)
                (subst (λ object. calls_it object call.kind s ≡ true) (sym told.2) (call_counted s call is_call)),
          ))
        ])

    follow_here : MayBePlaced all spots s
    follow_here = record {
      happens = record {
        fresh = fresh_here;
        known_actor = known_longer all front spots (thread_of (event_at all s)) (at_least (forks_it all (thread_of (event_at all s)))) happens_whole.known_actor;
        known_joined = λ u waits. known_longer all front spots u (at_least (forks_it all u)) (happens_whole.known_joined u waits);
        running = running_here;
        other_joined = happens_whole.other_joined;
        free = free_here;
        held = held_here;
        one_kind = one_kind_here;
      };
      declared = (weaving.follow s p at).declared;
      numbered = λ lock takes. omega (
        arith,
        (weaving.follow s p at).numbered lock takes,
        at_least (acquires_it all lock),
        acquires_are all front lock,
        acquires_are all spots lock,
        count_most (acquires_it all lock) spots front is.once (λ x here passes. takers lock takes x here ((hold_decides (hold_taken (event_at all x)) (exclusive lock)).0 passes)),
      );
    }

    ended_here : (u : ℕ) → joined_thread (event_at all s) ≡ Some u → IsUsedUp all spots u
    ended_here u waits x is_x thread = elim (cases_lt there.0 p) [
      | inl first ↦ before x there.0 first there.1
      | inr late ↦ elim (cases_eq there.0 p) [
        | inl same ↦ absurd (happens_whole.other_joined u waits
            (sym thread ∙ sym (logs.own x is_x) ∙ ap (λ y. thread_of (event_at all y)) (same_at (slice_get whole p) x s (ap (slice_get whole) (sym same) ∙ there.1) at)))
        | inr differ ↦ absurd (omega (
          arith,
          (weaving.follow x there.0 there.1).happens.running,
          joins_are all (take there.0 whole) (thread_of (event_at all x)),
          counted (joins_it all (thread_of (event_at all x))) (take there.0 whole) s (p, in_take whole there.0 p s (omega arith) at)
              ((this_decides (joined_thread (event_at all s)) (thread_of (event_at all x))).1 (waits ∙ ap Some (sym (logs.own x is_x ∙ thread)))),
        ))
      ]
    ]
      where
        there : IsPlaced whole x
        there = weaving.whole x is_x

    gives_here : MayGive all spots s.log
    gives_here = record {
      inside = subst (IsSpot all) (sym next_is) is_s;
      follow = subst (MayBePlaced all spots) (sym next_is) follow_here;
      ended = subst (λ x. (u : ℕ) → joined_thread (event_at all x) ≡ Some u → IsUsedUp all spots u) (sym next_is) ended_here;
    }

  pub goes_on : (spots whole : List Spot) → AreLogs all → ArePlaced all spots → IsWeaving all whole → ((s : Spot) → IsSpot all s → IsPlaced spots s) ⊎ ((log : ℕ) × MayGive all spots log)
  goes_on spots whole logs placed weaving = elim (first_out whole spots) [
    | inl every ↦ inl (λ s is_s. every s (weaving.whole s is_s))
    | inr first ↦ inr (first.spot.log, gives_here logs spots whole (sound spots placed) weaving first.spot first.place first.at first.out first.before)
  ]
