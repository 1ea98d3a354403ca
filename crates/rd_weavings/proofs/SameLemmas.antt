-- Any two weavings order the same events.
use Rattle.std.proofs.Common.{◌≡◌, ◌≢◌, ◌⊎◌, inl, inr, ℕ, suc, ◌+◌, ◌<◌, ◌≤◌, ◌==◌, ◌&&◌, Bool, true, List, [], ◌∷◌, length, get_or, take, count_by, Some, Decides, refl, sym, ap, subst, ◌∙◌, arith}
use Rattle.std.specs.Prelude.{option_map, slice_get}
use Rattle.std.proofs.lemmas.Bool.{cases_eq, cases_lt}
use Rattle.std.proofs.lemmas.Bool.Decides.{Decides-and, Decides-eqb}
use Rattle.std.proofs.lemmas.List.{get_or_past}
use Rattle.std.proofs.lemmas.Option.{same_Some, slice_get-get_or, slice_get-map, slice_get_within}
use Rattle.rd_event.specs.declared.events.Call.{Call as CallOf}
use Rattle.rd_event.specs.declared.events.Event.{Event}
use Rattle.rd_event.specs.declared.events.Event.TheVariants.{Call}
use Rattle.rd_order.specs.EventLists.{IsKnownThread, forks, givings, is_hold, joins, takings}
use Rattle.rd_order.specs.Order.{Edge, Hold, Linked, Reaches, begins, ends, exclusive, forked_thread, hands_over, call_in, hold_given, hold_taken, joined_thread, same_thread, shared, spans, thread_of}
use Rattle.rd_order.specs.OrderTests.{is_this}
use Rattle.rd_order.proofs.HoldLemmas.{hold_decides}
use Rattle.rd_order.proofs.OrderLemmas.{edge_reaches, reaches_joined, reaches_least, reaches_rises, this_decides}
use Rattle.rd_weavings.specs.declared.spots.Spot.{Spot}
use Rattle.rd_weavings.specs.Logs.{AreLogs, IsSpot, Logs, IsPlaced, acquires_of, event_at, no_log, noted_event, woven}
use Rattle.rd_races.specs.Races.{Racing}
use Rattle.rd_weavings.specs.Weavings.{IsWeaving, HaveOwnThreads}
use Rattle.rd_weavings.proofs.SpotLemmas.{at_take, count_longer, count_map, count_more, count_most, count_rises, counted, in_take, not_before, once_take, same_at, spot_is}

-- ---- counts of events as counts of spots

module _ (all : Logs) where
  abbrev pub takes_by : ℕ → Hold → Spot → Bool
  takes_by t h s = (thread_of (event_at all s) == t) && is_hold (hold_taken (event_at all s)) h

  abbrev pub gives_by : ℕ → Hold → Spot → Bool
  gives_by t h s = (thread_of (event_at all s) == t) && is_hold (hold_given (event_at all s)) h

  abbrev pub forks_it : ℕ → Spot → Bool
  forks_it t s = is_this (forked_thread (event_at all s)) t

  abbrev pub joins_it : ℕ → Spot → Bool
  joins_it t s = is_this (joined_thread (event_at all s)) t

  abbrev pub acquires_it : ℕ → Spot → Bool
  acquires_it lock s = is_hold (hold_taken (event_at all s)) (exclusive lock)

  pub takings_are : (xs : List Spot) (t : ℕ) (h : Hold) → takings (woven all xs) t h ≡ count_by (takes_by t h) xs
  unfolding takings
  takings_are xs t h = count_map (event_at all) (λ e. (thread_of e == t) && is_hold (hold_taken e) h) xs

  pub givings_are : (xs : List Spot) (t : ℕ) (h : Hold) → givings (woven all xs) t h ≡ count_by (gives_by t h) xs
  unfolding givings
  givings_are xs t h = count_map (event_at all) (λ e. (thread_of e == t) && is_hold (hold_given e) h) xs

  pub forks_are : (xs : List Spot) (t : ℕ) → forks (woven all xs) t ≡ count_by (forks_it t) xs
  unfolding forks
  forks_are xs t = count_map (event_at all) (λ e. is_this (forked_thread e) t) xs

  pub joins_are : (xs : List Spot) (t : ℕ) → joins (woven all xs) t ≡ count_by (joins_it t) xs
  unfolding joins
  joins_are xs t = count_map (event_at all) (λ e. is_this (joined_thread e) t) xs

  pub acquires_are : (xs : List Spot) (lock : ℕ) → acquires_of (woven all xs) lock ≡ count_by (acquires_it lock) xs
  acquires_are xs lock = count_map (event_at all) (λ e. is_hold (hold_taken e) (exclusive lock)) xs

  pub takes_decides : (t : ℕ) (h : Hold) (s : Spot) → Decides (takes_by t h s) ((thread_of (event_at all s) ≡ t) × (hold_taken (event_at all s) ≡ Some h))
  takes_decides t h s = Decides-and _ _ (Decides-eqb (thread_of (event_at all s)) t) (hold_decides (hold_taken (event_at all s)) h)

  pub gives_decides : (t : ℕ) (h : Hold) (s : Spot) → Decides (gives_by t h s) ((thread_of (event_at all s) ≡ t) × (hold_given (event_at all s) ≡ Some h))
  gives_decides t h s = Decides-and _ _ (Decides-eqb (thread_of (event_at all s)) t) (hold_decides (hold_given (event_at all s)) h)

  -- a thread that is known stays known
  pub known_longer : (xs ys : List Spot) (t : ℕ) → count_by (forks_it t) xs ≤ count_by (forks_it t) ys → IsKnownThread all.roots (woven all xs) t → IsKnownThread all.roots (woven all ys) t
  known_longer xs ys t more (inl root) = inl root
  known_longer xs ys t more (inr forked) = inr (omega (arith, more, forks_are xs t, forks_are ys t))

  -- ---- logs

  pub spot_within : (s : Spot) → IsSpot all s → s.log < length all.logs
  spot_within s is = elim (cases_lt s.log (length all.logs)) [
    | inl inside ↦ inside
    | inr past ↦ absurd (let none : s.place < 0 = subst (λ log. s.place < length log.events) (get_or_past all.logs s.log no_log past) is in omega arith)
  ]

  -- events of one thread are of one log
  pub one_log : AreLogs all → HaveOwnThreads all → (s t : Spot) → IsSpot all s → IsSpot all t → thread_of (event_at all s) ≡ thread_of (event_at all t) → s.log ≡ t.log
  one_log logs may s t is_s is_t same = may s.log t.log (spot_within s is_s) (spot_within t is_t) (sym (logs.own s is_s) ∙ same ∙ logs.own t is_t)

  -- ---- one weaving

  module _ (spots : List Spot) (is : IsWeaving all spots) where
    pub spot_at : (s : Spot) (j : ℕ) → slice_get spots j ≡ Some s → IsSpot all s
    spot_at s j at = is.only s (j, at)

    -- an acquire has a greater number than those of its lock before it
    pub numbers_rise : (lock : ℕ) (s t : Spot) (p q : ℕ) → slice_get spots p ≡ Some s → slice_get spots q ≡ Some t → p < q
        → hold_taken (event_at all s) ≡ Some (exclusive lock) → hold_taken (event_at all t) ≡ Some (exclusive lock) → (noted_event all s).number < (noted_event all t).number
    numbers_rise lock s t p q at_s at_t less takes_s takes_t =
        omega (
          arith,
          (is.follow s p at_s).numbered lock takes_s,
          (is.follow t q at_t).numbered lock takes_t,
          acquires_are (take p spots) lock,
          acquires_are (take q spots) lock,
          count_rises (acquires_it lock) spots p q s is.once less at_s ((hold_decides (hold_taken (event_at all s)) (exclusive lock)).1 takes_s),
        )

  -- ---- two weavings

  module _ (logs : AreLogs all) (one other : List Spot) (is : IsWeaving all one) (also : IsWeaving all other) where
    -- two places with different spots are before or behind one another
    apart : (s t : Spot) (i j k l : ℕ) → slice_get one i ≡ Some s → slice_get one j ≡ Some t → slice_get other k ≡ Some s → slice_get other l ≡ Some t → i < j → k ≢ l
    apart s t i j k l at_i at_j at_k at_l less same =
        let alike : s ≡ t = same_at (slice_get other k) s t at_k (ap (slice_get other) same ∙ at_l) in
        let again : i ≡ j = is.once s i j at_i (at_j ∙ ap Some (sym alike)) in
        omega arith

    acquires_alike : (lock : ℕ) (s t : Spot) (i j k l : ℕ) → slice_get one i ≡ Some s → slice_get one j ≡ Some t → slice_get other k ≡ Some s → slice_get other l ≡ Some t → i < j
        → hold_taken (event_at all s) ≡ Some (exclusive lock) → hold_taken (event_at all t) ≡ Some (exclusive lock) → k < l
    acquires_alike lock s t i j k l at_i at_j at_k at_l less takes_s takes_t =
        let rise = numbers_rise one is lock s t i j at_i at_j less takes_s takes_t in
        elim (cases_lt k l) [
          | inl before ↦ before
          | inr behind ↦ elim (cases_eq k l) [
            | inl same ↦ absurd (apart s t i j k l at_i at_j at_k at_l less same)
            | inr differ ↦ absurd (let fall = numbers_rise other also lock t s l k at_l at_k (omega arith) takes_t takes_s in omega arith)
          ]
        ]

    -- events of one log stand alike
    log_alike : (s t : Spot) (i j k l : ℕ) → slice_get one i ≡ Some s → slice_get one j ≡ Some t → slice_get other k ≡ Some s → slice_get other l ≡ Some t → i < j → s.log ≡ t.log → k < l
    log_alike s t i j k l at_i at_j at_k at_l less same = elim (cases_lt s.place t.place) [
      | inl before ↦ also.keeps s t k l at_k at_l same before
      | inr behind ↦ elim (cases_eq s.place t.place) [
        | inl place ↦ absurd (let again : i ≡ j = is.once s i j at_i (at_j ∙ ap Some (sym (spot_is s t same place))) in omega arith)
        | inr differ ↦ absurd (let back : j < i = is.keeps t s j i at_j at_i (sym same) (omega arith) in omega arith)
      ]
    ]

    module _ (s t : Spot) (i j k l : ℕ) (at_i : slice_get one i ≡ Some s) (at_j : slice_get one j ≡ Some t) (at_k : slice_get other k ≡ Some s) (at_l : slice_get other l ≡ Some t)
        (less : i < j) where
      is_s : IsSpot all s
      is_s = is.only s (i, at_i)

      is_t : IsSpot all t
      is_t = is.only t (j, at_j)

      of_thread : thread_of (event_at all s) ≡ thread_of (event_at all t) → k < l
      of_thread same = log_alike s t i j k l at_i at_j at_k at_l less (one_log logs is.one_each s t is_s is_t same)

      -- a lock that a thread gave back, and another took then
      handed : (lock : ℕ) → thread_of (event_at all s) ≢ thread_of (event_at all t) → l < k
          → hold_given (event_at all s) ≡ Some (exclusive lock) → hold_taken (event_at all t) ≡ Some (exclusive lock) → ⊥
      handed lock differ back gives takes =
          omega (
            arith,
            free_one,
            free_other,
            fewer,
            same_takes,
            same_takes_back,
            takings_are (take j one) u h,
            givings_are (take j one) u h,
            takings_are (take l other) u h,
            givings_are (take l other) u h,
          )
        where
          u : ℕ
          u = thread_of (event_at all s)

          h : Hold
          h = exclusive lock

          free_one : takings (woven all (take j one)) u h ≡ givings (woven all (take j one)) u h
          free_one = (is.follow t j at_j).happens.free h h takes refl u differ

          free_other : takings (woven all (take l other)) u h ≡ givings (woven all (take l other)) u h
          free_other = (also.follow t l at_l).happens.free h h takes refl u differ

          same_takes : count_by (takes_by u h) (take j one) ≤ count_by (takes_by u h) (take l other)
          same_takes = count_most (takes_by u h) (take j one) (take l other) (once_take one j is.once) (λ x at passes.
              let here = at_take one j at.0 x at.1 in
              let there = also.whole x (is.only x (at.0, here.1)) in
              (there.0, in_take other l there.0 x (acquires_alike lock x t at.0 j there.0 l here.1 at_j there.1 at_l here.0 ((takes_decides u h x).0 passes).1 takes) there.1))

          same_takes_back : count_by (takes_by u h) (take l other) ≤ count_by (takes_by u h) (take j one)
          same_takes_back = count_most (takes_by u h) (take l other) (take j one) (once_take other l also.once) (λ x at passes.
              let here = at_take other l at.0 x at.1 in
              let there = is.whole x (also.only x (at.0, here.1)) in (
                there.0,
                in_take one j there.0 x (elim (cases_lt there.0 j) [
                  | inl before ↦ before
                  | inr behind ↦ absurd (back_rise x at.0 there.0 here.1 there.1 here.0 behind ((takes_decides u h x).0 passes).1)
                ]) there.1,
              ))
            where
              back_rise : (x : Spot) (r p : ℕ) → slice_get other r ≡ Some x → slice_get one p ≡ Some x → r < l → j ≤ p → hold_taken (event_at all x) ≡ Some h → ⊥
              back_rise x r p at_r at_p before behind takes_x =
                  let rise = numbers_rise other also lock x t r l at_r at_l before takes_x takes in
                  elim (cases_eq j p) [
                    | inl same ↦
                        let alike : t ≡ x = same_at (slice_get one j) t x at_j (ap (slice_get one) same ∙ at_p) in
                        let again : r ≡ l = also.once x r l at_r (at_l ∙ ap Some alike) in
                        omega arith
                    | inr other_place ↦ let fall = numbers_rise one is lock t x j p at_j at_p (omega arith) takes takes_x in omega arith
                  ]

          fewer : count_by (gives_by u h) (take l other) + 1 ≤ count_by (gives_by u h) (take j one)
          fewer = count_more (gives_by u h) (take l other) (take j one) s (once_take other l also.once) within ((gives_decides u h s).1 (refl, gives)) (i, in_take one j i s less at_i)
              (not_before other l k s also.once at_k (omega arith))
            where
              within : (x : Spot) → IsPlaced (take l other) x → gives_by u h x ≡ true → IsPlaced (take j one) x
              within x at passes =
                  let here = at_take other l at.0 x at.1 in
                  let is_x = also.only x (at.0, here.1) in
                  let there = is.whole x is_x in
                  let log : x.log ≡ s.log = one_log logs is.one_each x s is_x is_s ((gives_decides u h x).0 passes).0 in
                  (there.0, in_take one j there.0 x (before x at.0 there.0 here.0 here.1 there.1 log) there.1)
                where
                  before : (x : Spot) (r p : ℕ) → r < l → slice_get other r ≡ Some x → slice_get one p ≡ Some x → x.log ≡ s.log → p < j
                  before x r p in_front at_r at_p log = elim (cases_lt x.place s.place) [
                    | inl lower ↦ let first : p < i = is.keeps x s p i at_p at_i log lower in omega arith
                    | inr not_lower ↦ elim (cases_eq x.place s.place) [
                      | inl place ↦ absurd (let again : r ≡ k = also.once x r k at_r (at_k ∙ ap Some (sym (spot_is x s log place))) in omega arith)
                      | inr higher ↦ absurd (let first : k < r = also.keeps s x k r at_k at_r (sym log) (omega arith) in omega arith)
                    ]
                  ]

      not_back : Linked (event_at all s) (event_at all t) → l < k → k < l
      not_back (same_thread same) back = of_thread same
      not_back (begins starts) back =
          absurd ((also.follow s k at_k).happens.fresh (thread_of (event_at all t)) starts
          (known_longer (take l other) (take k other) (thread_of (event_at all t)) (count_longer (forks_it (thread_of (event_at all t))) other l k also.once (omega arith))
          (also.follow t l at_l).happens.known_actor))
      not_back (ends waits) back =
          absurd (let none = (also.follow s k at_k).happens.running in
          let some = counted (joins_it (thread_of (event_at all s))) (take k other) t (l, in_take other k l t back at_l) ((this_decides (joined_thread (event_at all t)) (thread_of (event_at all s))).1 waits) in
          omega (arith, none, some, joins_are (take k other) (thread_of (event_at all s))))
      not_back (spans thread starts waits) back =
          absurd ((also.follow s k at_k).happens.fresh thread starts
          (known_longer (take l other) (take k other) thread (count_longer (forks_it thread) other l k also.once (omega arith))
          ((also.follow t l at_l).happens.known_joined thread waits)))
      not_back (hands_over (exclusive lock) (exclusive taken) gives takes against) back = elim (cases_eq (thread_of (event_at all s)) (thread_of (event_at all t))) [
        | inl same ↦ of_thread same
        | inr differ ↦ absurd (handed lock differ back gives (takes ∙ ap (λ m. Some (exclusive m)) (sym against)))
      ]
      not_back (hands_over (exclusive lock) (shared taken) gives takes against) back = absurd (logs.no_share t taken is_t takes)
      not_back (hands_over (shared lock) taken gives takes against) back = absurd (logs.no_unshare s lock is_s gives)

      pub edge_kept : Linked (event_at all s) (event_at all t) → k < l
      edge_kept linked = elim (cases_lt k l) [
        | inl before ↦ before
        | inr behind ↦ elim (cases_eq k l) [
          | inl same ↦ absurd (apart s t i j k l at_i at_j at_k at_l less same)
          | inr differ ↦ not_back linked (omega arith)
        ]
      ]

    -- ---- reaching

    event_is : (spots : List Spot) (i : ℕ) (s : Spot) → slice_get spots i ≡ Some s → slice_get (woven all spots) i ≡ Some (event_at all s)
    event_is spots i s at = slice_get-map (event_at all) spots i ∙ ap (option_map (event_at all)) at

    from_event : (spots : List Spot) (i : ℕ) (s : Spot) (e : Event) → slice_get spots i ≡ Some s → slice_get (woven all spots) i ≡ Some e → e ≡ event_at all s
    from_event spots i s e at is = same_Some e (event_at all s) (sym is ∙ event_is spots i s at)

    abbrev Moved : ℕ → ℕ → Type 0
    Moved i j = (j < length one)
        × ((s t : Spot) (k l : ℕ) → slice_get one i ≡ Some s → slice_get one j ≡ Some t → slice_get other k ≡ Some s → slice_get other l ≡ Some t → Reaches (woven all other) k l)

    by_edge : (i j : ℕ) → Edge (woven all one) i j → Moved i j
    by_edge i j edge = (
      omega (arith, slice_get_within (woven all one) j edge.b edge.at_j, woven_length one),
      λ s t k l at_i at_j at_k at_l.
          let linked : Linked (event_at all s) (event_at all t) = subst (λ a. Linked a (event_at all t)) (from_event one i s edge.a at_i edge.at_i)
          (subst (Linked edge.a) (from_event one j t edge.b at_j edge.at_j) edge.linked) in
          edge_reaches (woven all other) k l (record {
            rises = edge_kept s t i j k l at_i at_j at_k at_l edge.rises linked;
            a = event_at all s;
            b = event_at all t;
            at_i = event_is other k s at_k;
            at_j = event_is other l t at_l;
            linked = linked;
          }),
    )
      where
        woven_length : (spots : List Spot) → length (woven all spots) ≡ length spots
        woven_length [] = refl
        woven_length (x ∷ xs) = ap suc (woven_length xs)

    by_two : (i m j : ℕ) → Moved i m → Moved m j → Moved i j
    by_two i m j first second = (
      second.0,
      λ s t k l at_i at_j at_k at_l.
          let at_m = slice_get-get_or one m s first.0 in
          let there = also.whole (get_or one m s) (is.only (get_or one m s) (m, at_m)) in
          reaches_joined (woven all other) k there.0 l (first.1 s (get_or one m s) k there.0 at_i at_m at_k there.1) (second.1 (get_or one m s) t there.0 l at_m at_j there.1 at_l),
    )

    pub reaches_kept : (s t : Spot) (i j k l : ℕ) → slice_get one i ≡ Some s → slice_get one j ≡ Some t → slice_get other k ≡ Some s → slice_get other l ≡ Some t
        → Reaches (woven all one) i j → Reaches (woven all other) k l
    reaches_kept s t i j k l at_i at_j at_k at_l r = (reaches_least (woven all one) Moved by_edge by_two i j r).1 s t k l at_i at_j at_k at_l

-- ---- races

call_of : (e : Event) (call : CallOf) → e ≡ Call call → call_in e ≡ Some call
call_of e call is = ap call_in is

module _ (Commuting : CallOf → CallOf → Type 0) (back : (a b : CallOf) → a.kind ≡ b.kind → Commuting a b → Commuting b a) (all : Logs) (logs : AreLogs all) (one other : List Spot)
    (is : IsWeaving all one) (also : IsWeaving all other) (s t : Spot) (i j k l : ℕ) (at_i : slice_get one i ≡ Some s) (at_j : slice_get one j ≡ Some t) (at_k : slice_get other k ≡ Some s)
    (at_l : slice_get other l ≡ Some t) where
  pub racing_kept : Racing Commuting (woven all one) i j → Racing Commuting (woven all other) k l ⊎ Racing Commuting (woven all other) l k
  racing_kept racing = elim (cases_lt k l) [
    | inl before ↦ inl (record {
      a = racing.a;
      b = racing.b;
      at_i = at_s;
      at_j = at_t;
      object = racing.object;
      unordered = (before, λ r. racing.unordered.1 (reaches_kept all logs other one also is s t k l i j at_k at_l at_i at_j r));
      apart = racing.apart;
    })
    | inr behind ↦ inr (record {
      a = racing.b;
      b = racing.a;
      at_i = at_t;
      at_j = at_s;
      object = sym racing.object;
      unordered = (
        lower behind,
        λ r. let early = reaches_rises (woven all one) j i (reaches_kept all logs other one also is t s l k j i at_l at_k at_j at_i r) in let late = racing.unordered.0 in omega arith,
      );
      apart = λ commute. racing.apart (back racing.b racing.a (logs.one_kind t s racing.b racing.a (is.only t (j, at_j)) (is.only s (i, at_i)) (call_of _ racing.b is_b) (call_of _ racing.a is_a) (sym racing.object)) commute);
    })
  ]
    where
      is_a : event_at all s ≡ Call racing.a
      is_a = sym (from_event all logs one other is also one i s (Call racing.a) at_i racing.at_i)

      is_b : event_at all t ≡ Call racing.b
      is_b = sym (from_event all logs one other is also one j t (Call racing.b) at_j racing.at_j)

      at_s : slice_get (woven all other) k ≡ Some (Call racing.a)
      at_s = event_is all logs one other is also other k s at_k ∙ ap Some is_a

      at_t : slice_get (woven all other) l ≡ Some (Call racing.b)
      at_t = event_is all logs one other is also other l t at_l ∙ ap Some is_b

      lower : l ≤ k → l < k
      lower behind = elim (cases_eq l k) [
        | inl same ↦ absurd (
            let alike : s ≡ t = same_at (slice_get other k) s t at_k (ap (slice_get other) (sym same) ∙ at_l) in
            let again : i ≡ j = is.once s i j at_i (at_j ∙ ap Some (sym alike)) in
            let less = racing.unordered.0 in
            omega arith)
        | inr differ ↦ omega arith
      ]
