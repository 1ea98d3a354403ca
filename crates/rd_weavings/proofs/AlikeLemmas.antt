-- Logs whose events are plain take the turns of the logs themselves.
use Rattle.std.proofs.Common.{◌≡◌, ℕ, zero, suc, ◌+◌, ◌-◌, ◌==◌, ◌&&◌, ◌||◌, not, nat_lt, Bool, List, [], length, get_or, map, count_by, refl, sym, ap, ◌∙◌, arith}
use Rattle.std.specs.Prelude.{find}
use Rattle.std.specs.List.{list_all, range_with_len, sum_by}
use Rattle.std.proofs.Math.ListN.{get_or-map}
use Rattle.std.proofs.lemmas.List.{length-map}
use Rattle.std.proofs.lemmas.List.Folds.{list_all-map}
use Rattle.rd_event.specs.declared.events.Event.{Event}
use Rattle.rd_event.specs.declared.events.Event.TheVariants.{Fork, Join, Acquire, Release, Share, Unshare, Call}
use Rattle.rd_order.specs.EventLists.{forks, givings, is_hold, joins, takings}
use Rattle.rd_order.specs.Order.{Hold, exclusive, forked_thread, hold_given, hold_taken, joined_thread, thread_of}
use Rattle.rd_order.specs.OrderTests.{is_this}
use Rattle.rd_weavings.specs.declared.spots.Spot.{Spot}
use Rattle.rd_weavings.specs.Alike.{AreAlike, plain_event, plain_log, plain_noted}
use Rattle.rd_weavings.specs.Logs.{Logs, Noted, ThreadLog, acquires_of, event_at, given, log_at, next_spot, no_event, no_log, noted_event, woven}
use Rattle.rd_weavings.specs.WeaveTests.{counts_of, is_known, is_lock_free, is_used_up, may_do, may_give, may_place, placed_in, turns_left, with_next, woven_first}
use Rattle.rd_weavings.proofs.SameLemmas.{acquires_are, acquires_it, forks_are, forks_it, gives_by, givings_are, joins_are, joins_it, takes_by, takings_are}

-- ---- one event: its thread, what it begins and ends, what it takes and gives back

same_thread : (e : Event) → thread_of (plain_event e) ≡ thread_of e
same_thread e = grind arith

same_forked : (e : Event) → forked_thread (plain_event e) ≡ forked_thread e
same_forked e = grind arith

same_joined : (e : Event) → joined_thread (plain_event e) ≡ joined_thread e
same_joined e = grind arith

same_taken : (e : Event) → hold_taken (plain_event e) ≡ hold_taken e
same_taken e = grind arith

same_given : (e : Event) → hold_given (plain_event e) ≡ hold_given e
same_given e = grind arith

-- ---- all logs

-- their events plain
abbrev plain : Logs → Logs
plain all = record { logs = map plain_log all.logs; roots = all.roots; declared = all.declared }

module _ (all : Logs) where
  as_many : length (plain all).logs ≡ length all.logs
  as_many = length-map all.logs plain_log

  log_kept : (l : ℕ) → log_at (plain all) l ≡ plain_log (log_at all l)
  log_kept l = get_or-map plain_log all.logs l no_log

  thread_kept : (l : ℕ) → (log_at (plain all) l).thread ≡ (log_at all l).thread
  thread_kept l = ap (λ (log : ThreadLog). log.thread) (log_kept l)

  length_kept : (l : ℕ) → length (log_at (plain all) l).events ≡ length (log_at all l).events
  length_kept l = ap (λ (log : ThreadLog). length log.events) (log_kept l) ∙ length-map (log_at all l).events plain_noted

  noted_kept : (s : Spot) → noted_event (plain all) s ≡ plain_noted (noted_event all s)
  noted_kept s = ap (λ (log : ThreadLog). get_or log.events s.place no_event) (log_kept s.log) ∙ get_or-map plain_noted (log_at all s.log).events s.place no_event

  event_kept : (s : Spot) → event_at (plain all) s ≡ plain_event (event_at all s)
  event_kept s = ap (λ (noted : Noted). noted.event) (noted_kept s)

  -- ---- the counts

  forks_kept : (spots : List Spot) (t : ℕ) → forks (woven (plain all) spots) t ≡ forks (woven all spots) t
  forks_kept spots t = forks_are (plain all) spots t ∙ (λ i. count_by (same i) spots) ∙ sym (forks_are all spots t)
    where
      same : forks_it (plain all) t ≡ forks_it all t
      same = λ i s. is_this ((ap forked_thread (event_kept s) ∙ same_forked (event_at all s)) i) t

  joins_kept : (spots : List Spot) (t : ℕ) → joins (woven (plain all) spots) t ≡ joins (woven all spots) t
  joins_kept spots t = joins_are (plain all) spots t ∙ (λ i. count_by (same i) spots) ∙ sym (joins_are all spots t)
    where
      same : joins_it (plain all) t ≡ joins_it all t
      same = λ i s. is_this ((ap joined_thread (event_kept s) ∙ same_joined (event_at all s)) i) t

  of_thread : (s : Spot) → thread_of (event_at (plain all) s) ≡ thread_of (event_at all s)
  of_thread s = ap thread_of (event_kept s) ∙ same_thread (event_at all s)

  takes : (s : Spot) → hold_taken (event_at (plain all) s) ≡ hold_taken (event_at all s)
  takes s = ap hold_taken (event_kept s) ∙ same_taken (event_at all s)

  gives : (s : Spot) → hold_given (event_at (plain all) s) ≡ hold_given (event_at all s)
  gives s = ap hold_given (event_kept s) ∙ same_given (event_at all s)

  takings_kept : (spots : List Spot) (t : ℕ) (h : Hold) → takings (woven (plain all) spots) t h ≡ takings (woven all spots) t h
  takings_kept spots t h = takings_are (plain all) spots t h ∙ (λ i. count_by (same i) spots) ∙ sym (takings_are all spots t h)
    where
      same : takes_by (plain all) t h ≡ takes_by all t h
      same = λ i s. (of_thread s i == t) && is_hold (takes s i) h

  givings_kept : (spots : List Spot) (t : ℕ) (h : Hold) → givings (woven (plain all) spots) t h ≡ givings (woven all spots) t h
  givings_kept spots t h = givings_are (plain all) spots t h ∙ (λ i. count_by (same i) spots) ∙ sym (givings_are all spots t h)
    where
      same : gives_by (plain all) t h ≡ gives_by all t h
      same = λ i s. (of_thread s i == t) && is_hold (gives s i) h

  acquires_kept : (spots : List Spot) (lock : ℕ) → acquires_of (woven (plain all) spots) lock ≡ acquires_of (woven all spots) lock
  acquires_kept spots lock = acquires_are (plain all) spots lock ∙ (λ i. count_by (same i) spots) ∙ sym (acquires_are all spots lock)
    where
      same : acquires_it (plain all) lock ≡ acquires_it all lock
      same = λ i s. is_hold (takes s i) (exclusive lock)

  -- ---- the tests

  known_kept : (spots : List Spot) (t : ℕ) → is_known all.roots (woven (plain all) spots) t ≡ is_known all.roots (woven all spots) t
  known_kept spots t = ap (λ n. all.roots t || nat_lt 0 n) (forks_kept spots t)

  free_kept : (spots : List Spot) (t lock : ℕ) → is_lock_free (plain all).logs (woven (plain all) spots) t lock ≡ is_lock_free all.logs (woven all spots) t lock
  free_kept spots t lock = list_all-map (test (plain all)) plain_log all.logs ∙ (λ i. list_all (same i) all.logs)
    where
      test : Logs → ThreadLog → Bool
      test logs log = (log.thread == t) || (takings (woven logs spots) log.thread (exclusive lock) == givings (woven logs spots) log.thread (exclusive lock))

      same : test (plain all) ≡ test all
      same = λ i log. (log.thread == t) || (takings_kept spots log.thread (exclusive lock) i == givings_kept spots log.thread (exclusive lock) i)

  used_kept : (spots : List Spot) (u : ℕ) → is_used_up (plain all) spots u ≡ is_used_up all spots u
  used_kept spots u = λ i. list_all (λ l. not (thread_kept l i == u) || (given spots l == length_kept l i)) (range_with_len 0 (as_many i))

  do_kept : (spots : List Spot) (number : ℕ) (e : Event)
      → may_do (plain all) spots (woven (plain all) spots) number (plain_event e) ≡ may_do all spots (woven all spots) number e
  do_kept spots number (Fork t u) = ap not (known_kept spots u)
  do_kept spots number (Join t u) = λ i. known_kept spots u i && (not (u == t) && used_kept spots u i)
  do_kept spots number (Acquire t lock) = λ i. free_kept spots t lock i && (number == acquires_kept spots lock i + 1)
  do_kept spots number (Release t lock) = λ i. nat_lt (givings_kept spots t (exclusive lock) i) (takings_kept spots t (exclusive lock) i)
  do_kept spots number (Share t lock) = refl
  do_kept spots number (Unshare t lock) = refl
  do_kept spots number (Call call) = refl

  place_kept : (spots : List Spot) (noted : Noted)
      → may_place (plain all) spots (woven (plain all) spots) (plain_noted noted) ≡ may_place all spots (woven all spots) noted
  place_kept spots noted = ap with_thread (same_thread noted.event) ∙ (λ i. known_kept spots t i && ((joins_kept spots t i == 0) && do_kept spots noted.number noted.event i))
    where
      t : ℕ
      t = thread_of noted.event

      with_thread : ℕ → Bool
      with_thread u = is_known all.roots (woven (plain all) spots) u
          && ((joins (woven (plain all) spots) u == 0) && may_do (plain all) spots (woven (plain all) spots) noted.number (plain_event noted.event))

  give_kept : (spots : List Spot) → may_give (plain all) spots ≡ may_give all spots
  give_kept spots = λ i log. nat_lt (given spots log) (length_kept log i) && same log i
    where
      same : (log : ℕ) → may_place (plain all) spots (woven (plain all) spots) (noted_event (plain all) (next_spot spots log))
          ≡ may_place all spots (woven all spots) (noted_event all (next_spot spots log))
      same log = ap (may_place (plain all) spots (woven (plain all) spots)) (noted_kept (next_spot spots log)) ∙ place_kept spots (noted_event all (next_spot spots log))

  -- ---- the turns

  placed_kept : (turns : ℕ) (spots : List Spot) → placed_in (plain all) turns spots ≡ placed_in all turns spots
  placed_kept zero spots = refl
  placed_kept (suc turns) spots = λ i. with_next spots (find (give_kept spots i) (range_with_len 0 (as_many i))) (λ more. placed_kept turns more i)

  left_kept : (spots : List Spot) → turns_left (plain all) spots ≡ turns_left all spots
  left_kept spots = λ i. sum_by (λ l. length_kept l i - given spots l) (range_with_len 0 (as_many i))

  first_kept : woven_first (plain all) ≡ woven_first all
  unfolding woven_first
  first_kept = ap (λ n. placed_in (plain all) n []) (left_kept []) ∙ placed_kept (turns_left all []) []

  counts_kept : (spots : List Spot) → counts_of (plain all) spots ≡ counts_of all spots
  counts_kept spots = λ i. map (given spots) (range_with_len 0 (as_many i))

-- ---- logs that are alike

module _ (one other : Logs) (alike : AreAlike one other) where
  pub same_plain : plain one ≡ plain other
  same_plain = λ i. record { logs = alike.logs i; roots = λ t. alike.roots t i; declared = λ o. alike.declared o i }

  pub turns_alike : woven_first one ≡ woven_first other
  turns_alike = sym (first_kept one) ∙ ap woven_first same_plain ∙ first_kept other

pub counts_alike : (one other : Logs) (spots : List Spot) → AreAlike one other → counts_of one spots ≡ counts_of other spots
counts_alike one other spots alike = sym (counts_kept one spots) ∙ ap (λ all. counts_of all spots) (same_plain one other alike) ∙ counts_kept other spots
