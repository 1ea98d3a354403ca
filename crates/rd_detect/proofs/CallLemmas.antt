-- The parts of a call.
use Rattle.std.proofs.Common.{◌≡◌, inl, inr, ℕ, ◌+◌, ◌*◌, ◌<◌, ◌≤◌, Bool, false, List, [], ◌∷◌, ◌++◌, length, Option, Some, None, Result, Ok, Err, sym, ap, subst, ◌∙◌, arith, true≢false}
use Rattle.std.proofs.Math.Nat.{mul-le-mul_left}
use Rattle.std.specs.Prelude.{Contains, IfNone, IfSome, IsErr, MatchOption, slice_get, slice_index_or}
use Rattle.std.specs.List.{sum_by}
use Rattle.std.proofs.lemmas.List.{get_or_default}
use Rattle.std.proofs.lemmas.Option.{slice_get_within}
use Rattle.rd_base.specs.declared.memory.NoMemory.{NoMemory}
use Rattle.rd_clock.specs.declared.clock.Stamp.{Stamp}
use Rattle.rd_ecl.specs.Specified.{SpecifiedKind}
use Rattle.rd_event.specs.declared.events.Call.{Call as CallOf}
use Rattle.rd_event.specs.declared.events.Event.{Event}
use Rattle.rd_event.specs.declared.events.Event.TheVariants.{Call}
use Rattle.rd_hb.specs.Tracker.{IsFloor, Tracking}
use Rattle.rd_hb.specs.declared.tracker.Tracked.{Tracked}
use Rattle.rd_order.specs.EventLists.{IsKnownThread, WellFormed}
use Rattle.rd_order.specs.Order.{thread_of}
use Rattle.rd_order.proofs.EventListLemmas.{known_later, may_follow_at}
use Rattle.rd_order.proofs.OrderLemmas.{at_end, at_front}
use Rattle.rd_classes.specs.Merged.{merged}
use Rattle.rd_points.specs.Compiled.{compiled}
use Rattle.rd_points.specs.Tables.{PointTable}
use Rattle.rd_store.specs.Stores.{cell_count}
use Rattle.rd_store.specs.declared.Race.{Race}
use Rattle.rd_store.specs.declared.Witness.{Witness}
use Rattle.rd_detect.proofs.LookLemmas.{same_cell, same_joined}
use Rattle.rd_detect.proofs.NewCellLemmas.{new_same}
use Rattle.rd_detect.specs.Detect.{AreBelow, Detecting, IsCell, IsNextCall, IsSweptWhere, IsCallKept, IsCallLeft, asking_bound, detection_bound, is_due, new_cells_at, no_table, table_at, touched_points}
use Rattle.rd_detect.specs.Taking.{JudgesCall}

-- ---- tables

abbrev table_of : SpecifiedKind → PointTable
table_of kind = merged (compiled kind)

pub table_read : (tables : List PointTable) (kind : ℕ) (table : PointTable) → kind < length tables → table ≡ slice_index_or tables kind table → table ≡ table_at tables kind
table_read tables kind table inside is = is ∙ get_or_default tables kind table no_table inside

-- ---- the next call

-- a thread that acts in a well-formed list is known
acted : (roots : ℕ → Bool) (es : List Event) (i : ℕ) (e : Event) → WellFormed roots es → slice_get es i ≡ Some e → IsKnownThread roots es (thread_of e)
acted roots es i e formed at = known_later roots es i (thread_of e) (may_follow_at roots es i e formed at).known_actor

module _ (kinds : List SpecifiedKind) (detecting : Detecting) (tracking : Tracking) (roots : ℕ → Bool) (lines : List ℕ) (es : List Event) (place : ℕ) (call : CallOf) (stamp : Stamp)
    (next : IsNextCall kinds detecting tracking roots lines es place call stamp) where
  pub own_below : call.thread < length tracking.threads
  own_below = (next.tracked.known call.thread).1 (acted roots (es ++ Call call ∷ []) (length es) (Call call) next.formed.formed (at_end es (Call call)))

  pub below : AreBelow (length tracking.threads) detecting.store
  below point thread seen cell =
      let is : IsCell detecting.tables lines es point thread seen = next.stands.cells point thread seen cell in
      let inside : seen.place < length es = slice_get_within es seen.place (Call seen.call) is.is.call in
      let at : slice_get (es ++ Call call ∷ []) seen.place ≡ Some (Call seen.call) = at_front es (Call call ∷ []) seen.place inside ∙ is.is.call in
      subst (λ t. t < length tracking.threads) is.of_thread
      ((next.tracked.known seen.call.thread).1 (acted roots (es ++ Call call ∷ []) seen.place (Call seen.call) next.formed.formed at))

-- ---- what a call leaves

-- where there is no floor no sweep is due
pub none_due : (floor : Option (List ℕ)) (threads : List Tracked) (before more now kept : ℕ) → MatchOption floor ((count : ℕ) → count ≤ before + more → is_due count kept ≡ false) (IsFloor threads)
    → now ≤ before + more → IfNone floor (is_due now kept ≡ false)
none_due None threads before more now kept none few = none now few
none_due (Some floor) threads before more now kept is few = tt

pub floor_is : (floor : Option (List ℕ)) (threads : List Tracked) (P : Type 0) → MatchOption floor P (IsFloor threads) → IfSome floor (IsFloor threads)
floor_is None threads P none = tt
floor_is (Some floor) threads P is = is

-- all stays, and stays again
pub left_joined : (old middle new : Detecting) → IsCallLeft old middle → IsCallLeft middle new → IsCallLeft old new
left_joined old middle new one other = record {
  tables = other.tables ∙ one.tables;
  store = same_joined old.store middle.store new.store one.store other.store;
  kept = other.kept ∙ one.kept;
}

-- where room was made first, what a call leaves is as if it hadn't been
pub taken_after : (threads : List Tracked) (old middle new : Detecting) (call : CallOf) (witness : Witness) → IsCallLeft old middle → IsCallKept threads middle new call witness → IsCallKept threads old new call witness
taken_after threads old middle new call witness same taken = record {
  tables = taken.tables ∙ same.tables;
  store = taken.store;
  touched = record {
    own = λ point has. taken.touched.own point (subst (λ t. Contains (touched_points t call) point) (sym same.tables) has);
    rest = λ point. elim (taken.touched.rest point) [
      | inl has ↦ inl (subst (λ t. Contains (touched_points t call) point) same.tables has)
      | inr kept ↦ inr (kept ∙ same_cell old.store middle.store same.store point call.thread)
    ];
    others = λ point other differ. taken.touched.others point other differ ∙ same_cell old.store middle.store same.store point other;
    count = omega (
      arith,
      taken.touched.count,
      same.store.count,
      new_same old.store middle.store (touched_points middle.tables call) call.thread (same_cell old.store middle.store same.store),
      ap (λ t. new_cells_at old.store (touched_points t call) call.thread) same.tables,
    );
  };
  swept = subst (λ kept. IsSweptWhere (is_due (cell_count taken.store) kept) threads kept taken.store new.store new.kept) same.kept taken.swept;
}

-- where memory ran out
pub left_unjudged : (old new : Detecting) (tracking : Tracking) (line place : ℕ) (call : CallOf) (stamp : Stamp)
    (result : Result (Option Race) NoMemory) (before after : ℕ) → IsErr result → IsCallLeft old new → after ≤ before + detection_bound old.tables (length tracking.threads) call
    → JudgesCall old new tracking line place call stamp result before after
left_unjudged old new tracking line place call stamp (Ok answer) before after none left cost = absurd (true≢false (sym none))
left_unjudged old new tracking line place call stamp (Err e) before after none left cost =
    record { answer = tt; stands = tt; taken = tt; err = left; cost = cost }

-- ---- the steps

module _ (tables : List PointTable) (threads : ℕ) (call : CallOf) (start asked : ℕ) (cost : asked ≤ start + sum_by (asking_bound (table_at tables call.kind) threads) (touched_points tables call)) where
  pub asked_bound : asked ≤ start + detection_bound tables threads call
  asked_bound = omega (arith, cost)

  -- each seat is tried once, and then set once
  pub tried_bound : (seats tried : ℕ) → 1 ≤ threads → seats ≡ length (touched_points tables call) → tried ≤ asked + (seats + seats) → tried ≤ start + detection_bound tables threads call
  tried_bound seats tried some long more =
      let twice : seats * 2 ≤ seats * (threads + 1) = mul-le-mul_left seats (omega (arith, some)) in
      let same : seats * (threads + 1) ≡ length (touched_points tables call) * (threads + 1) = ap (λ n. n * (threads + 1)) long in
      omega (arith, cost, more, same, twice)
