-- Rows of tests: a tracker and what is held take them event by event, and they are well-formed.
use Rattle.std.proofs.Common.{◌≡◌, ◌≢◌, ◌⊎◌, inl, inr, ℕ, suc, ◌+◌, ◌<◌, ◌≤◌, nat_eq, Bool, true, false, cond, List, [], ◌∷◌, ◌++◌, take, drop, length, get_or, Option, Some, None, refl, sym, ap, subst, ◌∙◌, arith, lit<, lit≤, add-one}
use Rattle.std.specs.Prelude.{◌==◌, ◌&&◌, IfOk, IfSome, OnOk, Ok, Result, slice_get}
use Rattle.std.proofs.Math.Seq.{drop-cons}
use Rattle.std.proofs.lemmas.Bool.{cases_eq, ne_eqb}
use Rattle.std.proofs.lemmas.List.{length-take-le, take-append-drop, take_more}
use Rattle.std.proofs.lemmas.List.Elements.{All-push}
use Rattle.std.proofs.lemmas.List.Sums.{sum_by-cons}
use Rattle.std.proofs.lemmas.Option.{none-some, same_Some, slice_get_within}
use Rattle.rd_clock.specs.declared.clock.Stamp.{Stamp}
use Rattle.rd_ecl.specs.Kinds.{kinds_of}
use Rattle.rd_base.specs.declared.values.Value.TheVariants.{Nil}
use Rattle.rd_event.specs.declared.events.Call.{Call as CallOf}
use Rattle.rd_event.specs.declared.events.Event.{Event}
use Rattle.rd_event.specs.declared.events.Event.TheVariants.{Acquire, Call, Fork, Join, Release}
use Rattle.rd_hb.specs.Tracker.{IsStamp, Tracking, TrackerStandsFor, last_stamp}
use Rattle.rd_order.proofs.EventListLemmas.{formed_front, formed_more, may_acquire, may_call, may_fork, may_join, may_release}
use Rattle.rd_order.proofs.OrderLemmas.{at_end, length_more}
use Rattle.rd_order.proofs.TestListLemmas.{few_by_numbers, new_to_one, one_below, two_below}
use Rattle.rd_order.specs.EventLists.{Follow, IsCallOf, IsKnownThread, MayHappen, WellFormed, WellFormedWith, calls, forks, givings, is_call_on, is_hold, joins, takings, threads_after}
use Rattle.rd_order.specs.Order.{Hold, call_in, exclusive, hold_given, hold_taken, shared, thread_of}
use Rattle.rd_order.specs.TestLists.{NextNumbers, one_root, two_roots}
use Rattle.rd_epoch.specs.Accesses.{call_of_access, access_method, variable_kind, variable_kinds}
use Rattle.rd_epoch.specs.Epochs.{EpochsStandFor, HeldAccesses, IsNextAccess, event_of_access}
use Rattle.rd_epoch.specs.TestRows.{AreAccessesOrOthers, HasRun, IsAccessOrOther, IsNextRow, MayRun}
use Rattle.rd_epoch.specs.declared.epochs.Access.{Access}
use Rattle.rd_epoch.proofs.AccessLemmas.{at_more}
use Rattle.rd_epoch.proofs.StandLemmas.{stands_new, stands_quiet}

-- ---- accesses are calls of the kind

fits_access : (thread variable : ℕ) (write : Bool) → IsCallOf (kinds_of variable_kinds) (call_of_access thread variable write (Nil ∷ []))
unfolding variable_kind
fits_access thread variable true = record { kind = lit< tt; method = lit< tt; slots = refl }
fits_access thread variable false = record { kind = lit< tt; method = lit< tt; slots = refl }

fits_event : (o : Option CallOf) → IfSome o (λ call. (write : Bool) × (call ≡ call_of_access call.thread call.object write (Nil ∷ []))) → IfSome o (IsCallOf (kinds_of variable_kinds))
fits_event None is = tt
fits_event (Some call) is = subst (IsCallOf (kinds_of variable_kinds)) (sym is.1) (fits_access call.thread call.object is.0)

formed_with : (roots : ℕ → Bool) (es : List Event) (e : Event) → WellFormedWith (kinds_of variable_kinds) roots es → WellFormed roots (es ++ e ∷ []) → IsAccessOrOther e
    → WellFormedWith (kinds_of variable_kinds) roots (es ++ e ∷ [])
formed_with roots es e before formed is = record { formed = formed; fit = All-push (λ e. IfSome (call_in e) (IsCallOf (kinds_of variable_kinds))) es e before.fit (fits_event (call_in e) is) }

-- ---- the next event

module _ (tracking : Tracking) (held : List HeldAccesses) (roots : ℕ → Bool) (es : List Event) (place : ℕ) (e : Event) (row : IsNextRow tracking held roots es place e) where
  formed : WellFormedWith (kinds_of variable_kinds) roots (es ++ e ∷ [])
  formed = formed_with roots es e row.run.stands.formed row.next.formed row.access

  below_more : (k line : ℕ) → slice_get (row.run.lines ++ (place + 1) ∷ []) k ≡ Some line → line ≤ length (es ++ e ∷ [])
  below_more k line is = elim (at_more row.run.lines (place + 1) line k is) [
    | inl old ↦ let early = row.run.below k line old.1 in omega (arith, length_more es e)
    | inr new ↦ let same = new.1 in let last = row.at_end in omega (arith, length_more es e)
  ]

  behind : (k line : ℕ) → slice_get row.run.lines k ≡ Some line → line < place + 1
  behind k line is = let early = row.run.below k line is in let last = row.at_end in omega arith

  pub quiet_row : (new : Tracking) → ((call : CallOf) → e ≢ Call call) → TrackerStandsFor new roots (es ++ e ∷ []) → HasRun new held roots (es ++ e ∷ [])
  quiet_row new other stands = record {
    tracked = stands;
    lines = row.run.lines ++ (place + 1) ∷ [];
    below = below_more;
    stands = stands_quiet held roots row.run.lines es (place + 1) e other formed behind row.run.stands;
  }

  module _ (call : CallOf) (is : e ≡ Call call) (stamp : Stamp) (stamped : IsStamp (es ++ e ∷ []) (length es) stamp) where
    abbrev access : Access
    access = record { place = place; line = place + 1; variable = call.object; write = nat_eq call.method 1 }

    access_is : (write : Bool) × (call ≡ call_of_access call.thread call.object write (Nil ∷ []))
    access_is = subst (λ e. IsAccessOrOther e) is row.access

    told_write : (write : Bool) → call.method ≡ access_method write → nat_eq call.method 1 ≡ write
    told_write true method = ap (λ m. nat_eq m 1) method
    told_write false method = ap (λ m. nat_eq m 1) method

    same_event : event_of_access access stamp (Nil ∷ []) ≡ e
    same_event = ap (λ t. Call (call_of_access t call.object (nat_eq call.method 1) (Nil ∷ []))) (stamped.thread e (at_end es e) ∙ ap thread_of is)
        ∙ ap (λ w. Call (call_of_access call.thread call.object w (Nil ∷ []))) (told_write access_is.0 (ap (λ (c : CallOf). c.method) access_is.1)) ∙ ap Call (sym access_is.1) ∙ sym is

    pub access_row : call.object ≤ length held → IsNextAccess held roots row.run.lines es access stamp (Nil ∷ [])
    access_row numbered = record {
      stands = row.run.stands;
      at_end = row.at_end;
      formed = subst (λ x. WellFormedWith (kinds_of variable_kinds) roots (es ++ x ∷ [])) (sym same_event) formed;
      stamped = subst (λ x. IsStamp (es ++ x ∷ []) (length es) stamp) (sym same_event) stamped;
      line = behind;
      numbered = numbered;
    }

    pub taken_row : (new : Tracking) (now : List HeldAccesses) → TrackerStandsFor new roots (es ++ e ∷ [])
        → EpochsStandFor now roots (row.run.lines ++ (place + 1) ∷ []) (es ++ event_of_access access stamp (Nil ∷ []) ∷ []) → HasRun new now roots (es ++ e ∷ [])
    taken_row new now tracked stands = record {
      tracked = tracked;
      lines = row.run.lines ++ (place + 1) ∷ [];
      below = below_more;
      stands = subst (λ x. EpochsStandFor now roots (row.run.lines ++ (place + 1) ∷ []) (es ++ x ∷ [])) same_event stands;
    }

  -- the thread of a call is known
  pub known_row : (call : CallOf) → e ≡ Call call → (new : Tracking) → length new.threads ≡ threads_after e (length tracking.threads) → call.thread < length new.threads
  known_row call is new count =
      let known : thread_of e < length tracking.threads = (row.run.tracked.known (thread_of e)).1 ((formed_more roots es e).0 row.next.formed).1.known_actor in
      let same : thread_of e ≡ call.thread = ap thread_of is in
      let stay : length new.threads ≡ length tracking.threads = count ∙ ap (λ e. threads_after e (length tracking.threads)) is in
      omega (arith, known, same, stay)

  -- the stamp that the tracker has
  pub stamp_row : (call : CallOf) → e ≡ Call call → (new : Tracking) → IsStamp (es ++ e ∷ []) (length es) (last_stamp new.threads (thread_of e))
      → IsStamp (es ++ e ∷ []) (length es) (last_stamp new.threads call.thread)
  stamp_row call is new stamped = subst (λ t. IsStamp (es ++ e ∷ []) (length es) (last_stamp new.threads t)) (ap thread_of is) stamped

-- what holds of a value holds where it is there
pub if_ok : {T E : Type 0} (P : T → Type 0) (r : Result T E) (x : T) → r ≡ Ok x → IfOk r P → P x
if_ok P r x is holds = subst (λ r. IfOk r P) is holds

pub on_ok : {T E P : Type 0} (r : Result T E) (x : T) → r ≡ Ok x → OnOk r P → P
on_ok {P = P} r x is holds = subst (λ r. OnOk r P) is holds

-- ---- event by event

-- the events before a place were taken, and the rest may follow
pub record IsRunning (tracking : Tracking) (held : List HeldAccesses) (roots : ℕ → Bool) (place : ℕ) (es : List Event) : Type 0 where
  pub run : HasRun tracking held roots (take place es)
  pub numbered : NextNumbers (length tracking.threads) (drop place es)
  pub accesses : AreAccessesOrOthers (drop place es)

pub begins : (tracking : Tracking) (roots : ℕ → Bool) (es : List Event) → MayRun tracking roots es → IsRunning tracking [] roots 0 es
begins tracking roots es may = record {
  run = record {
    tracked = may.stands;
    lines = [];
    below = λ k line is. absurd (let inside = slice_get_within [] k line is in omega arith);
    stands = stands_new roots (record { formed = formed_front roots [] es may.formed; fit = λ k d inside. absurd (omega arith) });
  };
  numbered = may.numbered;
  accesses = may.accesses;
}

cut_at : (es : List Event) (i : ℕ) (e : Event) → i < length es → e ≡ get_or es i e → drop i es ≡ e ∷ drop (i + 1) es
cut_at es i e inside is = rw (add-one, drop-cons es i e inside) (ap (λ x. x ∷ drop (suc i) es) (sym is))

taken_at : (es : List Event) (i : ℕ) (e : Event) → i < length es → e ≡ get_or es i e → take (i + 1) es ≡ take i es ++ e ∷ []
taken_at es i e inside is = take_more es i e inside ∙ ap (λ x. take i es ++ x ∷ []) (sym is)

module _ (tracking : Tracking) (held : List HeldAccesses) (roots : ℕ → Bool) (es : List Event) (i : ℕ) (e : Event) (inside : i < length es) (is : e ≡ get_or es i e)
    (running : IsRunning tracking held roots i es) where
  pub next_row : WellFormed roots es → IsNextRow tracking held roots (take i es) i e
  next_row formed = record {
    run = running.run;
    next = record {
      stands = running.run.tracked;
      formed = subst (WellFormed roots) (taken_at es i e inside is)
          (formed_front roots (take (i + 1) es) (drop (i + 1) es) (subst (WellFormed roots) (sym (take-append-drop (i + 1) es)) formed));
      numbered = (subst (NextNumbers (length tracking.threads)) (cut_at es i e inside is) running.numbered).0;
    };
    at_end = sym (length-take-le i es (omega (arith, inside)));
    access = (subst AreAccessesOrOthers (cut_at es i e inside is) running.accesses).0;
  }

  pub row_taken : (new : Tracking) (now : List HeldAccesses) → HasRun new now roots (take i es ++ e ∷ []) → length new.threads ≡ threads_after e (length tracking.threads)
      → IsRunning new now roots (i + 1) es
  row_taken new now run count = record {
    run = subst (HasRun new now roots) (sym (taken_at es i e inside is)) run;
    numbered = subst (λ n. NextNumbers n (drop (i + 1) es)) (sym count)
        (subst (NextNumbers (length tracking.threads)) (cut_at es i e inside is) running.numbered).1;
    accesses = (subst AreAccessesOrOthers (cut_at es i e inside is) running.accesses).1;
  }

-- ---- rows are well-formed

and_false : (a b : Bool) → b ≡ false → (a && b) ≡ false
and_false true b is = is
and_false false b is = refl

-- no call is of another kind
of_one_kind : (es : List Event) → AreAccessesOrOthers es → (object kind : ℕ) → kind ≢ 0 → calls es object kind ≡ 0
unfolding calls
of_one_kind [] are object kind other = refl
of_one_kind (e ∷ es) are object kind other =
    let here : cond (is_call_on (call_in e) object kind) 1 0 ≤ 0 = rw (not_this (call_in e) are.0) (omega arith) in
    omega (arith, sum_by-cons (λ x. cond (is_call_on (call_in x) object kind) 1 0) e es, here, of_one_kind es are.1 object kind other)
  where
    not_this : (o : Option CallOf) → IfSome o (λ call. (write : Bool) × (call ≡ call_of_access call.thread call.object write (Nil ∷ []))) → is_call_on o object kind ≡ false
    not_this None is = refl
    not_this (Some call) is = and_false (call.object == object) (call.kind == kind)
        (ne_eqb call.kind kind (λ same. other (sym same ∙ ap (λ (c : CallOf). c.kind) is.1)))

may_access : (roots : ℕ → Bool) (before : List Event) (thread variable : ℕ) (write : Bool) → AreAccessesOrOthers before → IsKnownThread roots before thread → joins before thread ≡ 0
    → MayHappen roots before (Call (call_of_access thread variable write (Nil ∷ [])))
may_access roots before thread variable write are known running = may_call roots before (call_of_access thread variable write (Nil ∷ [])) known running (of_one_kind before are variable)

-- only thread 0 takes or gives back holds
LocksOfFirst : List Event → Type 0
LocksOfFirst [] = Unit {0}
LocksOfFirst (e ∷ es) = ((thread_of e ≡ 0) ⊎ ((hold_taken e ≡ None) × (hold_given e ≡ None))) × LocksOfFirst es

-- so no other thread does
uses_none : (es : List Event) → LocksOfFirst es → (u : ℕ) (h : Hold) → u ≢ 0 → (takings es u h ≡ 0) × (givings es u h ≡ 0)
unfolding LocksOfFirst takings givings
uses_none [] none u h other = (refl, refl)
uses_none (e ∷ es) none u h other =
    let rest = uses_none es none.1 u h other in
    let takes : cond ((thread_of e == u) && is_hold (hold_taken e) h) 1 0 ≤ 0 = rw (not_here (hold_taken e) (λ one. one.0)) (omega arith) in
    let gives : cond ((thread_of e == u) && is_hold (hold_given e) h) 1 0 ≤ 0 = rw (not_here (hold_given e) (λ one. one.1)) (omega arith) in (
      omega (arith, sum_by-cons (λ x. cond ((thread_of x == u) && is_hold (hold_taken x) h) 1 0) e es, takes, rest.0),
      omega (arith, sum_by-cons (λ x. cond ((thread_of x == u) && is_hold (hold_given x) h) 1 0) e es, gives, rest.1),
    )
  where
    not_here : (o : Option Hold) → ((hold_taken e ≡ None) × (hold_given e ≡ None) → o ≡ None) → ((thread_of e == u) && is_hold o h) ≡ false
    not_here o no_hold = elim none.0 [
      | inl first ↦ ap (λ b. b && is_hold o h) (ne_eqb (thread_of e) u (λ same. other (sym same ∙ first)))
      | inr none ↦ and_false (thread_of e == u) (is_hold o h) (ap (λ o. is_hold o h) (no_hold none))
    ]

-- thread 0 takes a lock, or thread 1 where thread 0 has given it back
first_acquires : (before : List Event) (lock : ℕ) → LocksOfFirst before → joins before 0 ≡ 0 → MayHappen two_roots before (Acquire 0 lock)
first_acquires before lock locks running = may_acquire two_roots before 0 lock (inl refl) running (free (exclusive lock)) (free (shared lock))
  where
    free : (h : Hold) (u : ℕ) → u ≢ 0 → takings before u h ≡ givings before u h
    free h u other = let none = uses_none before locks u h other in none.0 ∙ sym none.1

second_acquires : (before : List Event) (lock : ℕ) → LocksOfFirst before → takings before 0 (exclusive lock) ≡ givings before 0 (exclusive lock)
    → takings before 0 (shared lock) ≡ givings before 0 (shared lock) → joins before 1 ≡ 0 → MayHappen two_roots before (Acquire 1 lock)
second_acquires before lock locks same shares running = may_acquire two_roots before 1 lock (inl refl) running (free (exclusive lock) same) (free (shared lock) shares)
  where
    free : (h : Hold) → takings before 0 h ≡ givings before 0 h → (u : ℕ) → u ≢ 1 → takings before u h ≡ givings before u h
    free h same u other = elim (cases_eq u 0) [
      | inl first ↦ subst (λ v. takings before v h ≡ givings before v h) (sym first) same
      | inr later ↦ (let none = uses_none before locks u h later in none.0 ∙ sym none.1)
    ]

-- ---- two roots, and a lock

abbrev reads : ℕ → ℕ → Event
reads thread variable = Call (call_of_access thread variable false (Nil ∷ []))

abbrev writes : ℕ → ℕ → Event
writes thread variable = Call (call_of_access thread variable true (Nil ∷ []))

abbrev pub guarded : List Event
guarded = writes 0 0 ∷ reads 1 0 ∷ writes 1 0 ∷ Acquire 0 0 ∷ writes 0 1 ∷ Release 0 0 ∷ Acquire 1 0 ∷ reads 1 1 ∷ Release 1 0 ∷ []

guarded_follow : Follow two_roots [] guarded
unfolding LocksOfFirst forks joins takings givings
guarded_follow = (
  may_access two_roots (take 0 guarded) 0 0 true tt (inl refl) refl,
  (
    may_access two_roots (take 1 guarded) 1 0 false ((true, refl), tt) (inl refl) refl,
    (
      may_access two_roots (take 2 guarded) 1 0 true ((true, refl), ((false, refl), tt)) (inl refl) refl,
      (
        first_acquires (take 3 guarded) 0 (inl refl, (inr (refl, refl), (inr (refl, refl), tt))) refl,
        (
          may_access two_roots (take 4 guarded) 0 1 true ((true, refl), ((false, refl), ((true, refl), (tt, tt)))) (inl refl) refl,
          (
            may_release two_roots (take 5 guarded) 0 0 (inl refl) refl (lit< tt),
            (
              second_acquires (take 6 guarded) 0 (inl refl, (inr (refl, refl), (inr (refl, refl), (inl refl, (inl refl, (inl refl, tt)))))) refl refl refl,
              (
                may_access two_roots (take 7 guarded) 1 1 false ((true, refl), ((false, refl), ((true, refl), (tt, ((true, refl), (tt, (tt, tt))))))) (inl refl) refl,
                (
                  may_release two_roots (take 8 guarded) 1 0 (inl refl) refl (lit< tt),
                  tt,
                ),
              ),
            ),
          ),
        ),
      ),
    ),
  ),
)

guarded_numbered : NextNumbers 2 guarded
guarded_numbered = (no, (no, (no, (no, (no, (no, (no, (no, (no, tt)))))))))
  where
    no : (u : ℕ) → None ≡ Some u → u ≡ 2
    no u is = absurd (none-some u is)

pub guarded_may : (tracking : Tracking) → TrackerStandsFor tracking two_roots [] → length tracking.threads ≡ 2 → MayRun tracking two_roots guarded
guarded_may tracking stands count = record {
  stands = stands;
  formed = record { follow = guarded_follow; bounded = few_by_numbers two_roots 2 guarded two_below guarded_numbered (lit≤ tt) };
  numbered = subst (λ n. NextNumbers n guarded) (sym count) guarded_numbered;
  accesses = ((true, refl), ((false, refl), ((true, refl), (tt, ((true, refl), (tt, (tt, ((false, refl), (tt, tt)))))))));
}

-- ---- a parent and two children

abbrev pub children : List Event
children = writes 0 0 ∷ Fork 0 1 ∷ Fork 0 2 ∷ reads 1 0 ∷ reads 2 0 ∷ Join 0 1 ∷ writes 0 0 ∷ []

children_follow : Follow one_root [] children
unfolding forks joins
children_follow = (
  may_access one_root (take 0 children) 0 0 true tt (inl refl) refl,
  (
    may_fork one_root (take 1 children) 0 1 (new_to_one (take 1 children) 1 (lit< tt) refl) (inl refl) refl,
    (
      may_fork one_root (take 2 children) 0 2 (new_to_one (take 2 children) 2 (lit< tt) refl) (inl refl) refl,
      (
        may_access one_root (take 3 children) 1 0 false ((true, refl), (tt, (tt, tt))) (inr (lit< tt)) refl,
        (
          may_access one_root (take 4 children) 2 0 false ((true, refl), (tt, (tt, ((false, refl), tt)))) (inr (lit< tt)) refl,
          (
            may_join one_root (take 5 children) 0 1 (inr (lit< tt)) (λ e. omega arith) (inl refl) refl,
            (
              may_access one_root (take 6 children) 0 0 true ((true, refl), (tt, (tt, ((false, refl), ((false, refl), (tt, tt)))))) (inl refl) refl,
              tt,
            ),
          ),
        ),
      ),
    ),
  ),
)

children_numbered : NextNumbers 1 children
children_numbered = (
  λ u is. absurd (none-some u is),
  (
    λ u is. sym (same_Some 1 u is),
    (
      λ u is. sym (same_Some 2 u is),
      (
        λ u is. absurd (none-some u is),
        (
          λ u is. absurd (none-some u is),
          (
            λ u is. absurd (none-some u is),
            (
              λ u is. absurd (none-some u is),
              tt,
            ),
          ),
        ),
      ),
    ),
  ),
)

pub children_may : (tracking : Tracking) → TrackerStandsFor tracking one_root [] → length tracking.threads ≡ 1 → MayRun tracking one_root children
children_may tracking stands count = record {
  stands = stands;
  formed = record { follow = children_follow; bounded = few_by_numbers one_root 1 children one_below children_numbered (lit≤ tt) };
  numbered = subst (λ n. NextNumbers n children) (sym count) children_numbered;
  accesses = ((true, refl), (tt, (tt, ((false, refl), ((false, refl), (tt, ((true, refl), tt)))))));
}
