-- What a tracker keeps between steps, where one thing of it is changed.
use Rattle.std.proofs.Common.{◌≡◌, ◌≢◌, ◌≤◌, ◌<◌, inl, inr, ℕ, ◌+◌, ◌==◌, List, [], ◌∷◌, ◌++◌, length, Option, Some, None, refl, sym, ◌∙◌, ap, subst, arith, slice_index_or, slice_set, length-set}
use Rattle.std.specs.Prelude.{if◌then◌else◌}
use Rattle.std.proofs.lemmas.Bool.{cases_eq, cases_lt, eq-eqb, ne_eqb}
use Rattle.std.proofs.lemmas.List.{get_or-set_other, get_or_append_left, get_or_default, get_or_past, length-append}
use Rattle.std.proofs.lemmas.Grind.{get_or-set_at}
use Rattle.std.proofs.lemmas.Option.{none-some, same_Some}
use Rattle.std.proofs.Math.Seq.{get_or-append_seam}
use Rattle.rd_clock.specs.Clock.{component, IsTick}
use Rattle.rd_clock.specs.declared.clock.Stamp.{Stamp}
use Rattle.rd_hb.specs.declared.tracker.Tracked.{Tracked}
use Rattle.rd_hb.specs.Tracker.{tracked_thread, no_thread, known_to}
use Rattle.rd_hb.specs.TrackerParts.{AreKept, AreTracked, IsShared, IsTracked}

-- ---- one thread is added, or changed

pub tracked_push : (threads : List Tracked) (x : Tracked) (t : ℕ)
    → tracked_thread (threads ++ x ∷ []) t ≡ (if t == length threads then x else tracked_thread threads t)
tracked_push threads x t =
    elim (cases_eq t (length threads)) [
      | inl same ↦ rw (eq-eqb t (length threads) same) (subst (λ i. tracked_thread (threads ++ x ∷ []) i ≡ x) (sym same) (get_or-append_seam threads x [] no_thread))
      | inr other ↦ rw (ne_eqb t (length threads) other) (elim (cases_lt t (length threads)) [
        | inl before ↦ get_or_append_left threads (x ∷ []) no_thread t before
        | inr past ↦ get_or_past (threads ++ x ∷ []) t no_thread (omega (arith, past, other, length-append threads (x ∷ []))) ∙ sym (get_or_past threads t no_thread past)
      ])
    ]

-- what is read at the place of a thread
pub read_at : (threads : List Tracked) (i : ℕ) (read : Tracked) → i < length threads → read ≡ slice_index_or threads i read → read ≡ tracked_thread threads i
read_at threads i read inside value = value ∙ get_or_default threads i read no_thread inside

set_same : (threads : List Tracked) (i t : ℕ) (x : Tracked) → i < length threads → t ≡ i → tracked_thread (slice_set threads i x) t ≡ x
set_same threads i t x inside same = get_or-set_at threads i t x no_thread same inside

pub set_other : (threads : List Tracked) (i t : ℕ) (x : Tracked) → t ≢ i → tracked_thread (slice_set threads i x) t ≡ tracked_thread threads t
set_other threads i t x other = get_or-set_other threads i t x no_thread other

-- after a thread was set, what is read at its place is that, and at another what was there
pub read_again : (threads : List Tracked) (i : ℕ) (x read : Tracked) → i < length threads → read ≡ slice_index_or (slice_set threads i x) i read → read ≡ x
read_again threads i x read inside value =
    read_at (slice_set threads i x) i read (omega (arith, inside, length-set threads i x)) value ∙ set_same threads i i x inside refl

pub read_besides : (threads : List Tracked) (i j : ℕ) (x read : Tracked) → j < length threads → j ≢ i → read ≡ slice_index_or (slice_set threads i x) j read → read ≡ tracked_thread threads j
read_besides threads i j x read inside other value =
    read_at (slice_set threads i x) j read (omega (arith, inside, length-set threads i x)) value ∙ set_other threads i j x other

-- ---- what holds of each thread

as_tracked : (threads : List Tracked) (t : ℕ) (x : Tracked) → tracked_thread threads t ≡ x
    → t < length x.clock → length x.clock ≤ length threads → x.events ≡ component x.clock t → IsTracked threads t
as_tracked threads t x is own room events = record { own = rw is own; room = rw is room; events = rw is events }

tracked_more : (threads : List Tracked) (x : Tracked) → AreTracked threads → length threads < 4294967295
    → length threads < length x.clock → length x.clock ≤ length threads + 1 → x.events ≡ component x.clock (length threads) → AreTracked (threads ++ x ∷ [])
tracked_more threads x kept few own room events = record {
  each = λ t known. elim (cases_eq t (length threads)) [
    | inl same ↦ as_tracked (threads ++ x ∷ []) t x (tracked_push threads x t ∙ rw (eq-eqb t (length threads) same) refl)
        (omega (arith, same, own)) (omega (arith, room, total)) (subst (λ v. x.events ≡ component x.clock v) (sym same) events)
    | inr other ↦
        let was = kept.each t (omega (arith, known, total, other)) in
        as_tracked (threads ++ x ∷ []) t (tracked_thread threads t) (tracked_push threads x t ∙ rw (ne_eqb t (length threads) other) refl)
        was.own (omega (arith, was.room, total)) was.events
  ];
  few = omega (arith, few, total);
}
  where
    total : length (threads ++ x ∷ []) ≡ length threads + 1
    total = length-append threads (x ∷ [])

tracked_changed : (threads : List Tracked) (i : ℕ) (x : Tracked) → AreTracked threads → i < length threads
    → i < length x.clock → length x.clock ≤ length threads → x.events ≡ component x.clock i → AreTracked (slice_set threads i x)
tracked_changed threads i x kept inside own room events = record {
  each = λ t known. elim (cases_eq t i) [
    | inl same ↦ as_tracked (slice_set threads i x) t x (set_same threads i t x inside same)
        (omega (arith, same, own)) (omega (arith, room, total)) (subst (λ v. x.events ≡ component x.clock v) (sym same) events)
    | inr other ↦
        let was = kept.each t (omega (arith, known, total)) in
        as_tracked (slice_set threads i x) t (tracked_thread threads t) (set_other threads i t x other) was.own (omega (arith, was.room, total)) was.events
  ];
  few = omega (arith, kept.few, total);
}
  where
    total : length (slice_set threads i x) ≡ length threads
    total = length-set threads i x

-- ---- shared clocks

-- only a known thread shares its clock
pub shared_inside : (threads : List Tracked) (t : ℕ) (clock : List ℕ) → IsShared threads t clock → t < length threads
shared_inside threads t clock is = elim (cases_lt t (length threads)) [
  | inl inside ↦ inside
  | inr past ↦ absurd (omega (arith, is.own, is.room, ap (λ x. length x.clock) (get_or_past threads t no_thread past)))
]

shared_like : (old new : List Tracked) (t : ℕ) (clock : List ℕ) → (tracked_thread new t).clock ≡ (tracked_thread old t).clock → IsShared old t clock → IsShared new t clock
shared_like old new t clock same is = record {
  own = is.own;
  room = is.room ∙ ap length (sym same);
  others = λ u other. is.others u other ∙ ap (λ c. component c u) (sym same);
  less = subst (λ c. component clock t ≤ component c t) (sym same) is.less;
}

-- with the clock of its thread it still agrees after a tick
shared_ticked : (old new : List Tracked) (t : ℕ) (clock : List ℕ) → IsTick (tracked_thread old t).clock (tracked_thread new t).clock t
    → length (tracked_thread new t).clock ≡ length (tracked_thread old t).clock → IsShared old t clock → IsShared new t clock
shared_ticked old new t clock ticks room is = record {
  own = is.own;
  room = is.room ∙ sym room;
  others = λ u other. is.others u other ∙ sym (ticks.others u other);
  less = omega (arith, is.less, ticks.ticked);
}

-- it may be a copy
pub shared_copy : (threads : List Tracked) (t : ℕ) (clock : List ℕ) → IsTracked threads t → clock ≡ (tracked_thread threads t).clock → IsShared threads t clock
shared_copy threads t clock is same = subst (IsShared threads t) (sym same) (record { own = is.own; room = refl; others = λ u other. refl; less = omega arith })

pub shared_room : (threads : List Tracked) (t : ℕ) (clock : List ℕ) → AreTracked threads → IsShared threads t clock → length clock ≤ length threads
shared_room threads t clock kept is = omega (arith, is.room, (kept.each t (shared_inside threads t clock is)).room)

-- ---- all of it

-- a thread more
pub kept_push : (threads : List Tracked) (clocks : List (Option (List ℕ))) (releases : List (Option Stamp)) (unshares : List (Option (List ℕ))) (x : Tracked) → AreKept threads clocks releases unshares
    → length threads < 4294967295 → length threads < length x.clock → length x.clock ≤ length threads + 1 → x.events ≡ component x.clock (length threads)
    → AreKept (threads ++ x ∷ []) clocks releases unshares
kept_push threads clocks releases unshares x kept few own room events = record {
  tracked = tracked_more threads x kept.tracked few own room events;
  shared = λ t clock at.
      let was = kept.shared t clock at in
      let inside : t < length threads = shared_inside threads t clock was in
      shared_like threads (threads ++ x ∷ []) t clock (ap (λ y. y.clock) (get_or_append_left threads (x ∷ []) no_thread t inside)) was;
  locks = λ lock stamp at. omega (arith, kept.locks lock stamp at, length-append threads (x ∷ []));
  shares = λ lock. omega (arith, kept.shares lock, length-append threads (x ∷ []));
}

-- a thread is changed, and what is shared with it
pub kept_set : (threads : List Tracked) (clocks new_clocks : List (Option (List ℕ))) (releases : List (Option Stamp)) (unshares : List (Option (List ℕ))) (i : ℕ) (x : Tracked) → AreKept threads clocks releases unshares
    → i < length threads → i < length x.clock → length x.clock ≤ length threads → x.events ≡ component x.clock i
    → ((t : ℕ) → t ≢ i → slice_index_or new_clocks t None ≡ slice_index_or clocks t None)
    → ((clock : List ℕ) → slice_index_or new_clocks i None ≡ Some clock → IsShared (slice_set threads i x) i clock)
    → AreKept (slice_set threads i x) new_clocks releases unshares
kept_set threads clocks new_clocks releases unshares i x kept inside own room events others here = record {
  tracked = tracked_changed threads i x kept.tracked inside own room events;
  shared = λ t clock at. elim (cases_eq t i) [
    | inl same ↦ subst (λ v. IsShared (slice_set threads i x) v clock) (sym same) (here clock (subst (λ v. slice_index_or new_clocks v None ≡ Some clock) same at))
    | inr other ↦ shared_like threads (slice_set threads i x) t clock (ap (λ y. y.clock) (set_other threads i t x other)) (kept.shared t clock (sym (others t other) ∙ at))
  ];
  locks = λ lock stamp at. omega (arith, kept.locks lock stamp at, length-set threads i x);
  shares = λ lock. omega (arith, kept.shares lock, length-set threads i x);
}

-- a thread counts an event
pub kept_count : (threads : List Tracked) (clocks : List (Option (List ℕ))) (releases : List (Option Stamp)) (unshares : List (Option (List ℕ))) (i : ℕ) (old x : Tracked) → AreKept threads clocks releases unshares
    → i < length threads → old ≡ tracked_thread threads i → IsTick old.clock x.clock i → length x.clock ≡ length old.clock → x.events ≡ old.events + 1
    → AreKept (slice_set threads i x) clocks releases unshares
kept_count threads clocks releases unshares i old x kept inside is ticks room events =
    let was = kept.tracked.each i inside in
    let ticked = subst (λ y. IsTick y.clock x.clock i) is ticks in
    let total : length x.clock ≡ length (tracked_thread threads i).clock = room ∙ ap (λ y. length y.clock) is in
    kept_set threads clocks clocks releases unshares i x kept inside (omega (arith, was.own, total)) (omega (arith, was.room, total))
    (events ∙ ap (λ y. y.events + 1) is ∙ ap (λ n. n + 1) was.events ∙ sym ticked.ticked)
    (λ t other. refl)
    (λ clock at.
    shared_ticked threads (slice_set threads i x) i clock (subst (λ y. IsTick (tracked_thread threads i).clock y.clock i) (sym (set_same threads i i x inside refl)) ticked)
    (ap (λ y. length y.clock) (set_same threads i i x inside refl) ∙ total) (kept.shared i clock at))

-- a thread ends
pub kept_end : (threads : List Tracked) (clocks : List (Option (List ℕ))) (releases : List (Option Stamp)) (unshares : List (Option (List ℕ))) (i : ℕ) (old x : Tracked) → AreKept threads clocks releases unshares
    → i < length threads → old ≡ tracked_thread threads i → x.clock ≡ old.clock → x.events ≡ old.events → AreKept (slice_set threads i x) clocks releases unshares
kept_end threads clocks releases unshares i old x kept inside is clock events =
    let was = kept.tracked.each i inside in
    let same : x.clock ≡ (tracked_thread threads i).clock = clock ∙ ap (λ y. y.clock) is in
    kept_set threads clocks clocks releases unshares i x kept inside (omega (arith, was.own, ap length same)) (omega (arith, was.room, ap length same))
    (events ∙ ap (λ y. y.events) is ∙ was.events ∙ ap (λ c. component c i) (sym same))
    (λ t other. refl)
    (λ shared at. shared_like threads (slice_set threads i x) i shared (ap (λ y. y.clock) (set_same threads i i x inside refl) ∙ same) (kept.shared i shared at))

-- a thread learns, and shares its clock no longer
pub kept_learn : (threads : List Tracked) (clocks new_clocks : List (Option (List ℕ))) (releases : List (Option Stamp)) (unshares : List (Option (List ℕ))) (i : ℕ) (old x : Tracked) → AreKept threads clocks releases unshares
    → i < length threads → old ≡ tracked_thread threads i → length x.clock ≡ length threads → component x.clock i ≡ known_to threads i i → x.events ≡ old.events
    → ((t : ℕ) → t ≢ i → slice_index_or new_clocks t None ≡ slice_index_or clocks t None) → slice_index_or new_clocks i None ≡ None
    → AreKept (slice_set threads i x) new_clocks releases unshares
kept_learn threads clocks new_clocks releases unshares i old x kept inside is room own events others none =
    let was = kept.tracked.each i inside in
    kept_set threads clocks new_clocks releases unshares i x kept inside (omega (arith, inside, room)) (omega (arith, room))
    (events ∙ ap (λ y. y.events) is ∙ was.events ∙ sym own)
    others
    (λ shared at. absurd (none-some shared (sym none ∙ at)))

-- the others' clocks
pub others_set : (clocks : List (Option (List ℕ))) (i : ℕ) (x : Option (List ℕ)) (t : ℕ) → t ≢ i → slice_index_or (slice_set clocks i x) t None ≡ slice_index_or clocks t None
others_set clocks i x t other = get_or-set_other clocks i t x None other

-- a thread begins to share its clock
pub kept_share : (threads : List Tracked) (clocks grown : List (Option (List ℕ))) (releases : List (Option Stamp)) (unshares : List (Option (List ℕ))) (i : ℕ) (clock : List ℕ) → AreKept threads clocks releases unshares
    → i < length grown → ((t : ℕ) → slice_index_or grown t None ≡ slice_index_or clocks t None) → IsShared threads i clock
    → AreKept threads (slice_set grown i (Some clock)) releases unshares
kept_share threads clocks grown releases unshares i clock kept inside same is = record {
  tracked = kept.tracked;
  shared = λ t other_clock at. elim (cases_eq t i) [
    | inl here ↦ subst (λ v. IsShared threads v other_clock) (sym here)
        (subst (IsShared threads i) (same_Some clock other_clock (sym (get_or-set_at grown i t (Some clock) None here inside) ∙ at)) is)
    | inr other ↦ kept.shared t other_clock (sym (same t) ∙ sym (others_set grown i (Some clock) t other) ∙ at)
  ];
  locks = kept.locks;
  shares = kept.shares;
}
