-- What a thread knows once it was set.
use Rattle.std.proofs.Common.{◌≡◌, inl, inr, ℕ, ◌<◌, ◌≤◌, Bool, true, false, ◌||◌, max, List, length, None, Result, Ok, Err, OnErr, refl, sym, ◌∙◌, ap, arith, slice_index_or, slice_set, length-set}
use Rattle.std.proofs.lemmas.Bool.{cases_eq}
use Rattle.std.proofs.lemmas.List.{get_or-set_other, set-get_or}
use Rattle.std.proofs.lemmas.Grind.{get_or-set_at}
use Rattle.rd_clock.specs.Clock.{component}
use Rattle.rd_hb.specs.declared.tracker.Tracked.{Tracked}
use Rattle.rd_hb.specs.Tracker.{tracked_thread, no_thread, known_to}
use Rattle.rd_hb.specs.TrackerParts.{IsLearnt}

-- what holds anyway
pub on_err : {X E : Type 0} (r : Result X E) (P : Type 0) → P → OnErr r P
on_err (Ok x) P holds = tt
on_err (Err e) P holds = holds

-- a thread is set as it was
pub set_back : (threads : List Tracked) (i : ℕ) (read : Tracked) (clock : List ℕ) → read ≡ slice_index_or threads i read → clock ≡ read.clock
    → slice_set threads i (record { clock = clock; events = read.events; joined = read.joined }) ≡ threads
set_back threads i read clock value same =
    ap (λ c. slice_set threads i (record { clock = c; events = read.events; joined = read.joined })) same ∙ ap (slice_set threads i) value ∙ set-get_or threads i read

-- no thread has ended
none_ended : (b : Bool) → b ≡ (b || false)
none_ended true = refl
none_ended false = refl

-- it learns nothing
pub learnt_nothing : (threads : List Tracked) (i : ℕ) (news : ℕ → ℕ) → ((u : ℕ) → news u ≤ known_to threads i u) → IsLearnt i news None threads threads
learnt_nothing threads i news below = record {
  count = refl;
  own = λ u. omega (arith, below u);
  others = λ t other. refl;
  joined = λ t. none_ended (tracked_thread threads t).joined;
}

-- its clock is joined with another
pub learnt_set : (threads : List Tracked) (i : ℕ) (news : ℕ → ℕ) (x : Tracked) → i < length threads
    → ((u : ℕ) → component x.clock u ≡ max (known_to threads i u) (news u)) → x.joined ≡ (tracked_thread threads i).joined → IsLearnt i news None threads (slice_set threads i x)
learnt_set threads i news x inside learns joined = record {
  count = length-set threads i x;
  own = λ u. ap (λ y. component y.clock u) (get_or-set_at threads i i x no_thread refl inside) ∙ learns u;
  others = λ t other. ap (λ y. y.clock) (get_or-set_other threads i t x no_thread other);
  joined = λ t. elim (cases_eq t i) [
    | inl same ↦ ap (λ y. y.joined) (get_or-set_at threads i t x no_thread same inside) ∙ joined ∙ ap (λ v. (tracked_thread threads v).joined) (sym same)
        ∙ none_ended (tracked_thread threads t).joined
    | inr other ↦ ap (λ y. y.joined) (get_or-set_other threads i t x no_thread other) ∙ none_ended (tracked_thread threads t).joined
  ];
}
