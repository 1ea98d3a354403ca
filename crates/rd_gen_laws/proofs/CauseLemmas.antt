-- The first cause that a line meets is a limit, or there is none.
use Rattle.std.proofs.Common.{◌≡◌, ℕ, ◌+◌, Bool, true, false, List, [], ◌∷◌, ◌++◌, Option, Some, None, refl, sym, subst, inr}
use Rattle.std.specs.Prelude.{find, length, map, cond, ⊤}
use Rattle.std.specs.List.{range_with_len}
use Rattle.rd_base.specs.declared.limits.LimitName.TheVariants.{Events, Threads, Locks, Objects, Depth}
use Rattle.rd_base.specs.declared.limits.LimitName.{LimitName}
use Rattle.rd_base.specs.declared.limits.Limits.{Limits}
use Rattle.rd_ecl.specs.Kinds.{Kind}
use Rattle.rd_event.specs.declared.items.Line.{Line}
use Rattle.rd_gen_command.specs.GeneratedWalks.{walk_items}
use Rattle.rd_gen_laws.specs.WellEnded.{IsWellEnded}
use Rattle.rd_walk.specs.Walk.{accepted_or, ending_of, goes_or_ends}
use Rattle.rd_rules.specs.MayFollow.{causes, first_broken, threads_of}
use Rattle.rd_rules.specs.declared.causes.WfCause.{WfCause}
use Rattle.rd_rules.specs.declared.causes.WfCause.TheVariants.{HeaderFirst, LateRoot, NameTaken, UnknownThread, ThreadEnded, OwnThread, UnknownKind, UnknownObject, UnknownMethod, WrongCount, LockHeld, NotHeld, Limit}

abbrev pub IsFine : Option WfCause → Type 0
IsFine None = ⊤
IsFine (Some (Limit name most)) = ⊤
IsFine (Some _) = ⊥

-- a cause that isn't met, but for limits, which may be
abbrev IsMissed : (WfCause → Bool) → WfCause → Type 0
IsMissed test (Limit name most) = ⊤
IsMissed test cause = test cause ≡ false

abbrev AreMissed : (WfCause → Bool) → List WfCause → Type 0
AreMissed test [] = ⊤
AreMissed test (cause ∷ more) = IsMissed test cause × AreMissed test more

fine_other : (test : WfCause → Bool) (cause : WfCause) (more : List WfCause) → test cause ≡ false → IsFine (find test more) → IsFine (find test (cause ∷ more))
fine_other test cause more missed rest = subst (λ b. IsFine (cond b (Some cause) (find test more))) (sym missed) rest

fine_limit : (test : WfCause → Bool) (name : LimitName) (most : ℕ) (more : List WfCause) → IsFine (find test more) → IsFine (find test (Limit name most ∷ more))
fine_limit test name most more rest = by (test (Limit name most))
  where
    by : (b : Bool) → IsFine (cond b (Some (Limit name most)) (find test more))
    by true = tt
    by false = rest

fine_cons : (test : WfCause → Bool) (cause : WfCause) (more : List WfCause) → IsMissed test cause → IsFine (find test more) → IsFine (find test (cause ∷ more))
fine_cons test (Limit name most) more missed rest = fine_limit test name most more rest
fine_cons test HeaderFirst more missed rest = fine_other test HeaderFirst more missed rest
fine_cons test LateRoot more missed rest = fine_other test LateRoot more missed rest
fine_cons test NameTaken more missed rest = fine_other test NameTaken more missed rest
fine_cons test UnknownThread more missed rest = fine_other test UnknownThread more missed rest
fine_cons test ThreadEnded more missed rest = fine_other test ThreadEnded more missed rest
fine_cons test OwnThread more missed rest = fine_other test OwnThread more missed rest
fine_cons test UnknownKind more missed rest = fine_other test UnknownKind more missed rest
fine_cons test UnknownObject more missed rest = fine_other test UnknownObject more missed rest
fine_cons test UnknownMethod more missed rest = fine_other test UnknownMethod more missed rest
fine_cons test WrongCount more missed rest = fine_other test WrongCount more missed rest
fine_cons test (LockHeld holder) more missed rest = fine_other test (LockHeld holder) more missed rest
fine_cons test NotHeld more missed rest = fine_other test NotHeld more missed rest

fine_all : (test : WfCause → Bool) (all : List WfCause) → AreMissed test all → IsFine (find test all)
fine_all test [] missed = tt
fine_all test (cause ∷ more) missed = fine_cons test cause more missed.0 (fine_all test more missed.1)

missed_holders : (test : WfCause → Bool) (numbers : List ℕ) (more : List WfCause) → ((holder : ℕ) → test (LockHeld holder) ≡ false) → AreMissed test more
    → AreMissed test (map LockHeld numbers ++ more)
missed_holders test [] more missed rest = rest
missed_holders test (number ∷ numbers) more missed rest = (missed number, missed_holders test numbers more missed rest)

-- none of the other causes is met
pub fine_causes : (test : WfCause → Bool) (limits : Limits) (before : List Line) → test HeaderFirst ≡ false → test LateRoot ≡ false → test NameTaken ≡ false
    → test UnknownThread ≡ false → test ThreadEnded ≡ false → test OwnThread ≡ false → test UnknownKind ≡ false → test UnknownObject ≡ false
    → test UnknownMethod ≡ false → test WrongCount ≡ false → ((holder : ℕ) → test (LockHeld holder) ≡ false) → test NotHeld ≡ false
    → IsFine (find test (causes limits before))
fine_causes test limits before a b c d e f g h i j k l =
    fine_all test (causes limits before) (
      a,
      (
        b,
        (
          c,
          (
            d,
            (
              e,
              (
                f,
                (
                  g,
                  (
                    h,
                    (
                      i,
                      (
                        j,
                        missed_holders test (range_with_len 0 (length (threads_of before)))
                            (NotHeld ∷ Limit Events limits.events ∷ Limit Threads limits.threads ∷ Limit Locks limits.locks ∷ Limit Objects limits.objects ∷ Limit Depth limits.depth ∷ []) k
                            (l, (tt, (tt, (tt, (tt, (tt, tt)))))),
                      ),
                    ),
                  ),
                ),
              ),
            ),
          ),
        ),
      ),
    )

-- one line more
pub fine_step : (kinds : List Kind) (limits : Limits) (before : List Line) (number : ℕ) (item : Line) (lines : List Line) → IsFine (first_broken kinds limits before item)
    → IsWellEnded (walk_items kinds limits (before ++ item ∷ []) (number + 1) lines) → IsWellEnded (walk_items kinds limits before number (item ∷ lines))
unfolding walk_items ending_of
fine_step kinds limits before number item lines fine rest = by (first_broken kinds limits before item) fine
  where
    by : (broken : Option WfCause) → IsFine broken
        → IsWellEnded (goes_or_ends number (accepted_or item broken) (λ found. walk_items kinds limits (before ++ found ∷ []) (number + 1) lines))
    by None fine = rest
    by (Some (Limit name most)) fine = inr (number, name, most, refl)
    by (Some HeaderFirst) fine = absurd fine
    by (Some LateRoot) fine = absurd fine
    by (Some NameTaken) fine = absurd fine
    by (Some UnknownThread) fine = absurd fine
    by (Some ThreadEnded) fine = absurd fine
    by (Some OwnThread) fine = absurd fine
    by (Some UnknownKind) fine = absurd fine
    by (Some UnknownObject) fine = absurd fine
    by (Some UnknownMethod) fine = absurd fine
    by (Some WrongCount) fine = absurd fine
    by (Some (LockHeld holder)) fine = absurd fine
    by (Some NotHeld) fine = absurd fine
