-- The next event of a course, and what is told where a call succeeds.
use Rattle.std.proofs.Common.{◌≡◌, ℕ, Bool, List, [], ◌∷◌, ◌++◌, length, Result, Ok, subst}
use Rattle.std.specs.Prelude.{IfOk, OnOk}
use Rattle.rd_clock.specs.declared.clock.Stamp.{Stamp}
use Rattle.rd_detect.specs.Detect.{Detecting, IsNextCall}
use Rattle.rd_ecl.specs.Kinds.{kinds_of}
use Rattle.rd_ecl.specs.Specified.{SpecifiedKind}
use Rattle.rd_event.specs.declared.events.Call.{Call as CallOf}
use Rattle.rd_event.specs.declared.events.Event.{Event}
use Rattle.rd_event.specs.declared.events.Event.TheVariants.{Call}
use Rattle.rd_hb.specs.Tracker.{IsNextEvent, IsStamp, TrackerStandsFor, Tracking}
use Rattle.rd_order.specs.EventLists.{WellFormedWith}
use Rattle.rd_detect_trials.specs.Courses.{MayHappenNext}

-- what is told of a success, where there is one
pub on_ok : {A E : Type 0} {P : Type 0} (result : Result A E) (x : A) → result ≡ Ok x → OnOk result P → P
on_ok {P = P} result x is holds = subst (λ r. OnOk r P) is holds

pub if_ok : {A E : Type 0} (P : A → Type 0) (result : Result A E) (x : A) → result ≡ Ok x → IfOk result P → P x
if_ok P result x is holds = subst (λ r. IfOk r P) is holds

module _ (kinds : List SpecifiedKind) (tracker : Tracking) (detector : Detecting) (roots : ℕ → Bool) (numbers : List ℕ) (es : List Event) (place : ℕ) (e : Event)
    (next : MayHappenNext kinds tracker detector roots numbers es place e) where
  pub next_event : IsNextEvent tracker roots es e
  next_event = record { stands = next.tracked; formed = next.formed.formed; numbered = next.numbered }

  pub next_call : (call : CallOf) → e ≡ Call call → (new : Tracking) → TrackerStandsFor new roots (es ++ e ∷ []) → (stamp : Stamp) → IsStamp (es ++ e ∷ []) (length es) stamp
      → IsNextCall kinds detector new roots numbers es place call stamp
  next_call call is new tracked stamp stamped = record {
    stands = next.detects;
    at_end = next.at_end;
    stamped = subst (λ x. IsStamp (es ++ x ∷ []) (length es) stamp) is stamped;
    formed = subst (λ x. WellFormedWith (kinds_of kinds) roots (es ++ x ∷ [])) is next.formed;
    tracked = subst (λ x. TrackerStandsFor new roots (es ++ x ∷ [])) is tracked;
  }
