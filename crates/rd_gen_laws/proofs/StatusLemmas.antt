-- The status of a report on a generated trace.
use Rattle.std.proofs.Common.{◌≡◌, ℕ, Bool, true, false, cond, refl, sym, subst, inl, inr}
use Rattle.std.specs.Prelude.{◌==◌}
use Rattle.rd_gen_laws.specs.WellEnded.{IsGeneratedStatus, IsWellEnded}
use Rattle.rd_object.specs.declared.shapes.ReplayEnd.TheVariants.{Exact}
use Rattle.rd_object.specs.declared.shapes.ReplayEnd.{ReplayEnd}
use Rattle.rd_report.specs.Endings.{check_status, ending_of_report}
use Rattle.rd_walk.specs.Walk.{Walked, ending_of}
use Rattle.rd_walk.specs.declared.status.Status.TheVariants.{Clean, Raced}

-- where the replay is exact, and only a limit refuses a line
pub exact_status : (races : ℕ) (replay : ReplayEnd) (walked : Walked) → replay ≡ Exact → IsWellEnded walked
    → IsGeneratedStatus (check_status races (ending_of_report races replay (ending_of walked)))
unfolding check_status
exact_status races replay walked exact (inl end) =
    subst (λ r. IsGeneratedStatus (check_status races (ending_of_report races r (ending_of walked)))) (sym exact)
    (subst (λ e. IsGeneratedStatus (check_status races (ending_of_report races Exact e))) (sym end) (by (races == 0)))
  where
    by : (none : Bool) → IsGeneratedStatus (cond none Clean Raced)
    by true = inl refl
    by false = inr (inl refl)
exact_status races replay walked exact (inr (line, name, most, refused)) =
    subst (λ e. IsGeneratedStatus (check_status races (ending_of_report races replay e))) (sym refused) (inr (inr refl))
