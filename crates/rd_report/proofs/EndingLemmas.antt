-- The status of an ending.
use Rattle.rd_object.specs.declared.shapes.ReplayEnd.TheVariants.{Exact, Differs, NotShipped}
use Rattle.rd_object.specs.declared.shapes.ReplayEnd.{ReplayEnd}
use Rattle.rd_walk.specs.Output.{IsWell}
use Rattle.rd_report.specs.Endings.{check_status, is_limit, replay_status, ending_of_report}
use Rattle.rd_walk.specs.declared.status.Status.TheVariants.{Raced, TraceRefused, LimitReached}
use Rattle.rd_walk.specs.declared.walk.WalkEnd.TheVariants as walk
use Rattle.rd_walk.specs.declared.walk.WalkEnd.{WalkEnd}
use Rattle.std.proofs.Common.{◌≡◌, ◌↔◌, ℕ, Bool, true, false, cond, eqb, refl, sym, subst, inl, inr}

-- a status that says that a trace was read to its end comes only where it was
pub well_end : (races : ℕ) (replay : ReplayEnd) (ending : WalkEnd) → IsWell (check_status races (ending_of_report races replay ending)) → ending ≡ walk.End
unfolding check_status
well_end races replay walk.End well = refl
well_end races replay (walk.Refused number cause) well = absurd (by (is_limit cause) well)
  where
    by : (b : Bool) → IsWell (cond b LimitReached TraceRefused) → ⊥
    by true well = well
    by false well = well
well_end races replay walk.Fault well = absurd well

-- what ends well says so
ends_well : (races : ℕ) (ended : ReplayEnd) → IsWell (check_status races (ending_of_report races ended walk.End))
unfolding check_status
ends_well races ended = by (eqb races 0) ended
  where
    by : (b : Bool) (ended : ReplayEnd) → IsWell (cond b (replay_status ended) Raced)
    by true Exact = tt
    by true (Differs line expected) = tt
    by true NotShipped = tt
    by false ended = tt

-- so the status says that a trace was read to its end exactly where it was
pub well_exactly : (races : ℕ) (replay : ReplayEnd) (ending : WalkEnd) → IsWell (check_status races (ending_of_report races replay ending)) ↔ (ending ≡ walk.End)
well_exactly races replay ending = (
  well_end races replay ending,
  λ end. subst (λ e. IsWell (check_status races (ending_of_report races replay e))) (sym end) (ends_well races replay),
)
