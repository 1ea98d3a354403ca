-- The status of a trace of which nothing is written before its end.
use Rattle.std.proofs.Common.{◌≡◌, ◌↔◌, ℕ, List, refl, sym, subst}
use Rattle.rd_object.specs.declared.shapes.ReplayEnd.TheVariants.{Exact}
use Rattle.rd_report.proofs.EndingLemmas.{well_exactly}
use Rattle.rd_rewriting.specs.Ended.{ended_as}
use Rattle.rd_walk.proofs.OutputLemmas.{fault_no_well}
use Rattle.rd_walk.specs.Output.{IsWell, Outcome}
use Rattle.rd_walk.specs.declared.walk.WalkEnd.TheVariants.{End, Refused, Fault}
use Rattle.rd_walk.specs.declared.walk.WalkEnd.{WalkEnd}

ended_well : (names : List (List ℕ)) (whole : Outcome) (last : WalkEnd) → IsWell (ended_as names whole last).status → last ≡ End
ended_well names whole End well = refl
ended_well names whole (Refused number cause) well = (well_exactly 0 Exact (Refused number cause)).0 well
ended_well names whole Fault well = absurd (fault_no_well well)

-- the status says that the trace was read to its end exactly where it was
pub ended_exactly : (names : List (List ℕ)) (whole : Outcome) (last : WalkEnd) → IsWell whole.status → IsWell (ended_as names whole last).status ↔ (last ≡ End)
ended_exactly names whole last well = (ended_well names whole last, λ end. subst (λ l. IsWell (ended_as names whole l).status) (sym end) well)
