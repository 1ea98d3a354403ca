-- What the roster judged of an access.
use Rattle.std.proofs.Common.{◌≡◌, ◌≢◌, Bool, true, false, List, Ok, Err, refl, sym, subst}
use Rattle.std.specs.Prelude.{codes, ⊤}
use Rattle.rd_base.specs.Names.{IsName, is_name}
use Rattle.rd_base.specs.declared.limits.Limits.{Limits}
use Rattle.rd_event.specs.declared.items.Line.{Line}
use Rattle.rd_base.proofs.NameLemmas.{is_name_decides}
use Rattle.rd_memory.specs.MemoryLines.{access_keyword}
use Rattle.rd_rules.specs.declared.causes.Accepted.{Accepted}
use Rattle.rd_rules.specs.declared.causes.BytesRefused.TheVariants as refused
use Rattle.rd_rules.specs.declared.causes.BytesRefused.{BytesRefused}
use Rattle.rd_ecl.specs.Kinds.{Kind}
use Rattle.rd_wf.specs.Roster.{Forbids, RosterStandsFor, TakesNames}
use Rattle.rd_wf.specs.declared.roster.Roster.{Roster}

-- the method of an access has a name
pub method_named : (write : Bool) → IsName (access_keyword write)
unfolding is_name
method_named true = (is_name_decides (codes "write")).0 refl
method_named false = (is_name_decides (codes "read")).0 refl

-- names that are known
pub surely : (complete : Bool) (named : Type 0) (old new : Roster) (limits : Limits) (line : Line) (accepted : Accepted) → TakesNames complete named old new limits line (Ok accepted)
    → TakesNames true ⊤ old new limits line (Ok accepted)
surely complete named old new limits line accepted takes = (tt, takes.1)

-- what is said of an answer that is this one
pub refused_as : (complete : Bool) (named : Type 0) (old new : Roster) (limits : Limits) (line : Line) (e f : BytesRefused) → e ≡ f → TakesNames complete named old new limits line (Err e)
    → TakesNames complete named old new limits line (Err f)
refused_as complete named old new limits line e f is takes = subst (λ x. TakesNames complete named old new limits line (Err x)) is takes

-- a refusal changes nothing, so the roster refuses the line again
pub judged_again : (named : Type 0) (old new : Roster) (limits : Limits) (line : Line) (e : BytesRefused) → e ≢ refused.NoMemory → TakesNames true named old new limits line (Err e)
    → TakesNames true named new new limits line (Err e)
judged_again named old new limits line refused.BadLine other takes = (takes.0, refl)
judged_again named old new limits line (refused.Cause cause) other takes = (takes.0, (subst (λ roster. Forbids roster limits line cause) (sym takes.1.1) takes.1.0, refl))
judged_again named old new limits line refused.NoMemory other takes = absurd (other refl)

pub as_before : (named : Type 0) (old new : Roster) (limits : Limits) (line : Line) (e : BytesRefused) → e ≢ refused.NoMemory → TakesNames true named old new limits line (Err e) → new ≡ old
as_before named old new limits line refused.BadLine other takes = takes.1
as_before named old new limits line (refused.Cause cause) other takes = takes.1.1
as_before named old new limits line refused.NoMemory other takes = absurd (other refl)

-- and it stands for the same lines
pub still_refused : (complete : Bool) (named : Type 0) (old new : Roster) (limits : Limits) (line : Line) (e : BytesRefused) → TakesNames complete named old new limits line (Err e)
    → (kinds : List Kind) (lines : List Line) → RosterStandsFor kinds old lines → RosterStandsFor kinds new lines
still_refused complete named old new limits line refused.BadLine takes kinds lines stands = subst (λ roster. RosterStandsFor kinds roster lines) (sym takes.1) stands
still_refused complete named old new limits line (refused.Cause cause) takes kinds lines stands = subst (λ roster. RosterStandsFor kinds roster lines) (sym takes.1.1) stands
still_refused complete named old new limits line refused.NoMemory takes kinds lines stands = (takes.1 kinds lines stands).2
