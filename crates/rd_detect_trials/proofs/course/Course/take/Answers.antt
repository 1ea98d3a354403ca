use Rattle.std.proofs.Common.{◌∷◌, [], ◌++◌, subst, sym}
use Rattle.rd_ecl.specs.Kinds.{kinds_of}
use Rattle.rd_wf.specs.Roster.{RosterStandsFor}
use Rattle.rd_detect_trials.proofs.CourseLemmas.{if_ok, on_ok}
use Rattle.rd_detect_trials.proofs.LineLemmas.{accepted_next}
use Rattle.rd_detect_trials.proofs.course.Course.take.Goals as goal

pub follow-told-requires : goal.follow-told-requires
follow-told-requires g c =
    let held = c.self.invariant in
    let kinds = kinds_of held.kinds in
    let stood = subst (λ roster. RosterStandsFor kinds roster held.lines) (sym c.deref_mut.ensures.value) held.roster_stands in (
      held.kinds,
      held.lines,
      c.args.line.now,
      accepted_next held.kinds c.self.inside.tracker c.self.inside.detector held.lines c.args.line.now c.in-Ok.accepted c.events-place.result c.standard.result held.stands
          c.standard.ensures.usable (on_ok c.accept.result c.in-Ok.accepted c.in-Ok.is c.accept.ensures.follows kinds held.lines stood)
          (on_ok c.accept.result c.in-Ok.accepted c.in-Ok.is c.accept.ensures.few kinds held.lines stood)
          (if_ok _ c.accept.result c.in-Ok.accepted c.in-Ok.is c.accept.ensures.ok kinds held.lines stood).1
          (c.events-place.ensures kinds held.lines (subst (λ roster. RosterStandsFor kinds roster held.lines) (sym c.deref.ensures) held.roster_stands)),
    )

pub invariant_of-self-2 : goal.invariant_of-self-2
invariant_of-self-2 g c =
    let held = c.self.invariant in
    let kinds = kinds_of held.kinds in
    let stood = subst (λ roster. RosterStandsFor kinds roster held.lines) (sym c.deref_mut.ensures.value) held.roster_stands in
    let told = if_ok _ c.accept.result c.in-Ok.accepted c.in-Ok.is c.accept.ensures.ok kinds held.lines stood in record {
      kinds = held.kinds;
      lines = held.lines ++ c.args.line.now ∷ [];
      roster_stands = told.2;
      stands = c.follow-told.ensures held.kinds held.lines c.args.line.now
          (accepted_next held.kinds c.self.inside.tracker c.self.inside.detector held.lines c.args.line.now c.in-Ok.accepted c.events-place.result c.standard.result held.stands
          c.standard.ensures.usable (on_ok c.accept.result c.in-Ok.accepted c.in-Ok.is c.accept.ensures.follows kinds held.lines stood)
          (on_ok c.accept.result c.in-Ok.accepted c.in-Ok.is c.accept.ensures.few kinds held.lines stood) told.1
          (c.events-place.ensures kinds held.lines (subst (λ roster. RosterStandsFor kinds roster held.lines) (sym c.deref.ensures) held.roster_stands)));
    }
