use Rattle.std.proofs.Common.{subst, sym}
use Rattle.rd_wf.specs.Roster.{RosterStandsFor}
use Rattle.rd_linear_trials.proofs.CourseLemmas.{course_more, if_ok, on_ok}
use Rattle.rd_linear_trials.specs.Courses.{HasEvents}
use Rattle.rd_linear_trials.proofs.course.Course.take.Goals as goal

pub invariant_of-self-2 : goal.invariant_of-self-2
invariant_of-self-2 g c =
    let held = c.self.invariant in
    let stood = subst (λ roster. RosterStandsFor held.kinds roster held.lines) (sym c.deref_mut.ensures.value) held.stands in
    let told = if_ok _ c.accept.result c.in-Ok.accepted c.in-Ok.is c.accept.ensures.ok held.kinds held.lines stood in
    subst (HasEvents c.accept.new.self) (sym c.add.ensures)
    (course_more c.self.inside.roster.value c.accept.new.self c.self.inside.events.items held c.standard.result c.expect-line.result c.in-Ok.accepted c.standard.ensures.usable
    (on_ok c.accept.result c.in-Ok.accepted c.in-Ok.is c.accept.ensures.follows held.kinds held.lines stood)
    (on_ok c.accept.result c.in-Ok.accepted c.in-Ok.is c.accept.ensures.few held.kinds held.lines stood) told.1 told.2)
