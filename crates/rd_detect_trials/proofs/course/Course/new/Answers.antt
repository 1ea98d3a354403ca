use Rattle.std.proofs.Common.{[], subst, sym}
use Rattle.rd_ecl.specs.Kinds.{kinds_of}
use Rattle.rd_wf.specs.Roster.{RosterStandsFor}
use Rattle.rd_detect_trials.proofs.CourseLemmas.{if_ok}
use Rattle.rd_detect_trials.proofs.LineLemmas.{stands_none}
use Rattle.rd_detect_trials.proofs.course.Course.new.Goals as goal

pub invariant_of-result : goal.invariant_of-result
invariant_of-result g c = record {
  kinds = c.args.spec.now;
  lines = [];
  roster_stands = subst (λ roster. RosterStandsFor (kinds_of c.args.spec.now) roster [])
      (sym (if_ok _ c.new-2.result c.expect.result c.expect.ensures c.new-2.ensures.ok)) (if_ok _ c.new.result c.expect-roster.result c.expect-roster.ensures c.new.ensures);
  stands = stands_none c.args.spec.now c.new-3.result c.expect-2.result c.new-3.ensures.empty (if_ok _ c.new-4.result c.expect-2.result c.expect-2.ensures c.new-4.ensures.stands);
}
