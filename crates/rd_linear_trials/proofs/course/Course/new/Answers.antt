use Rattle.std.proofs.Common.{◌≡◌, ◌≢◌, [], subst, sym}
use Rattle.std.specs.Prelude.{AllPairs}
use Rattle.rd_ecl.specs.Kinds.{kind_names, kinds_of}
use Rattle.rd_kinds.proofs.NameLemmas.{listed_differ}
use Rattle.rd_kinds.specs.Shipped.{shipped_kinds}
use Rattle.rd_wf.specs.Roster.{RosterStandsFor}
use Rattle.rd_rules.specs.laws.NoLines.{told_none}
use Rattle.rd_linear_trials.proofs.CourseLemmas.{if_ok}
use Rattle.rd_linear_trials.proofs.course.Course.new.Goals as goal

pub new-requires-clause-different : goal.new-requires-clause-different
new-requires-clause-different g c =
    subst (λ kinds. AllPairs (λ x y. x ≢ y) (kind_names (kinds_of kinds)))
    (sym (if_ok (λ spec. spec ≡ shipped_kinds) c.shipped.result c.expect-spec.result c.expect-spec.ensures c.shipped.ensures)) listed_differ

pub invariant_of-result : goal.invariant_of-result
invariant_of-result g c = record {
  kinds = kinds_of c.expect-spec.result;
  lines = [];
  stands = subst (λ roster. RosterStandsFor (kinds_of c.expect-spec.result) roster [])
      (sym (if_ok _ c.new-2.result c.expect.result c.expect.ensures c.new-2.ensures.ok)) (if_ok _ c.new.result c.expect-roster.result c.expect-roster.ensures c.new.ensures);
  told = told_none (kinds_of c.expect-spec.result);
  events_are = c.new-3.ensures.items;
}
