use Rattle.std.proofs.Common.{unwrap_or, sym, ap, ◌∙◌}
use Rattle.rd_rules.specs.declared.causes.Accepted.TheVariants as accepted
use Rattle.rd_rules.specs.MayFollow.{accepted_of}
use Rattle.rd_wf.proofs.RosterLemmas.{object_judged, kind_place}
use Rattle.rd_wf.proofs.roster.Roster.judge_object.Goals as goal

pub returns-in-Some-clause-err : goal.returns-in-Some-clause-err
returns-in-Some-clause-err c = λ name kind is known kinds lines stands.
    object_judged kinds c.args.self.now lines stands _ c.is_none.ensures c.args.limits.now name kind _ _ _ is (sym c.is_none-2.ensures ∙ known) c.len-object.ensures.len
    ∙ sym (c.in-Some.ensures.first lines tt)

pub returns-clause-ok : goal.returns-clause-ok
unfolding accepted_of
returns-clause-ok c = λ name kind is found known kinds lines stands. (
  object_judged kinds c.args.self.now lines stands _ c.is_none.ensures c.args.limits.now name kind _ _ _ is (sym c.is_none-2.ensures ∙ known) c.len-object.ensures.len
      ∙ sym (c.in_default.ensures.first lines tt),
  λ i. accepted.Object ((c.len-object.ensures.len ∙ stands.object_total) i) ((c.unwrap_or-kind.ensures ∙ ap (unwrap_or c.args.found) c.len.ensures.len ∙ kind_place kinds c.args.self.now lines stands kind _ found) i),
)
