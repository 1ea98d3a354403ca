use Rattle.rd_base.specs.Names.{IsName}
use Rattle.std.proofs.Common.{subst, sym, false, refl, ◌∙◌}
use Rattle.rd_rules.proofs.FollowLemmas.{fresh_root}
use Rattle.rd_wf.proofs.RosterLemmas.{inserted_thread}
use Rattle.rd_wf.proofs.NextLemmas.{after_root}
use Rattle.rd_wf.proofs.roster.Roster.root.Goals as goal

pub returns : goal.returns
returns c = rw (sym c.in-Ok.ensures.value) (
  subst IsName (sym c.in-Ok.ensures.value) (c.in-Ok.ensures.variant.0 refl),
  λ kinds lines stands.
      let permitted = c.in-Ok-judge_root.ensures.ok kinds lines stands in
      let fresh = fresh_root kinds c.args.limits.now lines c.in-Ok.name permitted.0 in (
        permitted.0,
        permitted.1,
        after_root kinds c.args.self.now _ lines stands refl refl refl c.in-Ok.name fresh refl refl
            (c.in_ok-insert.ensures.entries ∙ inserted_thread kinds c.args.self.now lines stands c.in-Ok.name false fresh) refl,
      ),
)
