use Rattle.std.proofs.Common.{◌≡◌, [], ◌∷◌, ◌++◌, refl, ap, ◌∙◌}
use Rattle.rd_rules.specs.MayFollow.{place, accepted_of}
use Rattle.rd_ecl.specs.Kinds.{kind_names}
use Rattle.rd_rules.proofs.FollowLemmas.{fresh_object}
use Rattle.rd_wf.proofs.RosterLemmas.{inserted_object}
use Rattle.rd_wf.proofs.NextLemmas.{after_object}
use Rattle.rd_wf.proofs.roster.Roster.put_object.Goals as goal

pub returns : goal.returns
unfolding accepted_of
returns c = λ kind index known. (
  tt,
  λ kinds lines stands.
      let permitted = c.in-Ok.ensures.ok c.args.name kind c.requires index known kinds lines stands in
      let fresh = fresh_object kinds c.args.limits.now lines c.args.name kind permitted.0 in
      let number : c.in-Ok.new.kind ≡ place (kind_names kinds) kind = cc permitted.1 in (
        permitted.0,
        permitted.1,
        after_object kinds c.args.self.now _ lines stands refl refl refl c.args.name kind refl refl refl
            (c.in_ok-insert.ensures.entries ∙ inserted_object kinds c.args.self.now lines stands c.args.name c.in-Ok.new.kind fresh
            ∙ ap (λ kind. c.args.self.now.objects.entries ++ (c.args.name, kind) ∷ []) number),
      ),
)
