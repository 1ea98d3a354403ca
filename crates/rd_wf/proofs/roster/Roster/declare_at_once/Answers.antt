use Rattle.std.proofs.Common.{◌≡◌, [], ◌∷◌, ◌++◌, refl, ap, ◌∙◌}
use Rattle.indexmap.specs.IndexMap.{insert_entry}
use Rattle.rd_rules.specs.MayFollow.{place, accepted_of, same_name}
use Rattle.rd_ecl.specs.Kinds.{kind_names}
use Rattle.rd_rules.proofs.FollowLemmas.{fresh_object}
use Rattle.rd_wf.proofs.RosterLemmas.{inserted_object}
use Rattle.rd_wf.proofs.NextLemmas.{after_object}
use Rattle.rd_wf.proofs.roster.Roster.declare_at_once.Goals as goal

pub returns-clause-declared : goal.returns-clause-declared
unfolding accepted_of
returns-clause-declared c = λ kinds lines stands.
    let permitted = c.in-Ok.ensures.ok c.args.name.now c.args.kind.now c.contains_key-taken.ensures c.in-Some.ensures.index c.in-Some.ensures.found kinds lines stands in
    let fresh = fresh_object kinds c.args.limits.now lines c.args.name.now c.args.kind.now permitted.0 in
    let number : c.in-Ok.new.kind ≡ place (kind_names kinds) c.args.kind.now = cc permitted.1 in (
      permitted.0,
      permitted.1,
      after_object kinds c.args.self.now _ lines stands refl refl refl c.args.name.now c.args.kind.now refl refl refl
          (c.in_ok-insert.ensures.entries ∙ ap (λ name. insert_entry same_name c.args.self.now.objects.entries name c.in-Ok.new.kind) c.in-Ok-from_name_bytes.ensures.value
          ∙ inserted_object kinds c.args.self.now lines stands c.args.name.now c.in-Ok.new.kind fresh
          ∙ ap (λ kind. c.args.self.now.objects.entries ++ (c.args.name.now, kind) ∷ []) number),
    )
