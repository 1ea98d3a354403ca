use Rattle.std.proofs.Common.{ap, is_some, subst, sym, ◌∙◌}
use Rattle.rd_base.specs.Names.{IsName}
use Rattle.rd_wf.proofs.BytesLemmas.{key_is}
use Rattle.rd_wf.proofs.RosterLemmas.{object_found, object_known}
use Rattle.rd_wf.proofs.roster.Roster.hashed_object.Goals as goal

pub returns-in-None-clause-none : goal.returns-in-None-clause-none
returns-in-None-clause-none c = λ kinds lines stands.
    sym (object_known kinds c.args.self.now lines stands c.args.name.now) ∙ ap is_some (sym c.in-None.ensures.value)

pub returns-in-Some-clause-found : goal.returns-in-Some-clause-found
returns-in-Some-clause-found c = λ kinds lines stands.
    sym (object_found kinds c.args.self.now lines stands c.args.name.now _ _ (sym c.in-Some.ensures.index) (sym c.in-Some.ensures.value))

pub returns-in-Some-clause-named : goal.returns-in-Some-clause-named
returns-in-Some-clause-named c = λ some. subst IsName (key_is c.args.name.now _ c.in-Some.known.now c.in-Some.ensures.key) c.items-name.ensures.name
