use Rattle.std.proofs.Common.{subst, sym}
use Rattle.rd_base.specs.Names.{IsName}
use Rattle.rd_wf.proofs.BytesLemmas.{key_is}
use Rattle.rd_wf.proofs.RosterLemmas.{object_found}
use Rattle.rd_wf.proofs.roster.Roster.look_up_object.Goals as goal

pub returns-in-Ok-clause-found : goal.returns-in-Ok-clause-found
returns-in-Ok-clause-found c = λ kinds lines stands.
    rw (c.len.ensures.len, c.len-in-None.ensures.len) (sym (object_found kinds c.args.self.now lines stands c.args.name.now _ _ (sym c.in-None.ensures.index) (sym c.in-None.ensures.value)))

pub returns-in-Some-clause-found : goal.returns-in-Some-clause-found
returns-in-Some-clause-found c = λ kinds lines stands.
    sym (object_found kinds c.args.self.now lines stands c.args.name.now _ _ (sym c.in-Some.ensures.index) (sym c.in-Some.ensures.value))

pub returns-in-Some-clause-named : goal.returns-in-Some-clause-named
returns-in-Some-clause-named c = λ some. subst IsName (key_is c.args.name.now _ c.in-Some.known.now c.in-Some.ensures.key) c.items-name.ensures.name
