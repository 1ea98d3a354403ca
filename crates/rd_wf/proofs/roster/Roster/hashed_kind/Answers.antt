use Rattle.std.proofs.Common.{subst}
use Rattle.rd_base.specs.Names.{IsName}
use Rattle.rd_wf.proofs.BytesLemmas.{key_is}
use Rattle.rd_wf.proofs.roster.Roster.hashed_kind.Goals as goal

pub returns-in-Some-clause-named : goal.returns-in-Some-clause-named
returns-in-Some-clause-named c = λ some. subst IsName (key_is c.args.name.now _ c.in-Some.known.now c.in-Some.ensures.key) c.items-name.ensures.name
