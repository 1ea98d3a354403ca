use Rattle.std.proofs.Common.{None, Some, ap, subst, sym, ◌∙◌}
use Rattle.rd_base.specs.Names.{IsName}
use Rattle.rd_wf.proofs.BytesLemmas.{key_is}
use Rattle.std.specs.Prelude.{unwrap_or}
use Rattle.rd_tables.specs.Tables.{free_lock}
use Rattle.rd_wf.proofs.RosterLemmas.{lock_number, lock_unknown}
use Rattle.rd_wf.proofs.roster.Roster.look_up_lock.Goals as goal

pub returns-in-Ok-clause-found : goal.returns-in-Ok-clause-found
returns-in-Ok-clause-found c = record {
  numbers = λ kinds lines stands. (
    c.len.ensures.len ∙ lock_number kinds c.args.self.now lines stands c.args.name.now None (sym c.in-None.ensures.index),
    lock_unknown kinds c.args.self.now lines stands c.args.name.now None (sym c.in-None.ensures.value),
  );
  lock = ap (λ held. unwrap_or held free_lock) c.in-None.ensures.value;
}

pub returns-in-Some-clause-found : goal.returns-in-Some-clause-found
returns-in-Some-clause-found c = record {
  numbers = λ kinds lines stands. (
    lock_number kinds c.args.self.now lines stands c.args.name.now (Some c.in-Some.number) (sym c.in-Some.ensures.index),
    lock_unknown kinds c.args.self.now lines stands c.args.name.now (Some c.in-Some.lock.now) (sym c.in-Some.ensures.value),
  );
  lock = ap (λ held. unwrap_or held free_lock) c.in-Some.ensures.value;
}

pub returns-in-Some-clause-named : goal.returns-in-Some-clause-named
returns-in-Some-clause-named c = λ some. subst IsName (key_is c.args.name.now _ c.in-Some.known.now c.in-Some.ensures.key) c.items-name.ensures.name
