use Rattle.std.proofs.Common.{Ok, Err, true, subst, arith}
use Rattle.std.specs.Prelude.{⊤}
use Rattle.rd_rules.specs.declared.causes.WfRefused.TheVariants.{Cause, NoMemory}
use Rattle.rd_wf.specs.Roster.{Refuses, TakesNames}
use Rattle.rd_wf.proofs.NextLemmas.{err_broken, err_memory, err_stands, ok_few, ok_follows}
use Rattle.rd_wf.proofs.RangeLemmas.{ok_range}
use Rattle.rd_wf.proofs.roster.Roster.accept.Goals as goal

pub returns-in-Ok-clause-follows : goal.returns-in-Ok-clause-follows
returns-in-Ok-clause-follows c = ok_follows c.args.self.now c.take.new.self c.args.limits.now c.args.line.now (Ok c.in-Ok.accepted) c.in-Ok.ensures.1

pub returns-in-Ok-clause-few : goal.returns-in-Ok-clause-few
returns-in-Ok-clause-few c =
    ok_few c.args.self.now c.take.new.self c.args.limits.now c.args.line.now (Ok c.in-Ok.accepted) c.in-Ok.ensures.1 (omega (arith, c.take.new.self.few_threads))

pub returns-in-Ok-clause-range : goal.returns-in-Ok-clause-range
returns-in-Ok-clause-range c = ok_range c.args.self.now c.take.new.self c.args.limits.now c.args.line.now (Ok c.in-Ok.accepted) c.in-Ok.ensures.1

pub returns-in-Err-Cause-clause-refused : goal.returns-in-Err-Cause-clause-refused
returns-in-Err-Cause-clause-refused c =
    let refuses : Refuses c.args.self.now c.take.new.self c.args.limits.now c.args.line.now (Cause c.in-Err-Cause.cause) =
    (subst (λ e. TakesNames true ⊤ c.args.self.now c.take.new.self c.args.limits.now c.args.line.now (Err e)) c.in-Err-Cause.field-0-is c.in-Err-Cause.ensures).1 in
    err_broken c.args.self.now c.take.new.self c.args.limits.now c.args.line.now (Err (Cause c.in-Err-Cause.cause)) refuses

pub returns-in-Err-NoMemory-clause-memory : goal.returns-in-Err-NoMemory-clause-memory
returns-in-Err-NoMemory-clause-memory c =
    let refuses : Refuses c.args.self.now c.take.new.self c.args.limits.now c.args.line.now NoMemory =
    (subst (λ e. TakesNames true ⊤ c.args.self.now c.take.new.self c.args.limits.now c.args.line.now (Err e)) c.in-Err-NoMemory.field-0-is c.in-Err-NoMemory.ensures).1 in
    err_memory c.args.self.now c.take.new.self c.args.limits.now c.args.line.now (Err NoMemory) refuses

pub returns-in-Err-NoMemory-clause-err : goal.returns-in-Err-NoMemory-clause-err
returns-in-Err-NoMemory-clause-err c =
    let refuses : Refuses c.args.self.now c.take.new.self c.args.limits.now c.args.line.now NoMemory =
    (subst (λ e. TakesNames true ⊤ c.args.self.now c.take.new.self c.args.limits.now c.args.line.now (Err e)) c.in-Err-NoMemory.field-0-is c.in-Err-NoMemory.ensures).1 in
    err_stands c.args.self.now c.take.new.self c.args.limits.now c.args.line.now (Err NoMemory) refuses
