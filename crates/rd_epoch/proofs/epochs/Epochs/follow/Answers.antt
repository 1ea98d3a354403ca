use Rattle.std.proofs.Common.{subst, sym}
use Rattle.rd_epoch.specs.Taking.{MayTakeSince, TakesAccess}
use Rattle.rd_epoch.proofs.epochs.Epochs.follow.Goals as goal

pub judge-requires : goal.judge-requires
judge-requires g c = record { next = subst (λ stamp. MayTakeSince c.args.self.now c.args.access.now stamp c.args.learnt) (sym c.last_stamp.ensures) c.requires.next }

pub returns : goal.returns
returns g c = subst (λ stamp. TakesAccess c.args.self.now c.judge.new.self c.args.access.now stamp c.judge.result c.args.steps.now c.judge.new.steps)
    c.last_stamp.ensures c.judge.ensures
