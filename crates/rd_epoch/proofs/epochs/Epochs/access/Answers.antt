use Rattle.std.proofs.Common.{subst, sym, arith}
use Rattle.rd_epoch.specs.Taking.{MayTakeSince, TakesAccess}
use Rattle.rd_epoch.proofs.epochs.Epochs.access.Goals as goal

pub judge-requires : goal.judge-requires
judge-requires g c =
    let (roots, lines, es, slots, next) = c.requires.next in
    record {
      next = subst (λ stamp. MayTakeSince c.args.self.now c.args.access.now stamp c.args.access.now.line) (sym c.new.ensures)
          (roots, lines, es, slots, next, λ k e line at taught is. let below = next.line k line is in omega arith);
    }

pub returns : goal.returns
returns g c = subst (λ stamp. TakesAccess c.args.self.now c.judge.new.self c.args.access.now stamp c.judge.result c.args.steps.now c.judge.new.steps)
    c.new.ensures c.judge.ensures
