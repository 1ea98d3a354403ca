use Rattle.std.proofs.Common.{◌≡◌, arith, refl}
use Rattle.rd_kinds.proofs.ObjectKinds.{machine_of_kind}
use Rattle.rd_replay.proofs.ReplayerLemmas.{stands_declared, stands_foreign, stands_unkept}
use Rattle.rd_replay.proofs.replayer.Replayer.declare.Goals as goal

pub returns-then-kind-shipped_count-clause-ok : goal.returns-then-kind-shipped_count-clause-ok
returns-then-kind-shipped_count-clause-ok c = λ kinds calls stands next.
    let count = c.shipped_count.ensures in
    let over = c.if-kind-shipped_count.true in
    stands_foreign c.args.self.now _ kinds calls c.args.kind stands refl (omega arith)

pub returns-in_default-clause-ok : goal.returns-in_default-clause-ok
returns-in_default-clause-ok c = λ kinds calls stands next.
    let count = c.shipped_count.ensures in
    let below = c.if-kind-shipped_count.false in
    stands_unkept c.args.self.now c.args.self.now kinds calls c.args.kind stands c.in_default.not-Exact refl (omega arith)

pub returns-clause-ok : goal.returns-clause-ok
returns-clause-ok c = λ kinds calls stands next.
    let count = c.shipped_count.ensures in
    let below = c.if-kind-shipped_count.false in
    stands_declared c.args.self.now _ kinds calls c.args.kind c.start.result stands c.in-Exact.is refl c.in_ok-push.ensures.items (omega arith)
    c.start.ensures.kind (machine_of_kind c.start.result) c.start.ensures.first
