use Rattle.std.proofs.Common.{◌≡◌, length, arith}
use Rattle.rd_ecl.proofs.WalkLemmas.{goes_on, kept_whole}
use Rattle.rd_ecl.proofs.kinds.KindSpec.relations.Goals as goal

pub loop-other-preserved : goal.loop-other-preserved
loop-other-preserved c =
    let kind = c.args.self.now in
    let draft = c.methods.ensures.valid.draft in
    let count = c.loop-other.invariant.1 in
    let below = c.loop-other-test.true in (
      goes_on kind c.args.method c.loop-other.other c.loop-other.seen c.gather-room.new.seen c.gather-room.result draft.pairs.rows draft.methods.few c.requires
          (omega (arith, count, below)) (draft.pairs.few c.args.method) c.loop-other.invariant.0 c.gather-room.ensures,
      c.loop-other.invariant.1,
    )

pub returns-clause-value : goal.returns-clause-value
returns-clause-value c =
    let kind = c.args.self.now in
    let draft = c.methods.ensures.valid.draft in
    let count = c.loop-other.invariant.1 in
    let few = c.loop-other.auto.other-end in
    let end = c.loop-other-test.false in
    let all : c.loop-other.other ≡ length kind.methods = omega (arith, count, few, end) in
    kept_whole kind c.args.method c.loop-other.seen draft.pairs.rows draft.methods.few c.requires (rw (← all) c.loop-other.invariant.0)
