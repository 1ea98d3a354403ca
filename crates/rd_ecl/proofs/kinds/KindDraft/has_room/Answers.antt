use Rattle.std.proofs.Common.{◌+◌, ◌*◌, ◌≡◌, length, Some, refl, arith, ◌∙◌}
use Rattle.std.proofs.lemmas.List.{length-set}
use Rattle.rd_ecl.specs.Formulas.{tree_of}
use Rattle.rd_ecl.specs.Specified.{with_pair}
use Rattle.rd_ecl.proofs.WalkLemmas.{kept_all, kept_full, kept_more}
use Rattle.rd_ecl.proofs.kinds.KindDraft.has_room.Goals as goal
use Rattle.rd_base.specs.declared.limits.TheConstants.{MOST_METHODS}

pub returns-then-not-gather : goal.returns-then-not-gather
returns-then-not-gather c =
    let formula = tree_of c.args.formula.now in
    let kind = with_pair c.args.self.now c.args.first c.args.second formula in
    let draft = c.methods.ensures.valid in
    let rows = length-set c.args.self.now.pairs (MOST_METHODS * c.args.second + c.args.first) (Some formula) ∙ draft.pairs.rows in
    let count = c.loop-other.invariant.1 in
    let below = c.loop-other-test.true in
    let full = rw c.if-not-gather.true at c.gather.ensures in
    let more = kept_full kind c.args.method c.loop-other.other c.loop-other.seen rows draft.methods.few c.requires.known.2 (omega (arith, count, below)) c.loop-other.invariant.0 full in
    (λ h. absurd (cc), λ h. absurd (omega (arith, h, more)))

pub loop-other-preserved : goal.loop-other-preserved
loop-other-preserved c =
    let kind = with_pair c.args.self.now c.args.first c.args.second (tree_of c.args.formula.now) in
    let more = rw c.if-not-gather.false at c.gather.ensures in
    (kept_more kind c.args.method c.loop-other.other c.loop-other.seen c.gather.new.seen c.loop-other.invariant.0 more, c.loop-other.invariant.1)

pub returns : goal.returns
returns c =
    let formula = tree_of c.args.formula.now in
    let kind = with_pair c.args.self.now c.args.first c.args.second formula in
    let draft = c.methods.ensures.valid in
    let rows = length-set c.args.self.now.pairs (MOST_METHODS * c.args.second + c.args.first) (Some formula) ∙ draft.pairs.rows in
    let count = c.loop-other.invariant.1 in
    let few = c.loop-other.auto.other-end in
    let end = c.loop-other-test.false in
    let all : c.loop-other.other ≡ length c.args.self.now.methods = omega (arith, count, few, end) in
    let room = kept_all kind c.args.method c.loop-other.seen rows draft.methods.few c.requires.known.2 (rw (← all) c.loop-other.invariant.0) in
    (λ h. room, λ h. refl)
