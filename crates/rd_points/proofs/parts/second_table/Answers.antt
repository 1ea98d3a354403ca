use Rattle.std.proofs.Common.{◌≡◌, ◌≤◌, ◌++◌, [], ◌∷◌, length, map, ap, ◌∙◌, arith, subst}
use Rattle.std.specs.List.{range_with_len}
use Rattle.rd_ecl.specs.Formulas.{tree_of}
use Rattle.rd_ecl.specs.Reduction.{reduce_of}
use Rattle.rd_points.proofs.BlockLemmas.{pushed}
use Rattle.rd_points.proofs.parts.second_table.Goals as goal

pub reduce-requires-clause-few : goal.reduce-requires-clause-few
reduce-requires-clause-few c =
    let p : length c.args.first.now ≤ 5 = c.requires.few.0 in
    let q : length c.args.second.now ≤ 5 = c.requires.few.1 in
    (omega arith, omega arith)

pub loop-bits-preserved : goal.loop-bits-preserved
loop-bits-preserved c =
    let old = c.loop-bits.table.items in
    pushed (λ w. reduce_of (tree_of c.args.formula.now) c.args.first.now 0 c.args.second.now w) [] old c.push.new.self.items c.loop-bits.bits
    (subst (λ x. c.push.new.self.items ≡ old ++ x ∷ []) c.in_ok-reduce.ensures.value c.in_ok-push.ensures.items) c.loop-bits.invariant

pub returns : goal.returns
returns c =
    let all : c.loop-bits.bits ≡ c.valuation_count-count.result = omega arith in
    c.loop-bits.invariant ∙ ap (λ n. map (λ w. reduce_of (tree_of c.args.formula.now) c.args.first.now 0 c.args.second.now w) (range_with_len 0 n)) (all ∙ c.valuation_count-count.ensures)
