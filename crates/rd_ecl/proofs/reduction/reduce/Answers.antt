use Rattle.rd_ecl.specs.Formulas.{tree_of}
use Rattle.rd_ecl.proofs.ReducedPairLemmas.{rises_ok}
use Rattle.rd_ecl.proofs.reduction.reduce.Goals as goal

pub returns-clause-rising : goal.returns-clause-rising
returns-clause-rising c =
    rises_ok c.reduce_part.result (tree_of c.args.formula.now) c.items.result.now c.args.v.bits c.items-2.result.now c.args.w.bits c.reduce_part.ensures
