use Rattle.std.proofs.Common.{arith}
use Rattle.std.proofs.lemmas.List.FromFn.{map-range_with_len_more}
use Rattle.rd_classes.specs.Merged.{merged_class}
use Rattle.rd_classes.proofs.StepLemmas.{count_few}
use Rattle.rd_classes.proofs.merging.names.Goals as goal

pub loop-class-preserved : goal.loop-class-preserved
loop-class-preserved c =
    let more = map-range_with_len_more (merged_class c.args.table.now) 0 c.loop-class.class c.loop-class.class (omega arith) in
    (cc (c.in_ok-push.ensures.items, c.in_ok-name.ensures.name, c.loop-class.invariant.0), c.in_ok-name.ensures.leaders)

pub returns-clause-few : goal.returns-clause-few
returns-clause-few c = omega (arith, count_few c.args.table.now c.loop-class.leaders.items c.loop-class.class c.loop-class.invariant.1, c.classes-class-end.type_inv)
