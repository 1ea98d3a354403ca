use Rattle.std.proofs.Common.{◌<◌, ◌∷◌, [], ◌++◌, cond, false, get_or, ap, ◌∙◌, arith}
use Rattle.std.proofs.lemmas.List.{get_or_read}
use Rattle.rd_points.specs.Tables.{class_count, conflicts_at}
use Rattle.rd_classes.specs.declared.merging.Leader.{Leader}
use Rattle.rd_classes.proofs.StepLemmas.{count_few, leader_within, row_all, row_more}
use Rattle.rd_classes.proofs.merging.merged_row.Goals as goal

-- what is read past the end
abbrev none : Leader
none = record { class = 0; signature = 0 }

pub index-marked-requires : goal.index-marked-requires
index-marked-requires c =
    let inside = leader_within c.args.table.now c.args.least.now _ c.requires c.loop-number.number none c.loop-number-test.true in
    omega (arith, c.in_ok-marks.marks.ok.0, c.loop-number.invariant.1.long)

pub overflow_cast-number : goal.overflow_cast-number
overflow_cast-number c = record {
  fits = omega
      (arith, count_few c.args.table.now c.args.least.now _ c.requires, c.classes.ensures, c.classes.type_inv);
}

pub loop-number-preserved : goal.loop-number-preserved
loop-number-preserved c =
    let l : Leader = get_or c.args.least.now c.loop-number.number none in
    let inside = leader_within c.args.table.now c.args.least.now _ c.requires c.loop-number.number none c.loop-number-test.true in
    let within : l.class < _ = omega (arith, c.loop-number.invariant.1.long) in
    let marked = get_or_read c.in_ok-marks.marks.items l.class c.index-marked.result.now within c.index-marked.ensures false in (
      c.in_ok-push_if.ensures ∙ ap (λ b. c.loop-number.row.items ++ cond b (c.loop-number.number ∷ []) []) marked
          ∙ row_more (conflicts_at c.args.table.now c.args.class)
          (class_count c.args.table.now) c.in_ok-marks.marks.items c.args.least.now _ c.loop-number.number none
          c.loop-number.invariant.1 c.loop-number-test.true inside c.loop-number.invariant.0,
      c.loop-number.invariant.1,
    )

pub returns : goal.returns
returns c = row_all c.args.table.now c.args.least.now c.requires c.args.class _ c.loop-number.number (omega arith) c.loop-number.invariant.0
