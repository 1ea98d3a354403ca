use Rattle.std.proofs.Common.{◌≤◌, length, map, arith, sym, subst, ap, ◌∙◌, All}
use Rattle.std.specs.Prelude.{flat_map, is_none}
use Rattle.std.proofs.lemmas.List.{length-map}
use Rattle.rd_points.specs.Blocks.{block_classes, conflict_row}
use Rattle.rd_points.specs.Classes.{classes_of}
use Rattle.rd_points.specs.Tables.{Tells}
use Rattle.rd_points.proofs.BlockLemmas.{blocks_small, flat_blocks, table_is}
use Rattle.rd_points.proofs.ClassLemmas.{classes_few}
use Rattle.rd_points.proofs.TableLemmas.{tells}
use Rattle.rd_points.proofs.tables.Table.compile.Goals as goal

pub plain_of-requires : goal.plain_of-requires
plain_of-requires c =
    let are = c.as_slice-3.ensures.value ∙ c.in_ok-blocks.ensures in
    subst (All (λ block. block.slots ≤ 7)) (sym are) (blocks_small c.args.kind.now c.methods-methods.ensures.valid)

pub from_parts-requires-clause-count : goal.from_parts-requires-clause-count
from_parts-requires-clause-count c =
    let kind = c.args.kind.now in
    let rows = c.in_ok-conflicts.conflicts in
    let long = ap length c.in_ok-conflicts.ensures in
    omega (arith, classes_few kind c.methods-methods.ensures.valid, long, length-map rows.items (λ row. row.items), length-map (classes_of kind) (conflict_row kind), rows.ok.0)

pub returns-clause-compiled : goal.returns-clause-compiled
returns-clause-compiled c =
    let kind = c.args.kind.now in
    let are = c.as_slice-3.ensures.value ∙ c.in_ok-blocks.ensures in
    table_is kind c.from_parts.result
    (ap (λ t. t.predicates) c.from_parts.ensures ∙ c.in_ok-predicates.ensures.value)
    (ap (λ t. t.touches) c.from_parts.ensures ∙ c.in_ok-touches.ensures)
    (ap (λ t. t.plain) c.from_parts.ensures ∙ c.in_ok-plain.ensures ∙ ap (λ l. map (λ class. is_none class.slot) (flat_map block_classes l)) are ∙ ap (map (λ class. is_none class.slot)) (flat_blocks kind))
    (ap (λ t. t.conflicts) c.from_parts.ensures ∙ c.in_ok-conflicts.ensures)

pub returns-clause-tells : goal.returns-clause-tells
returns-clause-tells c =
    let kind = c.args.kind.now in
    subst (Tells kind) (sym (returns-clause-compiled c)) (tells kind c.methods-methods.ensures.valid)
