use Rattle.std.proofs.Common.{map, length, sym, ap, subst, ◌∙◌}
use Rattle.indexmap.specs.IndexMap.{insert_entry}
use Rattle.rd_ecl.specs.Specified.{AreMethods}
use Rattle.rd_rules.specs.MayFollow.{same_name}
use Rattle.rd_tables.specs.Tables.{method_entry}
use Rattle.rd_tables.proofs.TableLemmas.{method_added}
use Rattle.rd_tables.proofs.methods.Methods.of.Goals as goal

pub loop-method-init : goal.loop-method-init
loop-method-init c = ap (map method_entry) c.new-slots.ensures.empty

pub loop-method-preserved : goal.loop-method-preserved
loop-method-preserved c =
    let methods = c.methods-method-items.ensures in
    let table = c.loop-method.slots in
    ap (map method_entry) (c.in_ok-insert.ensures.entries ∙ (λ i. insert_entry same_name table.entries (c.copy.ensures i) (length (c.items.ensures i))))
    ∙ method_added c.methods-method-items.result.now (subst AreMethods (sym methods.value) methods.valid.draft.methods) table c.loop-method.method-index c.method-item.result
    c.loop-method-test.true (sym c.method-item.is) c.loop-method.invariant
