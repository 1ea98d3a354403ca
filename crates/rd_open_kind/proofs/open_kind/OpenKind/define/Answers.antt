use Rattle.rd_ecl.specs.Formulas.{tree_of}
use Rattle.rd_open_kind.proofs.OpenedLemmas.{one_more_there}
use Rattle.rd_open_kind.proofs.open_kind.OpenKind.define.Goals as goal

pub invariant_of-self-2 : goal.invariant_of-self-2
invariant_of-self-2 c =
    let inside = rw (← c.self.view_is) at c.requires.inside in
    let is = rw (← c.self.view_is) at c.requires.defined in
    one_more_there c.self.inside.draft c.self.inside.definitions.items c.from.result (record { name = c.args.name; formula = tree_of c.args.formula })
    c.index_mut.result.now c.add.new.self c.self.invariant (rw c.from.ensures inside) (rw c.from.ensures is) c.index_mut.ensures.value c.in_ok-add.ensures.ok
