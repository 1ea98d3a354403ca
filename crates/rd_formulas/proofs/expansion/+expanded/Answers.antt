use Rattle.rd_formulas.proofs.expansion.+expanded.Goals as goal

pub returns-in-Name : goal.returns-in-Name
returns-in-Name t c = rw (c.in-Leaf.is, c.in-Name.is) c.named.ensures
