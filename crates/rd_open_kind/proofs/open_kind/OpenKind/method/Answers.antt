use Rattle.rd_open_kind.proofs.OpenedLemmas.{method_undefined}
use Rattle.rd_open_kind.proofs.open_kind.OpenKind.method.Goals as goal

pub invariant_of-self-2 : goal.invariant_of-self-2
invariant_of-self-2 c =
    rw (c.push_reserved.ensures.items, c.reserve.ensures.items, c.new.ensures, c.in_ok-method.ensures.ok)
    (method_undefined c.self.inside.draft (record { name = c.args.name; variables = c.args.variables }) c.self.inside.definitions.items c.self.invariant)
