use Rattle.std.proofs.lemmas.List.Elements.{All-push}
use Rattle.rd_ecl.specs.Specified.{IsKind}
use Rattle.rd_ecl.proofs.specifications.Spec.push.Goals as goal

pub invariant_of-self-2 : goal.invariant_of-self-2
invariant_of-self-2 c =
    rw (c.push_reserved.ensures.items, c.reserve.ensures.items)
    (All-push IsKind c.self.inside.kinds.items c.args.kind c.self.invariant c.methods-methods.ensures.valid)
