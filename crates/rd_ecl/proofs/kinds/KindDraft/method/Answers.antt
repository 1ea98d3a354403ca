use Rattle.std.proofs.Common.{map, replicate, None, arith}
use Rattle.std.specs.Prelude.{option_map}
use Rattle.std.proofs.lemmas.List.{map-append}
use Rattle.std.proofs.lemmas.Grind.{common_steps}
use Rattle.rd_ecl.specs.Formulas.{tree_of}
use Rattle.rd_ecl.proofs.PairLemmas.{draft_more}
use Rattle.rd_ecl.proofs.kinds.KindDraft.method.Goals as goal
use Rattle.rd_base.specs.declared.limits.TheConstants.{MOST_METHODS}

pub invariant_of-self-2 : goal.invariant_of-self-2
invariant_of-self-2 c =
    rw (c.push_reserved.ensures.items, c.reserve.ensures.items, c.in_ok-add_pairs.ensures.ok, map-append (option_map tree_of) c.self.inside.pairs.items (replicate MOST_METHODS None))
    (draft_more (record { name = c.self.inside.name; methods = c.self.inside.methods.items; pairs = map (option_map tree_of) c.self.inside.pairs.items })
    (record { name = c.args.name; variables = c.args.variables }) c.self.invariant c.items-bytes.ensures.name (rw c.self.view_is c.requires))

pub returns-clause-ok : goal.returns-clause-ok
returns-clause-ok c = grind (arith, common_steps)
