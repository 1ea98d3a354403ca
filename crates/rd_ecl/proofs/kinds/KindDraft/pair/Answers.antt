use Rattle.std.proofs.Common.{◌+◌, ◌*◌, map, Some, refl}
use Rattle.std.specs.Prelude.{option_map}
use Rattle.std.proofs.lemmas.List.{map-set}
use Rattle.rd_ecl.specs.Formulas.{tree_of}
use Rattle.rd_ecl.proofs.PairLemmas.{draft_set}
use Rattle.rd_ecl.proofs.kinds.KindDraft.pair.Goals as goal
use Rattle.rd_base.specs.declared.limits.TheConstants.{MOST_METHODS}

pub invariant_of-self : goal.invariant_of-self
invariant_of-self c =
    rw (c.place.ensures, map-set (option_map tree_of) c.self.inside.pairs.items (MOST_METHODS * c.args.second + c.args.first) (Some c.args.formula))
    (draft_set (record { name = c.self.inside.name; methods = c.self.inside.methods.items; pairs = map (option_map tree_of) c.self.inside.pairs.items })
    c.args.first c.args.second (tree_of c.args.formula) c.self.invariant (rw c.self.view_is c.requires))

pub returns-clause-value : goal.returns-clause-value
returns-clause-value c =
    rw (← c.self.view_is, c.place.ensures, map-set (option_map tree_of) c.self.inside.pairs.items (MOST_METHODS * c.args.second + c.args.first) (Some c.args.formula)) refl
