use Rattle.std.proofs.Common.{◌≡◌, ◌+◌, ◌*◌, ◌∙◌, sym, ap}
use Rattle.std.specs.Prelude.{nat_le, slice_index_or}
use Rattle.std.specs.Option.{option_copied}
use Rattle.rd_ecl.specs.Formulas.{tree_of}
use Rattle.rd_ecl.proofs.PairLemmas.{kept_at, kept_some}
use Rattle.rd_ecl.proofs.kinds.KindSpec.formula.Goals as goal
use Rattle.rd_base.specs.declared.limits.TheConstants.{MOST_METHODS}

pub unwrap-requires : goal.unwrap-requires
unwrap-requires c =
    let here : c.index.result.now ≡ slice_index_or c.self.inside.pairs.items (MOST_METHODS * c.args.second + c.args.first) c.index.result.now = rw (← c.place.ensures) c.index.ensures in
    let asked = rw (← c.self.view_is) at c.requires in
    c.as_ref.ensures.variant ∙ kept_some (nat_le c.args.first c.args.second) c.self.inside.pairs.items (MOST_METHODS * c.args.second + c.args.first) c.index.result.now here
    (c.self.invariant.whole c.args.first c.args.second asked.0 asked.1)

pub returns-clause-valid : goal.returns-clause-valid
returns-clause-valid c =
    let here : c.index.result.now ≡ slice_index_or c.self.inside.pairs.items (MOST_METHODS * c.args.second + c.args.first) c.index.result.now = rw (← c.place.ensures) c.index.ensures in
    let asked = rw (← c.self.view_is) at c.requires in
    rw (← c.self.view_is) (c.self.invariant.draft.pairs.each c.args.first c.args.second (tree_of c.unwrap.result.now)
    (kept_at c.self.inside.name c.self.inside.methods.items c.self.inside.pairs.items c.args.first c.args.second c.index.result.now c.unwrap.result.now
    c.self.invariant.draft.pairs.rows asked.0 asked.1 c.self.invariant.draft.methods.few here (sym c.as_ref.ensures.value ∙ ap option_copied c.unwrap.ensures)))
