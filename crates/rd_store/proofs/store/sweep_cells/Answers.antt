use Rattle.std.proofs.Common.{not, ap, map, rules, ◌∙◌}
use Rattle.std.proofs.lemmas.Fn.{filter_same}
use Rattle.rd_store.specs.Stores.{is_covered}
use Rattle.rd_store.specs.StoreParts.{Held, cell}
use Rattle.rd_store.proofs.CellLemmas.{live-filter}
use Rattle.rd_store.proofs.store.sweep_cells.Goals as goal

pub returns-clause-cells : goal.returns-clause-cells
returns-clause-cells c =
    ap (map cell) (filter_same _ (λ (one : Held). not (is_covered c.args.floor.now one.0 one.1.value)) _ (λ x b f k. search rules) _ _ c.retain.ensures.filtered)
    ∙ live-filter c.args.floor.now c.args.cells.now.items
