use Rattle.std.proofs.Common.{◌≡◌, ◌+◌, map, option_map, take}
use Rattle.rd_store.specs.StoreParts.{cell, latest_in_cells}
use Rattle.rd_store.proofs.store.latest_of.Given as goal

abbrev pub invariant-loop-held : goal.invariant-loop-held
invariant-loop-held g l = record {
  value : option_map (λ one. one.now.value) l.latest ≡ latest_in_cells l.clock (map cell (take l.held-index l.cells));
  cost : l.steps ≡ l.initial.steps + l.held-index;
}
