use Rattle.std.proofs.Common.{◌≡◌, map, take, None}
use Rattle.rd_store.specs.Stores.{cell_of}
use Rattle.rd_store.specs.StoreParts.{cell}
use Rattle.rd_store.proofs.store.place_of.Given as goal

abbrev pub invariant-loop-place : goal.invariant-loop-place
invariant-loop-place l = cell_of (map cell (take l.place l.cells)) l.thread ≡ None
