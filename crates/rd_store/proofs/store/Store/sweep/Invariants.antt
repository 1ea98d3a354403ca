use Rattle.std.proofs.Common.{◌≡◌}
use Rattle.rd_store.specs.StoreParts.{swept_below}
use Rattle.rd_store.proofs.store.Store.sweep.Given as goal

abbrev pub invariant-loop-place : goal.invariant-loop-place
invariant-loop-place l = l.self ≡ swept_below l.floor l.initial.self l.place
