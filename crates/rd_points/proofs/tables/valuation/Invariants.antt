use Rattle.std.proofs.Common.{◌≡◌, ◌≤◌, length, drop}
use Rattle.rd_points.specs.Classes.{bits_of}
use Rattle.rd_points.proofs.tables.valuation.Given as goal

abbrev pub invariant-loop-place : goal.invariant-loop-place
invariant-loop-place l = (l.place ≤ length l.predicates) × (l.bits ≡ bits_of (drop l.place l.predicates) l.slots)

abbrev pub decreases-loop-place : goal.decreases-loop-place
decreases-loop-place l = l.place
