use Rattle.std.proofs.Common.{take}
use Rattle.rd_tables.specs.Sharers.{is_other_among, IsLeast}
use Rattle.rd_tables.proofs.sharers.Sharers.least_other.Given as goal

-- it is the least of the first sharers
abbrev pub invariant-loop-sharer : goal.invariant-loop-sharer
invariant-loop-sharer l = IsLeast (λ other. is_other_among (take l.sharer-index l.sharer-items) l.thread other) l.least
