use Rattle.std.proofs.Common.{◌≡◌, take}
use Rattle.rd_tables.specs.Sharers.{depth_among}
use Rattle.rd_tables.proofs.sharers.Sharers.depth_of.Given as goal

-- the depth is that of the first sharers
abbrev pub invariant-loop-sharer : goal.invariant-loop-sharer
invariant-loop-sharer l = l.depth ≡ depth_among (take l.sharer-index l.sharer-items) l.thread
