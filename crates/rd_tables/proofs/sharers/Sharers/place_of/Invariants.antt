use Rattle.std.proofs.Common.{◌≡◌, take}
use Rattle.rd_tables.specs.Sharers.{depth_among}
use Rattle.rd_tables.proofs.sharers.Sharers.place_of.Given as goal

-- the first ones aren't the thread
abbrev pub invariant-loop-at : goal.invariant-loop-at
invariant-loop-at l = depth_among (take l.at l.self.sharers.items) l.thread ≡ 0
