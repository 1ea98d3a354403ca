-- Stamps whose clock is lent.
use Rattle.rd_clock.specs.declared.clock.Stamp.{Stamp}
use Rattle.rd_clock.specs.declared.clock.StampRef.{StampRef}

-- the stamp whose clock is lent
abbrev pub lent_stamp : StampRef → Stamp
lent_stamp stamp = record { thread = stamp.thread; number = stamp.number; clock = stamp.clock.now }
