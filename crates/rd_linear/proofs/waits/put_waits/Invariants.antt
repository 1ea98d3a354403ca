use Rattle.std.proofs.Common.{◌≡◌, length}
use Rattle.rd_linear.specs.Noting.{AreFirstWaits, AreNotedBelow}
use Rattle.rd_linear.proofs.waits.put_waits.Given as goal

abbrev pub invariant-loop-place : goal.invariant-loop-place
invariant-loop-place l = record {
  noted : AreNotedBelow l.events l.place l.notes;
  waits : AreFirstWaits l.events l.place l.waits;
  from : l.from ≡ length l.waits.places.items;
}
