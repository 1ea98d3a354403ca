use Rattle.std.proofs.Common.{◌≡◌, take}
use Rattle.std.specs.List.{list_all}
use Rattle.rd_base.specs.ReadingValues.{stands}
use Rattle.rd_base.proofs.spelling.all_stand.Given as goal

abbrev pub invariant-loop-byte : goal.invariant-loop-byte
invariant-loop-byte l = l.all ≡ list_all stands (take l.byte-index l.bytes)
