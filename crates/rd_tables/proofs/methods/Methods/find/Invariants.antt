use Rattle.std.proofs.Common.{◌≡◌, false, take}
use Rattle.std.specs.Map.{keys_of}
use Rattle.rd_rules.specs.MayFollow.{is_among}
use Rattle.rd_tables.proofs.methods.Methods.find.Given as goal

-- none of the methods so far has the name
abbrev pub invariant-loop-number : goal.invariant-loop-number
invariant-loop-number l = is_among (take l.number (keys_of l.self.slots.entries)) l.name ≡ false
