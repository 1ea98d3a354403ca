use Rattle.std.proofs.Common.{◌≡◌, map, take}
use Rattle.rd_ecl.specs.Kinds.{kind_of}
use Rattle.rd_tables.specs.Tables.{kind_entry}
use Rattle.rd_wf.proofs.roster.Roster.new.Given as goal

-- the first kinds are kept
abbrev pub invariant-loop-kind : goal.invariant-loop-kind
invariant-loop-kind l = map kind_entry l.kinds.entries ≡ map kind_of (take l.kind-index l.kind-items)
