use Rattle.std.proofs.Common.{◌≡◌, drop}
use Rattle.rd_reading.specs.Known.{specified_kind_names}
use Rattle.rd_ecl.specs.Variables.{is_one_of}
use Rattle.rd_reading.proofs.judging.kinds.names_kind.Given as goal

abbrev pub invariant-loop-kind : goal.invariant-loop-kind
invariant-loop-kind l = is_one_of l.name (specified_kind_names l.kinds) ≡ is_one_of l.name (specified_kind_names (drop l.kind-index l.kinds))
