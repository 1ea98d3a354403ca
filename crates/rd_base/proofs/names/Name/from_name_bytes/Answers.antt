use Rattle.std.proofs.Common.{rules, tests}
use Rattle.rd_base.proofs.names.Name.from_name_bytes.Goals as goal

pub name_bytes-requires : goal.name_bytes-requires
name_bytes-requires c = search (tests, rules)
