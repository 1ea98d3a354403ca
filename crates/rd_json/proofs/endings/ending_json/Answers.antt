use Rattle.std.proofs.Common.{rules, tests}
use Rattle.rd_json.proofs.endings.ending_json.Goals as goal

pub end_json-requires : goal.end_json-requires
end_json-requires c = search (tests, rules)
