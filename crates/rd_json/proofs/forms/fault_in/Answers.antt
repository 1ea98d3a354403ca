use Rattle.std.proofs.Common.{ap, sym}
use Rattle.rd_json.specs.Forms.{fault_in}
use Rattle.rd_json.specs.Json.{alone_json}
use Rattle.rd_json.proofs.forms.fault_in.Goals as goal

pub returns-in-Json : goal.returns-in-Json
unfolding alone_json
returns-in-Json c = ap fault_in (sym c.in-Json.is)
