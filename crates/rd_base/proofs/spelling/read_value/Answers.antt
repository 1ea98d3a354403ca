use Rattle.std.proofs.Common.{rules}
use Rattle.rd_base.proofs.ValueLemmas.{ok_spelled, ok_in_range, err_spelled}
use Rattle.rd_base.proofs.spelling.read_value.Goals as goal

pub returns-clause-value : goal.returns-clause-value
returns-clause-value c = search (rules, ok_spelled)

pub returns-clause-range : goal.returns-clause-range
returns-clause-range c = search (rules, ok_in_range c.args.bytes.now)

pub returns-clause-only : goal.returns-clause-only
returns-clause-only c = search (rules, err_spelled)
