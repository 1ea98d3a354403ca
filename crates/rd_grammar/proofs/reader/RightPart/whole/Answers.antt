use Rattle.std.proofs.Common.{rules, tests}
use Rattle.rd_grammar.proofs.reader.RightPart.whole.Goals as goal

pub returns-in_ok-new-in-Some-2 : goal.returns-in_ok-new-in-Some-2
returns-in_ok-new-in-Some-2 c = search (tests, rules)
