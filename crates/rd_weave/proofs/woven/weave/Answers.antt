use Rattle.std.proofs.Common.{[], List, map, subst}
use Rattle.std.specs.Prelude.{IfSome}
use Rattle.rd_ecl.specs.Kinds.{Kind}
use Rattle.rd_logs.specs.declared.whole.ReadLog.{ReadLog}
use Rattle.rd_logs.specs.WholeLogs.{record_of}
use Rattle.rd_numbered_logs.specs.LogsUnder.{logs_under}
use Rattle.rd_turns.specs.NumberedLogs.{logs_by_numbers}
use Rattle.rd_weavings.specs.Alike.{AreAlike}
use Rattle.rd_weave.proofs.woven.weave.Goals as goal

pub weave_read-requires-clause-alike : goal.weave_read-requires-clause-alike
weave_read-requires-clause-alike c =
    subst (λ (logs : List ReadLog). AreAlike (logs_by_numbers c.in-Some.numbered) (logs_under [] (map record_of logs))) c.as_slice.ensures.value
    ((subst (λ made. IfSome made (λ numbered. (kinds : List Kind) → AreAlike (logs_by_numbers numbered) (logs_under kinds (map record_of c.as_slice.result.now)))) c.in-Some.is c.in_ok-numbered.ensures.alike) [])
