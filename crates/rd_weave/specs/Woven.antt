-- The weavings of logs, by what their texts say. This project's profile.
use Rattle.std.specs.Prelude.{◌≡◌, true, List}
use Rattle.rd_ecl.specs.Kinds.{Kind}
use Rattle.rd_logs.specs.WholeLogs.{LogRecord}
use Rattle.rd_numbered_logs.specs.LogNames.{have_own_names}
use Rattle.rd_numbered_logs.specs.LogsUnder.{logs_under}
use Rattle.rd_weavings.specs.declared.spots.Spot.{Spot}
use Rattle.rd_weavings.specs.Weavings.{IsWeaving}

-- The events at these spots are a weaving of the logs under a specification of these kinds: no two logs are of one thread, no object is declared twice, and
-- the events are all, each once, in the order of each log, and each may follow those before it
pub record IsWovenFrom (kinds : List Kind) (logs : List LogRecord) (spots : List Spot) : Type 0 where
  pub own : have_own_names logs ≡ true
  pub weaves : IsWeaving (logs_under kinds logs) spots
