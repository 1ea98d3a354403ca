use Rattle.std.proofs.Common.{Bool, Decides}
use Rattle.rd_event.specs.declared.events.Call.{Call as CallOf}
use Rattle.rd_races.specs.RaceTests.{Passing}
use Rattle.rd_races.proofs.RaceLemmas.{latest_is, one_latest, racing_decides, racing_longer, racing_shorter}
use Rattle.rd_races.proofs.laws.law_of_races.Goals as goal

passing : (commuting : CallOf → CallOf → Bool) (a b : CallOf) → Decides (commuting a b) (Passing commuting a b)
passing commuting a b = (λ h. h, λ h. h)

pub returns : goal.returns
returns c = record {
  racing = λ commuting es i j. racing_decides (Passing commuting) commuting (passing commuting) es i j;
  latest = λ commuting es j. latest_is (Passing commuting) commuting (passing commuting) es j;
  one = λ commuting es j i k. one_latest (Passing commuting) commuting (passing commuting) es j i k;
  growth = λ commuting es fs i j inside. (
    racing_shorter (Passing commuting) commuting (passing commuting) es fs i j inside,
    racing_longer (Passing commuting) commuting (passing commuting) es fs i j inside,
  );
}
