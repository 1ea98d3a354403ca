use Rattle.std.proofs.Common.{refl}
use Rattle.rd_replay.proofs.ReplayerLemmas.{stands_none}
use Rattle.rd_replay.proofs.replayer.Replayer.new.Goals as goal

pub returns : goal.returns
returns c = stands_none _ refl c.new.ensures.items
