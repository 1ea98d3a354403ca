use Rattle.std.proofs.Common.{refl}
use Rattle.rd_linear.proofs.LinkLemmas.{gap_lacks}
use Rattle.rd_linear.proofs.ThreadLemmas.{gap_at}
use Rattle.rd_linear.proofs.lanes.lane_of.Goals as goal

pub unreachable-requires : goal.unreachable-requires
unreachable-requires c =
    let threads = c.args.threads.now in
    gap_lacks threads c.args.thread c.in-Err.field-0
    (gap_at threads threads c.args.thread c.in-Err.field-0 c.binary_search.result refl c.requires.rising c.binary_search.ensures.position c.in-Err.is) c.requires.stands
