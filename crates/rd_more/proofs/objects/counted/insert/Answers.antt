use Rattle.std.proofs.Common.{rules}
use Rattle.rd_parts.proofs.SortedEntryLemmas.{sorted_with}
use Rattle.rd_more.proofs.objects.counted.insert.Goals as goal

pub returns-in-Some-clause-counts : goal.returns-in-Some-clause-counts
returns-in-Some-clause-counts c =
    let changed = (c.get_mut.follows.holds c.args.count).3 (search rules) in
    sorted_with c.args.item.now c.args.count c.args.counts.now.entries (c.get_mut.follows.lender c.args.count).entries changed.0
