use Rattle.std.proofs.Common.{◌∙◌}
use Rattle.rd_parts.specs.Entries.{sorted_entries}
use Rattle.rd_parts.specs.laws.EntryLists.{with_entry}
use Rattle.rd_parts.proofs.SortedEntryLemmas.{sorted_with}
use Rattle.rd_more.proofs.objects.counted.insert_new.Goals as goal

pub returns-clause-counts : goal.returns-clause-counts
returns-clause-counts c =
    sorted_with c.in_ok-item.item c.args.count c.args.counts.now.entries c.insert.new.self.entries c.in_ok-insert.ensures.updates.0
    ∙ (λ i. with_entry (c.in_ok-item.ensures.value i) c.args.count (sorted_entries c.args.counts.now.entries))
