use Rattle.std.proofs.Common.{sym, ap, ◌∙◌}
use Rattle.rd_parts.specs.laws.EntryLists.{without_key}
use Rattle.rd_parts.proofs.SortedEntryLemmas.{sorted_without}
use Rattle.rd_more.proofs.CountLemmas.{with_none}
use Rattle.rd_more.proofs.objects.counted.Counted.set.Goals as goal

pub returns-then-count-eq0-clause-ok : goal.returns-then-count-eq0-clause-ok
returns-then-count-eq0-clause-ok c =
    sorted_without c.args.item.now c.self.inside.counts.entries c.swap_remove.new.self.entries c.swap_remove.ensures.updates.0
    ∙ ap (without_key c.args.item.now) c.self.view_is
    ∙ sym (with_none c.args.item.now c.args.count c.args.self.now c.if-count-eq0.true)
