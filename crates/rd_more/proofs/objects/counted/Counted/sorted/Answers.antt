use Rattle.std.proofs.Common.{subst, ◌∙◌, IsPermutation}
use Rattle.std.specs.Ordering.{nat_cmp}
use Rattle.rd_parts.proofs.SortedEntryLemmas.{same_sorted}
use Rattle.rd_more.proofs.objects.counted.Counted.sorted.Goals as goal

pub returns : goal.returns
returns c =
    same_sorted nat_cmp c.self.inside.counts.entries c.sort_unstable.new.self.items c.in_ok-list.ensures.unique
    (subst (λ list. IsPermutation list c.sort_unstable.new.self.items) c.in_ok-list.ensures.counts c.sort_unstable.ensures.permutation)
    c.sort_unstable.ensures.sorted
    ∙ c.self.view_is
