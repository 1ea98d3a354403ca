use Rattle.std.proofs.Common.{◌≡◌, sym, ap, ◌∙◌, subst, option_copied, unwrap_or}
use Rattle.std.specs.Map.{keys_of}
use Rattle.rd_more.specs.Counted.{count_at}
use Rattle.rd_parts.specs.laws.ItemLists.{Rise}
use Rattle.rd_parts.proofs.SortedEntryLemmas.{found_sorted, rise_sorted}
use Rattle.rd_more.proofs.objects.counted.Counted.count.Goals as goal

pub returns-in-Some-clause-count : goal.returns-in-Some-clause-count
returns-in-Some-clause-count c =
    ap (λ o. unwrap_or (option_copied o) 0) (sym c.in-Some.is)
    ∙ ap (λ o. unwrap_or o 0) (found_sorted (option_copied c.get.result) c.args.item.now c.self.inside.counts.entries c.get.ensures.value)
    ∙ ap (count_at c.args.item.now) c.self.view_is

pub returns-in-Some-clause-rise : goal.returns-in-Some-clause-rise
returns-in-Some-clause-rise c = subst (λ counts. Rise (keys_of counts)) c.self.view_is (rise_sorted c.self.inside.counts.entries)

pub returns-in-None-clause-count : goal.returns-in-None-clause-count
returns-in-None-clause-count c =
    ap (λ o. unwrap_or (option_copied o) 0) (sym c.in-None.is)
    ∙ ap (λ o. unwrap_or o 0) (found_sorted (option_copied c.get.result) c.args.item.now c.self.inside.counts.entries c.get.ensures.value)
    ∙ ap (count_at c.args.item.now) c.self.view_is

pub returns-in-None-clause-rise : goal.returns-in-None-clause-rise
returns-in-None-clause-rise c = subst (λ counts. Rise (keys_of counts)) c.self.view_is (rise_sorted c.self.inside.counts.entries)
