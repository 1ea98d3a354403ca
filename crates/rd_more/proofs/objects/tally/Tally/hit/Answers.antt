use Rattle.std.proofs.Common.{◌≡◌, ◌+◌, ◌<◌, ap, arith, rules, ◌∙◌}
use Rattle.rd_more.specs.Counted.{total, with_count}
use Rattle.rd_more.proofs.CountLemmas.{count_within, total_hit}
use Rattle.rd_more.proofs.objects.tally.Tally.hit.Goals as goal

pub overflow_add-count : goal.overflow_add-count
overflow_add-count c =
    let within = count_within c.args.item.now c.self.inside.counts in
    let below : c.count-count.result + 1 < 18446744073709551616 = omega (arith, c.count-count.ensures.count, within.1, c.self.invariant, c.if-self.false) in
    search rules

pub invariant_of-self-2 : goal.invariant_of-self-2
invariant_of-self-2 c =
    let new : total c.set.new.self ≡ total c.self.inside.counts + 1 =
    ap total (c.in_ok-set.ensures.ok ∙ ap (λ n. with_count c.args.item.now (n + 1) c.self.inside.counts) c.count-count.ensures.count)
    ∙ total_hit c.args.item.now c.self.inside.counts c.count-count.ensures.rise in
    omega (arith, new, c.self.invariant)
