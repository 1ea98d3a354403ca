use Rattle.std.proofs.lemmas.Grind.{common_steps}
use Rattle.std.proofs.Common.{◌≡◌, ◌+◌, ◌-◌, ◌<◌, ◌≤◌, ◌==◌, if◌then◌else◌, subst, arith, ◌∙◌, ap, sym}
use Rattle.std.proofs.lemmas.List.Elements.{All-set}
use Rattle.rd_tables.specs.declared.sharers.Sharer.{Sharer}
use Rattle.rd_tables.specs.Sharers.{AreDeep, depth_among}
use Rattle.rd_tables.proofs.ShareLemmas.{at_place, deep_gone, one_less, one_gone, same_at}
use Rattle.rd_tables.proofs.sharers.Sharers.remove.Goals as goal

pub returns-then-index-gt1 : goal.returns-then-index-gt1
returns-then-index-gt1 c =
    let sharers = c.args.self.now.sharers.items in
    let sharer = c.index_mut.result.now in
    let found = c.in-Some.ensures.some in
    let own = at_place sharers c.in-Some.at sharer (λ s. (s.thread ≡ c.args.thread) × (0 < s.depth)) found.0 c.index_mut.ensures.value found.1 in
    one_less sharers c.in-Some.at sharer c.args.thread found.0 c.index_mut.ensures.value own.0 own.1

pub returns-else-index-gt1 : goal.returns-else-index-gt1
returns-else-index-gt1 c =
    let sharers = c.args.self.now.sharers.items in
    let sharer = c.swap_remove.result in
    let found = c.in-Some.ensures.some in
    let own = at_place sharers c.in-Some.at sharer (λ s. (s.thread ≡ c.args.thread) × (0 < s.depth)) found.0 c.swap_remove.ensures.value found.1 in
    let same : sharer ≡ c.index.result.now = same_at sharers c.in-Some.at sharer c.index.result.now found.0 c.swap_remove.ensures.value c.index.ensures in
    let most : sharer.depth ≤ 1 = subst (λ (s : Sharer). s.depth ≤ 1) (sym same) c.if-index-gt1.false in
    let one : sharer.depth ≡ 1 = omega (arith, own.1) in
    λ other. one_gone sharers c.in-Some.at sharer c.args.thread found.0 c.swap_remove.ensures.value own.0 one other
    ∙ ap (λ items. depth_among items other + (if other == c.args.thread then 1 else 0)) (sym c.swap_remove.ensures.items)

pub index_mut-requires : goal.index_mut-requires
index_mut-requires c = grind (arith, common_steps)

pub overflow_sub-index_mut : goal.overflow_sub-index_mut
overflow_sub-index_mut c = grind (arith, common_steps)

pub invariant_of-self : goal.invariant_of-self
invariant_of-self c =
    let sharers = c.args.self.now.sharers.items in
    let sharer = c.index_mut.result.now in
    let found = c.in-Some.ensures.some in
    let same : sharer ≡ c.index.result.now = same_at sharers c.in-Some.at sharer c.index.result.now found.0 c.index_mut.ensures.value c.index.ensures in
    let more : 1 < sharer.depth = subst (λ (s : Sharer). 1 < s.depth) (sym same) c.if-index-gt1.true in
    record {
      few = grind (arith, common_steps);
      deep = All-set (λ (s : Sharer). 1 ≤ s.depth) sharers c.in-Some.at (record { thread = sharer.thread; depth = sharer.depth - 1 }) (omega (arith, more)) c.args.self.now.deep;
    }

pub swap_remove-requires : goal.swap_remove-requires
swap_remove-requires c = grind (arith, common_steps)

pub invariant_of-self-else-index-gt1 : goal.invariant_of-self-else-index-gt1
invariant_of-self-else-index-gt1 c = record {
  few = grind (arith, common_steps);
  deep = subst AreDeep (sym c.swap_remove.ensures.items) (deep_gone c.args.self.now.sharers.items c.in-Some.at c.swap_remove.result c.in-Some.ensures.some.0 c.args.self.now.deep);
}
