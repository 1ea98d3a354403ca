use Rattle.std.proofs.lemmas.Grind.{common_steps}
use Rattle.std.proofs.Common.{◌≡◌, ◌+◌, ◌<◌, ◌≤◌, arith}
use Rattle.std.proofs.lemmas.List.Elements.{All-set}
use Rattle.std.specs.Prelude.{slice_set}
use Rattle.rd_tables.specs.declared.sharers.Sharer.{Sharer}
use Rattle.rd_tables.specs.Sharers.{depth_among}
use Rattle.rd_tables.proofs.ShareLemmas.{at_place, one_more, own_within, still_few}
use Rattle.rd_tables.proofs.sharers.Sharers.add.Goals as goal

pub overflow_add-index_mut : goal.overflow_add-index_mut
overflow_add-index_mut c =
    let sharers = c.args.self.now.sharers.items in
    let sharer = c.index_mut.result.now in
    let found = c.in-Some.ensures.some in
    let own = at_place sharers c.in-Some.at sharer (λ s. (s.thread ≡ c.args.thread) × (0 < s.depth)) found.0 c.index_mut.ensures.value found.1 in
    omega (arith, own_within sharers c.in-Some.at sharer c.args.thread found.0 c.index_mut.ensures.value own.0, c.requires)

pub invariant_of-self : goal.invariant_of-self
invariant_of-self c =
    let sharers = c.args.self.now.sharers.items in
    let sharer = c.index_mut.result.now in
    let found = c.in-Some.ensures.some in
    let own = at_place sharers c.in-Some.at sharer (λ s. (s.thread ≡ c.args.thread) × (0 < s.depth)) found.0 c.index_mut.ensures.value found.1 in
    record {
      few = still_few (depth_among sharers) (depth_among (slice_set sharers c.in-Some.at (record { thread = sharer.thread; depth = sharer.depth + 1 }))) c.args.thread c.requires c.args.self.now.few
          (one_more sharers c.in-Some.at sharer c.args.thread found.0 c.index_mut.ensures.value own.0);
      deep = All-set (λ (s : Sharer). 1 ≤ s.depth) sharers c.in-Some.at (record { thread = sharer.thread; depth = sharer.depth + 1 }) (omega arith) c.args.self.now.deep;
    }

pub returns-in-Some-clause-ok : goal.returns-in-Some-clause-ok
returns-in-Some-clause-ok c =
    let sharers = c.args.self.now.sharers.items in
    let sharer = c.index_mut.result.now in
    let found = c.in-Some.ensures.some in
    let own = at_place sharers c.in-Some.at sharer (λ s. (s.thread ≡ c.args.thread) × (0 < s.depth)) found.0 c.index_mut.ensures.value found.1 in
    one_more sharers c.in-Some.at sharer c.args.thread found.0 c.index_mut.ensures.value own.0

pub returns-in-Some-clause-err : goal.returns-in-Some-clause-err
returns-in-Some-clause-err c = grind (arith, common_steps)

pub invariant_of-self-2 : goal.invariant_of-self-2
invariant_of-self-2 c = grind (arith, common_steps)

pub returns-clause-ok : goal.returns-clause-ok
returns-clause-ok c = grind (arith, common_steps)
