use Rattle.std.proofs.Common.{◌<◌, length, ◌∙◌}
use Rattle.std.proofs.lemmas.Grind.{get_or_default_zero}
use Rattle.rd_ranks.proofs.RankLemmas.{root, root_inside}
use Rattle.rd_ranks.proofs.ranks.Ranks.count.Goals as goal

pub returns : goal.returns
returns c =
    let inside : 1 < length c.self.inside.counts.items = root_inside _ _ c.self.invariant in
    rw (← c.self.view_is)
    (c.index.ensures ∙ get_or_default_zero c.self.inside.counts.items 1 c.index.result.now inside ∙ root _ _ c.self.invariant)
