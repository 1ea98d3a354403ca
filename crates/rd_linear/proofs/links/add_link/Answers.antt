use Rattle.std.proofs.Common.{ap, refl, ◌∙◌, slice_set}
use Rattle.std.specs.Vec.{with_item}
use Rattle.rd_linear.specs.declared.links.Link.{Link}
use Rattle.rd_linear.proofs.LinkLemmas.{index_default, link_more}
use Rattle.rd_linear.proofs.links.add_link.Goals as goal

pub returns-clause-chained : goal.returns-clause-chained
returns-clause-chained c =
    let old = c.args.links.now in let place = c.args.place in
    let link : Link = record { place = place; lane = c.args.lane; before = c.index-before.result.now } in
    link_more old (record { items = c.push.new.self; last = with_item old.last place c.in_ok-links.field-0 }) place c.args.lane c.requires.chained c.requires.inside link refl
    (c.index-before.ensures ∙ index_default old.last.items place c.index-before.result.now c.requires.inside)
    c.in_ok-push.ensures.items (ap (slice_set old.last.items place) (c.in_ok-links.ensures ∙ (c.len.ensures ∙ c.push.new.self.ok.0)))
