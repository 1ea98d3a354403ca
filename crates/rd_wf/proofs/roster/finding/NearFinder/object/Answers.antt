use Rattle.std.proofs.Common.{◌≡◌, Some, not, sym, ap, slice_get, ◌∙◌}
use Rattle.std.proofs.Math.Bool.{not-not}
use Rattle.std.specs.Cmp.Lexicographic.{bytes_decides}
use Rattle.rd_tables.proofs.LookupLemmas.{index_near, value_near}
use Rattle.rd_wf.proofs.RosterLemmas.{object_found}
use Rattle.rd_wf.proofs.roster.finding.NearFinder.object.Goals as goal

pub returns-clause-found : goal.returns-clause-found
returns-clause-found c = λ kinds lines stands.
    let name : c.in_ok-known.known.now ≡ c.args.name.now =
    sym c.items.ensures.value ∙ (bytes_decides c.items.result.now c.args.name.now).0 (sym (not-not _) ∙ ap not (sym c.ne.ensures ∙ c.if-ne.false)) in
    let entries = c.args.roster.now.objects.entries in
    let at : slice_get entries _ ≡ Some (c.args.name.now, c.in_ok-known.kind.now) =
    sym c.in_ok-known.ensures.entry ∙ ap (λ known. Some (known, c.in_ok-known.kind.now)) name in
    sym (object_found kinds c.args.roster.now lines stands c.args.name.now _ _
    (index_near entries c.len-count.ensures.unique _ c.args.name.now c.in_ok-known.kind.now at)
    (value_near entries c.len-count.ensures.unique _ c.args.name.now c.in_ok-known.kind.now at))
