use Rattle.std.proofs.Common.{◌≡◌, Some, option_map, sym, ap, ◌∙◌}
use Rattle.std.specs.Prelude.{slice_get}
use Rattle.std.specs.Map.{keys_of}
use Rattle.std.specs.Cmp.Lexicographic.{bytes_decides}
use Rattle.std.proofs.lemmas.Option.{slice_get-map}
use Rattle.rd_tables.proofs.LookupLemmas.{place_found}
use Rattle.rd_wf.proofs.roster.Roster.find_kind.Goals as goal

pub returns-clause-index : goal.returns-clause-index
returns-clause-index c =
    let name : c.in-Some-get_index.known.now ≡ c.args.name.now = sym c.items.ensures.value ∙ (bytes_decides c.items.result.now c.args.name.now).0 (sym c.eq.ensures ∙ c.if-eq.true) in
    let entries = c.args.self.now.kinds.entries in
    let at : slice_get (keys_of entries) c.in-Some.last.now ≡ Some c.args.name.now =
    slice_get-map (λ entry. entry.0) entries c.in-Some.last.now ∙ ap (option_map (λ entry. entry.0)) (sym c.in-Some-get_index.ensures.entry) ∙ ap Some name in
    place_found (keys_of entries) c.len-count.ensures.unique c.in-Some.last.now c.args.name.now at
