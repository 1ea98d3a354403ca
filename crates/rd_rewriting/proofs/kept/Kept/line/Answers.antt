use Rattle.std.proofs.Common.{◌-◌, ◌<◌, length, get_or, slice_get, sym, ap, ◌∙◌, arith}
use Rattle.std.proofs.lemmas.Option.{same_Some, slice_get-get_or}
use Rattle.rd_event.specs.Items.{line_text}
use Rattle.rd_event.specs.declared.items.Line.TheVariants.{Header}
use Rattle.rd_rewriting.proofs.LineLemmas.{counted, event_text, object_text, root_text}
use Rattle.rd_rewriting.proofs.ReorderedLemmas.{header_line}
use Rattle.rd_rewriting.specs.Reordered.{reordered}
use Rattle.rd_rules.specs.MayFollow.{version_of}
use Rattle.rd_rewriting.proofs.kept.Kept.line.Goals as goal

pub returns-then-index-eq0 : goal.returns-then-index-eq0
returns-then-index-eq0 c = λ kinds lines line keeps is at.
    is ∙ ap line_text (same_Some (Header (version_of lines)) line (sym (header_line lines c.args.places.now) ∙ (ap (slice_get (reordered lines c.args.places.now)) (sym c.if-index-eq0.true) ∙ at)))

pub returns-then-behind_header-roots : goal.returns-then-behind_header-roots
returns-then-behind_header-roots c = λ kinds lines line keeps is at.
    root_text kinds c.args.self.now lines keeps c.args.places.now c.requires.places c.args.index (c.args.index - 1) line c.get.result.now at (omega arith) (omega (arith, c.if-behind_header-roots.true, c.len-roots.ensures.count)) c.get.ensures

pub returns-then-behind_roots-objects : goal.returns-then-behind_roots-objects
returns-then-behind_roots-objects c = λ kinds lines line keeps is at.
    object_text kinds c.args.self.now lines keeps c.args.places.now c.requires.places c.args.index (c.args.index - 1 - c.len-roots.result) line c.get-then-behind_roots-objects.result.now at
    (omega (arith, c.len-roots.ensures.count)) (omega (arith, c.if-behind_roots-objects.true, c.len-objects.ensures.count)) c.get-then-behind_roots-objects.ensures

pub offset_bounds-places-behind_roots : goal.offset_bounds-places-behind_roots
offset_bounds-places-behind_roots c =
    let (kinds, lines, keeps, inside) = c.requires.kept in
    let below : c.args.index - 1 - c.len-roots.result - c.len-objects.result < length c.args.places.now =
    omega (arith, inside, counted kinds c.args.self.now lines keeps c.args.places.now c.requires.places, c.len-roots.ensures.count, c.len-objects.ensures.count) in
    omega (arith, below)

pub bounds-places-behind_roots : goal.bounds-places-behind_roots
bounds-places-behind_roots c =
    let (kinds, lines, keeps, inside) = c.requires.kept in
    omega (arith, inside, counted kinds c.args.self.now lines keeps c.args.places.now c.requires.places, c.len-roots.ensures.count, c.len-objects.ensures.count)

pub get-requires-2 : goal.get-requires-2
get-requires-2 c =
    let (kinds, lines, keeps, inside) = c.requires.kept in
    let i = c.args.index - 1 - c.len-roots.result - c.len-objects.result in
    let below : i < length c.args.places.now =
    omega (arith, inside, counted kinds c.args.self.now lines keeps c.args.places.now c.requires.places, c.len-roots.ensures.count, c.len-objects.ensures.count) in
    c.requires.places i 0 below

pub returns : goal.returns
returns c = λ kinds lines line keeps is at.
    let i = c.args.index - 1 - c.len-roots.result - c.len-objects.result in
    let (others, also, named, inside) = c.requires.kept in
    let below : i < length c.args.places.now =
    omega (arith, inside, counted others c.args.self.now also named c.args.places.now c.requires.places, c.len-roots.ensures.count, c.len-objects.ensures.count) in
    event_text kinds c.args.self.now lines keeps c.args.places.now c.requires.places c.args.index i line c.get-2.result.now at (get_or c.args.places.now i 0)
    (omega (arith, c.len-roots.ensures.count, c.len-objects.ensures.count)) (slice_get-get_or c.args.places.now i 0 below) c.get-2.ensures
