use Rattle.std.proofs.Common.{◌≡◌, ◌<◌, ◌∙◌, ℕ, List, Some, ap, below_more, length, refl, sym}
use Rattle.std.specs.Prelude.{option_map, slice_get, slice_index_or}
use Rattle.std.specs.Cmp.Lexicographic.{bytes_decides, same_text}
use Rattle.std.proofs.lemmas.Option.{get_or_from_slice_get, slice_get-map, slice_get_read}
use Rattle.rd_ecl.specs.declared.kinds.Method.{Method}
use Rattle.rd_ecl.specs.Specified.{names_of}
use Rattle.rd_pairs.proofs.numbers.number_of.Goals as goal

name_at : (methods : List Method) (i : ℕ) (x : Method) → i < length methods → x ≡ slice_index_or methods i x → slice_get (names_of methods) i ≡ Some x.name
name_at methods i x within is =
    slice_get-map (λ (m : Method). m.name) methods i
    ∙ ap (option_map (λ (m : Method). m.name)) (slice_get_read methods (length methods) i x refl within is)

pub returns-then-eq-clause-some : goal.returns-then-eq-clause-some
returns-then-eq-clause-some c =
    let same : c.items.result.now ≡ c.items-in-loop-number.result.now = same_text _ _ (sym c.if-eq.true ∙ c.eq.ensures) in
    let names : c.index-methods-number.result.name ≡ c.args.name.now = cc in
    name_at c.args.methods.now c.loop-number.number c.index-methods-number.result c.loop-number-test.true c.index-methods-number.is
    ∙ ap (λ (n : List ℕ). Some n) names

pub loop-number-preserved : goal.loop-number-preserved
loop-number-preserved c =
    let here = name_at c.args.methods.now c.loop-number.number c.index-methods-number.result c.loop-number-test.true c.index-methods-number.is in
    let at = get_or_from_slice_get (names_of c.args.methods.now) c.loop-number.number c.index-methods-number.result.name c.args.name.now here in
    below_more _ _ c.loop-number.invariant (λ same.
    let names : c.items.result.now ≡ c.items-in-loop-number.result.now = cc in
    let yes = (bytes_decides c.items.result.now c.items-in-loop-number.result.now).1 names in
    cc)
